-- A line ends within the page. Assumes nothing.
use Rattle.std.proofs.Common.{arith, rules, sym, tests}
use Rattle.text.proofs.Bounds.{longest_bound}
use Rattle.moqanswers.proofs.Within.{behind-fits, put-behind, has-room, no-line}
use Rattle.moqanswers.proofs.print_line.Goals as goal

pub overflow_add-page : goal.overflow_add-page
overflow_add-page g c =
    let page = c.make_room.new.self in
    omega (arith, behind-fits _ page.bytes 65536 page.used c.put.result page.within c.put.ensures c.in-Some.is)

pub invariant_of-page : goal.invariant_of-page
invariant_of-page g c =
    let page = c.make_room.new.self in
    record { within = omega (arith, behind-fits _ page.bytes 65536 page.used c.put.result page.within c.put.ensures c.in-Some.is) }

pub returns-then-is_empty : goal.returns-then-is_empty
returns-then-is_empty g c = no-line _ _ _ (rw (sym c.as_slice.ensures.value) (search (rules, tests)))

pub returns-in-Some : goal.returns-in-Some
returns-in-Some g c =
    let page = c.make_room.new.self in
    put-behind _ page.bytes page.used c.put.result page.within (search rules) c.put.ensures c.in-Some.is

pub returns-in_default : goal.returns-in_default
returns-in_default g c =
    let page = c.make_room.new.self in
    has-room _ page.bytes page.used c.put.result c.in_ok-make_room.ensures (search rules) (longest_bound _ (rw (sym c.as_slice.ensures.value) c.as_slice.ensures.fits)) c.put.ensures c.in_default.is
