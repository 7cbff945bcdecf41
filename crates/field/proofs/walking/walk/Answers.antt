-- `walk` meets its contract. The loop's invariant: the entries left give what the whole run gives, and no sum is more than what was read.
-- Assumes nothing.
use Prim.Native.Nat.{◌+◌, ◌-◌}
use mathlib.Core.Path.{◌≡◌}
use native.Mathlib.Nat.{sub-zero}
use native.Mathlib.Omega.{arith}
use Rattle.std.proofs.Common.{rules}
use Rattle.common.proofs.Exits.{handed}
use Rattle.field.proofs.Answers.{entry-ordered, entry-small, entry-little}
use Rattle.field.proofs.Walks.{walking_start, walking-end, walking-stop, walking-step, walking-size, walking-held}
use Rattle.field.proofs.walking.walk.Goals as goal

pub loop-init : goal.loop-init
loop-init c = rw sub-zero (walking_start _ _ _ _ _)

pub returns-in_err-e : goal.returns-in_err-e
returns-in_err-e c =
    rw (handed c.from_residual.ensures.1) (walking-stop c.loop.invariant (omega arith) c.most.ensures c.in_err-e.ensures)

pub overflow_sub-n : goal.overflow_sub-n
overflow_sub-n c = entry-ordered _ _ _ _ c.in_ok-e.ensures

pub entry_size-requires : goal.entry_size-requires
entry_size-requires c = (entry-small _ _ _ _ c.in_ok-e.ensures, entry-little _ _ _ _ c.in_ok-e.ensures)

pub overflow_add-w : goal.overflow_add-w
overflow_add-w c =
    walking-size c.loop.invariant (omega arith) c.most.ensures c.in_ok-e.ensures c.entry_size.ensures (search rules)

pub overflow_add-w-in-loop : goal.overflow_add-w-in-loop
overflow_add-w-in-loop c = walking-held c.loop.invariant (omega arith) c.most.ensures c.in_ok-e.ensures (search rules)

pub loop-preserved : goal.loop-preserved
loop-preserved c =
    let l = c.loop in
    let z : c.args.count - (l.counter + 1) ≡ c.args.count - l.counter - 1 = omega arith in
    rw z (walking-step l.invariant (omega arith) c.most.ensures c.in_ok-e.ensures c.entry_size.ensures)

pub returns : goal.returns
returns c = walking-end c.loop.invariant (omega arith)
