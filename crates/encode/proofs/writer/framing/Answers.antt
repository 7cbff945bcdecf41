-- `framing` meets its contract, answer by answer. Assumes nothing.
use native.Mathlib.Omega.{arith}
use Rattle.std.proofs.lemmas.Result.{err_from_is_err_and}
use Rattle.integer.proofs.Widths.{size_few}
use Rattle.encode.specs.Framing.{body_framing}
use Rattle.encode.proofs.Framings.{type-great, by-body, all_short, all-fits}
use Rattle.encode.proofs.writer.framing.Goals as goal

pub returns-then-number-gt-GREATEST : goal.returns-then-number-gt-GREATEST
returns-then-number-gt-GREATEST c = type-great _ _ _ c.if-number-gt-GREATEST.true

pub returns-in_err-n : goal.returns-in_err-n
unfolding body_framing
returns-in_err-n c =
    let p = err_from_is_err_and c.from_residual.result c.from_residual.ensures.1 in
    rw (p.1, p.2) (by-body _ _ _ c.if-number-gt-GREATEST.false c.in_err-n.was)

pub overflow_add-head : goal.overflow_add-head
overflow_add-head c =
    omega (arith, size_few c.args.number, size_few c.in_ok-n.n, c.size.ensures, c.size-2.ensures)

pub overflow_add-head-2 : goal.overflow_add-head-2
overflow_add-head-2 c =
    omega (arith, c.requires _ c.in_ok-n.was, size_few c.args.number, size_few c.in_ok-n.n, c.size.ensures, c.size-2.ensures)

pub returns-then-room-head : goal.returns-then-room-head
returns-then-room-head c =
    all_short _ _ _ c.if-number-gt-GREATEST.false c.in_ok-n.was c.size.ensures c.size-2.ensures c.if-room-head.true

pub returns : goal.returns
returns c = all-fits _ _ _ c.if-number-gt-GREATEST.false c.in_ok-n.was c.size.ensures c.size-2.ensures c.if-room-head.false
