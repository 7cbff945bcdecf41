-- `put_number` meets its contract. The loop runs backward: the digits still to be put, and what stands after them, are what the
-- whole number leaves. Assumes nothing.
use Prim.Native.Nat.{◌≤◌}
use mathlib.Core.Path.{◌≡◌, ◌∙◌}
use native.Mathlib.Omega.{arith}
use lib.ListN.{length, length-set}
use Rattle.text.proofs.Decimals.{digit-next, digits-put}
use Rattle.text.proofs.digits.put_number.Goals as goal

pub loop-i-preserved : goal.loop-i-preserved
loop-i-preserved c =
    let l = c.loop-i in
    let h : l.i ≤ length l.out = omega arith in
    (simp length-set l.invariant.0, digit-next l.i l.left l.out c.loop-i-test.true h ∙ l.invariant.1)

pub returns : goal.returns
returns c =
    let l = c.loop-i in
    let z : l.i ≡ 0 = omega arith in
    digits-put _ _ l.left c.places-count.ensures (rw z at l.invariant.1)
