-- `put` meets its contract. The loop runs backward: the bytes still to be put, and what stands after them, are what the
-- whole number leaves. Assumes nothing.
use Prim.Native.Nat.{◌≤◌}
use mathlib.Core.Path.{◌≡◌, refl, ◌∙◌}
use native.Mathlib.Omega.{arith}
use lib.ListN.{length, length-set}
use Rattle.integer.specs.Integer.{bytes_of}
use Rattle.integer.proofs.Digits.{put_next}
use Rattle.integer.proofs.Writes.{put-short, put-done}
use Rattle.integer.proofs.writer.put.Goals as goal

pub returns-then-out-width : goal.returns-then-out-width
returns-then-out-width c = put-short _ _ _ c.if-out-width.true

pub loop-i-init : goal.loop-i-init
loop-i-init c = (omega arith, refl, refl)

pub loop-i-preserved : goal.loop-i-preserved
loop-i-preserved c =
    let l = c.loop-i in
    let h : l.i ≤ length l.out = omega arith in (
      omega arith,
      simp length-set l.invariant.1,
      put_next l.i l.left l.out c.loop-i-test.true h ∙ l.invariant.2,
    )

pub shape_of-out : goal.shape_of-out
shape_of-out c = c.loop-i.invariant.1

pub returns : goal.returns
unfolding bytes_of
returns c =
    let l = c.loop-i in
    let z : l.i ≡ 0 = omega arith in
    put-done _ _ _ _ (omega arith) (rw z at l.invariant.2)
