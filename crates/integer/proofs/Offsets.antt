-- What is read at an offset of a slice. Assumes nothing.
use Prim.Native.Nat.{ℕ, ◌+◌, ◌≤◌}
use mathlib.Core.Path.{◌≡◌}
use mathlib.Core.List.{List}
use native.Mathlib.Omega.{arith}
use lib.ListN.{length, drop, length-drop, drop_of_length-le}
use Rattle.common.specs.Answer.{whole, refused}
use Rattle.integer.specs.Integer.{wide, read_of}
use Rattle.integer.proofs.Front.{short}
use Rattle.integer.proofs.Laws.{bounds}

-- what is read at an offset ends within the slice
pub reach : (s : List ℕ) (at : ℕ) {n used : ℕ} → read_of (drop at s) ≡ whole n used → at + used ≤ length s
reach s at {n} {used} e =
    let b = bounds e in
    omega (arith, rw length-drop at b.within)

-- past the end there is nothing to read
pub past : (s : List ℕ) (at : ℕ) → length s ≤ at → read_of (drop at s) ≡ refused 1
unfolding wide
past s at h = rw (drop_of_length-le s h) (short _ (omega arith))
