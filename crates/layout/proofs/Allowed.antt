-- For every layout: what is read whole holds no value that it forbids. Assumes nothing.
use Prim.Native.Nat.{ℕ}
use mathlib.Core.Path.{◌≡◌, refl}
use mathlib.Core.List.{List}
use mathlib.Core.Bool.{true}
use Rattle.field.specs.Outcome.{whole}
use Rattle.field.specs.declared.Piece.{Piece}
use Rattle.layout.specs.Layout.{Layout, scan}
use Rattle.layout.specs.Allowed.{allowed}
use Rattle.layout.proofs.Scanned.{Scanned, at-end, one_more, taken, left, scanned}

-- by the steps of the reading,
steps-allowed : {s : List ℕ} {l : Layout} {at : ℕ} {ps : List Piece} {end : ℕ} → Scanned s l at ps end → allowed l ps ≡ true
unfolding allowed
steps-allowed at-end = refl
steps-allowed (one_more f r) = steps-allowed r
steps-allowed (taken r) = steps-allowed r
steps-allowed (left r) = steps-allowed r

-- and so by what was read
pub read-allowed : (l : Layout) (s : List ℕ) (at : ℕ) {ps : List Piece} {end : ℕ} → scan l s at ≡ whole ps end → allowed l ps ≡ true
read-allowed l s at h = steps-allowed (scanned l s at h)
