-- For every layout: what is read whole is permitted, and its shortest form is no longer than what was read; where it is as long,
-- it is what was read. Assumes nothing.
use Prim.Native.Nat.{ℕ, ◌≤◌}
use mathlib.Core.Path.{◌≡◌, refl}
use mathlib.Core.List.{List, map}
use mathlib.Core.Bool.{true}
use lib.ListN.{length}
use borrow.Author.Tests.{eq-eqb}
use Rattle.field.specs.Outcome.{whole}
use Rattle.field.specs.Value.{Value, mean, encode}
use Rattle.field.specs.declared.Piece.{Piece}
use Rattle.field.proofs.Least.{Least, least-none, least-then}
use Rattle.field.proofs.Shortest.{field_fits}
use Rattle.layout.specs.Layout.{Layout, values_by}
use Rattle.layout.specs.Permitted.{code, permitted}
use Rattle.layout.proofs.Scanned.{Scanned, at-end, one_more, taken, left, scanned, read_by}
use Rattle.layout.proofs.Good.{field-good}

-- What is read whole is permitted, and its shortest form is no longer than what was read; it ends within the bytes.
pub record Shortest (l : Layout) (s : List ℕ) (at : ℕ) (vs : List Value) (end : ℕ) : Type 0 where
  pub is-permitted : permitted l vs ≡ true
  pub least : Least s at (encode vs) end
  pub within : at ≤ length s → end ≤ length s

-- by the steps of the reading,
pub scanned-shortest : {s : List ℕ} {l : Layout} {at : ℕ} {ps : List Piece} {end : ℕ} → Scanned s l at ps end → Shortest l s at (map (mean s) ps) end
unfolding permitted encode
scanned-shortest {s} {at = at} at-end = record { is-permitted = refl; least = least-none s at; within = λ k. k }
scanned-shortest (one_more {form = form} f r) =
    let g = field-good f in
    let h = field_fits f in
    let k = scanned-shortest r in
    record {
      is-permitted = rw (g.as-asked, eq-eqb (code form) (code form) refl, g.is-good, g.hands_on) k.is-permitted;
      least = least-then h.least k.least;
      within = λ _. k.within h.within;
    }
scanned-shortest (taken r) = let k = scanned-shortest r in record { is-permitted = k.is-permitted; least = k.least; within = k.within }
scanned-shortest (left r) = let k = scanned-shortest r in record { is-permitted = k.is-permitted; least = k.least; within = k.within }

-- and so by what was read
pub shortest : (l : Layout) (s : List ℕ) (at : ℕ) {vs : List Value} {end : ℕ} → values_by l s at ≡ whole vs end → Shortest l s at vs end
shortest l s at h = let r = read_by l s at h in rw r.values (scanned-shortest (scanned l s at r.found))
