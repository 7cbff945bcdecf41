-- What was read whole by a layout, step by step. Assumes nothing.
use Prim.Native.Nat.{ℕ}
use mathlib.Core.Path.{◌≡◌, refl}
use mathlib.Core.List.{List, [], ◌∷◌, map}
use mathlib.Core.Bool.{true, false}
use native.Mathlib.Omega.{arith}
use Rattle.field.specs.Outcome.{Outcome, whole, no}
use Rattle.field.specs.Fields.{FieldForm, field_at}
use Rattle.field.specs.Value.{Value, mean}
use Rattle.field.specs.declared.Piece.{Piece}
use Rattle.field.proofs.Found.{steps}
use Rattle.field.proofs.Pieces.{as-told, FieldAt, field-at}
use Rattle.layout.specs.declared.FieldName.{FieldName}
use Rattle.layout.specs.Layout.{Layout, done, forbidden, field, when, control, scan, valued, values_by}

-- the end; a field and what follows it; the one or the other of two layouts
pub data Scanned (s : List ℕ) : Layout → ℕ → List Piece → ℕ → Type 0 where
  at-end : {at : ℕ} → Scanned s done at [] at
  one_more : {name : FieldName} {form : FieldForm} {next : ℕ → Layout} {at : ℕ} {p : Piece} {mid : ℕ} {ps : List Piece} {end : ℕ} → FieldAt s at form p mid → Scanned s (next (control p)) mid ps end → Scanned s (field name form next) at (p ∷ ps) end
  taken : {l m : Layout} {at : ℕ} {ps : List Piece} {end : ℕ} → Scanned s l at ps end → Scanned s (when true l m) at ps end
  left : {l m : Layout} {at : ℕ} {ps : List Piece} {end : ℕ} → Scanned s m at ps end → Scanned s (when false l m) at ps end

-- what was read whole was read in such steps
pub scanned : (l : Layout) (s : List ℕ) (at : ℕ) {ps : List Piece} {end : ℕ} → scan l s at ≡ whole ps end → Scanned s l at ps end
unfolding scan
scanned done s at h = as-told (Scanned s done at) at-end h
scanned forbidden s at h = absurd (let z : ◌≡◌ {A = ℕ} 0 1 = cc in omega arith)
scanned (field name form next) s at h =
    let t = steps (field_at form s at) _ h in
    let u = steps (scan (next (control t.found)) s t.end) _ t.then in
    let rest = scanned (next (control t.found)) s t.end u.first in
    as-told (Scanned s (field name form next) at) {last = u.end} (one_more {ps = u.found} {end = u.end} (field-at form s at t.first) rest) u.then
scanned (when true l m) s at h = taken (scanned l s at h)
scanned (when false l m) s at h = left (scanned m s at h)

-- and by value: the values of the pieces
pub record ReadBy (l : Layout) (s : List ℕ) (at : ℕ) (vs : List Value) (end : ℕ) : Type 0 where
  pub pieces : List Piece
  pub found : scan l s at ≡ whole pieces end
  pub values : vs ≡ map (mean s) pieces

-- what was read by value has such pieces
pub read_by : (l : Layout) (s : List ℕ) (at : ℕ) {vs : List Value} {end : ℕ} → values_by l s at ≡ whole vs end → ReadBy l s at vs end
unfolding values_by
read_by l s at {vs} {end} = go (scan l s at) refl
  where
    go : (o : Outcome (List Piece)) → scan l s at ≡ o → valued s o ≡ whole vs end → ReadBy l s at vs end
    go (whole ps last) e h =
        let v : vs ≡ map (mean s) ps = cc in
        let q : end ≡ last = cc in
        record { pieces = ps; found = rw q e; values = v }
    go (no fault) e h = absurd (let z : ◌≡◌ {A = ℕ} 0 1 = cc in omega arith)
