-- For every layout: bytes that follow change nothing of what was read whole, and nothing of a refusal, unless it is
-- a cut one. Assumes nothing.
use Prim.Native.Nat.{ℕ}
use mathlib.Core.Path.{◌≡◌, refl}
use mathlib.Core.List.{List, ◌++◌, map}
use Rattle.field.specs.Outcome.{whole, no}
use Rattle.field.specs.Value.{Value, mean}
use Rattle.field.specs.declared.Fault.{Fault}
use Rattle.field.specs.declared.Fault.TheVariants.{Cut}
use Rattle.field.specs.declared.Piece.{Piece}
use Rattle.field.proofs.Stable.{Stays, same, stays_then, stays-pick, keeps-whole, keeps-refusal, was-cut, field-stays, mean-stays}
use Rattle.layout.specs.Layout.{Layout, done, forbidden, field, when, control, scan, values_by}
use Rattle.layout.proofs.Scanned.{Scanned, at-end, one_more, taken, left, scanned, read_by}

-- what bytes mean by a layout stays
pub stays : (l : Layout) (s t : List ℕ) (at : ℕ) → Stays (scan l s at) (scan l (s ++ t) at)
unfolding scan
stays done s t at = same
stays forbidden s t at = same
stays (field name form next) s t at =
    stays_then (field-stays s t form at) (λ p end. stays_then (stays (next (control p)) s t end) (λ ps last. same))
stays (when test l m) s t at = stays-pick test (stays l s t at) (stays m s t at)

-- Bytes that follow change nothing of what was read whole,
pub whole-stays : (l : Layout) (s t : List ℕ) (at : ℕ) {ps : List Piece} {end : ℕ} → scan l s at ≡ whole ps end → scan l (s ++ t) at ≡ whole ps end
whole-stays l s t at = keeps-whole (stays l s t at)

-- nor of a refusal other than a cut one;
pub refusal-stays : (l : Layout) (s t : List ℕ) (at : ℕ) {fault : Fault} → (fault ≡ Cut → ⊥) → scan l s at ≡ no fault → scan l (s ++ t) at ≡ no fault
refusal-stays l s t at other = keeps-refusal other (stays l s t at)

-- so where bytes are cut, all that begins them is cut too: no other refusal, and no whole reading, comes before the bytes that
-- decide it.
pub cut-before : (l : Layout) (s t : List ℕ) (at : ℕ) → scan l (s ++ t) at ≡ no Cut → scan l s at ≡ no Cut
cut-before l s t at = was-cut (stays l s t at)

-- What was read whole stays by value too: its byte fields have the same bytes.
pub values-stay : {s : List ℕ} (t : List ℕ) {l : Layout} {at : ℕ} {ps : List Piece} {end : ℕ} → Scanned s l at ps end → map (mean (s ++ t)) ps ≡ map (mean s) ps
values-stay t at-end = refl
values-stay {s} t (one_more f r) = rw (mean-stays s t f, values-stay t r)
values-stay t (taken r) = values-stay t r
values-stay t (left r) = values-stay t r

pub read_stays : (l : Layout) (s t : List ℕ) (at : ℕ) {vs : List Value} {end : ℕ} → values_by l s at ≡ whole vs end → values_by l (s ++ t) at ≡ whole vs end
unfolding values_by
read_stays l s t at h =
    let r = read_by l s at h in
    rw (whole-stays l s t at r.found, values-stay t (scanned l s at r.found), ← r.values)
