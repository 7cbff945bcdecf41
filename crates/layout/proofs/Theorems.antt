-- What holds of every layout. Each theorem with its sentence, and nothing else. Assumes nothing.
use Prim.Native.Nat.{ℕ, ◌+◌, ◌≤◌}
use mathlib.Core.Path.{◌≡◌}
use mathlib.Core.List.{List, ◌++◌}
use mathlib.Core.Bool.{true}
use lib.ListN.{length, drop}
use Rattle.common.specs.Octets.{Octets}
use Rattle.field.specs.Outcome.{whole, no}
use Rattle.field.specs.Value.{Value, encode}
use Rattle.field.specs.declared.Fault.{Fault}
use Rattle.field.specs.declared.Fault.TheVariants.{Cut}
use Rattle.field.specs.declared.Piece.{Piece}
use Rattle.layout.specs.Layout.{Layout, scan, values_by}
use Rattle.layout.specs.Permitted.{permitted}
use Rattle.layout.specs.Inside.{Inside}
use Rattle.layout.specs.Allowed.{allowed}
use Rattle.layout.proofs.Back as back
use Rattle.layout.proofs.Shortest as shorter
use Rattle.layout.proofs.Stable as stable
use Rattle.layout.proofs.Cuts as cuts
use Rattle.layout.proofs.Inside as within
use Rattle.layout.proofs.Allowed as values

module _ (l : Layout) where
  -- 1. A permitted list of fields, encoded and followed by anything, is read back as the same fields, and exactly those
  -- bytes are used.
  pub reads-back : (vs : List Value) (before rest : List ℕ) → permitted l vs ≡ true
      → values_by l (before ++ (encode vs ++ rest)) (length before) ≡ whole vs (length before + length (encode vs))
  reads-back = back.reads-back l

  -- 2. What is read whole is permitted, and its shortest form is no longer than what was read;
  pub shortest : (s : List ℕ) (at : ℕ) {vs : List Value} {end : ℕ} → values_by l s at ≡ whole vs end
      → (permitted l vs ≡ true) × (at + length (encode vs) ≤ end)
  shortest s at h = let r = shorter.shortest l s at h in (r.is-permitted, r.least.fits)

  -- of forms that are as short it is the only one;
  pub only : (s : List ℕ) (at : ℕ) {vs : List Value} {end : ℕ} → Octets s → values_by l s at ≡ whole vs end
      → end ≤ at + length (encode vs) → drop at s ≡ encode vs ++ drop end s
  only s at o h = (shorter.shortest l s at h).least.is o

  -- so encoded again it reads back the same.
  pub again : (s : List ℕ) (at : ℕ) {vs : List Value} {end : ℕ} (before rest : List ℕ) → values_by l s at ≡ whole vs end
      → values_by l (before ++ (encode vs ++ rest)) (length before) ≡ whole vs (length before + length (encode vs))
  again s at {vs} before rest h = back.reads-back l vs before rest (shorter.shortest l s at h).is-permitted

  -- 3. Bytes that follow change nothing of what was read whole,
  pub whole-stays : (s t : List ℕ) (at : ℕ) {ps : List Piece} {end : ℕ} → scan l s at ≡ whole ps end
      → scan l (s ++ t) at ≡ whole ps end
  whole-stays = stable.whole-stays l

  -- nor of a refusal, unless it is for want of bytes;
  pub refusal-stays : (s t : List ℕ) (at : ℕ) {fault : Fault} → (fault ≡ Cut → ⊥) → scan l s at ≡ no fault
      → scan l (s ++ t) at ≡ no fault
  refusal-stays = stable.refusal-stays l

  -- so where bytes are cut, all that begins them is cut too: a cut is never another answer later than the bytes that
  -- decide it.
  pub cut-before : (s t : List ℕ) (at : ℕ) → scan l (s ++ t) at ≡ no Cut → scan l s at ≡ no Cut
  cut-before = stable.cut-before l

  -- And where they are cut, more bytes could still decide: there are zeros enough.
  pub more-decides : (s : List ℕ) (at : ℕ) → (t : List ℕ) × (scan l (s ++ t) at ≡ no Cut → ⊥)
  more-decides = cuts.more-decides l

  -- 4. The reading of given bytes is unique,
  pub once : (s : List ℕ) (at : ℕ) {vs ws : List Value} {e f : ℕ} → values_by l s at ≡ whole vs e
      → values_by l s at ≡ whole ws f → (vs ≡ ws) × (e ≡ f)
  once = back.once l

  -- and two different lists of fields have different encodings: none begins another.
  pub apart : (vs ws : List Value) (s t : List ℕ) → permitted l vs ≡ true → permitted l ws ≡ true
      → encode vs ++ s ≡ encode ws ++ t → (vs ≡ ws) × (s ≡ t)
  apart = back.apart l

  -- 5. Every part that was found lies within the bytes used.
  pub inside : (s : List ℕ) (at : ℕ) {ps : List Piece} {end : ℕ} → scan l s at ≡ whole ps end → Inside at end ps
  inside = within.inside l

  -- 6. No value that was found is one that is forbidden.
  pub read-allowed : (s : List ℕ) (at : ℕ) {ps : List Piece} {end : ℕ} → scan l s at ≡ whole ps end
      → allowed l ps ≡ true
  read-allowed = values.read-allowed l
