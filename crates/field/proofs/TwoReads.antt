-- What a caller has from the answers of `read_number` and `read_bytes`, one after the other. Assumes nothing.
use Prim.Native.Nat.{ℕ}
use mathlib.Core.Path.{◌≡◌, sym}
use mathlib.Core.List.{List}
use Rattle.integer.specs.Integer.{greatest}
use Rattle.field.specs.Outcome.{Outcome, whole, no, and_then}
use Rattle.field.specs.Entries.{number_at, text_at}
use Rattle.field.specs.Fields.{field_at, integer, bytes, place_at, failure_at}
use Rattle.field.specs.declared.Fault.TheVariants.{Cut}
use Rattle.field.specs.declared.Piece.TheVariants.{Number, Bytes}
use Rattle.field.specs.declared.Span.{Span}
use Rattle.field.specs.declared.Place.{Place}
use Rattle.field.specs.declared.Failure.{Failure}
use Rattle.field.proofs.Found.{steps, StopsIn, at_first, at_next, stops-in}
use Rattle.field.proofs.Pieces.{as-told}
use Rattle.field.proofs.Unjudged.{apart, found_number, cut-number, found-text, cut-text}

-- ---- the first is cut

module _ (s : List ℕ) (at : ℕ) (said : no Cut ≡ field_at integer s at) where
  pub number-missing : number_at s at ≡ no Cut
  number-missing = cut-number s at (sym said)

  pub place-cut : no Cut ≡ place_at s at
  unfolding place_at
  place-cut = rw number-missing

  pub failure-cut : no Cut ≡ failure_at s at
  unfolding failure_at
  failure-cut = rw number-missing

-- ---- the first is there

module _ (s : List ℕ) (at : ℕ) {n next : ℕ} (said : whole (Number n) next ≡ field_at integer s at) where
  pub number-there : number_at s at ≡ whole n next
  number-there = found_number s at (sym said)

  -- a place,
  pub place-half : no Cut ≡ field_at integer s next → no Cut ≡ place_at s at
  unfolding place_at
  place-half then = rw (number-there, number-missing s next then)

  pub place-whole : {m end : ℕ} → whole (Number m) end ≡ field_at integer s next → whole (record { group = n; object = m }) end ≡ place_at s at
  unfolding place_at
  place-whole then = rw (number-there, found_number s next (sym then))

  -- a failure
  pub failure-half : no Cut ≡ field_at bytes s next → no Cut ≡ failure_at s at
  unfolding failure_at
  failure-half then = rw (number-there, cut-text s next (sym then))

  pub failure-whole : {p : Span} → whole (Bytes p) p.end ≡ field_at bytes s next → whole (record { code = n; reason = p }) p.end ≡ failure_at s at
  unfolding failure_at
  failure-whole then = rw (number-there, found-text s next (sym then))

-- ---- the two of a pair, from the pair

-- a place that was found is two integers that were,
pub record PlaceParts (s : List ℕ) (at : ℕ) (p : Place) (end : ℕ) : Type 0 where
  pub next : ℕ
  pub first : number_at s at ≡ whole p.group next
  pub second : number_at s next ≡ whole p.object end

pub place-parts : (s : List ℕ) (at : ℕ) {p : Place} {end : ℕ} → place_at s at ≡ whole p end → PlaceParts s at p end
unfolding place_at
place-parts s at h =
    let t = steps (number_at s at) _ h in
    let u = steps (number_at s t.end) _ t.then in
    as-told (PlaceParts s at) (record { next = t.end; first = t.first; second = u.first }) u.then

-- and a failure an integer and bytes
pub record FailureParts (s : List ℕ) (at : ℕ) (f : Failure) (end : ℕ) : Type 0 where
  pub next : ℕ
  pub first : number_at s at ≡ whole f.code next
  pub second : text_at greatest s next ≡ whole f.reason end

pub failure-parts : (s : List ℕ) (at : ℕ) {f : Failure} {end : ℕ} → failure_at s at ≡ whole f end → FailureParts s at f end
unfolding failure_at
failure-parts s at h =
    let t = steps (number_at s at) _ h in
    let u = steps (text_at greatest s t.end) _ t.then in
    as-told (FailureParts s at) (record { next = t.end; first = t.first; second = u.first }) u.then

-- where a pair is cut, its first field is, or its second
pub data CutIn {A : Type 0} (second : ℕ → Outcome A) (s : List ℕ) (at : ℕ) : Type 0 where
  first-cut : number_at s at ≡ no Cut → CutIn second s at
  second-cut : {n next : ℕ} → number_at s at ≡ whole n next → second next ≡ no Cut → CutIn second s at

pair-stops : {A B : Type 0} (second : ℕ → Outcome A) (make : ℕ → A → B) (s : List ℕ) (at : ℕ) → (and_then (number_at s at) λ n next. and_then (second next) λ a end. whole (make n a) end) ≡ no Cut → CutIn second s at
pair-stops {A} {B} second make s at h = go (stops-in (number_at s at) _ h)
  where
    last : (n next : ℕ) → StopsIn {B = B} (second next) (λ a end. whole (make n a) end) Cut → second next ≡ no Cut
    last n next (at_first e) = e
    last n next (at_next e f) = absurd (apart f)

    go : StopsIn (number_at s at) (λ n next. and_then (second next) (λ a end. whole (make n a) end)) Cut → CutIn second s at
    go (at_first e) = first-cut e
    go (at_next {a = n} {end = next} e f) = second-cut e (last n next (stops-in (second next) _ f))

pub place-stops : (s : List ℕ) (at : ℕ) → place_at s at ≡ no Cut → CutIn (number_at s) s at
unfolding place_at
place-stops s at h = pair-stops (number_at s) (λ g o. record { group = g; object = o }) s at h

pub failure-stops : (s : List ℕ) (at : ℕ) → failure_at s at ≡ no Cut → CutIn (text_at greatest s) s at
unfolding failure_at
failure-stops s at h = pair-stops (text_at greatest s) (λ c r. record { code = c; reason = r }) s at h
