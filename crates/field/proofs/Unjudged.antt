-- Lengths that are not judged: no length is over the greatest number, so what may hold that many bytes may hold any number.
-- Assumes nothing.
use Prim.Native.Nat.{ℕ, ◌+◌, ◌-◌}
use mathlib.Core.Path.{◌≡◌, refl, sym, ◌∙◌}
use mathlib.Core.List.{List}
use native.Mathlib.Omega.{arith}
use lib.ListN.{length, drop}
use lib.Dec.{leb}
use Rattle.common.specs.Answer.{Answer, whole as answered, refused}
use Rattle.common.specs.Choice.{pick}
use Rattle.common.proofs.Cases.{pick-le}
use Rattle.integer.specs.Integer.{read_of, on_read, greatest}
use Rattle.field.specs.Outcome.{Outcome, whole, no, and_then}
use Rattle.field.specs.Entries.{size, number_at, text_at, numbered_at, entry_at}
use Rattle.field.specs.Fields.{field_at, integer, bytes}
use Rattle.field.specs.declared.Piece.TheVariants.{Number, Bytes}
use Rattle.field.specs.declared.Fault.{Fault}
use Rattle.field.specs.declared.Fault.TheVariants.{Cut, Oversize}
use Rattle.field.specs.declared.Span.{Span}
use Rattle.field.specs.declared.Entry.{Entry}
use Rattle.field.specs.declared.Kind.{Kind}
use Rattle.field.specs.declared.Kind.TheVariants.{Namespace, Parameters, Versions}
use Rattle.field.proofs.Found.{steps, StopsIn, at_first, at_next, stops-in, number-at, span, text_at_lem, text_of}

-- what was found was not refused
pub apart : {A : Type 0} {a : A} {end : ℕ} {fault : Fault} → whole a end ≡ no fault → ⊥
apart h = let z : ◌≡◌ {A = ℕ} 0 1 = cc in omega arith

-- ---- what is refused is cut

-- an integer,
pub number-refused : (s : List ℕ) (at : ℕ) {fault : Fault} → number_at s at ≡ no fault → fault ≡ Cut
unfolding number_at
number-refused s at {fault} = go (read_of (drop at s))
  where
    go : (r : Answer ℕ) → on_read r (no Cut) (λ n used. whole n (at + used)) ≡ no fault → fault ≡ Cut
    go (answered m used) h = absurd (apart h)
    go (refused k) h = cc

-- and a length and bytes, however great the length may be
pub text-refused : (s : List ℕ) (at : ℕ) {fault : Fault} → text_at greatest s at ≡ no fault → fault ≡ Cut
unfolding text_at
text-refused s at {fault} h = go (number_at s at) refl h
  where
    go : (o : Outcome ℕ) → number_at s at ≡ o → (and_then o λ n start. pick (leb n greatest) (pick (leb n (length s - start)) (whole (span start n) (start + n)) (no Cut)) (no Oversize)) ≡ no fault → fault ≡ Cut
    go (whole n start) e h =
        pick-le (λ r. r ≡ no fault → fault ≡ Cut) n greatest
        (λ small. pick-le (λ r. r ≡ no fault → fault ≡ Cut) n (length s - start) (λ room k. absurd (apart k)) (λ room k. cc))
        (λ large k. absurd (omega (arith, (number-at s at e).small)))
        h
    go (no f) e h = let z : f ≡ fault = cc in sym z ∙ number-refused s at e

-- ---- what is found under some judgement is found under none

-- a length and bytes,
pub text-any : (most : ℕ) (s : List ℕ) (at : ℕ) {p : Span} {end : ℕ} → text_at most s at ≡ whole p end → text_at greatest s at ≡ whole p end
text-any most s at {p} {end} h =
    let t = text_at_lem most s at h in
    let z : p.start + size p ≡ p.end = omega (arith, t.ordered) in
    text_of greatest s at t.length_at (number-at s at t.length_at).small (omega (arith, t.ordered, t.within)) ∙ rw (z, t.ends)

-- with a number,
pub numbered-any : (number most : ℕ) (s : List ℕ) (at : ℕ) {e : Entry} {end : ℕ} → numbered_at number most s at ≡ whole e end → numbered_at number greatest s at ≡ whole e end
unfolding numbered_at
numbered-any number most s at h = let t = steps (text_at most s at) _ h in rw (text-any most s at t.first) t.then

-- and an entry of any kind
pub entry-any : (kind : Kind) (most : ℕ) (s : List ℕ) (at : ℕ) {e : Entry} {end : ℕ} → entry_at kind most s at ≡ whole e end → entry_at kind greatest s at ≡ whole e end
unfolding entry_at
entry-any Namespace most s at h = numbered-any 0 most s at h
entry-any Parameters most s at h =
    let t = steps (number_at s at) _ h in
    rw t.first (numbered-any t.found most s t.end t.then)
entry-any Versions most s at h = h

-- ---- a field that is an integer or bytes, and its outcome as such: each way round

module _ (s : List ℕ) (at : ℕ) where
  -- found,
  pub as_number : {n end : ℕ} → number_at s at ≡ whole n end → field_at integer s at ≡ whole (Number n) end
  unfolding field_at
  as_number h = rw h

  pub found_number : {n end : ℕ} → field_at integer s at ≡ whole (Number n) end → number_at s at ≡ whole n end
  unfolding field_at
  found_number {n} {end} h =
      let t = steps (number_at s at) _ h in
      let e : t.found ≡ n = cc in
      let f : t.end ≡ end = cc in
      t.first ∙ rw (e, f)

  pub as-text : {p : Span} {end : ℕ} → text_at greatest s at ≡ whole p end → field_at bytes s at ≡ whole (Bytes p) end
  unfolding field_at
  as-text h = rw h

  pub found-text : {p : Span} {end : ℕ} → field_at bytes s at ≡ whole (Bytes p) end → text_at greatest s at ≡ whole p end
  unfolding field_at
  found-text {p} {end} h =
      let t = steps (text_at greatest s at) _ h in
      let e : t.found ≡ p = cc in
      let f : t.end ≡ end = cc in
      t.first ∙ rw (e, f)

  -- and refused
  pub as-no-number : {fault : Fault} → number_at s at ≡ no fault → field_at integer s at ≡ no fault
  unfolding field_at
  as-no-number h = rw h

  pub cut-number : field_at integer s at ≡ no Cut → number_at s at ≡ no Cut
  unfolding field_at
  cut-number h = only (stops-in (number_at s at) _ h)
    where
      only : StopsIn (number_at s at) (λ n end. whole (Number n) end) Cut → number_at s at ≡ no Cut
      only (at_first e) = e
      only (at_next e f) = absurd (apart f)

  pub as-no-text : {fault : Fault} → text_at greatest s at ≡ no fault → field_at bytes s at ≡ no fault
  unfolding field_at
  as-no-text h = rw h

  pub cut-text : field_at bytes s at ≡ no Cut → text_at greatest s at ≡ no Cut
  unfolding field_at
  cut-text h = only (stops-in (text_at greatest s at) _ h)
    where
      only : StopsIn (text_at greatest s at) (λ p end. whole (Bytes p) end) Cut → text_at greatest s at ≡ no Cut
      only (at_first e) = e
      only (at_next e f) = absurd (apart f)
