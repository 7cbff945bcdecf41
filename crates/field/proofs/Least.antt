-- What was read in no fewer bytes than its shortest form, and in as many is that form. Assumes nothing.
use Prim.Native.Nat.{ℕ, ◌+◌, ◌≤◌, ◌<◌}
use mathlib.Core.Path.{◌≡◌, refl, sym, ap, ◌∙◌}
use mathlib.Core.List.{List, [], ◌∷◌, ◌++◌, append_assoc}
use native.Mathlib.Numerals.{add-one}
use native.Mathlib.Omega.{arith}
use lib.ListN.{length, get_or, drop, length-append, take-append-drop}
use lib.Seq.{drop-drop, drop-cons}
use Rattle.common.specs.Octets.{Octets}
use Rattle.common.proofs.Octets.{octets-drop}
use Rattle.integer.specs.Integer.{enc_of}
use Rattle.integer.proofs.Only.{only}
use Rattle.field.specs.Outcome.{whole}
use Rattle.field.specs.Entries.{size, number_at, text_at, entry_at}
use Rattle.field.specs.Value.{part, entry_value, enc_text, enc_item}
use Rattle.field.specs.declared.Span.{Span}
use Rattle.field.specs.declared.Entry.{Entry}
use Rattle.field.specs.declared.Kind.{Kind}
use Rattle.field.specs.declared.Kind.TheVariants.{Namespace, Parameters, Versions}
use Rattle.field.proofs.Found.{steps, number-at, TextAt, text_at_lem, numbered-at}
use Rattle.field.proofs.Lengths.{length_part}

-- xs is no longer than what stands from `at` up to `end`; and where that is no longer than xs, it is xs
pub record Least (s : List ℕ) (at : ℕ) (xs : List ℕ) (end : ℕ) : Type 0 where
  pub fits : at + length xs ≤ end
  pub is : Octets s → end ≤ at + length xs → drop at s ≡ xs ++ drop end s

-- nothing
pub least-none : (s : List ℕ) (at : ℕ) → Least s at [] at
least-none s at = record { fits = omega arith; is = λ o h. refl }

-- two things, one after the other: a sum is least only where both are
pub least-then : {s : List ℕ} {at mid end : ℕ} {xs ys : List ℕ} → Least s at xs mid → Least s mid ys end → Least s at (xs ++ ys) end
least-then {s} {at} {mid} {end} {xs} {ys} a b =
    let long = length-append xs ys in
    record {
      fits = omega (arith, a.fits, b.fits);
      is = λ o h. a.is o (omega (arith, b.fits)) ∙ ap (λ (zs : List ℕ). xs ++ zs) (b.is o (omega (arith, a.fits))) ∙ sym (append_assoc xs ys (drop end s));
    }

-- a part of the bytes
pub least-part : (s : List ℕ) (p : Span) → p.start ≤ p.end → p.end ≤ length s → Least s p.start (part s p) p.end
least-part s p h k =
    let long = length_part s p k in
    let ends : p.start + size p ≡ p.end = omega arith in
    record {
      fits = omega arith;
      is = λ o _. sym (take-append-drop (size p) (drop p.start s)) ∙ ap (λ (zs : List ℕ). part s p ++ zs) (rw (drop-drop, ends));
    }

-- one byte
pub least-byte : (s : List ℕ) (at : ℕ) → at < length s → Least s at (get_or s at 0 ∷ []) (at + 1)
least-byte s at h = record { fits = omega arith; is = λ o _. rw add-one (drop-cons s at 0 h) }

-- ---- an integer, a length and bytes, an entry

-- an integer
pub least-number : (s : List ℕ) (at : ℕ) {n end : ℕ} → number_at s at ≡ whole n end → Least s at (enc_of n) end
least-number s at {n} {end} h =
    let r = number-at s at h in
    let first = drop at s in
    record {
      fits = r.fits;
      is = λ o k. sym (take-append-drop r.used first) ∙ rw (only first (octets-drop s at o) r.reads (omega (arith, r.ends)), drop-drop, ← r.ends);
    }

-- a length and bytes,
text-least : {most : ℕ} {s : List ℕ} {at : ℕ} {p : Span} {end : ℕ} → TextAt most s at p end → Least s at (enc_text (part s p)) end
unfolding enc_text
text-least {s = s} {at} {p} t =
    rw (t.ends, length_part s p t.within) (least-then (least-number s at t.length_at) (least-part s p t.ordered t.within))

pub least-text : (most : ℕ) (s : List ℕ) (at : ℕ) {p : Span} {end : ℕ} → text_at most s at ≡ whole p end → Least s at (enc_text (part s p)) end
least-text most s at h = text-least (text_at_lem most s at h)

-- an entry of each kind
pub least-entry : (kind : Kind) (most : ℕ) (s : List ℕ) (at : ℕ) {e : Entry} {end : ℕ} → entry_at kind most s at ≡ whole e end → Least s at (enc_item kind (entry_value s e)) end
unfolding entry_at enc_item
least-entry Namespace most s at h = text-least (numbered-at 0 most s at h).is-text
least-entry Parameters most s at h =
    let u = steps (number_at s at) _ h in
    let r = numbered-at u.found most s u.end u.then in
    rw r.numbered (least-then (least-number s at u.first) (text-least r.is-text))
least-entry Versions most s at {e} {end} h =
    let u = steps (number_at s at) _ h in
    have u.first (cc) (cc)
  where
    have : {n last : ℕ} → number_at s at ≡ whole n last → e.number ≡ n → end ≡ last → Least s at (enc_of e.number) end
    have f q r = rw (q, r) (least-number s at f)
