-- What `read` answers: a law for each of its answers in turn, by what it was told of the Type, the Length and the body.
-- Assumes nothing.
use Prim.Native.Nat.{ℕ, ◌+◌, ◌-◌, ◌≤◌, ◌<◌}
use mathlib.Core.Path.{◌≡◌, refl, sym, ap, ◌∙◌}
use mathlib.Core.List.{List}
use mathlib.Core.Bool.{true, false}
use native.Mathlib.Omega.{arith}
use lib.ListN.{length, take}
use lib.Seq.{length-take-le}
use borrow.Author.Tests.{eq-eqb, ne_eqb}
use Rattle.std.specs.Prelude.{Option, Some, None}
use Rattle.common.specs.Answer.{Answer, whole as answered, refused}
use Rattle.common.proofs.Cases.{pick-by}
use Rattle.field.specs.Outcome.{Outcome, whole, no}
use Rattle.field.specs.Entries.{number_at}
use Rattle.field.specs.Fields.{integer, field_at}
use Rattle.field.specs.declared.Fault.{Fault}
use Rattle.field.specs.declared.Fault.TheVariants.{Cut, Forbidden, Oversize}
use Rattle.field.specs.declared.Piece.TheVariants.{Number}
use Rattle.field.proofs.Found.{number-at}
use Rattle.field.proofs.Unjudged.{found_number, cut-number}
use Rattle.layout.specs.Layout.{scan}
use Rattle.layout.specs.Typed.{Typed, typed}
use Rattle.types.specs.Table.{known, layout_of}
use Rattle.types.specs.Kinds.{number_of, type_of, told_type}
use Rattle.types.specs.Limits.{longest_body}
use Rattle.types.specs.Refusals.{number_of as refusal_number, in_body}
use Rattle.message.specs.Reading.{filled_by, read_of}
use Rattle.types.specs.declared.kinds.Kind.{Kind}
use Rattle.message.proofs.Front.{Headed, no-type, unknown, no_length, too_long, missing, stopped, present, answer-is}

-- ---- a type

-- a number that is none is unknown,
type-unknown : (n : ℕ) → refused 2 ≡ type_of n → known n ≡ false
unfolding type_of
type-unknown n =
    pick-by {A = Answer ℕ} (λ r. refused 2 ≡ r → known n ≡ false) (known n)
    (λ k e. absurd (let z : ◌≡◌ {A = ℕ} 0 1 = cc in omega arith))
    (λ k e. k)

-- and one that is one is known, and the number of its kind
type-known : (n : ℕ) {m end : ℕ} → answered m end ≡ type_of n → (known n ≡ true) × (m ≡ n)
unfolding type_of
type-known n {m} {end} =
    pick-by {A = Answer ℕ} (λ r. answered m end ≡ r → (known n ≡ true) × (m ≡ n)) (known n)
    (λ k e. (k, cc))
    (λ k e. absurd (let z : ◌≡◌ {A = ℕ} 0 1 = cc in omega arith))

-- ---- a body and where its fields end

fault-refused : (end : ℕ) (fault : Fault) → refused (refusal_number (in_body fault)) ≡ filled_by end (no fault)
fault-refused end Cut = refl
fault-refused end Forbidden = refl
fault-refused end Oversize = refl

unfilled : (end : ℕ) (t : Typed) (last : ℕ) → (last ≡ end → ⊥) → refused 4 ≡ filled_by end (whole t last)
unfilled end t last h = rw (ne_eqb last end h)

filled : (end : ℕ) (t : Typed) (last : ℕ) → last ≡ end → answered t end ≡ filled_by end (whole t last)
filled end t last h = rw (eq-eqb last end h)

-- ---- an integer

module _ (s : List ℕ) (at : ℕ) where
  -- there is none,
  number-no : no Cut ≡ field_at integer s at → number_at s at ≡ no Cut
  number-no said = cut-number s at (sym said)

  module _ {n end : ℕ} (said : whole (Number n) end ≡ field_at integer s at) where
    -- or there is one,
    number_is : number_at s at ≡ whole n end
    number_is = found_number s at (sym said)

    -- which ends within the bytes;
    pub number-ends : end ≤ length s
    number-ends = (number-at s at number_is).within

    -- and where there are as many bytes after it as it says, a slice up to their end has them all
    pub body-there : n ≤ length s - end → end + n ≡ length (take (end + n) s)
    body-there room = sym (length-take-le (end + n) s (omega (arith, number-ends)))

-- ---- Type, Length and body

-- there is no Type,
pub reads_nothing : (s : List ℕ) → no Cut ≡ field_at integer s 0 → refused 1 ≡ read_of s
reads_nothing s said = answer-is (stopped (no-type (number-no s 0 said)))

module _ (s : List ℕ) {n next : ℕ} (said : whole (Number n) next ≡ field_at integer s 0) {f : Option Kind} (judged : told_type f ≡ type_of n) where
  -- or it is unknown,
  pub reads-unknown : f ≡ None → refused 2 ≡ read_of s
  reads-unknown which = answer-is (stopped (unknown (number_is s 0 said) (type-unknown n (ap told_type (sym which) ∙ judged))))

  -- or it is known, and the number of a kind
  of-kind : {k : Kind} → f ≡ Some k → (known n ≡ true) × (number_of k ≡ n)
  of-kind which = type-known n (ap told_type (sym which) ∙ judged)

  module _ {k : Kind} (which : f ≡ Some k) where
    -- and there is no Length,
    pub reads-no-length : no Cut ≡ field_at integer s next → refused 1 ≡ read_of s
    reads-no-length none = answer-is (stopped (no_length (number_is s 0 said) (of-kind which).0 (number-no s next none)))

    module _ {size at : ℕ} (long : whole (Number size) at ≡ field_at integer s next) where
      -- or there is,
      head : Headed s n size at
      head =
          record { next = next; type_at = number_is s 0 said; is_known = (of-kind which).0; length_at = number_is s next long }

      -- and it is too great,
      pub reads-too-long : longest_body < size → refused 3 ≡ read_of s
      reads-too-long great = answer-is (stopped (too_long head great))

      module _ (short : size ≤ longest_body) where
        -- or not all of the body is there,
        pub reads_short : length s - at < size → refused 1 ≡ read_of s
        reads_short room = answer-is (stopped (missing head short room))

        -- or all of it is, and its fields decide:
        module _ (room : size ≤ length s - at) where
          reads-body : {o : Outcome Typed} → o ≡ typed (number_of k) (scan (layout_of (number_of k)) (take (at + size) s) at) → filled_by (at + size) o ≡ read_of s
          reads-body body = rw (body, (of-kind which).1) (answer-is (present head short room refl))

          -- one is at fault,
          pub reads-fault : {fault : Fault} → no fault ≡ typed (number_of k) (scan (layout_of (number_of k)) (take (at + size) s) at) → refused (refusal_number (in_body fault)) ≡ read_of s
          reads-fault {fault} body = fault-refused (at + size) fault ∙ reads-body body

          module _ {t : Typed} {last : ℕ} (body : whole t last ≡ typed (number_of k) (scan (layout_of (number_of k)) (take (at + size) s) at)) where
            -- or they end elsewhere than the body,
            pub reads-unfilled : (last ≡ at + size → ⊥) → refused 4 ≡ read_of s
            reads-unfilled h = unfilled (at + size) t last h ∙ reads-body body

            -- or where it does
            pub reads-whole : last ≡ at + size → answered t (at + size) ≡ read_of s
            reads-whole h = filled (at + size) t last h ∙ reads-body body
