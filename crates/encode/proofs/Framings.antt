-- What is answered of a message before a byte of it is written, and what that tells. Assumes nothing.
use Prim.Native.Nat.{ℕ, ◌+◌, ◌≤◌, ◌<◌}
use mathlib.Core.Path.{◌≡◌, refl, sym, ◌∙◌}
use mathlib.Core.Bool.{Bool, true, false}
use mathlib.Core.List.{List}
use native.Mathlib.Omega.{arith}
use borrow.Author.Tests.{le-leb, lt-leb, leb-true, leb-false}
use lib.Dec.{leb}
use lib.ListN.{length}
use Rattle.common.specs.Answer.{Leaves}
use Rattle.common.specs.Choice.{guard}
use Rattle.integer.specs.Integer.{size_of, greatest}
use Rattle.field.specs.declared.Piece.{Piece}
use Rattle.measure.specs.Measuring.{right_all, sized_all, encode_all, measure_all}
use Rattle.measure.specs.Judging.{Judged}
use Rattle.measure.specs.declared.Unfit.TheVariants.{TooLong as BodyLong, Oversize as BodyOversize, Forbidden as BodyForbidden}
use Rattle.encode.specs.Framing.{body_framing, framing_of}
use Rattle.encode.specs.Writing.{frame, framed_of, told_writing}
use Rattle.std.specs.Prelude.{Result, Ok, Err}
use Rattle.encode.specs.declared.Refusal.{Refusal}
use Rattle.encode.specs.declared.Refusal.TheVariants.{Forbidden, TooShort}
use Rattle.encode.proofs.Written.{kind-great, fields-forbidden, fields-oversize, Message, message-long, message-short, message}

apart : ◌≡◌ {A = ℕ} 0 1 → ⊥
apart e = omega arith

-- ---- how it is found

module _ (found : Judged) (number room : ℕ) where
  -- the type can't be written,
  pub type-great : greatest < number → Err Forbidden ≡ framing_of found number room
  unfolding framing_of
  type-great h = rw (lt-leb number greatest h)

  module _ (small : number ≤ greatest) where
    -- or the body says it,
    pub by-body : {m : Judged} → found ≡ m → body_framing m number room ≡ framing_of found number room
    unfolding framing_of
    by-body e = rw (le-leb number greatest small, e)

    module _ {n a b : ℕ} (e : found ≡ Ok n) (h : a ≡ size_of number) (k : b ≡ size_of n) where
      -- or all of it is too long for the room,
      pub all_short : room < a + b + n → Err TooShort ≡ framing_of found number room
      unfolding body_framing
      all_short l =
          let is : body_framing (Ok n) number room ≡ Err TooShort = rw (lt-leb (size_of number + size_of n + n) room (rw (h, k) at l)) in
          sym is ∙ by-body e

      -- or fits
      pub all-fits : a + b + n ≤ room → Ok n ≡ framing_of found number room
      unfolding body_framing
      all-fits l =
          let is : body_framing (Ok n) number room ≡ Ok n = rw (le-leb (size_of number + size_of n + n) room (rw (h, k) at l)) in
          sym is ∙ by-body e

-- ---- what it tells of the message

module _ (longest : ℕ) (s : List ℕ) (kind : ℕ) (ps : List Piece) (before : List ℕ) where
  -- a body that takes n bytes
  with-body : (n : ℕ) → Ok n ≡ measure_all s ps longest → kind ≤ greatest → (fits : Bool) → leb (size_of kind + size_of n + n) (length before) ≡ fits → ((m : ℕ) → guard fits (Err TooShort) (Ok n) ≡ Ok m → ⊥) → Leaves (framed_of longest s kind ps before) (told_writing (guard fits (Err TooShort) (Ok n))) before
  with-body n said small true e h = absurd (h n refl)
  with-body n said small false e h = message-short longest s ps before small said refl refl refl (leb-false (size_of kind + size_of n + n) (length before) e)

  refused-by : (found : Judged) → found ≡ measure_all s ps longest → (small : Bool) → leb kind greatest ≡ small → ((m : ℕ) → guard small (Err Forbidden) (body_framing found kind (length before)) ≡ Ok m → ⊥) → Leaves (framed_of longest s kind ps before) (told_writing (guard small (Err Forbidden) (body_framing found kind (length before)))) before
  unfolding body_framing framed_of measure_all
  refused-by found said false e h =
      kind-great (right_all s ps) (sized_all s ps) (leb (length (encode_all s ps)) longest) (frame kind (encode_all s ps)) before (leb-false kind greatest e)
  refused-by (Err BodyForbidden) said true e h =
      fields-forbidden (right_all s ps) (sized_all s ps) (leb (length (encode_all s ps)) longest) (frame kind (encode_all s ps)) before (leb-true kind greatest e) _ _ said refl
  refused-by (Err BodyOversize) said true e h =
      fields-oversize (right_all s ps) (sized_all s ps) (leb (length (encode_all s ps)) longest) (frame kind (encode_all s ps)) before (leb-true kind greatest e) _ _ said refl
  refused-by (Err BodyLong) said true e h = message-long longest s ps before (leb-true kind greatest e) said refl
  refused-by (Ok n) said true e h = with-body n said (leb-true kind greatest e) _ refl h

  -- where nothing is refused, all was checked
  all-checked : (n : ℕ) → Ok n ≡ measure_all s ps longest → kind ≤ greatest → longest ≤ greatest → (fits : Bool) → leb (size_of kind + size_of n + n) (length before) ≡ fits → {m : ℕ} → guard fits (Err TooShort) (Ok n) ≡ Ok m → Message longest s kind ps before m
  all-checked n said small g true e {m} d =
      let same : m ≡ n = cc in
      rw same (message longest s ps before small said refl refl refl g (leb-true (size_of kind + size_of n + n) (length before) e))
  all-checked n said small g false e d = absurd (apart (cc))

  checked-by : (found : Judged) → found ≡ measure_all s ps longest → (small : Bool) → leb kind greatest ≡ small → longest ≤ greatest → {n : ℕ} → guard small (Err Forbidden) (body_framing found kind (length before)) ≡ Ok n → Message longest s kind ps before n
  unfolding body_framing
  checked-by found said false e g d = absurd (apart (cc))
  checked-by (Err BodyForbidden) said true e g d = absurd (apart (cc))
  checked-by (Err BodyOversize) said true e g d = absurd (apart (cc))
  checked-by (Err BodyLong) said true e g d = absurd (apart (cc))
  checked-by (Ok n) said true e g d = all-checked n said (leb-true kind greatest e) g _ refl d

  module _ {found : Judged} (said : found ≡ measure_all s ps longest) {r : Result ℕ Refusal} (is : r ≡ framing_of found kind (length before)) where
    -- it is refused,
    pub framing-refused : {refusal : Refusal} → r ≡ Err refusal → Leaves (framed_of longest s kind ps before) (told_writing (Err refusal)) before
    unfolding framing_of
    framing-refused {refusal} e =
        let f : guard (leb kind greatest) (Err Forbidden) (body_framing found kind (length before)) ≡ Err refusal = sym is ∙ e in
        rw f at (refused-by found said _ refl (λ m d. let z : ◌≡◌ {A = Result ℕ Refusal} (Err refusal) (Ok m) = sym f ∙ d in cc))

    -- or all was checked
    pub framing-checked : longest ≤ greatest → {n : ℕ} → r ≡ Ok n → Message longest s kind ps before n
    unfolding framing_of
    framing-checked g d = checked-by found said _ refl g (sym is ∙ d)
