-- Fields before others: each check over both is the checks over each, and so is their judgement. Assumes nothing.
use Prim.Native.Nat.{ℕ, ◌+◌, ◌<◌}
use mathlib.Core.Path.{◌≡◌, refl, sym, ap, ◌∙◌}
use mathlib.Core.List.{List, [], ◌∷◌, ◌++◌, map, append_assoc, append-nil}
use native.Mathlib.Omega.{arith}
use Rattle.std.specs.Prelude.{Ok}
use lib.ListN.{length, take, get_or, length-append}
use Rattle.std.proofs.lemmas.List.{take_more, map-append}
use Rattle.common.specs.Choice.{both}
use Rattle.common.proofs.Tests.{both_true, both-joined}
use Rattle.field.specs.Value.{mean, enc_field, encode}
use Rattle.field.specs.declared.Piece.{Piece}
use Rattle.measure.specs.Judging.{right, sized, Judged, judged, joined, measure_of}
use Rattle.measure.specs.Measuring.{right_all, sized_all, encode_all, measure_all}
use Rattle.measure.proofs.Judges.{fit-within, judged-joined}

module _ (s : List ℕ) where
  -- ---- both are right,
  pub right-joined : (ps qs : List Piece) → right_all s (ps ++ qs) ≡ both (right_all s ps) (right_all s qs)
  unfolding right_all
  right-joined [] qs = refl
  right-joined (p ∷ ps) qs = ap (both (right s p)) (right-joined ps qs) ∙ sym (both-joined (right s p) (right_all s ps) (right_all s qs))

  -- sized,
  sized-joined : (ps qs : List Piece) → sized_all s (ps ++ qs) ≡ both (sized_all s ps) (sized_all s qs)
  unfolding sized_all
  sized-joined [] qs = refl
  sized-joined (p ∷ ps) qs = ap (both (sized s p)) (sized-joined ps qs) ∙ sym (both-joined (sized s p) (sized_all s ps) (sized_all s qs))

  -- and written one after the other,
  pub encode-joined : (ps qs : List Piece) → encode_all s (ps ++ qs) ≡ encode_all s ps ++ encode_all s qs
  unfolding encode_all encode
  encode-joined [] qs = refl
  encode-joined (p ∷ ps) qs =
      ap (λ (x : List ℕ). enc_field (mean s p) ++ x) (encode-joined ps qs)
      ∙ sym (append_assoc (enc_field (mean s p)) (encode (map (mean s) ps)) (encode (map (mean s) qs)))

  -- so two judgements joined judge both
  pub measure-joined : (ps qs : List Piece) (room : ℕ) → joined (measure_all s ps room) (measure_all s qs room) room ≡ measure_all s (ps ++ qs) room
  unfolding measure_all
  measure-joined ps qs room =
      judged-joined (right_all s ps) (sized_all s ps) (length (encode_all s ps)) (right_all s qs) (sized_all s qs) (length (encode_all s qs)) room
      ∙ rw (right-joined ps qs, sized-joined ps qs, encode-joined ps qs, length-append)

  -- ---- a field alone

  -- is right where it is,
  pub alone-right : (p : Piece) → right_all s (p ∷ []) ≡ right s p
  unfolding right_all
  alone-right p = both_true (right s p)

  -- is written as it is,
  pub alone-is : (p : Piece) → encode_all s (p ∷ []) ≡ enc_field (mean s p)
  unfolding encode_all encode
  alone-is p = append-nil (enc_field (mean s p))

  -- and judged as it is
  pub alone-judged : (p : Piece) (room : ℕ) → measure_of s p room ≡ measure_all s (p ∷ []) room
  unfolding measure_of measure_all right_all sized_all
  alone-judged p room = rw (alone-is p, both_true (right s p), both_true (sized s p))

-- ---- several, one after the other

-- a part more, as a field
pub front-more : {A B : Type 0} (f : A → B) (xs : List A) (i : ℕ) {x : A} → i < length xs → x ≡ get_or xs i x → map f (take (i + 1) xs) ≡ map f (take i xs) ++ f x ∷ []
front-more f xs i {x} h is = rw (take_more xs i x h, ← is) (map-append f (take i xs) (x ∷ []))

module _ (s : List ℕ) (room : ℕ) where
  -- none takes no bytes,
  pub none-judged : Ok 0 ≡ measure_all s [] room
  unfolding measure_all right_all sized_all encode_all encode judged
  none-judged = fit-within 0 room (omega arith)

  -- and one more is judged with those before it
  pub one-more : (ps : List Piece) (p : Piece) {found one next : Judged} → found ≡ measure_all s ps room → one ≡ measure_of s p room → next ≡ joined found one room → next ≡ measure_all s (ps ++ p ∷ []) room
  one-more ps p f o j = j ∙ rw (f, o, alone-judged s p room) (measure-joined s ps (p ∷ []) room)
