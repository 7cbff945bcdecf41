-- What a writer leaves that says it wrote; and what it leaves when it writes again, or elsewhere. Assumes nothing.
use Prim.Native.Nat.{ℕ, ◌≤◌}
use mathlib.Core.Path.{◌≡◌, refl, sym, ap, ◌∙◌}
use mathlib.Core.Bool.{Bool, true, false}
use mathlib.Core.List.{List, [], ◌∷◌, ◌++◌, map}
use native.Mathlib.Omega.{arith}
use lib.ListN.{length, take, drop, length-append, length-drop}
use lib.Seq.{take-append_seam, drop-append_seam}
use borrow.Author.Tests.{le-leb, lt-leb}
use Rattle.common.specs.Answer.{refused, Written}
use Rattle.common.specs.Buffer.{over}
use Rattle.common.proofs.Cases.{pick-le}
use Rattle.common.specs.Choice.{both}
use Rattle.common.proofs.Tests.{both_first, both-second}
use Rattle.field.specs.Value.{Value, mean, encode}
use Rattle.field.specs.declared.Piece.{Piece}
use Rattle.layout.specs.Permitted.{good}
use Rattle.measure.specs.Judging.{right}
use Rattle.measure.specs.Measuring.{right_all, sized_all, encode_all}
use Rattle.encode.specs.Writing.{written_of}
use Rattle.encode.proofs.Good.{sized-good}
use Rattle.encode.proofs.ChecksPassed.{Wrote}

-- ---- what was written

-- the bytes that it says it wrote are those that were judged
pub wrote-bytes : {is_right is_sized is_short : Bool} {bytes before : List ℕ} {after : Written} {n : ℕ} → Wrote is_right is_sized is_short bytes before after n → take n after.holds ≡ bytes
wrote-bytes {bytes = bytes} {before} w = rw (w.used, w.holds) (take-append_seam bytes (drop (length bytes) before))

-- where it does not answer 5, it was right
pub not_five : (is_right is_sized is_short : Bool) (bytes before : List ℕ) → ((written_of is_right is_sized is_short bytes before).says ≡ refused 5 → ⊥) → is_right ≡ true
unfolding written_of
not_five true is_sized is_short bytes before h = refl
not_five false is_sized is_short bytes before h = absurd (h refl)

-- ---- written into the buffer that was just written

-- the same bytes over themselves: the buffer keeps its length, where they fit,
over-length : (bytes before : List ℕ) → length bytes ≤ length before → length (over bytes before) ≡ length before
over-length bytes before h = omega (arith, length-append bytes (drop (length bytes) before), length-drop (length bytes) before)

-- and what it holds
over-over : (bytes before : List ℕ) → over bytes (over bytes before) ≡ over bytes before
over-over bytes before = ap (λ (rest : List ℕ). bytes ++ rest) (drop-append_seam bytes (drop (length bytes) before))

-- Writing again changes nothing, of what is answered and of what the buffer holds.
pub written-again : (is_right is_sized is_short : Bool) (bytes before : List ℕ) → written_of is_right is_sized is_short bytes (written_of is_right is_sized is_short bytes before).holds ≡ written_of is_right is_sized is_short bytes before
unfolding written_of
written-again true true true bytes before =
    pick-le (λ (w : Written). written_of true true true bytes w.holds ≡ w) (length bytes) (length before)
    (λ h. rw (le-leb (length bytes) (length (over bytes before)) (rw (over-length bytes before h) h), over-over bytes before))
    (λ h. rw (lt-leb (length bytes) (length before) h))
written-again true true false bytes before = refl
written-again true false is_short bytes before = refl
written-again false is_sized is_short bytes before = refl

-- ---- fields that have the same values

-- the sizes of right fields are those of their values:
good_all : List Value → Bool
good_all [] = true
good_all (v ∷ vs) = both (good v) (good_all vs)

sized-values : (s : List ℕ) (ps : List Piece) → right_all s ps ≡ true → sized_all s ps ≡ good_all (map (mean s) ps)
unfolding right_all sized_all good_all
sized-values s [] h = refl
sized-values s (p ∷ ps) h =
    rw (sized-good s p (both_first (right s p) (right_all s ps) h), sized-values s ps (both-second (right s p) (right_all s ps) h))

module _ (s t : List ℕ) (ps qs : List Piece) (same : map (mean s) ps ≡ map (mean t) qs) where
  -- where both are right, one is sized where the other is,
  pub sized-alike : right_all s ps ≡ true → right_all t qs ≡ true → sized_all s ps ≡ sized_all t qs
  sized-alike h k = sized-values s ps h ∙ ap good_all same ∙ sym (sized-values t qs k)

  -- and they have one shortest form
  pub encoded-alike : encode_all s ps ≡ encode_all t qs
  unfolding encode_all
  encoded-alike = ap encode same
