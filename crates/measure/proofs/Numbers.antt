-- A field, several, and two judgements as one: each in 01's numbers, and back. Assumes nothing.
use Prim.Native.Nat.{ℕ, ◌+◌}
use mathlib.Core.Path.{◌≡◌, refl, sym, ap, ◌∙◌}
use mathlib.Core.Bool.{Bool, true, false}
use mathlib.Core.List.{List}
use lib.Dec.{leb}
use lib.ListN.{length}
use Rattle.common.specs.Choice.{pick}
use Rattle.common.specs.Answer.{refused, wrote}
use Rattle.field.specs.Value.{mean, enc_field}
use Rattle.field.specs.declared.Piece.{Piece}
use Rattle.measure.specs.Judging.{right, sized, Judged, fit, judged, joined, graver, measure_of}
use Rattle.measure.specs.Measuring.{right_all, sized_all, encode_all, measure_all, measured_of, measured_all, joined_of, told_measured}
use Rattle.std.specs.Prelude.{Ok, Err}
use Rattle.measure.specs.declared.Unfit.TheVariants.{TooLong, Oversize, Forbidden}
use Rattle.measure.proofs.OneAnswer.{told-measured-once}

-- a judgement in 01's numbers
said-judged : (is_right is_sized fits : Bool) (n : ℕ) → told_measured (pick is_right (pick is_sized (pick fits (Ok n) (Err TooLong)) (Err Oversize)) (Err Forbidden)) ≡ pick is_right (pick is_sized (pick fits (wrote n) (refused 7)) (refused 6)) (refused 5)
said-judged true true true n = refl
said-judged true true false n = refl
said-judged true false fits n = refl
said-judged false is_sized fits n = refl

module _ (s : List ℕ) (p : Piece) (room : ℕ) where
  said-measure : told_measured (measure_of s p room) ≡ measured_of s p room
  unfolding measure_of measured_of judged fit
  said-measure =
      let n = length (enc_field (mean s p)) in
      said-judged (right s p) (sized s p) (leb n room) n

  module _ {r : Judged} where
    -- a field is measured as it is judged,
    pub measured : r ≡ measure_of s p room → told_measured r ≡ measured_of s p room
    measured e = ap told_measured e ∙ said-measure

    -- and judged as it is measured
    pub judgement : told_measured r ≡ measured_of s p room → r ≡ measure_of s p room
    judgement e = told-measured-once r (measure_of s p room) (e ∙ sym said-measure)

module _ (s : List ℕ) (ps : List Piece) (room : ℕ) where
  said_all : told_measured (measure_all s ps room) ≡ measured_all s ps room
  unfolding measure_all measured_all judged fit
  said_all =
      let n = length (encode_all s ps) in
      said-judged (right_all s ps) (sized_all s ps) (leb n room) n

  module _ {r : Judged} where
    -- so are several
    pub measured-all : r ≡ measure_all s ps room → told_measured r ≡ measured_all s ps room
    measured-all e = ap told_measured e ∙ said_all

    pub judgement-all : told_measured r ≡ measured_all s ps room → r ≡ measure_all s ps room
    judgement-all e = told-measured-once r (measure_all s ps room) (e ∙ sym said_all)

said-fit : (fits : Bool) (n : ℕ) → told_measured (pick fits (Ok n) (Err TooLong)) ≡ pick fits (wrote n) (refused 7)
said-fit true n = refl
said-fit false n = refl

said-joined : (a b : Judged) (room : ℕ) → told_measured (joined a b room) ≡ joined_of (told_measured a) (told_measured b) room
unfolding joined graver joined_of fit
said-joined (Err Forbidden) (Err Forbidden) room = refl
said-joined (Err Forbidden) (Err Oversize) room = refl
said-joined (Err Forbidden) (Err TooLong) room = refl
said-joined (Err Oversize) (Err Forbidden) room = refl
said-joined (Err Oversize) (Err Oversize) room = refl
said-joined (Err Oversize) (Err TooLong) room = refl
said-joined (Err TooLong) (Err Forbidden) room = refl
said-joined (Err TooLong) (Err Oversize) room = refl
said-joined (Err TooLong) (Err TooLong) room = refl
said-joined (Err Forbidden) (Ok n) room = refl
said-joined (Err Oversize) (Ok n) room = refl
said-joined (Err TooLong) (Ok n) room = refl
said-joined (Ok m) (Err Forbidden) room = refl
said-joined (Ok m) (Err Oversize) room = refl
said-joined (Ok m) (Err TooLong) room = refl
said-joined (Ok m) (Ok n) room = said-fit (leb (m + n) room) (m + n)

-- what is judged in both is told in 01's numbers,
pub told-pair : (room : ℕ) {a b x y r : Judged} → a ≡ x → b ≡ y → r ≡ joined x y room → told_measured r ≡ joined_of (told_measured a) (told_measured b) room
told-pair room e f j = rw (e, f, j) (said-joined _ _ room)

-- and judged as it is told
pub judgement-joined : (a b : Judged) (room : ℕ) {r : Judged} → told_measured r ≡ joined_of (told_measured a) (told_measured b) room → r ≡ joined a b room
judgement-joined a b room {r} e = told-measured-once r (joined a b room) (e ∙ sym (said-joined a b room))
