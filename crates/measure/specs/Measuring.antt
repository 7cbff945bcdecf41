-- How many bytes a field takes in its shortest form, and how many several take: each check is made over all of them
-- before the next.
use Rattle.std.specs.Prelude.{ℕ, ◌+◌, min, List, [], ◌∷◌, map, Bool, true, length, leb, Ok, Err}
use Rattle.common.specs.Choice.{guard, both}
use Rattle.common.specs.Answer.{Answer, whole, refused, Nothing, wrote}
use Rattle.field.specs.Value.{mean, enc_field, encode}
use Rattle.field.specs.declared.Piece.{Piece}
use Rattle.measure.specs.Judging.{right, sized, Judged, judged}
use Rattle.measure.specs.declared.Unfit.TheVariants.{TooLong, Oversize, Forbidden}

-- ---- each check over all of them

unfoldable pub right_all : List ℕ → List Piece → Bool
right_all s [] = true
right_all s (p ∷ ps) = both (right s p) (right_all s ps)

unfoldable pub sized_all : List ℕ → List Piece → Bool
sized_all s [] = true
sized_all s (p ∷ ps) = both (sized s p) (sized_all s ps)

-- their shortest form
unfoldable pub encode_all : List ℕ → List Piece → List ℕ
encode_all s ps = encode (map (mean s) ps)

unfoldable pub measure_all : List ℕ → List Piece → ℕ → Judged
measure_all s ps room = judged (right_all s ps) (sized_all s ps) (length (encode_all s ps)) room

-- ---- in 01's numbers

-- 5, 6 and then 7, for what takes that many bytes, of the room there is for it
abbrev pub measured_by : Bool → Bool → ℕ → ℕ → Answer Nothing
measured_by is_right is_sized n room =
    guard is_right (refused 5) (guard is_sized (refused 6) (guard (leb n room) (refused 7) (wrote n)))

-- HOW MANY BYTES A FIELD TAKES in its shortest form,
unfoldable pub measured_of : List ℕ → Piece → ℕ → Answer Nothing
measured_of s p room = measured_by (right s p) (sized s p) (length (enc_field (mean s p))) room

-- and several fields
unfoldable pub measured_all : List ℕ → List Piece → ℕ → Answer Nothing
measured_all s ps room = measured_by (right_all s ps) (sized_all s ps) (length (encode_all s ps)) room

-- two answers as one: the refusal that is looked for first, or both together of the room there is
unfoldable pub joined_of : Answer Nothing → Answer Nothing → ℕ → Answer Nothing
joined_of (whole a m) (whole b n) room = guard (leb (m + n) room) (refused 7) (wrote (m + n))
joined_of (whole a m) (refused y) room = refused y
joined_of (refused x) (whole b n) room = refused x
joined_of (refused x) (refused y) room = refused (min x y)

-- 01's number and values of what is answered
abbrev pub told_measured : Judged → Answer Nothing
told_measured (Ok n) = wrote n
told_measured (Err Forbidden) = refused 5
told_measured (Err Oversize) = refused 6
told_measured (Err TooLong) = refused 7
