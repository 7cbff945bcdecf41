-- What writing a field, a message or a header does: "The writer checks 5, 6, 3, 7 in that order", each over all of it.
use Rattle.std.specs.Prelude.{ℕ, List, ◌++◌, Bool, true, length, leb, Result, Ok, Err}
use Rattle.common.specs.Choice.{guard, both}
use Rattle.common.specs.Answer.{unwritten, Answer, refused, Nothing, wrote, Written}
use Rattle.common.specs.Buffer.{over}
use Rattle.integer.specs.Integer.{enc_of, greatest}
use Rattle.field.specs.Value.{mean, enc_field}
use Rattle.field.specs.declared.Piece.{Piece}
use Rattle.measure.specs.Judging.{right, sized}
use Rattle.measure.specs.Measuring.{right_all, sized_all, encode_all}
use Rattle.encode.specs.declared.Refusal.{Refusal}
use Rattle.encode.specs.declared.Refusal.TheVariants.{Forbidden, Oversize, TooLong, TooShort}

-- ---- the writer

-- bytes that were judged, put into a buffer: 5, 6, 3, 7 in this order; every byte after them stays, and a refusal
-- changes none
unfoldable pub written_of : Bool → Bool → Bool → List ℕ → List ℕ → Written
written_of is_right is_sized is_short bytes before =
    guard is_right (unwritten 5 before)
    (guard is_sized (unwritten 6 before)
    (guard is_short (unwritten 3 before)
    (guard (leb (length bytes) (length before)) (unwritten 7 before)
    (record { says = wrote (length bytes); holds = over bytes before }))))

-- A FIELD alone
unfoldable pub put_field : List ℕ → Piece → List ℕ → Written
put_field s p before = written_of (right s p) (sized s p) true (enc_field (mean s p)) before

-- Type, Length, body
unfoldable pub frame : ℕ → List ℕ → List ℕ
frame kind body = enc_of kind ++ (enc_of (length body) ++ body)

-- A HEADER: its fields alone, of which the number of its type, where it has one, is the first
unfoldable pub bare_of : List ℕ → List Piece → List ℕ → Written
bare_of s ps before = written_of (right_all s ps) (sized_all s ps) true (encode_all s ps) before

-- A MESSAGE, whose body may take that many bytes
unfoldable pub framed_of : ℕ → List ℕ → ℕ → List Piece → List ℕ → Written
framed_of longest s kind ps before =
    let body = encode_all s ps in
    written_of
    (both (leb kind greatest) (right_all s ps))
    (sized_all s ps)
    (leb (length body) longest)
    (frame kind body)
    before

-- ---- 01's number and values of what is answered

abbrev pub told_writing : Result ℕ Refusal → Answer Nothing
told_writing (Ok n) = wrote n
told_writing (Err Forbidden) = refused 5
told_writing (Err Oversize) = refused 6
told_writing (Err TooLong) = refused 3
told_writing (Err TooShort) = refused 7
