-- What is read from the front of bytes is written again in its shortest form: each call answers 01's number, and writes
-- `info` and `out` only with 0; 7 where either is too short.
use Rattle.std.specs.Prelude.{ℕ, ◌≡◌, List, [], ◌∷◌, ◌++◌, length, leb}
use Rattle.common.specs.Choice.{guard}
use Rattle.common.specs.Answer.{Answer, whole, refused}
use Rattle.common.specs.Buffer.{over}
use Rattle.integer.specs.Integer.{enc_of}
use Rattle.field.specs.declared.Piece.{Piece}
use Rattle.layout.specs.Typed.{Typed}
use Rattle.measure.specs.Measuring.{encode_all}
use Rattle.encode.specs.Writing.{frame}
use Rattle.message.specs.Reading.{read_of}
use Rattle.header.specs.Reading.{datagram_of, stream_of, subgroup_object_of, fetch_object_of}

-- what a call does: the number that it answers, and what `out` and `info` then hold
pub record Doing : Type 0 where
  pub says : ℕ
  pub out : List ℕ
  pub info : List ℕ

abbrev pub refusing : ℕ → List ℕ → List ℕ → Doing
refusing number out info = record { says = number; out = out; info = info }

-- bytes into `out` and values into `info`, where both fit
unfoldable pub putting : List ℕ → List ℕ → List ℕ → List ℕ → Doing
putting bytes values out info =
    guard (leb (length values) (length info)) (refusing 7 out info)
    (guard (leb (length bytes) (length out)) (refusing 7 out info)
    (record { says = 0; out = over bytes out; info = over values info }))

-- info[0]: the bytes used; info[1]: the bytes written; info[2]: the type, 0 for the header of an object
abbrev pub rewriting : {A : Type 0} → Answer A → (A → List ℕ) → (A → ℕ) → List ℕ → List ℕ → Doing
rewriting (whole a used) form type out info = putting (form a) (used ∷ length (form a) ∷ type a ∷ []) out info
rewriting (refused number) form type out info = refusing number out info

-- ---- each of the five

abbrev pub type_in : Typed → ℕ
type_in t = t.type

abbrev pub no_type : List Piece → ℕ
no_type ps = 0

-- a message: Type, Length, body
abbrev pub framed_form : List ℕ → Typed → List ℕ
framed_form s t = frame t.type (encode_all s t.pieces)

unfoldable pub control_again : List ℕ → List ℕ → List ℕ → Doing
control_again s = rewriting (read_of s) (framed_form s) type_in

-- a header that has a type
abbrev pub typed_form : List ℕ → Typed → List ℕ
typed_form s t = enc_of t.type ++ encode_all s t.pieces

unfoldable pub datagram_again : List ℕ → List ℕ → List ℕ → Doing
datagram_again s = rewriting (datagram_of s) (typed_form s) type_in

unfoldable pub stream_again : List ℕ → List ℕ → List ℕ → Doing
stream_again s = rewriting (stream_of s) (typed_form s) type_in

unfoldable pub subgroup_object_again : List ℕ → List ℕ → List ℕ → Doing
subgroup_object_again s = rewriting (subgroup_object_of s) (encode_all s) no_type

unfoldable pub fetch_object_again : List ℕ → List ℕ → List ℕ → Doing
fetch_object_again s = rewriting (fetch_object_of s) (encode_all s) no_type

-- what a call leaves
pub record Does (d : Doing) (said : ℕ) (out info : List ℕ) : Type 0 where
  pub says : said ≡ d.says
  pub leaves : out ≡ d.out
  pub tells : info ≡ d.info
