-- What reading a data header answers. "On a stream, a cut header answers 1; in a datagram, which is always whole, it
-- answers 4, and so do bytes after a status datagram."
use Rattle.std.specs.Prelude.{ℕ, List, length, eqb, ltb}
use Rattle.common.specs.Choice.{pick, both}
use Rattle.common.specs.Answer.{Answer, whole as answered, refused}
use Rattle.field.specs.Outcome.{on_found, answer}
use Rattle.field.specs.Entries.{number_at}
use Rattle.field.specs.declared.Piece.{Piece}
use Rattle.layout.specs.Layout.{scan}
use Rattle.layout.specs.Typed.{Typed, typed}
use Rattle.header.specs.Layouts.{object_datagram_status_row, InTable, on_listed, datagrams, streams, subgroup_object, fetch_object}

-- a header at the front of s, its type first: by the answer for a cut one, and the layout of each type
unfoldable pub headed_of : ℕ → (ℕ → InTable) → List ℕ → Answer Typed
headed_of cut types s =
    on_found (number_at s 0) (refused cut) (λ type at.
    on_listed (types type) (refused 2) (λ l.
    answer cut (typed type (scan l s at))))

-- a datagram of a size: no byte follows a status, and what follows else is the payload
abbrev pub ended_datagram : ℕ → Answer Typed → Answer Typed
ended_datagram size (answered t used) =
    pick (both (eqb t.type object_datagram_status_row.number) (ltb used size)) (refused 4) (answered t used)
ended_datagram size (refused n) = refused n

unfoldable pub datagram_of : List ℕ → Answer Typed
datagram_of s = ended_datagram (length s) (headed_of 4 datagrams s)

unfoldable pub stream_of : List ℕ → Answer Typed
stream_of s = headed_of 1 streams s

-- the header of an object has no type
unfoldable pub subgroup_object_of : List ℕ → Answer (List Piece)
subgroup_object_of s = answer 1 (scan subgroup_object s 0)

unfoldable pub fetch_object_of : List ℕ → Answer (List Piece)
fetch_object_of s = answer 1 (scan fetch_object s 0)
