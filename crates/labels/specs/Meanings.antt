-- WHAT A NUMBER MEANS, in document 01's words, with the limit that K8 has for a body.
use Rattle.std.specs.Prelude.{ℕ, List, [], ◌∷◌, get_or}
use Prim.Native.String.{String}
use Rattle.types.specs.Letters.{letters}

-- its table of "Numbers that are answered", from 0 on; with a 13 its rule is told behind these words
unfoldable pub meanings : List String
meanings =
    "whole" ∷
    "more bytes needed" ∷
    "unknown type" ∷
    "body over 65,000" ∷
    "fields don't fill the body exactly" ∷
    "forbidden value" ∷
    "size" ∷
    "output too short for the message" ∷
    "done" ∷
    "message the ledger doesn't keep" ∷
    "session already closed" ∷
    "all rows in use" ∷
    "stale: no row, ID at or below the highest" ∷
    "breaks rule" ∷
    "not a ledger" ∷
    "start refused" ∷
    "arrival counted" ∷
    "outside the range" ∷
    "no row has this alias" ∷
    "row still pending" ∷ []

-- another number has none
unfoldable pub meaning_of : ℕ → List ℕ
meaning_of number = letters (get_or meanings number "")
