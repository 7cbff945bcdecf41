-- The fields of a message, and those of a header.
use Rattle.std.specs.Prelude.{ℕ, List, [], ◌∷◌, ◌++◌, map}
use Rattle.field.specs.declared.Piece.{Piece}
use Rattle.field.specs.declared.Piece.TheVariants.{Number, Byte, Bytes}
use Rattle.layout.specs.Typed.{Typed}
use Rattle.measure.specs.declared.Fields.{Fields}
use Rattle.measure.specs.declared.Middle.{Middle}
use Rattle.measure.specs.declared.Middle.TheVariants.{Nothing, Byte as OneByte, Bytes as SomeBytes, Both}

-- ---- the fields of a message

-- how many fields a message has at most
abbrev pub most_pieces : ℕ
most_pieces = 10

-- A MESSAGE'S FIELDS, behind the number of its type
abbrev pub placed : Typed → Fields
placed t = record { pieces = t.pieces; number = t.type }

-- and back: those that are used
abbrev pub fields_of : Fields → List Piece
fields_of f = f.pieces

-- ---- the fields of a header: numbers, what stands between them, and numbers

abbrev pub middle_pieces : Middle → List Piece
middle_pieces Nothing = []
middle_pieces (OneByte b) = Byte b ∷ []
middle_pieces (SomeBytes p) = Bytes p ∷ []
middle_pieces (Both b p) = Byte b ∷ Bytes p ∷ []

unfoldable pub headed : List ℕ → Middle → List ℕ → List Piece
headed front middle back = map Number front ++ (middle_pieces middle ++ map Number back)
