-- Fields whose numbers are all integers: none is above the greatest. How many entries a list has, and how many bytes a
-- part has, are numbers of a message too; where they stand in the bytes is none.
use Rattle.std.specs.Prelude.{Bool, true, List, [], ◌∷◌, leb}
use Rattle.common.specs.Choice.{both}
use Rattle.integer.specs.Integer.{greatest}
use Rattle.field.specs.Entries.{size}
use Rattle.field.specs.declared.Span.{Span}
use Rattle.field.specs.declared.Entries.{Entries}
use Rattle.field.specs.declared.Piece.{Piece}
use Rattle.field.specs.declared.Piece.TheVariants.{Number, Byte, Bytes, List as Listing, Track as Tracked}

abbrev pub small_span : Span → Bool
small_span p = leb (size p) greatest

abbrev pub small_list : Entries → Bool
small_list l = leb l.count greatest

unfoldable pub small_piece : Piece → Bool
small_piece (Number n) = leb n greatest
small_piece (Byte b) = true
small_piece (Bytes p) = small_span p
small_piece (Listing kind l) = small_list l
small_piece (Tracked t) = both (small_list t.namespace) (small_span t.name)

unfoldable pub small_all : List Piece → Bool
small_all [] = true
small_all (p ∷ ps) = both (small_piece p) (small_all ps)
