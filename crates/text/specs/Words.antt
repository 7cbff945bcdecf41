-- The words of the programs.
use Rattle.std.specs.Prelude.{ℕ, List}
use Rattle.types.specs.Letters.{letters}
use Rattle.text.specs.declared.Word.{Word}
use Rattle.text.specs.declared.Word.TheVariants.{Open, Closed, Columns, Pending, Active, Nothing, TraceFaultAt, Start, Malformed, Arrival}

unfoldable pub word_of : Word → List ℕ
word_of Open = letters "open"
word_of Closed = letters "closed"
word_of Columns = letters "ID ALIAS STATE GROUP OBJECT COUNT"
word_of Pending = letters "pending"
word_of Active = letters "active"
word_of Nothing = letters "-"
word_of TraceFaultAt = letters "trace fault at"
word_of Start = letters "start"
word_of Malformed = letters "malformed"
word_of Arrival = letters "arrival"
