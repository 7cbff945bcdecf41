-- The words that say why a trace is at fault.
use Rattle.std.specs.Prelude.{ℕ, List}
use Rattle.types.specs.Letters.{letters}
use Rattle.explanation_lines.specs.declared.Word.{Word}
use Rattle.explanation_lines.specs.declared.Word.TheVariants.{NoTag, NotFirst, SecondStart, NoStart, NoMessage, NoArrival, EndsInside, NoBytes}

unfoldable pub word_of : Word → List ℕ
word_of NoTag = letters "no tag of a trace"
word_of NotFirst = letters "the first field is no start"
word_of SecondStart = letters "a second start"
word_of NoStart = letters "not one part, 0 or 1, and one maximum"
word_of NoMessage = letters "not one whole message"
word_of NoArrival = letters "not one alias, group and object"
word_of EndsInside = letters "the trace ends inside this field"
word_of NoBytes = letters "no bytes"
