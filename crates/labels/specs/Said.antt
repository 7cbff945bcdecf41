-- How the words that the code has say those of a field, and of a label.
use Rattle.std.specs.Prelude.{ℕ, List, ◌++◌}
use Rattle.types.specs.Letters.{letters}
use Rattle.parts.specs.declared.What.{What}
use Rattle.parts.specs.declared.What.TheVariants.{Number, Byte, Length, Content, Count, EntryNumber, EntryLength, EntryContent, Left}
use Rattle.layout.specs.declared.FieldName.{FieldName}
use Rattle.labels.specs.Labels.{Called, called}
use Rattle.labels.specs.declared.naming.Words.{Words}
use Rattle.labels.specs.declared.naming.Label.{Label}

-- the name of a field
unfoldable pub name_in_bytes : FieldName → List ℕ
name_in_bytes field = letters (called field).name

-- the words for a field, in their bytes
pub record InBytes : Type 0 where
  pub name : List ℕ
  pub entry : List ℕ
  pub length : List ℕ
  pub number : List ℕ
  pub value : List ℕ

abbrev pub words_of : Called → InBytes
words_of c =
    record { name = letters c.name; entry = letters c.entry; length = letters c.length; number = letters c.number; value = letters c.value }

-- as the code has them
abbrev pub said : Words → InBytes
said c =
    record { name = c.name.now; entry = c.entry.now; length = c.length.now; number = c.number.now; value = c.value.now }

-- a label of these words,
abbrev pub label_words : InBytes → What → List ℕ
label_words w Number = w.name
label_words w Byte = w.name
label_words w Length = w.name ++ w.length
label_words w Content = w.name
label_words w Count = letters "Number of " ++ w.entry ++ letters "s"
label_words w EntryNumber = w.entry ++ w.number
label_words w EntryLength = w.entry ++ letters " Length"
label_words w EntryContent = w.entry ++ w.value
label_words w Left = letters "left over"

-- and as the code has it
abbrev pub label_said : Label → List ℕ
label_said l = l.before.now ++ l.name.now ++ l.behind.now
