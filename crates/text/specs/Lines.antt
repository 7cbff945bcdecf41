-- A line is its items, with a space between two and a newline at the end.
use Rattle.std.specs.Prelude.{ℕ, ◌+◌, ◌*◌, Bool, true, false, List, [], ◌∷◌, ◌++◌, Option, Some, None, length, leb}
use Rattle.common.specs.Choice.{guard, pick}
use Rattle.common.specs.Answer.{unwritten, Answer, refused, Nothing, wrote, Written}
use Rattle.common.specs.Buffer.{over}
use Rattle.types.specs.Letters.{letters}
use Rattle.types.specs.Table.{name_of}
use Rattle.text.specs.Decimals.{decimal_of}
use Rattle.text.specs.Words.{word_of}
use Rattle.text.specs.declared.Item.{Item}
use Rattle.text.specs.declared.Item.TheVariants.{Number, Word, Rule, Name}
use Rattle.text.specs.declared.Word.TheVariants.{TraceFaultAt}

-- the bytes of an item
unfoldable pub item_of : Item → List ℕ
item_of (Number n) = decimal_of n
item_of (Word word) = word_of word
item_of (Rule n) = letters "R" ++ decimal_of n
item_of (Name type) = name_of type

-- and what stands after it: a newline after the last of a line, a space after any other
unfoldable pub ended_of : Item → Bool → List ℕ
ended_of item last = item_of item ++ pick last 10 32 ∷ []

unfoldable pub is_none : List Item → Bool
is_none [] = true
is_none (item ∷ rest) = false

-- A LINE: each of its items so
unfoldable pub line_of : List Item → List ℕ
line_of [] = []
line_of (item ∷ rest) = ended_of item (is_none rest) ++ line_of rest

-- how many items a line has at most; how long an item is at most, as the columns are; and so how long a line is, with a
-- byte after each item
abbrev pub most_items : ℕ
most_items = 6

abbrev pub longest_item : ℕ
longest_item = 33

abbrev pub longest_line : ℕ
longest_line = most_items * (longest_item + 1)

-- where a trace is at fault: "prints only `trace fault at N`"
abbrev pub fault_line : ℕ → List Item
fault_line at = Word TraceFaultAt ∷ Number at ∷ []

-- ---- a text in a buffer

-- text put into a buffer: 7 where it is too short
unfoldable pub put_text : List ℕ → List ℕ → Written
put_text text before =
    guard (leb (length text) (length before)) (unwritten 7 before)
    (record { says = wrote (length text); holds = over text before })

-- 01's number and values of what is answered
abbrev pub told_putting : Option ℕ → Answer Nothing
told_putting (Some used) = wrote used
told_putting None = refused 7
