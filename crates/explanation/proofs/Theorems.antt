-- What holds of explanations: of a message in a control stream, and of a field of a trace. Each theorem with its
-- sentence, and nothing else. Assumes nothing.
use Rattle.std.proofs.Common.{◌≡◌, ℕ, ◌+◌, ◌^◌, ◌<◌, ◌≤◌, List, ◌++◌, length, get_or, take, drop}
use Rattle.common.specs.Answer.{number}
use Rattle.message.specs.Reading.{read_of}
use Rattle.trace.specs.Fields.{offset_of}
use Rattle.explained.specs.Explaining.{message_explained}
use Rattle.explanation_lines.specs.Lines.{field_line, answer_line, value_lines}
use Rattle.columns.specs.Pouring.{filling, pour}
use Rattle.explanation.specs.Telling.{longest_lines, ending_line, next_told, field_begun, message_begun}
use Rattle.explanation.specs.Printing.{Prints, PartLines}
use Rattle.explanation.specs.declared.Ending.{Ending}
use Rattle.explanation.specs.declared.Explaining.{Explaining}
use Rattle.explanation.proofs.PrintedParts as printed
use Rattle.explanation.proofs.ReadersAnswers as readers
use Rattle.explanation.proofs.LongestLines as longest

-- 1. AN EXPLANATION IS ONE TEXT: from there on, no two texts are told of a field, or of a message.
pub prints-once : {field : List ℕ} {e : Explaining} {a b : List ℕ} → Prints field e a → Prints field e b → a ≡ b
prints-once = printed.prints-once

-- 2. IT SHOWS THE PARTS, AND THE READER'S ANSWER. Of a message in a control stream the text is the lines of its parts,
-- which are those of its layout, and then the number that the reader answers;
pub message-shows : (s : List ℕ) (offset : ℕ) → offset < 2 ^ 64
    → (t : List ℕ) × (PartLines offset s (message_explained s) t)
    × (Prints s (message_begun s offset) (t ++ answer_line (number (read_of s)) 0))
message-shows = readers.message-shows

-- of a message in a field it is the line of the field, the lines of the message's parts, and what stands below them;
pub field_shows : (field : List ℕ) (offset : ℕ) (ending : Ending) → get_or field 0 0 ≡ 2
    → (t : List ℕ) × (PartLines (offset_of offset 3) (drop 3 field) (message_explained (drop 3 field)) t)
    × (Prints field (field_begun field offset ending)
    (field_line offset field ++ t ++ ending_line ending (number (read_of (drop 3 field)))))
field_shows = readers.field_shows

-- and of a field with another tag the line of the field, the lines of its value, and what stands below them.
pub value-shows : (field : List ℕ) (offset : ℕ) (ending : Ending) → (get_or field 0 0 ≡ 2 → ⊥)
    → Prints field (field_begun field offset ending)
    (field_line offset field ++ value_lines (get_or field 0 0) (offset_of offset 3) (drop 3 field)
    ++ ending_line ending 0)
value-shows = readers.value-shows

-- 3. EVERY EXPLANATION ENDS: of every message in a control stream,
pub message-ends : (s : List ℕ) (offset : ℕ) → (text : List ℕ) × Prints s (message_begun s offset) text
message-ends = readers.message-ends

-- and of every field, some text is told to the end.
pub field-ends : (field : List ℕ) (offset : ℕ) (ending : Ending)
    → (text : List ℕ) × Prints field (field_begun field offset ending) text
field-ends = readers.field-ends

-- 4. NOTHING IS LOST: where there is room for `longest_lines` bytes, the lines of a call are all put, and every other byte
-- stays.
pub all-put : (field : List ℕ) (e : Explaining) (holds : List ℕ) (at : ℕ) → at + longest_lines ≤ length holds
    → let text = (next_told field e).text in
    pour (filling holds at) text ≡ filling (take at holds ++ text ++ drop (at + length text) holds) (at + length text)
all-put = longest.all-put
