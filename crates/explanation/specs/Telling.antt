-- WHICH LINE COMES NEXT: that of a field, those of its parts, and what stands below them.
use Rattle.std.specs.Prelude.{◌≡◌, ℕ, Bool, true, false, List, [], ◌++◌, length, drop, ◌==◌, slice_index_or}
use Rattle.common.specs.Choice.{pick}
use Rattle.parts.specs.Cursors.{begin_of}
use Rattle.parts.specs.Telling.{next_of}
use Rattle.parts.specs.declared.Subject.TheVariants.{Message}
use Rattle.parts.specs.declared.Cursor.{Cursor}
use Rattle.parts.specs.declared.Step.{Step}
use Rattle.parts.specs.declared.Step.TheVariants.{Part as APart, Refused as IsRefused, Faulty, Whole}
use Rattle.trace.specs.Fields.{offset_of}
use Rattle.columns.specs.Pouring.{filling, pour}
use Rattle.explanation_lines.specs.Lines.{field_line, value_lines, step_lines, answer_line, fault_line}
use Rattle.explanation_lines.specs.declared.Word.{Word}
use Rattle.explanation_lines.specs.declared.Word.TheVariants.{NoTag as SaysNoTag, NotFirst as SaysNotFirst, SecondStart as SaysSecondStart, NoStart as SaysNoStart, NoMessage as SaysNoMessage, NoArrival as SaysNoArrival}
use Rattle.explanation.specs.declared.Reason.{Reason}
use Rattle.explanation.specs.declared.Reason.TheVariants.{NoTag, NotFirst, SecondStart, NoStart, NoMessage, NoArrival}
use Rattle.explanation.specs.declared.Ending.{Ending}
use Rattle.explanation.specs.declared.Ending.TheVariants.{Answered, Fault, Read}
use Rattle.explanation.specs.declared.Due.{Due}
use Rattle.explanation.specs.declared.Due.TheVariants.{Field as AField, Part as PartDue, Ending as TheEnding, Nothing}
use Rattle.explanation.specs.declared.Explaining.{Explaining}
use Rattle.explanation.specs.declared.NextLines.{NextLines}

-- how many bytes a call puts at most: the code's LONGEST_LINES
abbrev pub longest_lines : ℕ
longest_lines = 2_048

-- what is put, and what is then left
pub record Telling : Type 0 where
  pub text : List ℕ
  pub next : Explaining

abbrev pub telling : List ℕ → Explaining → Telling
telling text next = record { text = text; next = next }

-- the same, with another line due
abbrev pub duly : Explaining → Due → Explaining
duly e due = record { due = due; cursor = e.cursor; ending = e.ending; offset = e.offset; start = e.start }

-- and with another part next
abbrev pub on_to : Explaining → Cursor → Explaining
on_to e c = record { due = e.due; cursor = c; ending = e.ending; offset = e.offset; start = e.start }

-- ---- a field

-- the value of a message is shown part by part
unfoldable pub due_after : ℕ → Due
due_after tag = pick (tag == 2) PartDue (TheEnding 0)

unfoldable pub field_told : List ℕ → Explaining → Telling
field_told field e =
    let tag = slice_index_or field 0 0 in
    let value = drop e.start field in
    telling (field_line e.offset field ++ value_lines tag (offset_of e.offset e.start) value)
    (duly e (due_after tag))

-- ---- a part

-- nothing is shown after a refused part
abbrev pub after_step : Step → Cursor → Explaining → Explaining
after_step (APart p) c e = on_to e c
after_step (IsRefused number) c e = duly e (TheEnding number)
after_step (Faulty p number) c e = duly e (TheEnding number)
after_step (Whole used) c e = duly e (TheEnding 0)

unfoldable pub part_told : List ℕ → Explaining → Telling
part_told field e =
    let value = drop e.start field in
    let told = next_of value e.cursor in
    telling (step_lines told.step (offset_of e.offset e.start) value) (after_step told.step told.cursor e)

-- ---- what stands below

abbrev pub reason_word : Reason → Word
reason_word NoTag = SaysNoTag
reason_word NotFirst = SaysNotFirst
reason_word SecondStart = SaysSecondStart
reason_word NoStart = SaysNoStart
reason_word NoMessage = SaysNoMessage
reason_word NoArrival = SaysNoArrival

abbrev pub ending_line : Ending → ℕ → List ℕ
ending_line (Answered number rule) read = answer_line number rule
ending_line (Fault reason) read = fault_line (reason_word reason)
ending_line Read read = answer_line read 0

-- ---- the next lines

abbrev pub told_by : Due → List ℕ → Explaining → Telling
told_by AField field e = field_told field e
told_by PartDue field e = part_told field e
told_by (TheEnding read) field e = telling (ending_line e.ending read) (duly e Nothing)
told_by Nothing field e = telling [] e

-- whether nothing is left to be told
abbrev pub is_nothing : Due → Bool
is_nothing AField = false
is_nothing PartDue = false
is_nothing (TheEnding read) = false
is_nothing Nothing = true

unfoldable pub next_told : List ℕ → Explaining → Telling
next_told field e = told_by e.due field e

-- what a call does: it puts the text, and hands back what is left
pub record Tells (t : Telling) (before : List ℕ) (at : ℕ) (r : NextLines) (after : List ℕ) : Type 0 where
  pub puts : filling after r.at ≡ pour (filling before at) t.text
  pub leaves : r.next ≡ t.next

-- ---- where an explanation begins

-- of a field of a trace, whose value stands behind its tag and its length
unfoldable pub field_begun : List ℕ → ℕ → Ending → Explaining
field_begun field offset ending =
    record {
      due = AField;
      cursor = begin_of Message (length (drop 3 field));
      ending = ending;
      offset = offset;
      start = 3;
    }

-- of a message in a control stream
unfoldable pub message_begun : List ℕ → ℕ → Explaining
message_begun s offset =
    record { due = PartDue; cursor = begin_of Message (length s); ending = Read; offset = offset; start = 0 }
