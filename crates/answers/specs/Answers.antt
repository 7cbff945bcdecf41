-- The answers of a trace: a line for each field as it goes, with the offset of its tag, what it is, and the answer.
use Rattle.std.specs.Prelude.{ℕ, ◌+◌, List, [], ◌∷◌, ◌++◌, Option, Some, None, length, drop, take, eqb}
use Rattle.common.specs.Choice.{pick}
use Rattle.message.specs.Types.{typed_of}
use Rattle.ledger.specs.Answers.{Verdict}
use Rattle.trace.specs.Fields.{field_size, is_whole}
use Rattle.trace.specs.Feeding.{Held, feed}
use Rattle.text.specs.Lines.{line_of, fault_line}
use Rattle.text.specs.declared.Item.{Item}
use Rattle.text.specs.declared.Item.TheVariants.{Number, Word, Rule, Name}
use Rattle.text.specs.declared.Word.TheVariants.{Start as AStart, Malformed as AMalformed, Arrival as AnArrival}
use Rattle.replay.specs.Progressing.{on_fault, stepped_by, begun, finish_of}
use Rattle.replay.specs.declared.Event.{Event}
use Rattle.replay.specs.declared.Event.TheVariants.{Start, Control, Malformed, Arrived, Fault}
use Rattle.replay.specs.declared.Stage.{Stage}
use Rattle.replay.specs.declared.Progress.{Progress}
use Rattle.answers.specs.declared.FieldLine.{FieldLine}

-- ---- a line

-- with a 13 stands its rule
abbrev pub answer_items : Verdict → List Item
answer_items said = Number said.number ∷ pick (eqb said.rule 0) [] (Rule said.rule ∷ [])

abbrev pub offset_line : ℕ → Item → Verdict → List Item
offset_line offset what said = Number offset ∷ what ∷ answer_items said

abbrev pub malformed_line : ℕ → ℕ → Verdict → List Item
malformed_line offset refusal said = Number offset ∷ Word AMalformed ∷ Number refusal ∷ answer_items said

-- a message has its name as 004 spells it; bytes that the reader refuses show `malformed`, the reader's number, then
-- the ledger's answer. A fault has no line here
abbrev pub line_by : ℕ → Event → Verdict → List Item
line_by offset (Start part maximum) said = offset_line offset (Word AStart) said
line_by offset (Control m) said = offset_line offset (Name (typed_of m).type) said
line_by offset (Malformed refusal) said = malformed_line offset refusal said
line_by offset (Arrived a) said = offset_line offset (Word AnArrival) said
line_by offset Fault said = []

-- ---- a field

unfoldable pub line_in : Progress → List ℕ → List Item
line_in p field = line_by p.offset (stepped_by p field).event (stepped_by p field).says

-- the progress, and the text so far
pub record SoFar : Type 0 where
  pub progress : Progress
  pub text : List ℕ

unfoldable pub add_line : SoFar → List ℕ → SoFar
add_line t field =
    record { progress = (stepped_by t.progress field).next; text = t.text ++ line_of (line_in t.progress field) }

-- ---- a trace

abbrev pub with_text : Progress → List ℕ → SoFar
with_text p text = record { progress = p; text = text }

-- at a fault the lines before it stand, then `trace fault at N`
abbrev pub fault_items : Stage → List Item
fault_items stage = on_fault stage fault_line []

unfoldable pub end_items : Progress → ℕ → List Item
end_items p left = fault_items (finish_of p left).stage

unfoldable pub last_text : Held SoFar → List ℕ
last_text h = h.so_far.text ++ line_of (end_items h.so_far.progress (length h.rest))

-- THE ANSWERS, from the whole trace to the whole output
unfoldable pub answers_of : List ℕ → List ℕ
answers_of s = last_text (feed add_line (record { so_far = with_text begun []; rest = [] }) s)

-- ---- what `tell` hands back

-- the field at an offset, where a whole one stands
unfoldable pub taken_at : Progress → List ℕ → ℕ → Option FieldLine
taken_at p s at =
    let field = take (field_size (drop at s)) (drop at s) in
    pick (is_whole (drop at s))
    (Some (record {
      line = line_in p field;
      progress = (stepped_by p field).next;
      used = at + field_size (drop at s);
    }))
    None
