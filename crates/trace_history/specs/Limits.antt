-- A TRACE UNDER A LIMIT OF THE BODY, whichever it is: what its fields are, its report, its answers. With the limit that
-- there is these are the report and the answers that are printed (proofs/Theorems.antt: `report-now`, `answers-now`).
use Rattle.std.specs.Prelude.{ℕ, ◌≡◌, Bool, false, List, [], ◌∷◌, ◌++◌, length, eqb}
use Rattle.common.specs.Choice.{pick, both}
use Rattle.common.specs.Lists.{Each}
use Rattle.integer.specs.Integer.{bytes_of}
use Rattle.message.specs.Limits.{length_over}
use Rattle.message.proofs.OneReading.{reading_up_to}
use Rattle.trace.specs.Fields.{number_of_tag, value_of, field_size}
use Rattle.trace.specs.Feeding.{feed}
use Rattle.replay.specs.Events.{reading_by, event_in}
use Rattle.replay.specs.Progressing.{step_of, begun, holding, finish_of}
use Rattle.replay.specs.declared.Event.{Event as FieldEvent}
use Rattle.replay.specs.declared.Progress.{Progress}
use Rattle.report.specs.Report.{text_of}
use Rattle.answers.specs.Answers.{SoFar, with_text, last_text}
use Rattle.trace_history.specs.Histories.{trace_fields, tell_by}

-- the limit before it was raised
abbrev pub former_body : ℕ
former_body = 16_383

-- ---- a field

-- with tag 2 it is a control message, by the one reading that tells what is read under the limit (`reading-is`,
-- message/proofs/OneReading.antt); any other field is what it is
unfoldable pub event_up_to : ℕ → List ℕ → FieldEvent
event_up_to limit field =
    let value = value_of field in
    pick (eqb (number_of_tag field) 2) (reading_by value (reading_up_to limit value)) (event_in field)

-- ---- the trace

-- its report
unfoldable pub step_up_to : ℕ → Progress → List ℕ → Progress
step_up_to limit p field = (step_of p (event_up_to limit field) (field_size field)).next

unfoldable pub report_up_to : ℕ → List ℕ → List ℕ
report_up_to limit s =
    let h = feed (step_up_to limit) (holding begun []) s in
    text_of (finish_of h.so_far (length h.rest))

-- and its answers
unfoldable pub add_line_up_to : ℕ → SoFar → List ℕ → SoFar
add_line_up_to limit t field = tell_by t (event_up_to limit field) (field_size field)

unfoldable pub answers_up_to : ℕ → List ℕ → List ℕ
answers_up_to limit s = last_text (feed (add_line_up_to limit) (record { so_far = with_text begun []; rest = [] }) s)

-- ---- a Length over the limit

-- a field with tag 2 whose Length is over the limit
unfoldable pub field_over : ℕ → List ℕ → Bool
field_over limit field = both (eqb (number_of_tag field) 2) (length_over limit (value_of field))

-- "Traces that read no Length over" a limit
abbrev pub NoneOver : ℕ → List ℕ → Type 0
NoneOver limit s = Each (λ (field : List ℕ). field_over limit field ≡ false) (trace_fields s)

-- ---- a message as a field

-- its tag, its length in two bytes, and the message
abbrev pub field_of_message : List ℕ → List ℕ
field_of_message message = 2 ∷ (bytes_of 2 (length message) ++ message)
