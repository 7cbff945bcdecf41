-- A trace as a history: its fields, the ledger that the first of them starts, and what happens to that ledger then.
use Rattle.std.specs.Prelude.{ℕ, ◌≡◌}
use mathlib.Core.List.{List, [], ◌∷◌, ◌++◌, head_d, tail}
use Rattle.ledger.specs.Ledgers.{most_rows}
use Rattle.ledger.specs.Answers.{Verdict, no_rule}
use Rattle.ledger.specs.Steps.{start_of}
use Rattle.ledger.specs.declared.Ledger.{Ledger}
use Rattle.ledger.specs.declared.Part.{Part}
use Rattle.orders.specs.Events.{Event, message, malformed, arrival}
use Rattle.history.specs.Events.{Logged}
use Rattle.trace.specs.Fields.{field_size}
use Rattle.trace.specs.Feeding.{feed}
use Rattle.text.specs.Lines.{line_of}
use Rattle.replay.specs.Events.{event_in}
use Rattle.replay.specs.Progressing.{begun, heard_of, step_of, offset_of, replay_of}
use Rattle.replay.specs.declared.Event.{Event as FieldEvent}
use Rattle.replay.specs.declared.Event.TheVariants.{Start, Control, Malformed, Arrived, Fault}
use Rattle.replay.specs.declared.Stage.TheVariants.{Running}
use Rattle.answers.specs.Answers.{line_by, SoFar, with_text}

-- ---- the fields

-- a field more
abbrev pub gathered : List (List ℕ) → List ℕ → List (List ℕ)
gathered fields field = fields ++ (field ∷ [])

-- the fields of a trace, each all of its bytes
unfoldable pub trace_fields : List ℕ → List (List ℕ)
trace_fields s = (feed gathered (record { so_far = []; rest = [] }) s).so_far

-- its run ends without a fault
abbrev pub Faultless : List ℕ → Type 0
Faultless s = (replay_of s).stage ≡ Running

-- ---- the start, and what happens then

-- "Tag 1, first and once": the ledger after the first field
abbrev pub start_by : List (List ℕ) → Ledger
start_by [] = begun.ledger
start_by (field ∷ fields) = (heard_of begun (event_in field)).ledger

unfoldable pub start_in : List ℕ → Ledger
start_in s = start_by (trace_fields s)

-- it is one that was accepted: of the part and the maximum that the field has, and "64 rows"
pub record Started (l : Ledger) : Type 0 where
  pub part : Part
  pub maximum : ℕ
  pub accepted : (start_of part most_rows maximum).says ≡ no_rule 8
  pub ledger : l ≡ (start_of part most_rows maximum).next

-- what happens to it by a field
abbrev pub happens : FieldEvent → List Event
happens (Start part maximum) = []
happens (Control m) = message m ∷ []
happens (Malformed number) = malformed ∷ []
happens (Arrived a) = arrival a ∷ []
happens Fault = []

unfoldable pub happening_in : List (List ℕ) → List Event
happening_in [] = []
happening_in (field ∷ fields) = happens (event_in field) ++ happening_in fields

-- THE HISTORY of a trace
unfoldable pub history_of : List ℕ → List Event
history_of s = happening_in (trace_fields s)

-- ---- the lines of answers

-- what a field comes to, by what it is: a step, and its line
abbrev pub tell_by : SoFar → FieldEvent → ℕ → SoFar
tell_by t e size =
    let stepped = step_of t.progress e size in
    with_text stepped.next (t.text ++ line_of (line_by t.progress.offset stepped.event stepped.says))

-- what an event is answered
abbrev pub verdict_in : Logged → Verdict
verdict_in t = t.says

-- a line for each field, with the offset of its tag, and what it was answered
unfoldable pub lines_of : ℕ → List (List ℕ) → List Verdict → List ℕ
lines_of offset [] says = []
lines_of offset (field ∷ fields) says =
    line_of (line_by offset (event_in field) (head_d says (no_rule 0)))
    ++ lines_of (offset_of offset (field_size field)) fields (tail says)
