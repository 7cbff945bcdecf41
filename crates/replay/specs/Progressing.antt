-- A trace is taken field by field by a ledger.
use Rattle.std.specs.Prelude.{ℕ, ◌-◌, Bool, true, false, List, [], Option, Some, None, length, ◌==◌}
use Rattle.common.specs.Choice.{guard, pick}
use Rattle.ledger.specs.Ledgers.{most_rows, empty_ledger}
use Rattle.ledger.specs.Answers.{Verdict, Came, no_rule, told_answer}
use Rattle.ledger.specs.Steps.{start_of, take_of, malformed_of, arrival_of}
use Rattle.ledger.specs.Runs.{arrivals_in, after_arrivals}
use Rattle.ledger.specs.declared.Answer.{Answer}
use Rattle.ledger.specs.declared.Ledger.{Ledger}
use Rattle.ledger.specs.declared.Part.TheVariants.{Subscriber}
use Rattle.trace.specs.Fields.{field_size}
unfoldable pub use Rattle.trace.specs.Fields.{offset_of}
use Rattle.trace.specs.Feeding.{Held, feed}
use Rattle.replay.specs.Events.{event_in}
use Rattle.replay.specs.declared.Event.{Event}
use Rattle.replay.specs.declared.Event.TheVariants.{Start, Control, Malformed, Arrived, Fault}
use Rattle.replay.specs.declared.Stage.{Stage}
use Rattle.replay.specs.declared.Stage.TheVariants.{Empty, Running, Faulty}
use Rattle.replay.specs.declared.Progress.{Progress}
use Rattle.replay.specs.declared.Heard.{Heard}
use Rattle.replay.specs.declared.Stepped.{Stepped}
use Rattle.replay.specs.declared.Fed.{Fed}

-- ---- one event

abbrev pub is_start : Event → Bool
is_start (Start part maximum) = true
is_start (Control m) = false
is_start (Malformed number) = false
is_start (Arrived a) = false
is_start Fault = false

-- "Tag 1, first and once": a start is due where nothing came before, and nowhere else; what isn't due is a fault
abbrev pub due_of : Stage → Event → Event
due_of Empty event = guard (is_start event) Fault event
due_of Running event = pick (is_start event) Fault event
due_of (Faulty at) event = Fault

-- the first fault decides, "N being the offset of that field's tag"
abbrev pub first_fault : Stage → ℕ → Stage
first_fault Empty offset = Faulty offset
first_fault Running offset = Faulty offset
first_fault (Faulty at) offset = Faulty at

-- what is said to an event, and the ledger and the stage after it
pub record Hearing : Type 0 where
  pub says : Verdict
  pub ledger : Ledger
  pub stage : Stage

abbrev pub goes_on : Came → Hearing
goes_on came = record { says = came.says; ledger = came.next; stage = Running }

-- "`moqreport` ... has 64 rows"; nothing is said to a fault
abbrev pub heard_of : Progress → Event → Hearing
heard_of p (Start part maximum) = goes_on (start_of part most_rows maximum)
heard_of p (Control m) = goes_on (take_of p.ledger m)
heard_of p (Malformed number) = goes_on (malformed_of p.ledger)
heard_of p (Arrived a) = goes_on (arrival_of p.ledger a)
heard_of p Fault = record { says = no_rule 0; ledger = p.ledger; stage = first_fault p.stage p.offset }

pub record Stepping : Type 0 where
  pub event : Event
  pub says : Verdict
  pub next : Progress

unfoldable pub step_of : Progress → Event → ℕ → Stepping
step_of p event size =
    let due = due_of p.stage event in
    let heard = heard_of p due in
    record {
      event = due;
      says = heard.says;
      next = record { ledger = heard.ledger; stage = heard.stage; offset = offset_of p.offset size };
    }

-- ---- a trace

-- before its first byte
abbrev pub begun : Progress
begun = record { ledger = empty_ledger Subscriber most_rows 0; stage = Empty; offset = 0 }

-- one field: what it comes to,
abbrev pub stepped_by : Progress → List ℕ → Stepping
stepped_by p field = step_of p (event_in field) (field_size field)

-- and how far the trace is then
unfoldable pub step : Progress → List ℕ → Progress
step p field = (stepped_by p field).next

abbrev pub holding : Progress → List ℕ → Held Progress
holding p rest = record { so_far = p; rest = rest }

-- bytes that begin with a field
unfoldable pub fed : Progress → List ℕ → Held Progress
fed p s = feed step (holding p []) s

-- "an empty input" is a fault at 0; another is one where a field was
abbrev pub on_fault : {A : Type 0} → Stage → (ℕ → A) → A → A
on_fault Empty fault rest = fault 0
on_fault Running fault rest = rest
on_fault (Faulty at) fault rest = fault at

-- its end: a field that is cut is a fault too
abbrev pub end_stage : Stage → ℕ → ℕ → Stage
end_stage stage offset left = on_fault stage Faulty (guard (left == 0) (Faulty offset) Running)

unfoldable pub finish_of : Progress → ℕ → Progress
finish_of p left = record { ledger = p.ledger; stage = end_stage p.stage p.offset left; offset = p.offset }

-- THE REPLAY of a whole trace
unfoldable pub replay_of : List ℕ → Progress
replay_of s = let h = fed begun s in finish_of h.so_far (length h.rest)

-- ---- what the functions answer

-- document 01's number and rule of what is said; 0 and 0 where nothing is
abbrev pub verdict_of : Option Answer → Verdict
verdict_of (Some answer) = told_answer answer
verdict_of None = no_rule 0

abbrev pub told_heard : Heard → Hearing
told_heard h = record { says = verdict_of h.said; ledger = h.ledger; stage = h.stage }

abbrev pub told_step : Stepped → Stepping
told_step s = record { event = s.event; says = verdict_of s.said; next = s.progress }

-- the progress after the whole fields, and how many bytes those took
unfoldable pub fed_of : Progress → List ℕ → Fed
fed_of p s = let h = fed p s in record { progress = h.so_far; used = length s - length h.rest }

-- arrivals that are taken together, whose fields have that many bytes
unfoldable pub arrived_all : Progress → List ℕ → ℕ → Progress
arrived_all p run size =
    record { ledger = after_arrivals p.ledger (arrivals_in run); stage = p.stage; offset = offset_of p.offset size }
