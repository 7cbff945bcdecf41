-- A ledger stays one, field by field. Assumes nothing.
use Rattle.std.proofs.Common.{◌≡◌, ℕ, true, eqb, leb, List, length, get_or, refl, le-leb}
use Rattle.std.specs.Prelude.{Ok, Err}
use Rattle.common.specs.Answer.{number}
use Rattle.common.proofs.Cases.{pick-by}
use Rattle.integer.specs.Integer.{greatest}
use Rattle.field.specs.Outcome.{Outcome, whole, no, on_found}
use Rattle.field.specs.Entries.{number_at}
use Rattle.field.specs.Fields.{place_at}
use Rattle.field.specs.declared.Place.{Place}
use Rattle.field.proofs.Found.{number-at}
use Rattle.message.specs.Reading.{Reading, told}
use Rattle.message.proofs.OneReading.{reading_of}
use Rattle.row.specs.Places.{small}
use Rattle.ledger.specs.Ledgers.{most_rows, is_ledger}
use Rattle.ledger.specs.Steps.{start_of}
use Rattle.ledger.specs.declared.Part.{Part}
use Rattle.ledger.specs.declared.Part.TheVariants.{Subscriber}
use Rattle.ledger.proofs.Keeps.{keeps-take, keeps-malformed, keeps-arrival, starts}
use Rattle.trace.specs.Fields.{number_of_tag, value_of}
use Rattle.replay.specs.Events.{filling, part_by, started_by, reading_by, control_by, arrived_by, event_of}
use Rattle.replay.specs.Progressing.{is_start, due_of, heard_of, step_of, step, begun}
use Rattle.replay.specs.declared.Event.{Event}
use Rattle.replay.specs.declared.Event.TheVariants.{Start, Control, Malformed, Arrived, Fault}
use Rattle.replay.specs.declared.Stage.{Stage}
use Rattle.replay.specs.declared.Stage.TheVariants.{Empty, Running, Faulty}
use Rattle.replay.specs.declared.Progress.{Progress}

-- ---- a start's maximum is an integer that was read

abbrev pub Startable : Event → Type 0
Startable (Start part maximum) = small maximum ≡ true
Startable (Control m) = Unit {0}
Startable (Malformed number) = Unit {0}
Startable (Arrived a) = Unit {0}
Startable Fault = Unit {0}

started-fits : (value : List ℕ) → Startable (started_by value)
unfolding started_by small
started-fits value = go (number_at value 1) refl
  where
    go : (o : Outcome ℕ) → number_at value 1 ≡ o → Startable (on_found o Fault (λ maximum end. filling value end (part_by (get_or value 0 0) maximum)))
    go (no fault) e = tt
    go (whole n end) e =
        let fits = le-leb n greatest (number-at value 1 e).small in
        pick-by Startable (eqb end (length value))
        (λ _. pick-by Startable (eqb (get_or value 0 0) 0) (λ _. fits) (λ _. pick-by Startable (eqb (get_or value 0 0) 1) (λ _. fits) (λ _. tt)))
        (λ _. tt)

reading-fits : (value : List ℕ) (r : Reading) → Startable (reading_by value r)
reading-fits value (Ok (m, used)) = pick-by Startable (eqb used (length value)) (λ _. tt) (λ _. tt)
reading-fits value (Err refusal) = pick-by Startable (leb 2 (number (told (Err refusal)))) (λ _. tt) (λ _. tt)

control-fits : (value : List ℕ) → Startable (control_by value)
unfolding control_by
control-fits value = reading-fits value (reading_of value)

arrived-fits : (value : List ℕ) → Startable (arrived_by value)
unfolding arrived_by
arrived-fits value = go (number_at value 0)
  where
    place : (alias : ℕ) (o : Outcome Place) → Startable (on_found o Fault (λ place end. filling value end (Arrived (record { alias = alias; place = place }))))
    place alias (no fault) = tt
    place alias (whole p end) = pick-by Startable (eqb end (length value)) (λ _. tt) (λ _. tt)

    go : (o : Outcome ℕ) → Startable (on_found o Fault (λ alias next. on_found (place_at value next) Fault (λ place end. filling value end (Arrived (record { alias = alias; place = place })))))
    go (no fault) = tt
    go (whole alias next) = place alias (place_at value next)

pub event-fits : (tag : ℕ) (value : List ℕ) → Startable (event_of tag value)
unfolding event_of
event-fits tag value =
    pick-by Startable (eqb tag 1) (λ _. started-fits value) (λ _.
    pick-by Startable (eqb tag 2) (λ _. control-fits value) (λ _.
    pick-by Startable (eqb tag 3) (λ _. arrived-fits value) (λ _. tt)))

-- ---- a step

due-fits : (stage : Stage) (e : Event) → Startable e → Startable (due_of stage e)
due-fits Empty e f = pick-by Startable (is_start e) (λ _. f) (λ _. tt)
due-fits Running e f = pick-by Startable (is_start e) (λ _. tt) (λ _. f)
due-fits (Faulty at) e f = tt

started-is : (part : Part) (maximum : ℕ) → small maximum ≡ true → is_ledger (start_of part most_rows maximum).next ≡ true
unfolding start_of
started-is part maximum h = starts part most_rows maximum (rw h)

heard-keeps : (p : Progress) (e : Event) → Startable e → is_ledger p.ledger ≡ true → is_ledger (heard_of p e).ledger ≡ true
heard-keeps p (Start part maximum) f w = started-is part maximum f
heard-keeps p (Control m) f w = keeps-take p.ledger w m
heard-keeps p (Malformed number) f w = keeps-malformed p.ledger w
heard-keeps p (Arrived a) f w = keeps-arrival p.ledger w a
heard-keeps p Fault f w = w

-- a field leaves a ledger
pub step_keeps : (p : Progress) (field : List ℕ) → is_ledger p.ledger ≡ true → is_ledger (step p field).ledger ≡ true
unfolding step step_of
step_keeps p field w =
    let event = event_of (number_of_tag field) (value_of field) in
    heard-keeps p (due_of p.stage event) (due-fits p.stage event (event-fits (number_of_tag field) (value_of field))) w

-- and there is one before the first
pub begun-is : is_ledger begun.ledger ≡ true
unfolding start_of small
begun-is = started-is Subscriber 0 refl
