-- What a field of a trace is: "Tag 1, first and once: part (one byte: 0 subscriber, 1 publisher), then the maximum.
-- Tag 2: one control message; answers 2 to 6 count as malformed, whichever end would send it. Tag 3: alias, group,
-- object as integers." "Any other shape ..., a message answering 1, or a whole message or an arrival that leaves bytes
-- of its field" is a fault.
use Rattle.std.specs.Prelude.{ℕ, List, Option, Some, None, length, ◌==◌, nat_le, slice_index}
use Rattle.common.specs.Choice.{guard, pick}
use Rattle.common.specs.Answer.{number}
use Rattle.field.specs.Entries.{number_at}
use Rattle.field.specs.Fields.{place_at}
use Rattle.field.specs.Outcome.{on_found}
use Rattle.field.specs.declared.Arrival.{Arrival}
use Rattle.message.specs.Reading.{Reading, told, on_whole}
use Rattle.message.proofs.OneReading.{reading_of}
use Rattle.ledger.specs.declared.Part.TheVariants.{Subscriber, Publisher}
use Rattle.trace.specs.Fields.{number_of_tag, value_of}
use Rattle.replay.specs.declared.Event.{Event}
use Rattle.replay.specs.declared.Event.TheVariants.{Start, Control, Malformed, Arrived, Fault}

-- what fills its field exactly
abbrev pub filling : List ℕ → ℕ → Event → Event
filling value end event = guard (end == length value) Fault event

-- tag 1
abbrev pub part_by : ℕ → ℕ → Event
part_by part maximum = pick (part == 0) (Start Subscriber maximum) (pick (part == 1) (Start Publisher maximum) Fault)

unfoldable pub started_by : List ℕ → Event
started_by value =
    on_found (number_at value 1) Fault (λ maximum end. filling value end (part_by (slice_index value 0) maximum))

-- tag 2: "answers 2 to 6 count as malformed"; "a message answering 1" is a fault
abbrev pub malformed_by : ℕ → Event
malformed_by answer = guard (nat_le 2 answer) Fault (Malformed answer)

abbrev pub reading_by : List ℕ → Reading → Event
reading_by value r = on_whole r (malformed_by (number (told r))) (λ m used. filling value used (Control m))

-- the one reading that `told r ≡ read_of value` names: there is one, and no other (message/proofs/OneReading.antt:
-- `reading-is`, `reading-only`)
unfoldable pub control_by : List ℕ → Event
control_by value = reading_by value (reading_of value)

-- tag 3
unfoldable pub arrived_by : List ℕ → Event
arrived_by value =
    on_found (number_at value 0) Fault (λ alias next.
    on_found (place_at value next) Fault (λ place end.
    filling value end (Arrived (record { alias = alias; place = place }))))

-- an arrival, or else a fault
abbrev pub as_event : Option Arrival → Event
as_event (Some a) = Arrived a
as_event None = Fault

unfoldable pub event_of : ℕ → List ℕ → Event
event_of tag value =
    pick (tag == 1) (started_by value) (pick (tag == 2) (control_by value) (pick (tag == 3) (arrived_by value) Fault))

-- and of all bytes of a field
abbrev pub event_in : List ℕ → Event
event_in field = event_of (number_of_tag field) (value_of field)
