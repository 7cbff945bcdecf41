-- What happens to a ledger, and what it comes to.
use Rattle.std.specs.Prelude.{Bool, true}
use Rattle.field.specs.declared.Arrival.{Arrival}
use Rattle.message_writer.specs.Sound.{sound_of}
use Rattle.message.specs.declared.Message.{Message}
use Rattle.ledger.specs.Answers.{Came}
use Rattle.ledger.specs.Steps.{take_of, malformed_of, arrival_of, small_arrival}
use Rattle.ledger.specs.declared.Ledger.{Ledger}

-- an event: a control message, bytes that are none, or an arrival
pub data Event : Type 0 where
  message : Message → Event
  malformed : Event
  arrival : Arrival → Event

abbrev pub comes : Ledger → Event → Came
comes l (message m) = take_of l m
comes l malformed = malformed_of l
comes l (arrival a) = arrival_of l a

-- "A ledger call answers 5 for a value forbidden above or a number over the greatest integer."
abbrev pub is_sound : Event → Bool
is_sound (message m) = sound_of m
is_sound malformed = true
is_sound (arrival a) = small_arrival a
