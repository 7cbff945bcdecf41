-- A message that was read, as a field of a trace: the two bytes of a field's length hold its length. Assumes nothing.
use Prim.Native.Nat.{ℕ, ◌+◌, ◌*◌, ◌/◌, ◌%◌, ◌≤◌}
use mathlib.Core.Path.{◌≡◌, refl, sym}
use mathlib.Core.List.{List}
use native.Mathlib.Omega.{arith}
use lib.ListN.{length, take, drop, take-append-drop}
use lib.Seq.{length-take-le}
use Rattle.common.specs.Answer.{whole as answered}
use Rattle.integer.specs.Bytes.{bytes_of}
use Rattle.message.specs.Types.{typed_of}
use Rattle.message.specs.Reading.{longest_message, read_of}
use Rattle.message.specs.declared.Message.{Message}
use Rattle.message_writer.proofs.Theorems.{whole_before, at_most, used-there}
use Rattle.trace.specs.Fields.{number_of_tag, value_of, field_size}
use Rattle.replay.specs.Events.{event_of, event_in}
use Rattle.replay.specs.declared.Event.TheVariants.{Control}
use Rattle.replay.proofs.Meaning.{control-filled}
use Rattle.trace_history.specs.Limits.{field_of_message}

-- two bytes hold every number up to the length of the longest message
two_bytes : (n : ℕ) → n ≤ longest_message → n / 256 % 256 * 256 + n % 256 ≡ n
two_bytes n h = omega arith

-- so the field has the size that its head says,
size_is : (message : List ℕ) → length message ≤ longest_message → field_size (field_of_message message) ≡ length (field_of_message message)
unfolding field_size bytes_of
size_is message h = rw (two_bytes (length message) h) (omega arith)

-- and its value is the message
value-is : (message : List ℕ) → value_of (field_of_message message) ≡ message
unfolding value_of bytes_of
value-is message = refl

-- one that fills its bytes is taken
event-is : (message : List ℕ) (m : Message) → read_of message ≡ answered (typed_of m) (length message) → event_in (field_of_message message) ≡ Control m
unfolding event_of number_of_tag
event-is message m h = rw (value-is message) (sym (control-filled message m (sym h) refl))

module _ (s : List ℕ) (m : Message) {used : ℕ} (read : read_of s ≡ answered (typed_of m) used) where
  there : length (take used s) ≡ used
  there = length-take-le used s (used-there s read).1

  pub message-size : field_size (field_of_message (take used s)) ≡ length (field_of_message (take used s))
  message-size = size_is (take used s) (rw there (at_most s read))

  pub message-event : event_in (field_of_message (take used s)) ≡ Control m
  message-event =
      event-is (take used s) m
      (rw there (whole_before (take used s) (drop used s) (rw take-append-drop read) (omega (arith, there))))
