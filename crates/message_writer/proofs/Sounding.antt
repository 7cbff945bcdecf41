-- A message whose values and numbers are looked at. Assumes nothing.
use mathlib.Core.Path.{◌≡◌}
use mathlib.Core.Bool.{Bool, true, false}
use Rattle.measure.specs.Small.{small_all}
use Rattle.measure.specs.Fields.{placed, fields_of}
use Rattle.measure.specs.declared.Fields.{Fields}
use Rattle.measure.proofs.Placed.{fields-placed}
use Rattle.message.specs.Types.{typed_of}
use Rattle.message_writer.specs.Writing.{allowed_of}
use Rattle.message_writer.specs.Sound.{sound_of}
use Rattle.message.specs.declared.Message.{Message}

module _ (m : Message) where
  -- a value is forbidden,
  pub unsound : false ≡ allowed_of m → false ≡ sound_of m
  unfolding sound_of
  unsound judged = rw (← judged)

  -- or none is, and its numbers tell
  pub by-numbers : (f : Fields) {b : Bool} → true ≡ allowed_of m → f ≡ placed (typed_of m) → b ≡ small_all (fields_of f) → b ≡ sound_of m
  unfolding sound_of
  by-numbers f judged e small = rw (← judged, ← fields-placed (typed_of m), ← e) small
