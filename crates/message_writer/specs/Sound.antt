-- "A ledger call answers 5 for a value forbidden above or a number over the greatest integer."
use Rattle.std.specs.Prelude.{Bool}
use Rattle.common.specs.Choice.{both}
use Rattle.measure.specs.Small.{small_all}
use Rattle.message.specs.Types.{typed_of}
use Rattle.message_writer.specs.Writing.{allowed_of}
use Rattle.message.specs.declared.Message.{Message}

unfoldable pub sound_of : Message → Bool
sound_of m = both (allowed_of m) (small_all (typed_of m).pieces)
