-- `is_sound` meets its contract. Assumes nothing.
use mathlib.Core.Path.{sym, ◌∙◌}
use Rattle.message_writer.proofs.Sounding.{unsound, by-numbers}
use Rattle.message_writer.proofs.sound.is_sound.Goals as goal

pub returns-then-is_allowed : goal.returns-then-is_allowed
returns-then-is_allowed c =
    by-numbers _ _ (sym c.if-is_allowed.true ∙ c.is_allowed.ensures) c.fields.ensures c.are_small.ensures

pub returns-else-is_allowed : goal.returns-else-is_allowed
returns-else-is_allowed c = c.if-is_allowed.false ∙ unsound _ (sym c.if-is_allowed.false ∙ c.is_allowed.ensures)
