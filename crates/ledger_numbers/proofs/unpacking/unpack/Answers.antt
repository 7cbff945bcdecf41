-- `unpack` meets its contract. Assumes nothing.
use mathlib.Core.Path.{sym, ◌∙◌}
use Rattle.ledger_numbers.proofs.Comparing.{unpack-few, unpack-same, unpack-other}
use Rattle.ledger_numbers.proofs.unpacking.unpack.Goals as goal

pub returns-then-numbers-lt-LEDGER_NUMBERS : goal.returns-then-numbers-lt-LEDGER_NUMBERS
returns-then-numbers-lt-LEDGER_NUMBERS c = c.none.ensures ∙ sym (unpack-few _ c.if-numbers-lt-LEDGER_NUMBERS.true)

pub returns-then-not-has_numbers : goal.returns-then-not-has_numbers
returns-then-not-has_numbers c =
    c.none-then-not-has_numbers.ensures ∙ sym (unpack-other _ c.ledger_in-l.ensures c.has_numbers.ensures c.if-not-has_numbers.true)

pub returns : goal.returns
returns c = unpack-same _ c.ledger_in-l.ensures c.has_numbers.ensures c.if-not-has_numbers.false
