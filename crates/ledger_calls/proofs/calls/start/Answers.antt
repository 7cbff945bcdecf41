-- `start` meets its contract. Assumes nothing.
use mathlib.Core.Path.{◌≡◌}
use native.Mathlib.Omega.{arith}
use Rattle.ledger_numbers.specs.Naming.{part_named}
use Rattle.ledger_calls.proofs.CallsAnswered.{part-first, part-second, started-other, started-else, started-short, started-whole}
use Rattle.ledger_calls.proofs.calls.start.Goals as goal
use Rattle.ledger_calls.proofs.calls.start.Goals.{Joined-part-eq0, then-part-eq0, else-part-eq0}

-- the part that its number names
which : (c : Joined-part-eq0) → c.if-part-eq0.own ≡ part_named c.args.part
which c = elim c.if-part-eq0.branch [
  | then-part-eq0 w ↦ part-first w.if-part-eq0.true w.own-is
  | else-part-eq0 w ↦ part-second _ w.if-part-eq0.false w.own-is
]

pub returns-then-said-ne8 : goal.returns-then-said-ne8
returns-then-said-ne8 c =
    started-else _ _ _ _ c.start-started.result (omega (arith, c.if-part-gt1.false)) (which (goal.at.returns-then-said-ne8 c).Joined-part-eq0) c.start-started.ensures c.number-said.ensures c.if-said-ne8.true

pub returns-then-numbers-lt-LEDGER_NUMBERS : goal.returns-then-numbers-lt-LEDGER_NUMBERS
returns-then-numbers-lt-LEDGER_NUMBERS c =
    started-short _ _ _ _ c.start-started.result (omega (arith, c.if-part-gt1.false)) (which (goal.at.returns-then-numbers-lt-LEDGER_NUMBERS c).Joined-part-eq0) c.start-started.ensures c.number-said.ensures c.if-said-ne8.false c.if-numbers-lt-LEDGER_NUMBERS.true

pub returns : goal.returns
returns c =
    started-whole _ _ _ _ c.start-started.result (omega (arith, c.if-part-gt1.false)) (which (goal.at.returns c).Joined-part-eq0) c.start-started.ensures c.number-said.ensures c.if-said-ne8.false c.if-numbers-lt-LEDGER_NUMBERS.false c.keep.ensures

pub returns-then-part-gt1 : goal.returns-then-part-gt1
returns-then-part-gt1 c = started-other _ _ _ _ c.if-part-gt1.true
