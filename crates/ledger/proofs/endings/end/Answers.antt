-- `end` meets its contract. Assumes nothing.
use native.Mathlib.Omega.{arith}
use Rattle.ledger.specs.Steps.{id_of}
use Rattle.ledger.proofs.Facts.{ledger-used}
use Rattle.ledger.proofs.Finds.{found-used}
use Rattle.ledger.proofs.CodePaths.{nowhere, end-freed, end_refused}
use Rattle.ledger.proofs.endings.end.Goals as goal

pub find_id-requires : goal.find_id-requires
find_id-requires c = ledger-used _ c.requires

pub returns-in_default : goal.returns-in_default
returns-in_default c = nowhere _ c.requires _ _ _ c.find_id.ensures c.in_default.is c.no_row.ensures

pub offset_bounds-l-i : goal.offset_bounds-l-i
offset_bounds-l-i c = omega (arith, ledger-used _ c.requires, found-used id_of _ _ c.find_id.ensures c.in-Some.is)

pub bounds-l-i : goal.bounds-l-i
bounds-l-i c = omega (arith, ledger-used _ c.requires, found-used id_of _ _ c.find_id.ensures c.in-Some.is)

pub without-requires : goal.without-requires
without-requires c = (found-used id_of _ _ c.find_id.ensures c.in-Some.is, ledger-used _ c.requires)

pub returns-then-may_end : goal.returns-then-may_end
returns-then-may_end c =
    rw c.answers.ensures (end-freed _ c.requires _ _ c.find_id.ensures _ c.in-Some.is c.may_end.ensures c.if-may_end.true c.without.ensures)

pub returns : goal.returns
returns c =
    end_refused _ c.requires _ _ c.find_id.ensures _ c.in-Some.is c.may_end.ensures c.if-may_end.false c.breaks.ensures
