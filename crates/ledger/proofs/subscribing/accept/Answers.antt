-- `accept` meets its contract. Assumes nothing.
use native.Mathlib.Omega.{arith}
use Rattle.ledger.specs.Steps.{id_of}
use Rattle.ledger.proofs.Facts.{ledger-used}
use Rattle.ledger.proofs.Finds.{found-used}
use Rattle.ledger.proofs.CodePaths.{nowhere, ok-refused, ok-opened}
use Rattle.ledger.proofs.subscribing.accept.Goals as goal

pub find_id-requires : goal.find_id-requires
find_id-requires c = ledger-used _ c.requires

pub returns-in_default : goal.returns-in_default
returns-in_default c = nowhere _ c.requires _ _ _ c.find_id.ensures c.in_default.is c.no_row.ensures

pub offset_bounds-l-i : goal.offset_bounds-l-i
offset_bounds-l-i c = omega (arith, ledger-used _ c.requires, found-used id_of _ _ c.find_id.ensures c.in-Some.is)

pub bounds-l-i : goal.bounds-l-i
bounds-l-i c = omega (arith, ledger-used _ c.requires, found-used id_of _ _ c.find_id.ensures c.in-Some.is)

pub returns-in_default-open : goal.returns-in_default-open
returns-in_default-open c =
    ok-refused _ c.requires _ _ c.find_id.ensures c.in-Some.is c.open.ensures c.in_default-open.is c.breaks.ensures

pub with_row-requires : goal.with_row-requires
with_row-requires c = omega (arith, ledger-used _ c.requires, found-used id_of _ _ c.find_id.ensures c.in-Some.is)

pub returns : goal.returns
returns c =
    rw c.answers.ensures (ok-opened _ c.requires _ _ c.find_id.ensures c.in-Some.is c.open.ensures c.in-Some-open.is c.with_row.ensures)
