-- `count` meets its contract. Assumes nothing.
use native.Mathlib.Omega.{arith}
use Rattle.ledger.specs.Steps.{alias_of}
use Rattle.ledger.proofs.Facts.{ledger-used}
use Rattle.ledger.proofs.Finds.{found-used}
use Rattle.ledger.proofs.CodePaths.{no-alias, waiting, outside, counted}
use Rattle.ledger.proofs.arrivals.count.Goals as goal

pub find_alias-requires : goal.find_alias-requires
find_alias-requires c = ledger-used _ c.requires

pub returns-in_default : goal.returns-in_default
returns-in_default c = rw c.answers.ensures (no-alias _ c.requires _ c.find_alias.ensures c.in_default.is)

pub offset_bounds-l-i : goal.offset_bounds-l-i
offset_bounds-l-i c = omega (arith, ledger-used _ c.requires, found-used alias_of _ _ c.find_alias.ensures c.in-Some.is)

pub bounds-l-i : goal.bounds-l-i
bounds-l-i c = omega (arith, ledger-used _ c.requires, found-used alias_of _ _ c.find_alias.ensures c.in-Some.is)

pub returns-in-Err-Waiting : goal.returns-in-Err-Waiting
returns-in-Err-Waiting c =
    rw c.answers-in-Err-Waiting.ensures (waiting _ c.requires _ c.find_alias.ensures c.in-Some.is c.arrive.ensures (cc))

pub returns-in-Err-Outside : goal.returns-in-Err-Outside
returns-in-Err-Outside c =
    rw c.answers-in-Err-Outside.ensures (outside _ c.requires _ c.find_alias.ensures c.in-Some.is c.arrive.ensures (cc))

pub with_row-requires : goal.with_row-requires
with_row-requires c = omega (arith, ledger-used _ c.requires, found-used alias_of _ _ c.find_alias.ensures c.in-Some.is)

pub returns : goal.returns
returns c =
    rw c.answers-2.ensures (counted _ c.requires _ c.find_alias.ensures c.in-Some.is c.arrive.ensures c.in-Ok.is c.with_row.ensures)
