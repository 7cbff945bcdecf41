-- `take` meets its contract. Assumes nothing.
use native.Mathlib.Omega.{arith}
use Rattle.ledger_calls.proofs.CallsAnswered.{no-ledger, not-told, taken, read_as, read-else}
use Rattle.ledger_calls.proofs.calls.take.Goals as goal

pub returns-then-said-eq14 : goal.returns-then-said-eq14
returns-then-said-eq14 c =
    read_as _ _ _ c.in-Ok.m c.in-Ok.ensures
    (no-ledger _ _ _ _ c.unpack-l.ensures c.take-taken.result c.take-taken.ensures c.number-said.ensures c.if-said-eq14.true)

pub returns-then-info-lt2 : goal.returns-then-info-lt2
returns-then-info-lt2 c =
    read_as _ _ _ c.in-Ok.m c.in-Ok.ensures
    (not-told _ _ _ _ c.unpack-l.ensures c.take-taken.result c.take-taken.ensures c.number-said.ensures c.if-said-eq14.false (omega (arith, c.if-info-lt2.true)))

pub returns : goal.returns
returns c =
    read_as _ _ _ c.in-Ok.m c.in-Ok.ensures
    (taken _ c.args.info.now _ _ c.unpack-l.ensures c.take-taken.result c.take-taken.ensures c.number-said.ensures c.if-said-eq14.false c.keep.ensures c.broken.ensures (omega (arith, c.if-info-lt2.false)))

pub returns-in_default : goal.returns-in_default
returns-in_default c =
    read-else _ _ _ c.in_default.field-0 c.in_default.ensures c.in_default.is c.refused.ensures
