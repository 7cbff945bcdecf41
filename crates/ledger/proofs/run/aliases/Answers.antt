-- `aliases` meets its contract: the names so far are those of the rows. Assumes nothing.
use mathlib.Core.Path.{refl}
use native.Mathlib.Omega.{arith}
use Rattle.ledger.proofs.AliasesFound.{named-next, all_named}
use Rattle.ledger.proofs.run.aliases.Goals as goal

pub loop-i-init : goal.loop-i-init
loop-i-init c = record { to = omega arith; long = refl; so_far = refl }

pub loop-i-preserved : goal.loop-i-preserved
loop-i-preserved c = named-next _ _ _ (omega arith) c.loop-i.invariant _ (omega arith)

pub returns : goal.returns
returns c = all_named _ _ _ (omega arith) c.loop-i.invariant (omega arith)
