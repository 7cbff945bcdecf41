-- `datagram` meets its contract: another number is no type. Assumes nothing.
use native.Mathlib.Omega.{arith}
use borrow.Author.Tests.{ne_eqb}
use Rattle.header.specs.Layouts.{datagrams}
use Rattle.outline.proofs.OneByOne.{forbidden-ahead}
use Rattle.outline.proofs.laid.datagram.Goals as goal

pub returns-in_default : goal.returns-in_default
unfolding datagrams
returns-in_default c =
    rw (ne_eqb c.args.number 1 (omega arith), ne_eqb c.args.number 2 (omega arith)) (forbidden-ahead c.args.v.now)
