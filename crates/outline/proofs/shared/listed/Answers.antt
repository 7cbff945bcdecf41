-- `listed` meets its contract. Assumes nothing.
use native.Mathlib.Omega.{arith}
use borrow.Author.Tests.{false-ltb}
use Rattle.outline.proofs.Listed.{stands-listed, past-listed}
use Rattle.outline.proofs.shared.listed.Goals as goal

pub returns-in-Some : goal.returns-in-Some
returns-in-Some c =
    let found = c.in-Some.ensures.lookup in
    stands-listed c.args.fields.now c.args.v.now c.in-Some.field-0.now (omega arith) found.1

pub returns-in-None : goal.returns-in-None
returns-in-None c =
    let none = c.in-None.ensures.lookup in past-listed c.args.fields.now c.args.v.now (false-ltb _ _ none.0)
