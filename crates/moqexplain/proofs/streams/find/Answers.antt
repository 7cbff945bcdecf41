-- `find` meets its contract. Assumes nothing.
use Rattle.std.proofs.Common.{arith}
use Rattle.moqexplain.proofs.Within.{read-there}
use Rattle.moqexplain.proofs.streams.find.Goals as goal

pub overflow_add-result : goal.overflow_add-result
overflow_add-result c =
    let there = read-there c.args.s.now c.args.at c.requires c.read.ensures c.in_ok-used.was in
    omega (arith, there.1)

pub returns : goal.returns
returns c =
    let there = read-there c.args.s.now c.args.at c.requires c.read.ensures c.in_ok-used.was in
    (omega (arith, there.0), there.1)
