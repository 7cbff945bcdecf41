-- `is_status` meets its contract. Assumes nothing.
use native.Mathlib.Omega.{arith}
use borrow.Author.Tests.{le-leb, lt-leb}
use Rattle.header.specs.Rules.{is_object_status}
use Rattle.header.proofs.rules.is_status.Goals as goal

pub returns-in-0-to-1 : goal.returns-in-0-to-1
unfolding is_object_status
returns-in-0-to-1 c = rw (le-leb c.args.status 1 (omega arith))

pub returns-in-0-to-1-2 : goal.returns-in-0-to-1-2
unfolding is_object_status
returns-in-0-to-1-2 c =
    let n = c.args.status in
    rw (lt-leb n 1 (omega arith), le-leb 3 n (omega arith), le-leb n 4 (omega arith))

pub returns-in_default : goal.returns-in_default
unfolding is_object_status
returns-in_default c =
    let n = c.args.status in
    rw (lt-leb n 1 (omega arith), lt-leb 3 n (omega arith))

pub returns-in_default-2 : goal.returns-in_default-2
unfolding is_object_status
returns-in_default-2 c =
    let n = c.args.status in
    rw (lt-leb n 1 (omega arith), le-leb 3 n (omega arith), lt-leb n 4 (omega arith))
