-- `read_failure` meets its contract: an integer, and bytes after it. Assumes nothing.
use Rattle.common.proofs.Exits.{handed}
use Rattle.field.proofs.TwoReads.{failure-cut, failure-half, failure-whole}
use Rattle.field.proofs.pairs.read_failure.Goals as goal

pub returns-in_err-code : goal.returns-in_err-code
returns-in_err-code c = rw (handed c.from_residual.ensures.1) (failure-cut _ _ c.in_err-code.ensures)

pub returns-in_err-reason : goal.returns-in_err-reason
returns-in_err-reason c = rw (handed c.from_residual-in_err-reason.ensures.1) (failure-half _ _ c.in_ok-code.ensures c.in_err-reason.ensures)

pub returns : goal.returns
returns c = failure-whole _ _ c.in_ok-code.ensures c.in_ok-reason.ensures
