-- `read` meets its contract: each answer in its turn. Assumes nothing.
use Rattle.common.proofs.Exits.{handed}
use Rattle.message.proofs.Answers.{number-ends, body-there, reads_nothing, reads-unknown, reads-no-length, reads-too-long, reads_short, reads-fault, reads-unfilled, reads-whole}
use Rattle.message.proofs.reader.read.Goals as goal

pub returns-in_err-number : goal.returns-in_err-number
returns-in_err-number c = rw (handed c.from_residual.ensures.1) (reads_nothing _ c.in_err-number.ensures)

pub returns-in_default : goal.returns-in_default
returns-in_default c = search (reads-unknown, c.in_ok-number.ensures)

pub returns-in_err-length : goal.returns-in_err-length
returns-in_err-length c =
    rw (handed c.from_residual-in_err-length.ensures.1) (search (reads-no-length, c.in_ok-number.ensures, c.in_err-length.ensures))

pub returns-then-length : goal.returns-then-length
returns-then-length c = search (reads-too-long, c.in_ok-number.ensures, c.in_ok-length.ensures)

pub overflow_sub-left : goal.overflow_sub-left
overflow_sub-left c = search (number-ends, c.in_ok-length.ensures)

pub returns-then-length-left : goal.returns-then-length-left
returns-then-length-left c = search (reads_short, c.in_ok-number.ensures, c.in_ok-length.ensures)

pub slice_bounds-read_body-end : goal.slice_bounds-read_body-end
slice_bounds-read_body-end c = search (body-there, c.in_ok-length.ensures)

pub returns-in_err-m : goal.returns-in_err-m
returns-in_err-m c =
    rw (handed c.from_residual-in_err-m.ensures.1) (search (reads-fault, c.in_ok-number.ensures, c.in_ok-length.ensures, c.in_err-m.ensures))

pub returns-then-last-end : goal.returns-then-last-end
returns-then-last-end c = search (reads-unfilled, c.in_ok-number.ensures, c.in_ok-length.ensures, c.in_ok-m.ensures)

pub returns : goal.returns
returns c = search (reads-whole, c.in_ok-number.ensures, c.in_ok-length.ensures, c.in_ok-m.ensures)
