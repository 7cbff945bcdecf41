-- `numbered` meets its contract: a length, judged, and the bytes after it. Assumes nothing.
use Rattle.common.proofs.Exits.{handed}
use Rattle.field.proofs.Answers.{read-within, read_fits, numbered-cut, numbered-over, numbered-missing, numbered-fits, numbered-whole}
use Rattle.field.proofs.walking.numbered.Goals as goal

pub returns-in_err-n : goal.returns-in_err-n
returns-in_err-n c = rw (handed c.from_residual.ensures.1) (numbered-cut _ _ c.in_err-n.ensures _ _)

pub returns-then-n-most : goal.returns-then-n-most
returns-then-n-most c = search (numbered-over, c.in_ok-n.ensures)

pub overflow_add-start : goal.overflow_add-start
overflow_add-start c = search (read_fits, c.in_ok-n.ensures)

pub overflow_sub-left : goal.overflow_sub-left
overflow_sub-left c = search (read-within, c.in_ok-n.ensures)

pub returns-then-n-left : goal.returns-then-n-left
returns-then-n-left c = search (numbered-missing, c.in_ok-n.ensures)

pub overflow_add-end : goal.overflow_add-end
overflow_add-end c = search (numbered-fits, c.in_ok-n.ensures)

pub returns : goal.returns
returns c = search (numbered-whole, c.in_ok-n.ensures)
