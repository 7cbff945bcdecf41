-- `counted` meets its contract: a count, judged, and the entries after it. Assumes nothing.
use Rattle.common.proofs.Exits.{handed}
use Rattle.field.proofs.Answers.{read_fits}
use Rattle.field.proofs.Lists.{list-cut, list_over, list-no, list-whole}
use Rattle.field.proofs.reader.counted.Goals as goal

pub returns-in_err-count : goal.returns-in_err-count
returns-in_err-count c = rw (handed c.from_residual.ensures.1) (list-cut _ _ _ c.in_err-count.ensures)

pub returns-then-not-is_few : goal.returns-then-not-is_few
returns-then-not-is_few c = search (list_over, c.in_ok-count.ensures)

pub overflow_add-start : goal.overflow_add-start
overflow_add-start c = search (read_fits, c.in_ok-count.ensures)

pub returns-in_err-w : goal.returns-in_err-w
returns-in_err-w c = rw (handed c.from_residual-in_err-w.ensures.1) (search (list-no, c.in_ok-count.ensures, c.in_err-w.ensures))

pub returns : goal.returns
returns c = search (list-whole, c.in_ok-count.ensures, c.in_ok-w.ensures)
