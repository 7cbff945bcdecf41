-- `entry_size` meets its contract: the sizes of its integers, and its bytes. Assumes nothing.
use native.Mathlib.Omega.{arith}
use Rattle.integer.proofs.Laws.{length-enc}
use Rattle.integer.proofs.Widths.{size_few}
use Rattle.field.specs.Value.{item_size}
use Rattle.field.proofs.walking.entry_size.Goals as goal

pub overflow_add-result : goal.overflow_add-result
overflow_add-result c = omega (arith, c.size.ensures, size_few c.args.held)

pub overflow_add-result-in-Parameters : goal.overflow_add-result-in-Parameters
overflow_add-result-in-Parameters c = omega (arith, c.size-in-Parameters-2.ensures, size_few c.args.held)

pub overflow_add-result-in-Parameters-2 : goal.overflow_add-result-in-Parameters-2
overflow_add-result-in-Parameters-2 c = omega (arith, c.size-in-Parameters-2.ensures, size_few c.args.held, c.size-in-Parameters.ensures, size_few c.args.number)

pub returns-in-Namespace : goal.returns-in-Namespace
unfolding item_size
returns-in-Namespace c = rw (c.in-Namespace.is, length-enc, c.size.ensures)

pub returns-in-Parameters : goal.returns-in-Parameters
unfolding item_size
returns-in-Parameters c = rw (c.in-Parameters.is, c.size-in-Parameters.ensures, c.size-in-Parameters-2.ensures) (simp length-enc)

pub returns-in-Versions : goal.returns-in-Versions
unfolding item_size
returns-in-Versions c = rw (c.in-Versions.is, length-enc, c.size-in-Versions.ensures)
