-- `print_end` meets its contract: the text ends within the page. Assumes nothing.
use Rattle.std.proofs.Common.{arith}
use Rattle.columns.proofs.Poured.{poured-within}
use Rattle.moqexplain.proofs.traces.print_end.Goals as goal

pub invariant_of-page : goal.invariant_of-page
invariant_of-page g c = record { within = omega (arith, poured-within _ _ _ c.put_end.ensures (omega arith)) }
