-- `print` meets its contract: the text ends within the page after each turn. Assumes nothing.
use Rattle.std.proofs.Common.{arith}
use Rattle.columns.proofs.Poured.{poured-within}
use Rattle.moqexplain.proofs.writing.print.Goals as goal

pub invariant_of-page : goal.invariant_of-page
invariant_of-page g c = record { within = omega (arith, poured-within _ _ _ c.next-told.ensures.puts (omega (arith, c.make_room.new.page.within))) }
