-- `read` meets its contract: each arm's range of the first byte gives its width. Assumes nothing.
use mathlib.Core.Path.{refl, sym}
use native.Mathlib.Omega.{arith}
use lib.ListN.{get_or}
use Rattle.integer.specs.Integer.{room}
use Rattle.integer.proofs.Tables.{here, there}
use Rattle.integer.proofs.Front.{short}
use Rattle.integer.proofs.Widths.{wide_at, wide_form}
use Rattle.integer.proofs.reader.read.Goals as goal

pub returns-then-s-eq0 : goal.returns-then-s-eq0
returns-then-s-eq0 c = sym (short _ (omega (arith, (wide_form (get_or c.args.s.now 0 0)).some)))

pub gather-requires : goal.gather-requires
unfolding room
gather-requires c = (sym (wide_at here _ (omega arith)), refl, refl)

pub gather-requires-in-64-to-127 : goal.gather-requires-in-64-to-127
unfolding room
gather-requires-in-64-to-127 c = (sym (wide_at (there here) _ (omega arith)), refl, refl)

pub gather-requires-in-128-to-191 : goal.gather-requires-in-128-to-191
unfolding room
gather-requires-in-128-to-191 c = (sym (wide_at (there (there here)) _ (omega arith)), refl, refl)

pub gather-requires-in_default : goal.gather-requires-in_default
unfolding room
gather-requires-in_default c = (sym (wide_at (there (there (there here))) _ (omega (arith, c.type_inv.s 0))), refl, refl)
