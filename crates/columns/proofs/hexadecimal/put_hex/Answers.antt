-- `put_hex` meets its contract: after the first byte, those that the loop hasn't met are left. Assumes nothing.
use mathlib.Core.Path.{refl}
use native.Mathlib.Omega.{arith}
use Rattle.columns.proofs.Poured.{poured-both, poured-next, poured-end}
use Rattle.columns.proofs.Turns.{hex-first, hex-next, hex-last}
use Rattle.columns.proofs.HexDigits.{hex-none}
use Rattle.columns.proofs.hexadecimal.put_hex.Goals as goal

pub returns-in_default : goal.returns-in_default
returns-in_default c = poured-end (hex-none _ (omega arith)) refl

pub loop-b-init : goal.loop-b-init
loop-b-init c = poured-next _ (hex-first _ (omega arith)) refl c.put_hex_byte-end.ensures

pub loop-b-preserved : goal.loop-b-preserved
loop-b-preserved c =
    poured-next _ (hex-next _ c.loop-b.b-index c.loop-b-test.true) c.loop-b.invariant (poured-both _ _ _ c.put_byte-next.ensures c.put_hex_byte-end-in-loop-b.ensures)

pub returns : goal.returns
returns c = poured-end (hex-last _ _ c.loop-b-test.false) c.loop-b.invariant
