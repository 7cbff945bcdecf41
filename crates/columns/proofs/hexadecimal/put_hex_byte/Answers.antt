-- `put_hex_byte` meets its contract. Assumes nothing.
use Rattle.columns.specs.Columns.{hex_byte}
use Rattle.columns.proofs.Poured.{poured-both}
use Rattle.columns.proofs.hexadecimal.put_hex_byte.Goals as goal

pub returns : goal.returns
unfolding hex_byte
returns c =
    rw (← c.hex_digit.ensures, ← c.hex_digit-2.ensures) (poured-both _ _ _ c.put_byte-next.ensures c.put_byte.ensures)
