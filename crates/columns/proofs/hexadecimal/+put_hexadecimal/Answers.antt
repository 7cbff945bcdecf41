-- `put_hexadecimal` meets its contract: the digits of the sixteenth part, and then the last one. Assumes nothing.
use native.Mathlib.Omega.{arith}
use Rattle.columns.proofs.Poured.{poured-both}
use Rattle.columns.proofs.HexDigits.{hex-one, hex-more}
use Rattle.columns.proofs.hexadecimal.+put_hexadecimal.Goals as goal

pub returns-then-n-lt16 : goal.returns-then-n-lt16
returns-then-n-lt16 t c = rw (hex-one c.args.n c.if-n-lt16.true, ← c.hex_digit.ensures) c.put_byte.ensures

pub returns : goal.returns
returns t c =
    rw (hex-more c.args.n (omega arith) (omega arith), ← c.hex_digit-2.ensures) (poured-both _ _ _ c.put_hexadecimal-next.ensures c.put_byte-2.ensures)
