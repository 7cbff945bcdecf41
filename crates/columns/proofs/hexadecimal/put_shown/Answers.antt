-- `put_shown` meets its contract. Assumes nothing.
use mathlib.Core.Path.{sym}
use native.Mathlib.Omega.{arith}
use lib.Seq.{length-take-le}
use Rattle.types.specs.Letters.{letters}
use Rattle.columns.proofs.Poured.{poured-both}
use Rattle.columns.proofs.HexDigits.{shown-all, shown-some}
use Rattle.columns.proofs.hexadecimal.put_shown.Goals as goal

pub slice_bounds-put_hex-end : goal.slice_bounds-put_hex-end
slice_bounds-put_hex-end c = sym (length-take-le _ c.args.s.now (omega arith))

pub returns-then-s-le-MOST_SHOWN : goal.returns-then-s-le-MOST_SHOWN
returns-then-s-le-MOST_SHOWN c = rw (shown-all _ c.if-s-le-MOST_SHOWN.true) c.put_hex.ensures

pub returns : goal.returns
unfolding letters
returns c =
    rw (shown-some _ c.if-s-le-MOST_SHOWN.false) (poured-both _ _ _ c.put_hex-next.ensures c.put_bytes.ensures)
