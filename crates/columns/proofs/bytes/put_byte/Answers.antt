-- `put_byte` meets its contract. Assumes nothing.
use Rattle.columns.proofs.Poured.{byte-poured, byte-lost}
use Rattle.columns.proofs.bytes.put_byte.Goals as goal

pub returns-then-at-out : goal.returns-then-at-out
returns-then-at-out c = byte-lost _ _ _ c.if-at-out.true

pub returns : goal.returns
returns c = byte-poured _ _ _ c.if-at-out.false
