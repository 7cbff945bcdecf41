-- `put_text_or` meets its contract. Assumes nothing.
use Rattle.columns.proofs.Poured.{poured-three}
use Rattle.columns.proofs.texts.put_text_or.Goals as goal

pub returns-then-not-printable : goal.returns-then-not-printable
returns-then-not-printable c = rw c.if-not-printable.true c.put_hex.ensures

pub returns : goal.returns
returns c =
    rw c.if-not-printable.false (poured-three _ _ _ _ c.put_byte-first.ensures c.put_bytes-next.ensures c.put_byte.ensures)
