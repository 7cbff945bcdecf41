-- `put_bytes` meets its contract: the bytes that the loop hasn't met are left. Assumes nothing.
use Rattle.columns.proofs.Poured.{poured-next, poured-end}
use Rattle.columns.proofs.Turns.{byte_next, byte_last}
use Rattle.columns.proofs.bytes.put_bytes.Goals as goal

pub returns : goal.returns
returns c = poured-end (byte_last _ _ c.loop-b-test.false) c.loop-b.invariant

pub loop-b-preserved : goal.loop-b-preserved
loop-b-preserved c = poured-next _ (byte_next _ c.loop-b.b-index c.loop-b-test.true) c.loop-b.invariant c.put_byte-end.ensures
