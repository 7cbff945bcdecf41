-- `write_datagram` meets its contract: the numbers and what stands between them are its fields. Assumes nothing.
use Rattle.measure.specs.Fields.{headed}
use Rattle.header_writer.specs.Writing.{datagram_written}
use Rattle.header_writer.proofs.Writes.{not-allowed, datagram-written}
use Rattle.header_writer.proofs.writer.write_datagram.Goals as goal

pub returns-then-not-is_datagram_allowed : goal.returns-then-not-is_datagram_allowed
unfolding datagram_written
returns-then-not-is_datagram_allowed c = search not-allowed

pub returns-in-Object : goal.returns-in-Object
unfolding headed
returns-in-Object c = datagram-written _ _ _ c.is_datagram_allowed.ensures c.if-not-is_datagram_allowed.false (rw c.in-Object.is c.write_header.ensures)

pub returns-in-Status : goal.returns-in-Status
unfolding headed
returns-in-Status c = datagram-written _ _ _ c.is_datagram_allowed.ensures c.if-not-is_datagram_allowed.false (rw c.in-Status.is c.write_header-in-Status.ensures)
