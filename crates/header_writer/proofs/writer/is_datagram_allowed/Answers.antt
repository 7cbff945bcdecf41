-- `is_datagram_allowed` meets its contract. Assumes nothing.
use Rattle.header_writer.proofs.Allows.{object-any, by-status}
use Rattle.header_writer.proofs.writer.is_datagram_allowed.Goals as goal

pub returns-in-Object : goal.returns-in-Object
returns-in-Object c = search object-any

pub returns-in-Status : goal.returns-in-Status
returns-in-Status c = search by-status
