-- `is_payload_allowed` meets its contract. Assumes nothing.
use Rattle.header_writer.proofs.Allows.{length-is, status-is}
use Rattle.header_writer.proofs.writer.is_payload_allowed.Goals as goal

pub returns-in-Length : goal.returns-in-Length
returns-in-Length c = search length-is

pub returns-in-Status : goal.returns-in-Status
returns-in-Status c = search status-is
