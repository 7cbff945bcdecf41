-- `write` meets its contract: the message's fields are framed. Assumes nothing.
use Rattle.message_writer.proofs.Writes.{not-allowed, is_framed}
use Rattle.message_writer.proofs.writer.write.Goals as goal

pub returns-then-not-is_allowed : goal.returns-then-not-is_allowed
returns-then-not-is_allowed c = search not-allowed

pub returns : goal.returns
returns c = search is_framed
