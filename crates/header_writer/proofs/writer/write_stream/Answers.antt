-- `write_stream` meets its contract: the numbers and what stands between them are its fields. Assumes nothing.
use Rattle.measure.specs.Fields.{headed}
use Rattle.header_writer.proofs.Writes.{stream-written}
use Rattle.header_writer.proofs.writer.write_stream.Goals as goal

pub returns-in-Subgroup : goal.returns-in-Subgroup
unfolding headed
returns-in-Subgroup c = stream-written _ _ (rw c.in-Subgroup.is c.write_header.ensures)

pub returns-in-Fetch : goal.returns-in-Fetch
unfolding headed
returns-in-Fetch c = stream-written _ _ (rw c.in-Fetch.is c.write_header-in-Fetch.ensures)
