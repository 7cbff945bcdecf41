-- `write_subgroup_object` meets its contract: the numbers and what stands between them are its fields. Assumes nothing.
use Rattle.layout.specs.Allowed.{allowed}
use Rattle.measure.specs.Fields.{headed}
use Rattle.header.specs.Layouts.{subgroup_object}
use Rattle.header_writer.specs.Writing.{subgroup_object_written}
use Rattle.header_writer.proofs.Writes.{not-allowed, subgroup-object-written}
use Rattle.header_writer.proofs.writer.write_subgroup_object.Goals as goal

pub returns-then-not-is_payload_allowed : goal.returns-then-not-is_payload_allowed
unfolding subgroup_object_written allowed subgroup_object
returns-then-not-is_payload_allowed c = search not-allowed

pub returns-in-Length : goal.returns-in-Length
unfolding headed
returns-in-Length c =
    subgroup-object-written _ _ _ c.is_payload_allowed.ensures c.if-not-is_payload_allowed.false (rw c.in-Length.is c.write_header.ensures)

pub returns-in-Status : goal.returns-in-Status
unfolding headed
returns-in-Status c =
    subgroup-object-written _ _ _ c.is_payload_allowed.ensures c.if-not-is_payload_allowed.false (rw c.in-Status.is c.write_header-in-Status.ensures)
