-- `field_at` meets its contract: what ends before its length is no field. Assumes nothing.
use Rattle.std.proofs.Common.{rules}
use Rattle.trace.proofs.Found.{past_end, no_head}
use Rattle.trace.proofs.fields.field_at.Goals as goal

pub returns-in_err-rest : goal.returns-in_err-rest
returns-in_err-rest c = search (rules, past_end)

pub returns-in_default : goal.returns-in_default
returns-in_default c = search (rules, no_head)
