-- `put_fault_at` meets its contract. Assumes nothing.
use Rattle.explanation_traces.proofs.FaultLines.{fault-poured}
use Rattle.explanation_traces.proofs.traces.put_fault_at.Goals as goal

pub returns : goal.returns
returns c =
    fault-poured _ _ c.put_item-said.ensures c.put_spaces-spaced.ensures c.put_item-next.ensures c.put_byte.ensures
