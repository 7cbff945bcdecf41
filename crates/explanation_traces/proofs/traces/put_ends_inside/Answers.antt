-- `put_ends_inside` meets its contract. Assumes nothing.
use Rattle.columns.proofs.Poured.{poured-both}
use Rattle.explanation_traces.proofs.traces.put_ends_inside.Goals as goal

pub returns : goal.returns
returns c = poured-both _ _ _ c.put_cut_field-next.ensures c.put_reason.ensures
