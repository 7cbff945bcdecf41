-- `put_end` meets its contract. Assumes nothing.
use Rattle.replay.specs.Progressing.{finish_of}
use Rattle.columns.proofs.Poured.{poured-both}
use Rattle.explanation_traces.specs.Traces.{end_text}
use Rattle.explanation_traces.proofs.traces.put_end.Goals as goal

pub returns : goal.returns
unfolding end_text finish_of
returns c =
    poured-both _ _ _ c.put_end_reason-next.ensures (rw c.finish.ensures at c.put_trace_fault.ensures)
