-- `explain` meets its contract. Assumes nothing.
use Rattle.trace.specs.Fields.{number_of_tag}
use Rattle.explanation_traces.specs.Traces.{explaining_by}
use Rattle.explanation_traces.proofs.traces.explain.Goals as goal

pub returns : goal.returns
unfolding number_of_tag explaining_by
returns c =
    rw (c.shown_in.ensures, c.begin_field.ensures, c.ending_by-ending.ensures, c.reason_of.ensures, c.tag_of.ensures)
