-- `span` meets its contract: it tests the parts of a right part, one after the other. Assumes nothing.
use mathlib.Core.Path.{◌∙◌}
use Rattle.measure.proofs.Spans.{span-backward, span-outside, span-great, span_fits}
use Rattle.measure.proofs.judging.Judge.span.Goals as goal
use Rattle.measure.proofs.judging.Judge.span.Goals.{then-p-via-then-p, then-p-via-else-p+then-p-self}

pub returns-then-p : goal.returns-then-p
returns-then-p c =
    elim c.then-p.branch [
      | then-p-via-then-p w ↦ span-backward _ _ _ w.if-p.true
      | then-p-via-else-p+then-p-self w ↦ span-outside _ _ _ w.if-p.false w.if-p-self.true
    ]

pub returns-then-n-gt-GREATEST : goal.returns-then-n-gt-GREATEST
returns-then-n-gt-GREATEST c = span-great _ _ _ c.if-p.false c.if-p-self.false c.if-n-gt-GREATEST.true

pub returns : goal.returns
returns c = c.add.ensures ∙ span_fits _ _ _ (record { ordered = c.if-p.false; within = c.if-p-self.false; small = c.if-n-gt-GREATEST.false }) c.size.ensures
