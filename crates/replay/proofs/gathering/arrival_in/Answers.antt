-- `arrival_in` meets its contract. Assumes nothing.
use Rattle.std.proofs.Common.{◌∙◌, eq-eqb, ne_eqb}
use Rattle.replay.specs.Gathering.{arrival_in}
use Rattle.replay.proofs.gathering.arrival_in.Goals as goal

pub returns-then-f-ne3 : goal.returns-then-f-ne3
unfolding arrival_in
returns-then-f-ne3 c = rw (ne_eqb _ _ c.if-f-ne3.true)

pub returns : goal.returns
unfolding arrival_in
returns c = c.arrived.ensures ∙ rw (eq-eqb _ _ c.if-f-ne3.false)
