-- `event_of` meets its contract. Assumes nothing.
use Rattle.std.proofs.Common.{sym, ap, ◌∙◌, arith, ne_eqb}
use Rattle.replay.specs.Events.{as_event, event_of}
use Rattle.replay.proofs.events.event_of.Goals as goal

pub returns-in-1 : goal.returns-in-1
unfolding event_of
returns-in-1 c = c.started.ensures ∙ rw c.in-1.is

pub returns-in-2 : goal.returns-in-2
unfolding event_of
returns-in-2 c = c.control.ensures ∙ rw c.in-2.is

pub returns-in-None : goal.returns-in-None
unfolding event_of
returns-in-None c = sym (ap as_event c.in-None.is) ∙ c.arrived.ensures ∙ rw c.in-3.is

pub returns-in-Some : goal.returns-in-Some
unfolding event_of
returns-in-Some c = sym (ap as_event c.in-Some.is) ∙ c.arrived.ensures ∙ rw c.in-3.is

pub returns-in_default : goal.returns-in_default
unfolding event_of
returns-in_default c =
    rw (ne_eqb c.args.tag 1 (λ e. omega arith), ne_eqb c.args.tag 2 (λ e. omega arith), ne_eqb c.args.tag 3 (λ e. omega arith))
