-- `take` meets its contract. Assumes nothing.
use mathlib.Core.Path.{ap, ◌∙◌}
use Rattle.ledger.specs.Views.{view_of, came_of}
use Rattle.ledger.specs.Steps.{take_of}
use Rattle.ledger.proofs.Gates.{stopped, went, went-ledger}
use Rattle.ledger.proofs.CodePaths.{of_part, other-part}
use Rattle.ledger.proofs.Ledger.take.Goals as goal

pub returns-in-Err : goal.returns-in-Err
unfolding take_of
returns-in-Err c = rw c.answers.ensures (stopped _ c.is_sound.ensures c.gate.ensures _ c.in-Err.is)

pub keep-requires : goal.keep-requires
unfolding take_of
keep-requires c = went-ledger _ c.is_sound.ensures c.gate.ensures c.in_default.is

pub returns : goal.returns
unfolding take_of
returns c =
    went _ c.is_sound.ensures c.gate.ensures c.in_default.is (of_part _ c.keep.ensures c.in-Subscription.is)

pub other-requires : goal.other-requires
unfolding take_of
other-requires c = went-ledger _ c.is_sound.ensures c.gate.ensures c.in_default.is

pub returns-in_default-m : goal.returns-in_default-m
unfolding take_of
returns-in_default-m c =
    went _ c.is_sound.ensures c.gate.ensures c.in_default.is (c.other.ensures ∙ ap came_of (other-part (view_of c.args.self) c.args.m c.in_default-m.not-Subscription))
