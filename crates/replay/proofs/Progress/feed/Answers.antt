-- `Progress::feed` meets its contract. Assumes nothing.
use Rattle.std.proofs.Common.{refl, arith, rules}
use Rattle.replay.proofs.FieldSteps.{all-taken}
use Rattle.replay.proofs.Progress.feed.Goals as goal

pub loop-fed-init : goal.loop-fed-init
loop-fed-init c = record { room = search rules; answer-room = search rules; within = omega arith; feeds = refl }

pub turn-requires : goal.turn-requires
turn-requires c =
    (c.loop-fed.invariant.within, omega (arith, c.loop-fed.invariant.room, c.loop-fed.invariant.answer-room))

pub returns : goal.returns
returns c = all-taken c.loop-fed.invariant c.turn.ensures c.in_default.is
