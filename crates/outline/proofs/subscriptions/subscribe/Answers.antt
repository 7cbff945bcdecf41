-- `subscribe` meets its contract. Assumes nothing.
use mathlib.Core.Path.{refl}
use native.Mathlib.Omega.{arith}
use Rattle.common.proofs.Parts.{to_end}
use Rattle.types.specs.Subscriptions.{subscribe}
use Rattle.outline.specs.Places.{rest_of, ahead_of}
use Rattle.outline.proofs.OneByOne.{stands, past}
use Rattle.outline.proofs.subscriptions.subscribe.Goals as goal

pub returns-in-empty : goal.returns-in-empty
unfolding rest_of ahead_of subscribe
returns-in-empty c = stands subscribe 0 c.args.v.now (omega arith) refl

pub returns-in-len1 : goal.returns-in-len1
unfolding rest_of ahead_of subscribe
returns-in-len1 c = stands subscribe 1 c.args.v.now (omega arith) refl

pub returns-in-len2 : goal.returns-in-len2
unfolding rest_of ahead_of subscribe
returns-in-len2 c = stands subscribe 2 c.args.v.now (omega arith) refl

pub returns-in-len3-up : goal.returns-in-len3-up
unfolding rest_of ahead_of subscribe
returns-in-len3-up c = let v = c.args.v.now in past subscribe 3 v (omega arith) (rw (to_end v 3) at c.delivery.ensures)
