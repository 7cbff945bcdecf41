-- `closed_range` meets its contract. Assumes nothing.
use mathlib.Core.Path.{refl, sym, ◌∙◌}
use native.Mathlib.Omega.{arith}
use lib.ListN.{drop}
use Rattle.common.proofs.Parts.{to_end}
use Rattle.types.specs.Subscriptions.{closed_range, ending}
use Rattle.layout.specs.Layout.{forbidden, place, parameters}
use Rattle.outline.specs.Places.{rest_of, ahead_of}
use Rattle.outline.proofs.OneByOne.{stands, past, forbidden-ahead, yes-ahead, no-ahead}
use Rattle.outline.proofs.subscriptions.closed_range.Goals as goal

pub returns-in-empty : goal.returns-in-empty
unfolding rest_of ahead_of place ending
returns-in-empty c = stands closed_range 0 c.args.v.now (omega arith) refl

pub returns-in-len1 : goal.returns-in-len1
unfolding rest_of ahead_of place ending
returns-in-len1 c = stands closed_range 1 c.args.v.now (omega arith) refl

pub returns-in-len2 : goal.returns-in-len2
unfolding rest_of ahead_of place ending
returns-in-len2 c = stands closed_range 2 c.args.v.now (omega arith) refl

pub returns-in-len3-up : goal.returns-in-len3-up
unfolding rest_of ahead_of place ending
returns-in-len3-up c = let v = c.args.v.now in past closed_range 3 v (omega arith) (yes-ahead parameters forbidden (drop 3 v) (sym c.ends_after.ensures ∙ c.if-ends_after.true) (rw (to_end v 3) at c.parameters.ensures))

pub returns-in_default : goal.returns-in_default
unfolding rest_of ahead_of place ending
returns-in_default c = let v = c.args.v.now in past closed_range 3 v (omega arith) (no-ahead parameters forbidden (drop 3 v) (sym c.ends_after.ensures ∙ c.if-ends_after.false) (forbidden-ahead (drop 3 v)))
