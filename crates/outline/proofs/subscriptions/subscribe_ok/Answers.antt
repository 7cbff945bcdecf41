-- `subscribe_ok` meets its contract. Assumes nothing.
use mathlib.Core.Path.{refl}
use native.Mathlib.Omega.{arith}
use lib.ListN.{drop, get_or}
use Rattle.common.proofs.Parts.{to_end}
use Rattle.types.specs.Subscriptions.{subscribe_ok, content}
use Rattle.layout.specs.Layout.{forbidden}
use Rattle.outline.proofs.Givable.{is-givable, is-too-low, is-too-high}
use Rattle.outline.specs.Places.{rest_of, ahead_of}
use Rattle.outline.proofs.OneByOne.{stands, past, forbidden-ahead, yes-ahead, no-ahead}
use Rattle.outline.proofs.subscriptions.subscribe_ok.Goals as goal

pub returns-in-empty : goal.returns-in-empty
unfolding rest_of ahead_of subscribe_ok
returns-in-empty c = stands subscribe_ok 0 c.args.v.now (omega arith) refl

pub returns-in-len1 : goal.returns-in-len1
unfolding rest_of ahead_of subscribe_ok
returns-in-len1 c = stands subscribe_ok 1 c.args.v.now (omega arith) refl

pub returns-in-len2 : goal.returns-in-len2
unfolding rest_of ahead_of subscribe_ok
returns-in-len2 c = stands subscribe_ok 2 c.args.v.now (omega arith) refl

pub returns-in-1-to-2 : goal.returns-in-1-to-2
unfolding rest_of ahead_of subscribe_ok
returns-in-1-to-2 c = let v = c.args.v.now in past subscribe_ok 3 v (omega arith) (yes-ahead content forbidden (drop 3 v) (is-givable (get_or v 2 0) (omega arith) (omega arith)) (rw (to_end v 3) at c.content.ensures))

pub returns-in_default : goal.returns-in_default
unfolding rest_of ahead_of subscribe_ok
returns-in_default c = let v = c.args.v.now in past subscribe_ok 3 v (omega arith) (no-ahead content forbidden (drop 3 v) (is-too-low (get_or v 2 0) (omega arith)) (forbidden-ahead (drop 3 v)))

pub returns-in_default-2 : goal.returns-in_default-2
unfolding rest_of ahead_of subscribe_ok
returns-in_default-2 c = let v = c.args.v.now in past subscribe_ok 3 v (omega arith) (no-ahead content forbidden (drop 3 v) (is-too-high (get_or v 2 0) (omega arith)) (forbidden-ahead (drop 3 v)))
