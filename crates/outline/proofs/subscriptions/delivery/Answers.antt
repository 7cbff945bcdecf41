-- `delivery` meets its contract. Assumes nothing.
use mathlib.Core.Path.{refl}
use native.Mathlib.Omega.{arith}
use borrow.Author.Tests.{lt-leb, le-leb}
use lib.ListN.{drop, get_or}
use Rattle.common.proofs.Parts.{to_end}
use Rattle.types.specs.Subscriptions.{delivery, filter}
use Rattle.layout.specs.Layout.{forbidden}
use Rattle.field.specs.Rules.{askable}
use Rattle.outline.specs.Places.{rest_of, ahead_of}
use Rattle.outline.proofs.OneByOne.{stands, past, forbidden-ahead, yes-ahead, no-ahead}
use Rattle.outline.proofs.subscriptions.delivery.Goals as goal

pub returns-in-empty : goal.returns-in-empty
unfolding rest_of ahead_of askable delivery
returns-in-empty c = stands delivery 0 c.args.v.now (omega arith) refl

pub returns-in-len1 : goal.returns-in-len1
unfolding rest_of ahead_of askable delivery
returns-in-len1 c = stands delivery 1 c.args.v.now (omega arith) refl

pub returns-in-0-to-2 : goal.returns-in-0-to-2
unfolding rest_of ahead_of askable delivery
returns-in-0-to-2 c = let v = c.args.v.now in past delivery 2 v (omega arith) (yes-ahead filter forbidden (drop 2 v) (le-leb (get_or v 1 0) 2 (omega arith)) (rw (to_end v 2) at c.filter.ensures))

pub returns-in_default : goal.returns-in_default
unfolding rest_of ahead_of askable delivery
returns-in_default c = let v = c.args.v.now in past delivery 2 v (omega arith) (no-ahead filter forbidden (drop 2 v) (lt-leb (get_or v 1 0) 2 (omega arith)) (forbidden-ahead (drop 2 v)))
