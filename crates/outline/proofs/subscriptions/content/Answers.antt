-- `content` meets its contract. Assumes nothing.
use mathlib.Core.Path.{refl}
use native.Mathlib.Omega.{arith}
use borrow.Author.Tests.{eq-eqb, ne_eqb}
use lib.Dec.{eqb}
use lib.ListN.{drop, get_or}
use Rattle.common.proofs.Parts.{to_end}
use Rattle.types.specs.Subscriptions.{content}
use Rattle.layout.specs.Layout.{when, forbidden, parameters, largest_place}
use Rattle.outline.specs.Places.{rest_of, ahead_of}
use Rattle.outline.proofs.OneByOne.{stands, past, forbidden-ahead, yes-ahead, no-ahead}
use Rattle.outline.proofs.subscriptions.content.Goals as goal

pub returns-in-empty : goal.returns-in-empty
unfolding rest_of ahead_of content
returns-in-empty c = stands content 0 c.args.v.now (omega arith) refl

pub returns-in-0 : goal.returns-in-0
unfolding rest_of ahead_of content
returns-in-0 c = let v = c.args.v.now in past content 1 v (omega arith) (yes-ahead parameters (when (eqb (get_or v 0 0) 1) largest_place forbidden) (drop 1 v) (eq-eqb (get_or v 0 0) 0 (omega arith)) (rw (to_end v 1) at c.parameters.ensures))

pub returns-in-1 : goal.returns-in-1
unfolding rest_of ahead_of content
returns-in-1 c = let v = c.args.v.now in past content 1 v (omega arith) (no-ahead parameters (when (eqb (get_or v 0 0) 1) largest_place forbidden) (drop 1 v) (ne_eqb (get_or v 0 0) 0 (λ e. omega arith)) (yes-ahead largest_place forbidden (drop 1 v) (eq-eqb (get_or v 0 0) 1 (omega arith)) (rw (to_end v 1) at c.largest_place.ensures)))

pub returns-in_default : goal.returns-in_default
unfolding rest_of ahead_of content
returns-in_default c = let v = c.args.v.now in past content 1 v (omega arith) (no-ahead parameters (when (eqb (get_or v 0 0) 1) largest_place forbidden) (drop 1 v) (ne_eqb (get_or v 0 0) 0 (λ e. omega arith)) (no-ahead largest_place forbidden (drop 1 v) (ne_eqb (get_or v 0 0) 1 (λ e. omega arith)) (forbidden-ahead (drop 1 v))))
