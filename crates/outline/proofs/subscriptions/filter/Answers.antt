-- `filter` meets its contract. Assumes nothing.
use mathlib.Core.Path.{refl}
use native.Mathlib.Omega.{arith}
use borrow.Author.Tests.{eq-eqb, ne_eqb}
use lib.Dec.{eqb}
use lib.ListN.{drop, get_or}
use Rattle.common.proofs.Parts.{to_end}
use Rattle.types.specs.Subscriptions.{filter, open_range, closed_range}
use Rattle.layout.specs.Layout.{when, forbidden, parameters}
use Rattle.outline.specs.Places.{rest_of, ahead_of}
use Rattle.outline.proofs.OneByOne.{stands, past, forbidden-ahead, yes-ahead, no-ahead}
use Rattle.outline.proofs.subscriptions.filter.Goals as goal

pub returns-in-empty : goal.returns-in-empty
unfolding rest_of ahead_of filter
returns-in-empty c = stands filter 0 c.args.v.now (omega arith) refl

pub returns-in-2 : goal.returns-in-2
unfolding rest_of ahead_of filter
returns-in-2 c = let v = c.args.v.now in past filter 1 v (omega arith) (yes-ahead parameters (when (eqb (get_or v 0 0) 3) open_range (when (eqb (get_or v 0 0) 4) closed_range forbidden)) (drop 1 v) (eq-eqb (get_or v 0 0) 2 (omega arith)) (rw (to_end v 1) at c.parameters.ensures))

pub returns-in-3 : goal.returns-in-3
unfolding rest_of ahead_of filter
returns-in-3 c = let v = c.args.v.now in past filter 1 v (omega arith) (no-ahead parameters (when (eqb (get_or v 0 0) 3) open_range (when (eqb (get_or v 0 0) 4) closed_range forbidden)) (drop 1 v) (ne_eqb (get_or v 0 0) 2 (λ e. omega arith)) (yes-ahead open_range (when (eqb (get_or v 0 0) 4) closed_range forbidden) (drop 1 v) (eq-eqb (get_or v 0 0) 3 (omega arith)) (rw (to_end v 1) at c.open_range.ensures)))

pub returns-in-4 : goal.returns-in-4
unfolding rest_of ahead_of filter
returns-in-4 c = let v = c.args.v.now in past filter 1 v (omega arith) (no-ahead parameters (when (eqb (get_or v 0 0) 3) open_range (when (eqb (get_or v 0 0) 4) closed_range forbidden)) (drop 1 v) (ne_eqb (get_or v 0 0) 2 (λ e. omega arith)) (no-ahead open_range (when (eqb (get_or v 0 0) 4) closed_range forbidden) (drop 1 v) (ne_eqb (get_or v 0 0) 3 (λ e. omega arith)) (yes-ahead closed_range forbidden (drop 1 v) (eq-eqb (get_or v 0 0) 4 (omega arith)) (rw (to_end v 1) at c.closed_range.ensures))))

pub returns-in_default : goal.returns-in_default
unfolding rest_of ahead_of filter
returns-in_default c = let v = c.args.v.now in past filter 1 v (omega arith) (no-ahead parameters (when (eqb (get_or v 0 0) 3) open_range (when (eqb (get_or v 0 0) 4) closed_range forbidden)) (drop 1 v) (ne_eqb (get_or v 0 0) 2 (λ e. omega arith)) (no-ahead open_range (when (eqb (get_or v 0 0) 4) closed_range forbidden) (drop 1 v) (ne_eqb (get_or v 0 0) 3 (λ e. omega arith)) (no-ahead closed_range forbidden (drop 1 v) (ne_eqb (get_or v 0 0) 4 (λ e. omega arith)) (forbidden-ahead (drop 1 v)))))
