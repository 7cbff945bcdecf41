-- `range` meets its contract. Assumes nothing.
use mathlib.Core.Path.{refl}
use native.Mathlib.Omega.{arith}
use borrow.Author.Tests.{eq-eqb, ne_eqb}
use lib.Dec.{eqb}
use lib.ListN.{drop, get_or}
use Rattle.common.proofs.Parts.{to_end}
use Rattle.types.specs.Fetches.{standalone, joining, range}
use Rattle.layout.specs.Layout.{when, forbidden}
use Rattle.outline.proofs.Joins.{either-joins}
use Rattle.outline.specs.Places.{rest_of, ahead_of}
use Rattle.outline.proofs.OneByOne.{stands, past, forbidden-ahead, yes-ahead, no-ahead}
use Rattle.outline.proofs.fetches.range.Goals as goal

pub returns-in-empty : goal.returns-in-empty
unfolding rest_of ahead_of range
returns-in-empty c = stands range 0 c.args.v.now (omega arith) refl

pub returns-in-1 : goal.returns-in-1
unfolding rest_of ahead_of range
returns-in-1 c = let v = c.args.v.now in past range 1 v (omega arith) (yes-ahead standalone (when (eqb (get_or v 0 0) 2) joining (when (eqb (get_or v 0 0) 3) joining forbidden)) (drop 1 v) (eq-eqb (get_or v 0 0) 1 (omega arith)) (rw (to_end v 1) at c.standalone.ensures))

pub returns-in-2-to-3 : goal.returns-in-2-to-3
unfolding rest_of ahead_of range
returns-in-2-to-3 c = let v = c.args.v.now in past range 1 v (omega arith) (no-ahead standalone (when (eqb (get_or v 0 0) 2) joining (when (eqb (get_or v 0 0) 3) joining forbidden)) (drop 1 v) (ne_eqb (get_or v 0 0) 1 (λ e. omega arith)) (either-joins (get_or v 0 0) (drop 1 v) (omega arith) (omega arith) (rw (to_end v 1) at c.joining.ensures)))

pub returns-in_default : goal.returns-in_default
unfolding rest_of ahead_of range
returns-in_default c = let v = c.args.v.now in past range 1 v (omega arith) (no-ahead standalone (when (eqb (get_or v 0 0) 2) joining (when (eqb (get_or v 0 0) 3) joining forbidden)) (drop 1 v) (ne_eqb (get_or v 0 0) 1 (λ e. omega arith)) (no-ahead joining (when (eqb (get_or v 0 0) 3) joining forbidden) (drop 1 v) (ne_eqb (get_or v 0 0) 2 (λ e. omega arith)) (no-ahead joining forbidden (drop 1 v) (ne_eqb (get_or v 0 0) 3 (λ e. omega arith)) (forbidden-ahead (drop 1 v)))))

pub returns-in_default-2 : goal.returns-in_default-2
unfolding rest_of ahead_of range
returns-in_default-2 c = let v = c.args.v.now in past range 1 v (omega arith) (no-ahead standalone (when (eqb (get_or v 0 0) 2) joining (when (eqb (get_or v 0 0) 3) joining forbidden)) (drop 1 v) (ne_eqb (get_or v 0 0) 1 (λ e. omega arith)) (no-ahead joining (when (eqb (get_or v 0 0) 3) joining forbidden) (drop 1 v) (ne_eqb (get_or v 0 0) 2 (λ e. omega arith)) (no-ahead joining forbidden (drop 1 v) (ne_eqb (get_or v 0 0) 3 (λ e. omega arith)) (forbidden-ahead (drop 1 v)))))
