-- Which group orders an answer may hold. Assumes nothing.
use Prim.Native.Nat.{ℕ, ◌≤◌, ◌<◌}
use mathlib.Core.Path.{◌≡◌}
use mathlib.Core.Bool.{true, false}
use lib.Dec.{leb}
use borrow.Author.Tests.{le-leb, lt-leb}
use Rattle.common.proofs.Tests.{both_false}
use Rattle.field.specs.Rules.{givable}

module _ (order : ℕ) where
  pub is-givable : 1 ≤ order → order ≤ 2 → givable order ≡ true
  unfolding givable
  is-givable h k = rw (le-leb 1 order h, le-leb order 2 k)

  pub is-too-low : order < 1 → givable order ≡ false
  unfolding givable
  is-too-low h = rw (lt-leb 1 order h)

  pub is-too-high : 2 < order → givable order ≡ false
  unfolding givable
  is-too-high h = rw (lt-leb order 2 h) (both_false (leb 1 order))
