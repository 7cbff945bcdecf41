-- What is left of a piece lies within the buffer. Assumes nothing.
use Prim.Native.Nat.{ℕ, ◌≤◌}
use mathlib.Core.List.{List}
use native.Mathlib.Omega.{arith}
use lib.ListN.{length, take, length-take}
use Rattle.replay.specs.Advancing.{advance_of, Advances}
use Rattle.replay.specs.declared.Advanced.{Advanced}
use Rattle.replay.specs.declared.Progress.{Progress}
use Rattle.replay.proofs.WhatIsLeft.{rest-few}

pub left-within : (p : Progress) (before : List ℕ) (filled : ℕ) {r : Advanced} {after : List ℕ} → Advances (advance_of p before filled) r after → r.left ≤ length before
unfolding advance_of
left-within p before filled w = omega (arith, w.left, rest-few p (take filled before), length-take filled before)
