-- A loop that counts one thing after the other: what was counted so far, and what is left to be counted. Assumes nothing.
use Prim.Native.Nat.{ℕ, ◌+◌, ◌≤◌}
use mathlib.Core.Path.{◌≡◌, ap}
use mathlib.Core.List.{List, []}
use native.Mathlib.Omega.{arith}
use lib.ListN.{length, length-append}
use Rattle.common.proofs.PutLoop.{Next}

-- all is that many bytes, and then what is left
pub record Counted (all : List ℕ) (sum : ℕ) (left : List ℕ) : Type 0 where
  pub whole : sum + length left ≡ length all

-- at the start nothing was counted
pub counted_start : (all : List ℕ) → Counted all 0 all
counted_start all = record { whole = omega arith }

module _ {all : List ℕ} {sum : ℕ} {left : List ℕ} (c : Counted all sum left) where
  -- nothing is left
  pub counted-end : left ≡ [] → sum ≡ length all
  counted-end e = omega (arith, c.whole, ap length e)

  module _ {x others : List ℕ} (next : Next x others left) {n : ℕ} (e : n ≡ length x) where
    parts : length left ≡ n + length others
    parts = omega (arith, ap length next.joins, length-append x others)

    -- the sum is no more than all,
    pub counted-sum : sum + n ≤ length all
    counted-sum = omega (arith, c.whole, parts)

    -- and then the others are left
    pub counted_next : Counted all (sum + n) others
    counted_next = record { whole = omega (arith, c.whole, parts) }
