-- Parts of a slice: what is lent, and what comes back. Assumes nothing.
use Prim.Native.Nat.{ℕ, ◌-◌}
use mathlib.Core.Path.{◌≡◌}
use mathlib.Core.List.{List, ◌++◌, append-nil}
use native.Mathlib.Nat.{le_of_eq}
use lib.ListN.{length, take, drop, length-drop, drop_of_length-le}
use lib.Seq.{take_all}

-- a part that goes to the end, as it reaches a callee
pub to_end : (s : List ℕ) (at : ℕ) → take (length s - at) (drop at s) ≡ drop at s
to_end s at = take_all (length s - at) (drop at s) (le_of_eq (length-drop at s))

-- and as it comes back, when a callee left t there
pub back : (s : List ℕ) (at : ℕ) (t : List ℕ) → take at s ++ (t ++ drop (length s - at) (drop at s)) ≡ take at s ++ t
back s at t = rw (drop_of_length-le (drop at s) (le_of_eq (length-drop at s)), append-nil)
