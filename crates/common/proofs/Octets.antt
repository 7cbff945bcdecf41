-- Byte strings and their parts. Assumes nothing.
use Prim.Native.Nat.{ℕ, ◌+◌}
use mathlib.Core.List.{List}
use lib.ListN.{drop}
use lib.Seq.{get_or-drop}
use Rattle.common.specs.Octets.{Octets}

-- what is left of a byte string is one
pub octets-drop : (s : List ℕ) (at : ℕ) → Octets s → Octets (drop at s)
octets-drop s at o i = rw (get_or-drop at s i 0) (o (at + i))
