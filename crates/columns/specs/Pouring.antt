-- A buffer that is filled from an offset on.
use Rattle.std.specs.Prelude.{ℕ, ◌+◌, List, [], ◌∷◌, length, set, ltb}
use Rattle.common.specs.Choice.{guard}

-- what it holds, and where the next byte goes
pub record Filling : Type 0 where
  pub holds : List ℕ
  pub at : ℕ

abbrev pub filling : List ℕ → ℕ → Filling
filling holds at = record { holds = holds; at = at }

-- a byte goes there; where the buffer has ended, it is lost
unfoldable pub pour_byte : Filling → ℕ → Filling
pour_byte f b = guard (ltb f.at (length f.holds)) f (filling (set f.holds f.at b) (f.at + 1))

-- BYTES, one after the other
unfoldable pub pour : Filling → List ℕ → Filling
pour f [] = f
pour f (b ∷ bytes) = pour (pour_byte f b) bytes
