-- "Two messages are the same when their numbers are equal and their byte fields equal, entry by entry."
use Rattle.std.specs.Prelude.{ℕ, ◌≡◌, List, map}
use Rattle.field.specs.Value.{mean}
use Rattle.layout.specs.Typed.{Typed}

-- a with its bytes in s, and b with its bytes in t: they are of one type, and their fields have the same values
pub record Same (s : List ℕ) (a : Typed) (t : List ℕ) (b : Typed) : Type 0 where
  pub type : a.type ≡ b.type
  pub values : map (mean s) a.pieces ≡ map (mean t) b.pieces
