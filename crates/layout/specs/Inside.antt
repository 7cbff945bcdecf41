-- Where pieces lie among the bytes: each part between where reading began and where it ended.
use Rattle.std.specs.Prelude.{ℕ, ◌≤◌, List, [], ◌∷◌}
use Rattle.field.specs.declared.Piece.{Piece}
use Rattle.field.specs.declared.Piece.TheVariants.{Number, Byte, Bytes, List as Listing, Track as Tracked}

-- a part from `start` up to `end`: in order, not before `low` and not past `high`
pub record Between (low start end high : ℕ) : Type 0 where
  pub starts : low ≤ start
  pub ordered : start ≤ end
  pub ends : end ≤ high

-- the parts of a piece: none, its bytes, its entries, or its namespace and after it its name
unfoldable pub Lies : ℕ → ℕ → Piece → Type 0
Lies low high (Number n) = Unit {0}
Lies low high (Byte b) = Unit {0}
Lies low high (Bytes p) = Between low p.start p.end high
Lies low high (Listing kind l) = Between low l.start l.end high
Lies low high (Tracked t) =
    Between low t.namespace.start t.namespace.end high
    × Between t.namespace.end t.name.start t.name.end high

-- the parts of all pieces
unfoldable pub Inside : ℕ → ℕ → List Piece → Type 0
Inside low high [] = Unit {0}
Inside low high (p ∷ ps) = Lies low high p × Inside low high ps
