-- A line that ends with a size. Assumes nothing.
use Rattle.std.proofs.Common.{◌≡◌, ℕ, List, ◌++◌, append_assoc}
use Rattle.columns.specs.Pouring.{Filling, pour}
use Rattle.columns.specs.Columns.{size_text}
use Rattle.columns.proofs.Poured.{poured-both}
use Rattle.explanation_lines.specs.Lines.{newline}

-- its last two texts come from one call
pub poured-size : (f : Filling) (a : List ℕ) (size : ℕ) {g h : Filling} → g ≡ pour f a
    → h ≡ pour g (size_text size ++ newline) → h ≡ pour f (a ++ size_text size ++ newline)
poured-size f a size p q = rw append_assoc (poured-both f a (size_text size ++ newline) p q)
