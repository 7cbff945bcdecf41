-- A column: a text, and the spaces that fill it. Assumes nothing.
use Prim.Native.Nat.{ℕ}
use mathlib.Core.Path.{◌≡◌}
use mathlib.Core.List.{List}
use lib.ListN.{length}
use Rattle.columns.specs.Pouring.{Filling, pour}
use Rattle.columns.specs.Columns.{spaces, gap, column}
use Rattle.columns.proofs.Poured.{poured-both}

pub column-poured : (f : Filling) (width : ℕ) (text : List ℕ) {g h : Filling} {size count : ℕ} → g ≡ pour f text
    → size ≡ length text → count ≡ gap width size → h ≡ pour g (spaces count) → h ≡ pour f (column width text)
unfolding column
column-poured f width text p e c q = poured-both f text (spaces (gap width (length text))) p (rw (c, e) at q)
