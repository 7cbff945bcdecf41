-- The numbers of a field, and of several. Assumes nothing.
use Prim.Native.Nat.{◌<◌}
use mathlib.Core.Path.{◌≡◌, refl, sym}
use mathlib.Core.Bool.{Bool, true, false, ◌&&◌}
use mathlib.Core.List.{List, [], ◌∷◌}
use Rattle.std.specs.List.{list_all}
use native.Mathlib.Omega.{arith}
use borrow.Author.Tests.{le-leb}
use Rattle.common.specs.Choice.{both}
use Rattle.integer.specs.Integer.{greatest}
use Rattle.field.specs.Entries.{size}
use Rattle.field.specs.declared.Span.{Span}
use Rattle.field.specs.declared.Piece.{Piece}
use Rattle.measure.specs.Small.{small_span, small_piece, small_all}

-- ---- a field

-- a part that ends before it starts has no bytes
pub short-backward : (p : Span) → p.end < p.start → true ≡ small_span p
short-backward p h = sym (le-leb (size p) greatest (omega arith))

-- ---- several

and-both : (a b : Bool) → (a && b) ≡ both a b
and-both true b = refl
and-both false b = refl

-- each is small, or one is not
pub all-small : (ps : List Piece) → list_all small_piece ps ≡ small_all ps
unfolding small_all
all-small [] = refl
all-small (p ∷ ps) = rw (all-small ps) (and-both (small_piece p) (small_all ps))
