-- The fields of a message, behind the number of its type. Assumes nothing.
use mathlib.Core.Path.{◌≡◌, refl}
use Rattle.layout.specs.Typed.{Typed}
use Rattle.measure.specs.Fields.{placed, fields_of}

-- fields that are placed are found again
pub fields-placed : (t : Typed) → fields_of (placed t) ≡ t.pieces
unfolding fields_of placed
fields-placed t = refl
