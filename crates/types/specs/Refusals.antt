-- The refusals by document 01's numbers: "1 more bytes needed", "2 unknown type", 3 a body over the limit, "4 fields
-- don't fill the body exactly, or a cut datagram header", "5 forbidden value", "6 size".
use Rattle.std.specs.Prelude.{ℕ}
use Rattle.field.specs.declared.Fault.{Fault}
use Rattle.field.specs.declared.Fault.TheVariants.{Cut as FieldCut, Forbidden as FieldForbidden, Oversize as FieldOversize}
use Rattle.types.specs.declared.Refusal.{Refusal}
use Rattle.types.specs.declared.Refusal.TheVariants.{More, Unknown, TooLong, Unfilled, Forbidden, Oversize}

abbrev pub number_of : Refusal → ℕ
number_of More = 1
number_of Unknown = 2
number_of TooLong = 3
number_of Unfilled = 4
number_of Forbidden = 5
number_of Oversize = 6

-- what a fault is in a body, which is all there: a field that is cut doesn't fill it
abbrev pub in_body : Fault → Refusal
in_body FieldCut = Unfilled
in_body FieldForbidden = Forbidden
in_body FieldOversize = Oversize
