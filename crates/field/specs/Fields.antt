-- The kinds of field of sections 8 and 9 of source document 004, and what each reads as at an offset.
use Rattle.std.specs.Prelude.{ℕ, ◌+◌, List, true, length, get_or, ltb}
use Rattle.common.specs.Choice.{guard}
use Rattle.integer.specs.Integer.{greatest}
use Rattle.field.specs.Outcome.{Outcome, whole, no, and_then}
use Rattle.field.specs.Entries.{number_at, text_at, most_of, list_at}
use Rattle.field.specs.declared.Fault.TheVariants.{Cut}
use Rattle.field.specs.declared.Kind.{Kind}
use Rattle.field.specs.declared.Kind.TheVariants.{Namespace}
use Rattle.field.specs.declared.Place.{Place}
use Rattle.field.specs.declared.Failure.{Failure}
use Rattle.field.specs.declared.Piece.{Piece}
use Rattle.field.specs.declared.Piece.TheVariants.{Number, Byte, Bytes, List as Listing, Track as Tracked}

pub data FieldForm : Type 0 where
  integer : FieldForm
  byte : FieldForm
  bytes : FieldForm
  list : Kind → FieldForm
  track : FieldForm

unfoldable pub field_at : FieldForm → List ℕ → ℕ → Outcome Piece
field_at integer s at = and_then (number_at s at) λ n end. whole (Number n) end
field_at byte s at = guard (ltb at (length s)) (no Cut) (whole (Byte (get_or s at 0)) (at + 1))
field_at bytes s at = and_then (text_at greatest s at) λ p end. whole (Bytes p) end
field_at (list kind) s at = and_then (list_at kind s at) λ l end. whole (Listing kind l.entries) end
field_at track s at =
    and_then (list_at Namespace s at) λ l next.
    and_then (text_at (most_of true Namespace l.held) s next) λ name end.
    whole (Tracked (record { namespace = l.entries; name = name })) end

-- ---- two fields that stand together

-- "A place is a group and an object"
unfoldable pub place_at : List ℕ → ℕ → Outcome Place
place_at s at =
    and_then (number_at s at) λ group next. and_then (number_at s next) λ object end.
    whole (record { group = group; object = object }) end

-- an error code and a reason
unfoldable pub failure_at : List ℕ → ℕ → Outcome Failure
failure_at s at =
    and_then (number_at s at) λ code next. and_then (text_at greatest s next) λ reason end.
    whole (record { code = code; reason = reason }) end
