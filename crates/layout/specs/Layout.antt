-- A grammar as data: what a body or a header is made of, field by field, and what bytes mean by it.
use Rattle.std.specs.Prelude.{ℕ, List, [], ◌∷◌, map, Bool}
use Rattle.common.specs.Choice.{pick}
use Rattle.field.specs.Outcome.{Outcome, whole, no, and_then}
use Rattle.field.specs.Fields.{FieldForm, integer, bytes, list, field_at}
use Rattle.field.specs.Value.{Value, mean}
use Rattle.field.specs.declared.Fault.TheVariants.{Forbidden}
use Rattle.field.specs.declared.Kind.TheVariants.{Parameters}
use Rattle.field.specs.declared.Piece.{Piece}
use Rattle.field.specs.declared.Piece.TheVariants.{Number, Byte, Bytes, List as Listing, Track as Tracked}
use Rattle.layout.specs.declared.FieldName.{FieldName}
use Rattle.layout.specs.declared.FieldName.TheVariants.{ErrorCode, ReasonPhrase, LargestGroupId, LargestObjectId, Parameters as TheParameters}

-- the end; a forbidden value; a field by its name in 004 and its form, and what follows it, which may depend on the
-- number or the byte that it holds; the one or the other, by a test of the numbers before
pub data Layout : Type 0 where
  done : Layout
  forbidden : Layout
  field : FieldName → FieldForm → (ℕ → Layout) → Layout
  when : Bool → Layout → Layout → Layout

-- two fields that stand together in many messages: a group and an object,
unfoldable pub place : FieldName → FieldName → (ℕ → ℕ → Layout) → Layout
place group object next = field group integer λ g. field object integer λ o. next g o

-- and an error code and a reason
unfoldable pub failure : Layout → Layout
failure next = field ErrorCode integer λ code. field ReasonPhrase bytes λ _. next

-- the parameters that end many messages
unfoldable pub parameters : Layout
parameters = field TheParameters (list Parameters) λ _. done

-- and before them the place where a track's content ends
abbrev pub largest_place : Layout
largest_place = place LargestGroupId LargestObjectId λ group object. parameters

-- what a field hands on to the layout that follows it
abbrev pub control : Piece → ℕ
control (Number n) = n
control (Byte b) = b
control (Bytes p) = 0
control (Listing kind l) = 0
control (Tracked t) = 0

-- WHAT BYTES MEAN: the fields from an offset on, left to right, the first fault deciding
unfoldable pub scan : Layout → List ℕ → ℕ → Outcome (List Piece)
scan done s at = whole [] at
scan forbidden s at = no Forbidden
scan (field name form next) s at =
    and_then (field_at form s at) λ p end. and_then (scan (next (control p)) s end) λ ps last. whole (p ∷ ps) last
scan (when test l m) s at = pick test (scan l s at) (scan m s at)

-- the same by value
abbrev pub valued : List ℕ → Outcome (List Piece) → Outcome (List Value)
valued s (whole ps end) = whole (map (mean s) ps) end
valued s (no fault) = no fault

unfoldable pub values_by : Layout → List ℕ → ℕ → Outcome (List Value)
values_by l s at = valued s (scan l s at)
