-- THE FIELDS, GATHERED FROM THE PARTS: a layout says how many parts each field has, and the parts say the rest.
use Rattle.std.specs.Prelude.{ℕ, ◌+◌, ◌*◌, List, [], ◌∷◌, get_or, drop}
use Rattle.common.specs.Choice.{pick}
use Rattle.field.specs.Fields.{FieldForm, integer, byte, bytes, list, track}
use Rattle.field.specs.declared.Span.{Span}
use Rattle.field.specs.declared.Entries.{Entries}
use Rattle.field.specs.declared.Kind.{Kind}
use Rattle.field.specs.declared.Kind.TheVariants.{Namespace, Parameters, Versions}
use Rattle.field.specs.declared.Piece.{Piece}
use Rattle.field.specs.declared.Piece.TheVariants.{Number, Byte, Bytes, List as Listing, Track as Tracked}
use Rattle.layout.specs.Layout.{Layout, done, forbidden, field, when, control}
use Rattle.layout.specs.Typed.{Typed}
use Rattle.layout.specs.declared.FieldName.TheVariants.{MessageType}
use Rattle.types.specs.Table.{layout_of}
use Rattle.header.specs.Layouts.{InTable, layout_of as layout_in}
use Rattle.parts.specs.Telling.{part_of}
use Rattle.parts.specs.declared.What.TheVariants.{Left}
use Rattle.parts.specs.declared.Part.{Part}

-- the part at a position; where there is none, one that holds nothing
abbrev pub part_at : List Part → ℕ → Part
part_at ps i = get_or ps i (part_of MessageType Left 0 0 0)

-- how many parts an entry has
abbrev pub parts_in : Kind → ℕ
parts_in Namespace = 2
parts_in Parameters = 3
parts_in Versions = 1

-- the position of the last part of a list: its count stands first, and says how many entries follow
abbrev pub last_of : Kind → List Part → ℕ
last_of kind ps = parts_in kind * (part_at ps 0).value

-- ---- a field that these parts begin with

-- how many of them it has
unfoldable pub parts_of_field : FieldForm → List Part → ℕ
parts_of_field integer ps = 1
parts_of_field byte ps = 1
parts_of_field bytes ps = 2
parts_of_field (list kind) ps = last_of kind ps + 1
parts_of_field track ps = last_of Namespace ps + 3

-- the bytes of a part
abbrev pub span_of : Part → Span
span_of p = record { start = p.start; end = p.end }

-- entries stand behind their count
abbrev pub entries_of : Kind → List Part → Entries
entries_of kind ps =
    record { start = (part_at ps 0).end; end = (part_at ps (last_of kind ps)).end; count = (part_at ps 0).value }

-- the field
unfoldable pub field_of : FieldForm → List Part → Piece
field_of integer ps = Number (part_at ps 0).value
field_of byte ps = Byte (part_at ps 0).value
field_of bytes ps = Bytes (span_of (part_at ps 1))
field_of (list kind) ps = Listing kind (entries_of kind ps)
field_of track ps =
    Tracked (record { namespace = entries_of Namespace ps; name = span_of (part_at ps (last_of Namespace ps + 2)) })

-- ---- all fields

unfoldable pub gathered : Layout → List Part → List Piece
gathered done ps = []
gathered forbidden ps = []
gathered (field name form next) ps =
    let f = field_of form ps in
    f ∷ gathered (next (control f)) (drop (parts_of_field form ps) ps)
gathered (when test l m) ps = pick test (gathered l ps) (gathered m ps)

-- a message: its type and its Length stand before its fields
unfoldable pub gathered_message : List Part → Typed
gathered_message ps =
    record { type = (part_at ps 0).value; pieces = gathered (layout_of (part_at ps 0).value) (drop 2 ps) }

-- a header, its type before its fields
unfoldable pub gathered_header : (ℕ → InTable) → List Part → Typed
gathered_header types ps =
    record { type = (part_at ps 0).value; pieces = gathered (layout_in (types (part_at ps 0).value)) (drop 1 ps) }
