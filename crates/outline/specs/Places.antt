-- What stands at a place of a layout.
use Rattle.std.specs.Prelude.{ℕ, List, [], ◌∷◌}
use Rattle.common.specs.Choice.{pick}
use Rattle.field.specs.Fields.{FieldForm, integer, byte, bytes, list, track}
use Rattle.layout.specs.Layout.{Layout, done, forbidden, field, when}
use Rattle.layout.specs.declared.FieldName.{FieldName}
use Rattle.types.specs.Table.{layout_of}
use Rattle.header.specs.Layouts.{layout_of as layout_in, datagrams, streams, subgroup_object, fetch_object}
use Rattle.outline.specs.declared.Form.{Form}
use Rattle.outline.specs.declared.Form.TheVariants.{Integer, Byte, Bytes, List as Listing, Track as Tracked}
use Rattle.outline.specs.declared.Ahead.{Ahead}
use Rattle.outline.specs.declared.Ahead.TheVariants.{Field, Done, Forbidden}
use Rattle.outline.specs.declared.Outline.{Outline}
use Rattle.outline.specs.declared.Outline.TheVariants.{Message, Datagram, Stream, SubgroupObject, FetchObject}

-- a form of field, as the definitions have it,
abbrev pub form_of : Form → FieldForm
form_of Integer = integer
form_of Byte = byte
form_of Bytes = bytes
form_of (Listing kind) = list kind
form_of Tracked = track

-- and a layout that is a list of fields, whatever they hold
unfoldable pub listed : List (FieldName × Form) → Layout
listed [] = done
listed (f ∷ rest) = field f.0 (form_of f.1) λ n. listed rest

-- what is left of a layout after its first fields, which handed on these numbers
unfoldable pub rest_of : Layout → List ℕ → Layout
rest_of l [] = l
rest_of done (n ∷ ns) = done
rest_of forbidden (n ∷ ns) = forbidden
rest_of (field name form next) (n ∷ ns) = rest_of (next n) ns
rest_of (when test l m) (n ∷ ns) = pick test (rest_of l (n ∷ ns)) (rest_of m (n ∷ ns))

abbrev pub form_in : FieldForm → Form
form_in integer = Integer
form_in byte = Byte
form_in bytes = Bytes
form_in (list kind) = Listing kind
form_in track = Tracked

-- what a layout begins with
unfoldable pub ahead_of : Layout → Ahead
ahead_of done = Done
ahead_of forbidden = Forbidden
ahead_of (field name form next) = Field name (form_in form)
ahead_of (when test l m) = pick test (ahead_of l) (ahead_of m)

-- the layout of what is laid out
unfoldable pub laid_out : Outline → Layout
laid_out (Message type) = layout_of type
laid_out (Datagram type) = layout_in (datagrams type)
laid_out (Stream type) = layout_in (streams type)
laid_out SubgroupObject = subgroup_object
laid_out FetchObject = fetch_object

-- WHAT STANDS AT A PLACE
unfoldable pub ahead_at : Outline → List ℕ → Ahead
ahead_at outline ns = ahead_of (rest_of (laid_out outline) ns)
