-- Which lists of fields a layout permits: those that it would read.
use Rattle.std.specs.Prelude.{ℕ, ◌+◌, List, [], ◌∷◌, Bool, true, false, length, leb, eqb}
use Rattle.common.specs.Choice.{pick, both}
use Rattle.integer.specs.Integer.{greatest}
use Rattle.field.specs.Entries.{longest_track, few}
use Rattle.field.specs.Fields.{FieldForm, integer, byte, bytes, list, track}
use Rattle.field.specs.Value.{Value, number, octet, text, items, full_name, EntryValue, total}
use Rattle.field.specs.declared.Kind.{Kind}
use Rattle.field.specs.declared.Kind.TheVariants.{Namespace, Parameters, Versions}
use Rattle.layout.specs.Layout.{Layout, done, forbidden, field, when}

-- an entry that can be written, and holds nothing that its kind has no place for
unfoldable pub good_item : Kind → EntryValue → Bool
good_item Namespace i = both (eqb i.number 0) (leb (length i.bytes) greatest)
good_item Parameters i = both (leb i.number greatest) (leb (length i.bytes) greatest)
good_item Versions i = both (leb i.number greatest) (eqb (length i.bytes) 0)

unfoldable pub good_items : Kind → List EntryValue → Bool
good_items kind [] = true
good_items kind (i ∷ is) = both (good_item kind i) (good_items kind is)

-- the sizes: how many entries, and for a namespace how many bytes, with `also` of a name
unfoldable pub within : Kind → ℕ → Bool
within Namespace held = leb held longest_track
within Parameters held = true
within Versions held = true

unfoldable pub good_list : Kind → List EntryValue → ℕ → Bool
good_list kind is also =
    both (leb (length is) greatest) (both (few kind (length is))
    (both (good_items kind is) (within kind (total is + also))))

unfoldable pub good : Value → Bool
good (number n) = leb n greatest
good (octet b) = true
good (text b) = leb (length b) greatest
good (items kind is) = good_list kind is 0
good (full_name is name) = good_list Namespace is (length name)

-- the kind of field that a value is of
abbrev pub form_of : Value → FieldForm
form_of (number n) = integer
form_of (octet b) = byte
form_of (text b) = bytes
form_of (items kind is) = list kind
form_of (full_name is name) = track

-- what a value hands on to the layout that follows it
abbrev pub handed : Value → ℕ
handed (number n) = n
handed (octet b) = b
handed (text b) = 0
handed (items kind is) = 0
handed (full_name is name) = 0

-- forms told apart by a number
unfoldable pub code : FieldForm → ℕ
code integer = 0
code byte = 1
code bytes = 2
code (list Namespace) = 3
code (list Parameters) = 4
code (list Versions) = 5
code track = 6

unfoldable pub permitted : Layout → List Value → Bool
permitted done [] = true
permitted done (v ∷ vs) = false
permitted forbidden vs = false
permitted (field name form next) [] = false
permitted (field name form next) (v ∷ vs) =
    both (eqb (code form) (code (form_of v))) (both (good v) (permitted (next (handed v)) vs))
permitted (when test l m) vs = pick test (permitted l vs) (permitted m vs)
