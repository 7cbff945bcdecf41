-- Fields as values: numbers, and bytes by content. "Two messages are the same when their numbers are equal and their
-- byte fields equal, entry by entry." And the shortest form of each.
use Rattle.std.specs.Prelude.{ℕ, zero, suc, ◌+◌, List, [], ◌∷◌, ◌++◌, Bool, length, take, drop}
use Rattle.integer.specs.Integer.{enc_of, greatest}
use Rattle.field.specs.Outcome.{Outcome, whole, and_then, on_found}
use Rattle.field.specs.Entries.{size, entry_at, entries_at}
use Rattle.field.specs.declared.Span.{Span}
use Rattle.field.specs.declared.Entry.{Entry}
use Rattle.field.specs.declared.Entries.{Entries}
use Rattle.field.specs.declared.Kind.{Kind}
use Rattle.field.specs.declared.Kind.TheVariants.{Namespace, Parameters, Versions}
use Rattle.field.specs.declared.Sums.{Sums}
use Rattle.field.specs.declared.Piece.{Piece}
use Rattle.field.specs.declared.Piece.TheVariants.{Number, Byte, Bytes, List as Listing, Track as Tracked}

-- the bytes of a part
abbrev pub part : List ℕ → Span → List ℕ
part s p = take (size p) (drop p.start s)

-- the part of what has none
abbrev pub nowhere : Span
nowhere = record { start = 0; end = 0 }

pub record EntryValue : Type 0 where
  pub number : ℕ
  pub bytes : List ℕ

abbrev pub entry_value : List ℕ → Entry → EntryValue
entry_value s e = record { number = e.number; bytes = part s e.bytes }

-- count entries from an offset on, by content; none from where one is missing on
unfoldable pub entry_values : Kind → ℕ → List ℕ → ℕ → List EntryValue
entry_values kind zero s at = []
entry_values kind (suc count) s at =
    on_found (entry_at kind greatest s at) [] (λ e end. entry_value s e ∷ entry_values kind count s end)

-- the bytes that entries hold
unfoldable pub total : List EntryValue → ℕ
total [] = 0
total (i ∷ is) = length i.bytes + total is

pub data Value : Type 0 where
  number : ℕ → Value
  octet : ℕ → Value
  text : List ℕ → Value
  items : Kind → List EntryValue → Value
  full_name : List EntryValue → List ℕ → Value

abbrev pub contents : List ℕ → Kind → Entries → List EntryValue
contents s kind l = entry_values kind l.count s l.start

-- the value of a piece of s
unfoldable pub mean : List ℕ → Piece → Value
mean s (Number n) = number n
mean s (Byte b) = octet b
mean s (Bytes p) = text (part s p)
mean s (Listing kind l) = items kind (contents s kind l)
mean s (Tracked t) = full_name (contents s Namespace t.namespace) (part s t.name)

-- ---- the shortest form

unfoldable pub enc_text : List ℕ → List ℕ
enc_text b = enc_of (length b) ++ b

unfoldable pub enc_item : Kind → EntryValue → List ℕ
enc_item Namespace i = enc_text i.bytes
enc_item Parameters i = enc_of i.number ++ enc_text i.bytes
enc_item Versions i = enc_of i.number

unfoldable pub enc_items : Kind → List EntryValue → List ℕ
enc_items kind [] = []
enc_items kind (i ∷ is) = enc_item kind i ++ enc_items kind is

unfoldable pub enc_list : Kind → List EntryValue → List ℕ
enc_list kind is = enc_of (length is) ++ enc_items kind is

unfoldable pub enc_field : Value → List ℕ
enc_field (number n) = enc_of n
enc_field (octet b) = b ∷ []
enc_field (text b) = enc_text b
enc_field (items kind is) = enc_list kind is
enc_field (full_name is name) = enc_list Namespace is ++ enc_text name

unfoldable pub encode : List Value → List ℕ
encode [] = []
encode (v ∷ vs) = enc_field v ++ encode vs

-- how many bytes an entry takes that has a number and holds that many bytes
unfoldable pub item_size : Kind → ℕ → ℕ → ℕ
item_size Namespace n held = length (enc_of held) + held
item_size Parameters n held = length (enc_of n) + (length (enc_of held) + held)
item_size Versions n held = length (enc_of n)

-- ---- what a run of entries comes to: where it ends, the bytes held, and those of its shortest form

unfoldable pub walk_of : Bool → Kind → ℕ → List ℕ → ℕ → Outcome Sums
walk_of sized kind count s at =
    and_then (entries_at sized kind count 0 s at) λ held end.
    whole (record { end = end; held = held; size = length (enc_items kind (entry_values kind count s at)) }) end
