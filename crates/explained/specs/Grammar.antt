-- A LAYOUT DOWN TO ITS PARTS: each field as the integers, bytes and counted bytes that it is made of.
use Rattle.std.specs.Prelude.{ℕ, zero, suc, ◌+◌, Bool, true, leb}
use Rattle.common.specs.Choice.{guard, pick}
use Rattle.field.specs.Entries.{most_of, few}
use Rattle.field.specs.Fields.{FieldForm, integer, byte, bytes, list, track}
use Rattle.field.specs.declared.Kind.{Kind}
use Rattle.field.specs.declared.Kind.TheVariants.{Namespace, Parameters, Versions}
use Rattle.field.specs.declared.Fault.{Fault}
use Rattle.field.specs.declared.Fault.TheVariants.{Forbidden, Oversize}
use Rattle.layout.specs.Layout.{Layout, done, forbidden, field, when}
use Rattle.layout.specs.declared.FieldName.{FieldName}
use Rattle.parts.specs.declared.What.{What}
use Rattle.parts.specs.declared.What.TheVariants.{Number, Length, Content, Count, EntryNumber, EntryLength, EntryContent}

-- nothing more; a refusal, for what the part before holds; an integer, or a byte, and what follows it, which may depend
-- on the number that it holds; so many bytes, and what follows them
pub data Parts : Type 0 where
  end : Parts
  stop : Fault → Parts
  a_number : FieldName → What → (ℕ → Parts) → Parts
  a_byte : FieldName → (ℕ → Parts) → Parts
  some_bytes : FieldName → What → ℕ → Parts → Parts

-- "Sizes (6, never 5)": judged as soon as the number is read
abbrev pub within : Bool → Parts → Parts
within test rest = guard test (stop Oversize) rest

-- count entries, when those before hold that many bytes: a field of a namespace is a length and bytes; a parameter a
-- type, a length and bytes; a version a number. And what follows them, by how many bytes are held then
unfoldable pub entry_parts : Kind → FieldName → ℕ → ℕ → (ℕ → Parts) → Parts
entry_parts kind name zero held next = next held
entry_parts Namespace name (suc count) held next =
    a_number name EntryLength λ n.
    within (leb n (most_of true Namespace held))
    (some_bytes name EntryContent n (entry_parts Namespace name count (held + n) next))
entry_parts Parameters name (suc count) held next =
    a_number name EntryNumber λ type. a_number name EntryLength λ n.
    some_bytes name EntryContent n (entry_parts Parameters name count (held + n) next)
entry_parts Versions name (suc count) held next =
    a_number name EntryNumber λ version. entry_parts Versions name count held next

-- a count and as many entries
unfoldable pub list_parts : Kind → FieldName → (ℕ → Parts) → Parts
list_parts kind name next = a_number name Count λ count. within (few kind count) (entry_parts kind name count 0 next)

-- a field, and what follows it, by what the field hands on
unfoldable pub field_parts : FieldForm → FieldName → (ℕ → Parts) → Parts
field_parts integer name next = a_number name Number next
field_parts byte name next = a_byte name next
field_parts bytes name next = a_number name Length λ n. some_bytes name Content n (next 0)
field_parts (list kind) name next = list_parts kind name λ held. next 0
field_parts track name next =
    list_parts Namespace name λ held.
    a_number name Length λ n. within (leb n (most_of true Namespace held)) (some_bytes name Content n (next 0))

unfoldable pub parts_of : Layout → Parts
parts_of done = end
parts_of forbidden = stop Forbidden
parts_of (field name form next) = field_parts form name (λ n. parts_of (next n))
parts_of (when test l m) = pick test (parts_of l) (parts_of m)
