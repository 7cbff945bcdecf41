-- "Input fields of the trace: one-byte tag, two-byte length (big-endian), value." A field is here all of its bytes.
use Rattle.std.specs.Prelude.{ℕ, ◌+◌, ◌*◌, ◌%◌, ◌^◌, Bool, List, Option, Some, None, length, get_or, drop, leb}
use Rattle.common.specs.Choice.{guard, both}
use Rattle.trace.specs.declared.Field.{Field}

unfoldable pub number_of_tag : List ℕ → ℕ
number_of_tag field = get_or field 0 0

unfoldable pub value_of : List ℕ → List ℕ
value_of field = drop 3 field

-- how many bytes a field takes, by its second and its third
unfoldable pub field_size : List ℕ → ℕ
field_size field = 3 + (get_or field 1 0 * 256 + get_or field 2 0)

-- whether a field stands at the front of bytes
unfoldable pub is_whole : List ℕ → Bool
is_whole s = both (leb 3 (length s)) (leb (field_size s) (length s))

-- the field at an offset: its tag, and where its value stands; none where the bytes end before it does
unfoldable pub field_of : List ℕ → ℕ → Option Field
field_of s at =
    guard (is_whole (drop at s)) None
    (Some (record { tag = number_of_tag (drop at s); start = at + 3; end = at + field_size (drop at s) }))

-- an offset is kept in 64 bits, which no trace uses up
unfoldable pub offset_of : ℕ → ℕ → ℕ
offset_of offset size = (offset + size) % 2 ^ 64
