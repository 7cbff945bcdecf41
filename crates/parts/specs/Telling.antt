-- THE NEXT PART: what stands at a cursor, looked for among the bytes.
use Rattle.std.specs.Prelude.{ℕ, ◌+◌, ◌-◌, List, Bool, true, false, length, take, get_or, leb, ltb, eqb}
use Rattle.common.specs.Choice.{guard, pick, both}
use Rattle.field.specs.Outcome.{on_found}
use Rattle.field.specs.Entries.{number_at}
use Rattle.header.specs.Layouts.{object_datagram_status_row}
use Rattle.layout.specs.declared.FieldName.{FieldName}
use Rattle.layout.specs.declared.FieldName.TheVariants.{MessageLength}
use Rattle.outline.specs.declared.Outline.{Outline}
use Rattle.outline.specs.declared.Outline.TheVariants.{Message, Datagram, Stream, SubgroupObject, FetchObject}
use Rattle.parts.specs.Expecting.{expected_of}
use Rattle.parts.specs.Advancing.{advanced}
use Rattle.parts.specs.declared.What.{What}
use Rattle.parts.specs.declared.What.TheVariants.{Byte as AByte, Left}
use Rattle.parts.specs.declared.Part.{Part}
use Rattle.parts.specs.declared.Stage.{Stage}
use Rattle.parts.specs.declared.Stage.TheVariants.{TypeNumber as AtType, Length as AtLength, Refused as Stopped, Field as AtField, Content, Entry, EntryLength, EntryContent, NameLength}
use Rattle.parts.specs.declared.Cursor.{Cursor}
use Rattle.parts.specs.declared.Expected.{Expected}
use Rattle.parts.specs.declared.Expected.TheVariants.{Number, Byte, Bytes, End, Refused}
use Rattle.parts.specs.declared.Step.{Step}
use Rattle.parts.specs.declared.Step.TheVariants.{Part as APart, Refused as IsRefused, Faulty, Whole}
use Rattle.parts.specs.declared.NextPart.{NextPart}

abbrev pub part_of : FieldName → What → ℕ → ℕ → ℕ → Part
part_of name what value start end = record { name = name; what = what; value = value; start = start; end = end }

-- a part, and where the next one stands;
abbrev pub going : Part → Cursor → NextPart
going part cursor = record { step = APart part; cursor = cursor }

-- or what is told where no part follows
abbrev pub staying : Step → Cursor → NextPart
staying step c = record { step = step; cursor = c }

-- ---- where the bytes end in a part

-- 1 where more bytes can come: on a stream, and before the body of a message; 4 in a body, and in a datagram
abbrev pub in_body : Stage → ℕ
in_body AtType = 1
in_body AtLength = 1
in_body (Stopped number) = 4
in_body AtField = 4
in_body (Content size) = 4
in_body (Entry left held) = 4
in_body (EntryLength left held) = 4
in_body (EntryContent left held size) = 4
in_body (NameLength held) = 4

abbrev pub cut_by : Outline → Stage → ℕ
cut_by (Message type) stage = in_body stage
cut_by (Datagram type) stage = 4
cut_by (Stream type) stage = 1
cut_by SubgroupObject stage = 1
cut_by FetchObject stage = 1

unfoldable pub cut_in : ℕ → Cursor → FieldName → What → NextPart
cut_in end c name what = staying (Faulty (part_of name what 0 c.at end) (cut_by c.place.outline c.stage)) c

-- ---- where no field is left

-- of a body, and of a status datagram, no byte may be left either
abbrev pub must_fill : Outline → Bool
must_fill (Message type) = true
must_fill (Datagram type) = eqb type object_datagram_status_row.number
must_fill (Stream type) = false
must_fill SubgroupObject = false
must_fill FetchObject = false

unfoldable pub ended_at : ℕ → Cursor → NextPart
ended_at all c =
    pick (both (ltb c.at all) (must_fill c.place.outline))
    (staying (Faulty (part_of MessageLength Left 0 c.at all) 4) c) (staying (Whole c.at) c)

-- ---- a part

-- an integer,
unfoldable pub tell_number : List ℕ → Cursor → FieldName → What → NextPart
tell_number s c name what =
    on_found (number_at s c.at) (cut_in (length s) c name what)
    (λ n end. going (part_of name what n c.at end) (advanced c n end (length s)))

-- a byte,
unfoldable pub tell_byte : List ℕ → Cursor → FieldName → NextPart
tell_byte s c name =
    let b = get_or s c.at 0 in
    guard (ltb c.at (length s)) (cut_in (length s) c name AByte)
    (going (part_of name AByte b c.at (c.at + 1)) (advanced c b (c.at + 1) (length s)))

-- so many bytes
unfoldable pub tell_bytes : List ℕ → Cursor → FieldName → What → ℕ → NextPart
tell_bytes s c name what size =
    guard (both (leb c.at (length s)) (leb size (length s - c.at))) (cut_in (length s) c name what)
    (going (part_of name what 0 c.at (c.at + size)) (advanced c 0 (c.at + size) (length s)))

abbrev pub tell_as : Expected → List ℕ → Cursor → NextPart
tell_as (Number name what) s c = tell_number s c name what
tell_as (Byte name) s c = tell_byte s c name
tell_as (Bytes name what size) s c = tell_bytes s c name what size
tell_as End s c = ended_at (length s) c
tell_as (Refused number) s c = staying (IsRefused number) c

unfoldable pub tell_in : List ℕ → Cursor → NextPart
tell_in s c = tell_as (expected_of c) s c

-- among the bytes that it may take
unfoldable pub next_of : List ℕ → Cursor → NextPart
next_of s c = tell_in (take c.end s) c
