-- THE LINES of an explanation: an offset, bytes, and what they are.
use Rattle.std.specs.Prelude.{ℕ, ◌-◌, Bool, false, List, [], ◌∷◌, ◌++◌, length, ◌==◌, nat_lt, slice_index, slice_range}
use Rattle.common.specs.Choice.{pick, guard}
use Rattle.integer.specs.Integer.{size_of, enc_of}
use Rattle.field.specs.Outcome.{on_found}
use Rattle.field.specs.Entries.{number_at}
use Rattle.layout.specs.declared.FieldName.{FieldName}
use Rattle.layout.specs.declared.FieldName.TheVariants.{MessageLength, MaximumSubscribeId, TrackAlias, GroupId, ObjectId}
use Rattle.types.specs.Letters.{letters}
use Rattle.types.specs.Table.{name_of}
use Rattle.parts.specs.Telling.{part_of}
use Rattle.parts.specs.declared.What.{What}
use Rattle.parts.specs.declared.What.TheVariants.{Number, Byte, Length, Content, Count, EntryNumber, EntryLength, EntryContent, Left}
use Rattle.parts.specs.declared.Part.{Part}
use Rattle.parts.specs.declared.Step.{Step}
use Rattle.parts.specs.declared.Step.TheVariants.{Part as APart, Refused as IsRefused, Faulty, Whole}
use Rattle.text.specs.Decimals.{decimal_of}
use Rattle.text.specs.Lines.{item_of}
use Rattle.text.specs.declared.Item.TheVariants.{Rule}
use Rattle.columns.specs.Columns.{spaces, offset_column, hex_bytes, bytes_column, hex_of, size_text, content_text}
use Rattle.labels.specs.Labels.{label_of}
use Rattle.labels.specs.Meanings.{meaning_of}
use Rattle.trace.specs.Fields.{offset_of}
use Rattle.explanation_lines.specs.Words.{word_of}
use Rattle.explanation_lines.specs.declared.Word.{Word}
use Rattle.explanation_lines.specs.declared.Held.{Held}
use Rattle.explanation_lines.specs.declared.Held.TheVariants.{Number as ANumber, Byte as AByte, Bytes, Left as NoPart}

abbrev pub newline : List ℕ
newline = 10 ∷ []

-- the bytes from an offset up to another
abbrev pub between : List ℕ → ℕ → ℕ → List ℕ
between s start end = slice_range s start end

-- what a line begins with: the offset of its bytes, and the bytes; an offset is kept in 64 bits
unfoldable pub margin : ℕ → List ℕ → ℕ → ℕ → List ℕ
margin offset s start end = offset_column (offset_of offset start) ++ bytes_column (between s start end)

-- ---- the line of a field: what it is by its tag, and the length of its value

unfoldable pub tag_words : ℕ → List ℕ
tag_words tag =
    pick (tag == 1) (letters "start")
    (pick (tag == 2) (letters "message")
    (pick (tag == 3) (letters "arrival") (letters "tag " ++ decimal_of tag)))

unfoldable pub field_line : ℕ → List ℕ → List ℕ
field_line offset field =
    margin offset field 0 3 ++ tag_words (slice_index field 0)
    ++ letters ", " ++ size_text (length field - 3) ++ newline

-- ---- the line of a part, of bytes whose first one has that offset

-- two places to the right; what it is called,
unfoldable pub called : ℕ → List ℕ → Part → List ℕ
called offset s p =
    margin offset s p.start p.end ++ spaces 2 ++ label_of p.name p.what ++ letters ": "

-- and what it holds: a type has a name, if it is known
unfoldable pub type_text : ℕ → List ℕ
type_text n =
    pick (nat_lt 0 (length (name_of n)))
    (name_of n ++ letters " (0x" ++ hex_of n ++ letters ")")
    (letters "0x" ++ hex_of n)

-- a number in more bytes than it needs is shown in its shortest form too
unfoldable pub shortest_text : ℕ → ℕ → List ℕ
shortest_text used n = pick (used == size_of n) [] (letters ", shortest form " ++ hex_bytes (enc_of n))

unfoldable pub number_text : Bool → ℕ → ℕ → List ℕ
number_text is_type used n = pick is_type (type_text n) (decimal_of n) ++ shortest_text used n

-- what a part holds: a number; a byte; bytes
abbrev pub held_by : What → Held
held_by Number = ANumber
held_by Length = ANumber
held_by Count = ANumber
held_by EntryNumber = ANumber
held_by EntryLength = ANumber
held_by Byte = AByte
held_by Content = Bytes
held_by EntryContent = Bytes
held_by Left = NoPart

abbrev pub value_text : Held → Bool → List ℕ → Part → List ℕ
value_text ANumber is_type s p = number_text is_type (p.end - p.start) p.value
value_text AByte is_type s p = decimal_of p.value
value_text Bytes is_type s p = content_text (between s p.start p.end)
value_text NoPart is_type s p = size_text (p.end - p.start)

unfoldable pub part_line : ℕ → List ℕ → Bool → Part → List ℕ
part_line offset s is_type p = called offset s p ++ value_text (held_by p.what) is_type s p ++ newline

-- a part that the end cuts, or bytes that no part takes
abbrev pub fault_text : Held → ℕ → List ℕ
fault_text ANumber size = letters "cut"
fault_text AByte size = letters "cut"
fault_text Bytes size = letters "cut"
fault_text NoPart size = size_text size

unfoldable pub faulty_line : ℕ → List ℕ → Part → List ℕ
faulty_line offset s p = called offset s p ++ fault_text (held_by p.what) (p.end - p.start) ++ newline

-- bytes that are left, if there are any
unfoldable pub left_line : ℕ → List ℕ → ℕ → List ℕ
left_line offset s used =
    pick (nat_lt used (length s)) (faulty_line offset s (part_of MessageLength Left 0 used (length s))) []

-- ---- what is said of a part, or of a field, by document 01's number

unfoldable pub numbered : ℕ → List ℕ
numbered number = decimal_of number ++ letters ", " ++ meaning_of number

-- "a refused part": the mark stands under it
unfoldable pub mark_line : ℕ → List ℕ
mark_line number = spaces 33 ++ letters "^ " ++ numbered number ++ newline

-- a message begins with its type; a refused part is marked
abbrev pub step_lines : Step → ℕ → List ℕ → List ℕ
step_lines (APart p) offset s = part_line offset s (p.start == 0) p
step_lines (IsRefused number) offset s = mark_line number
step_lines (Faulty p number) offset s = faulty_line offset s p ++ mark_line number
step_lines (Whole used) offset s = left_line offset s used

-- with a 13 stands its rule
unfoldable pub rule_text : ℕ → List ℕ
rule_text rule = pick (rule == 0) [] (spaces 1 ++ item_of (Rule rule))

unfoldable pub answer_line : ℕ → ℕ → List ℕ
answer_line number rule = spaces 5 ++ letters "answered " ++ numbered number ++ rule_text rule ++ newline

unfoldable pub fault_line : Word → List ℕ
fault_line reason = spaces 5 ++ letters "fault: " ++ word_of reason ++ newline

-- ---- the values that a trace has itself

-- a number that the bytes end in
unfoldable pub cut_lines : FieldName → ℕ → List ℕ → ℕ → List ℕ
cut_lines name offset s at = faulty_line offset s (part_of name Number 0 at (length s)) ++ mark_line 1

-- numbers, one after the other, and what is left after them
unfoldable pub number_lines : List FieldName → ℕ → List ℕ → ℕ → List ℕ
number_lines [] offset s at = left_line offset s at
number_lines (name ∷ names) offset s at =
    on_found (number_at s at) (cut_lines name offset s at)
    (λ n end. part_line offset s false (part_of name Number n at end) ++ number_lines names offset s end)

-- "alias, group, object as integers"
unfoldable pub arrival_lines : ℕ → List ℕ → List ℕ
arrival_lines offset s = number_lines (TrackAlias ∷ GroupId ∷ ObjectId ∷ []) offset s 0

-- "part (one byte: 0 subscriber, 1 publisher), then the maximum"
unfoldable pub start_lines : ℕ → List ℕ → List ℕ
start_lines offset s =
    margin offset s 0 1 ++ letters "  Part: " ++
    guard (nat_lt 0 (length s)) (letters "cut" ++ newline ++ mark_line 1)
    (decimal_of (slice_index s 0) ++ newline ++ number_lines (MaximumSubscribeId ∷ []) offset s 1)

-- the values of a start and of an arrival are shown with their field
unfoldable pub value_lines : ℕ → ℕ → List ℕ → List ℕ
value_lines tag offset value =
    pick (tag == 1) (start_lines offset value) (pick (tag == 3) (arrival_lines offset value) [])

-- ---- a field that the trace's end cuts

unfoldable pub cut_field_line : ℕ → List ℕ → List ℕ
cut_field_line offset rest =
    margin offset rest 0 (length rest) ++ letters "cut field, " ++ size_text (length rest) ++ newline
