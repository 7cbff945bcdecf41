-- How long the lines can be, whatever they tell of. Assumes nothing.
use Rattle.std.proofs.Common.{ℕ, zero, suc, ◌+◌, ◌-◌, ◌*◌, ◌/◌, ◌<◌, ◌≤◌, Bool, false, eqb, ltb, List, [], ◌∷◌, length, get_or, take, le_refl, arith, length-append, length-take, ltb-true}
use lib.ListN.{length-replicate}
use Rattle.common.proofs.Cases.{pick-by, pick-le}
use Rattle.integer.specs.Integer.{size_of, enc_of}
use Rattle.integer.proofs.Laws.{enc-few}
use Rattle.field.specs.Outcome.{Outcome, whole, no, on_found}
use Rattle.field.specs.Entries.{number_at}
use Rattle.layout.specs.declared.FieldName.{FieldName}
use Rattle.layout.specs.declared.FieldName.TheVariants.{MessageLength, MaximumSubscribeId, TrackAlias, GroupId, ObjectId}
use Rattle.types.specs.Letters.{letters}
use Rattle.types.specs.Table.{name_of}
use Rattle.parts.specs.Telling.{part_of}
use Rattle.parts.specs.declared.What.TheVariants.{Number, Left}
use Rattle.parts.specs.declared.Part.{Part}
use Rattle.text.specs.Decimals.{decimal_of}
use Rattle.text.specs.declared.Item.TheVariants.{Rule}
use Rattle.text.proofs.Bounds.{number_bound, name-bound, item-bound}
use Rattle.columns.specs.Columns.{column, offset_column, offset_width, shown_bytes, most_shown, bytes_column, bytes_width, hex_in, hex_of, size_text, is_text, text_or, most_text, content_text}
use Rattle.columns.proofs.HexDigits.{hex-length, all-length, some-length}
use Rattle.labels.proofs.TextBounds.{label-bound, meaning-bound}
use Rattle.trace.specs.Fields.{offset_of}
use Rattle.explanation_lines.specs.Words.{word_of}
use Rattle.explanation_lines.specs.Lines.{between, margin, tag_words, field_line, called, type_text, shortest_text, number_text, held_by, value_text, part_line, fault_text, faulty_line, left_line, numbered, mark_line, rule_text, answer_line, fault_line, cut_lines, number_lines, arrival_lines, start_lines, cut_field_line}
use Rattle.explanation_lines.specs.declared.Held.{Held}
use Rattle.explanation_lines.specs.declared.Held.TheVariants.{Number as ANumber, Byte as AByte, Bytes, Left as NoPart}
use Rattle.explanation_lines.specs.declared.Word.{Word}
use Rattle.explanation_lines.specs.declared.Word.TheVariants.{NoTag, NotFirst, SecondStart, NoStart, NoMessage, NoArrival, EndsInside, NoBytes}

-- a text takes that many bytes at most
abbrev pub Few : ℕ → List ℕ → Type 0
Few n text = length text ≤ n

-- ---- words and columns

-- the longest of the words tells what a start is
word_bound : (word : Word) → Few 37 (word_of word)
unfolding word_of letters
word_bound NoTag = omega arith
word_bound NotFirst = omega arith
word_bound SecondStart = omega arith
word_bound NoStart = omega arith
word_bound NoMessage = omega arith
word_bound NoArrival = omega arith
word_bound EndsInside = omega arith
word_bound NoBytes = omega arith

-- a column is as wide as it should be, or has one space behind its text
column-bound : (n width : ℕ) (text : List ℕ) → length text < n → width ≤ n → Few n (column width text)
unfolding column
column-bound n width text h k =
    rw (length-append, length-replicate)
    (pick-by (λ (size : ℕ). length text + size ≤ n) (ltb (length text) width)
    (λ e. omega (arith, ltb-true (length text) width e))
    (λ e. omega arith))

shown-bound : (s : List ℕ) → Few 25 (shown_bytes s)
shown-bound s =
    pick-le (λ (k : ℕ). Few 25 (shown_bytes s)) (length s) most_shown {a = 0} {b = 0}
    (λ h. omega (arith, all-length s h))
    (λ h. omega (arith, some-length s h))

margin-bound : (offset : ℕ) (s : List ℕ) (start end : ℕ) → Few 47 (margin offset s start end)
unfolding margin offset_column bytes_column
margin-bound offset s start end =
    let at = decimal_of (offset_of offset start) in
    let bytes = shown_bytes (between s start end) in
    let first = column-bound 21 offset_width at (omega (arith, number_bound (offset_of offset start))) (omega arith) in
    let second = column-bound 26 bytes_width bytes (omega (arith, shown-bound (between s start end))) (omega arith) in
    rw length-append (omega (arith, first, second))

-- ---- numbers and bytes

size-bound : (n : ℕ) → Few 26 (size_text n)
unfolding size_text letters
size-bound n =
    rw length-append
    (pick-by (λ (l : List ℕ). length (decimal_of n) + length l ≤ 26) (eqb n 1)
    (λ e. omega (arith, number_bound n))
    (λ e. omega (arith, number_bound n)))

-- never more digits than were enough
hex-few : (k n : ℕ) → Few k (hex_in k n)
unfolding hex_in
hex-few zero n = le_refl zero
hex-few (suc k) n =
    pick-by (Few (suc k)) (ltb n 16)
    (λ e. omega arith)
    (λ e. rw length-append (omega (arith, hex-few k (n / 16))))

type-bound : (n : ℕ) → Few 46 (type_text n)
unfolding type_text hex_of letters
type-bound n =
    pick-by (Few 46) (ltb 0 (length (name_of n)))
    (λ e. simp length-append (omega (arith, name-bound n, hex-few 16 n)))
    (λ e. omega (arith, hex-few 16 n))

shortest-bound : (used n : ℕ) → Few 40 (shortest_text used n)
unfolding shortest_text letters
shortest-bound used n =
    pick-by (Few 40) (eqb used (size_of n))
    (λ e. omega arith)
    (λ e. omega (arith, hex-length (enc_of n), enc-few n))

number-text-bound : (is_type : Bool) (used n : ℕ) → Few 86 (number_text is_type used n)
unfolding number_text
number-text-bound is_type used n =
    rw length-append
    (pick-by (λ (l : List ℕ). length l + length (shortest_text used n) ≤ 86) is_type
    (λ e. omega (arith, type-bound n, shortest-bound used n))
    (λ e. omega (arith, number_bound n, shortest-bound used n)))

-- in quotation marks, or three places for a byte
text-bound : (printable : Bool) (s : List ℕ) → length s ≤ most_text → Few 72 (text_or printable s)
text-bound printable s h =
    pick-by (Few 72) printable
    (λ e. rw length-append (omega arith))
    (λ e. omega (arith, hex-length s))

content-bound : (s : List ℕ) → Few 102 (content_text s)
unfolding content_text letters
content-bound s =
    pick-le (Few 102) (length s) most_text
    (λ h. omega (arith, text-bound (is_text s) s h))
    (λ h.
    let front = text-bound (is_text s) (take most_text s) (rw length-take (omega arith)) in
    simp length-append (omega (arith, front, size-bound (length s))))

-- ---- a line

-- a tag is told by a word, or by its number
tag-bound : (tag : ℕ) → Few 37 (tag_words tag)
unfolding tag_words letters
tag-bound tag =
    pick-by (Few 37) (eqb tag 1) (λ e. omega arith) (λ e.
    pick-by (Few 37) (eqb tag 2) (λ e. omega arith) (λ e.
    pick-by (Few 37) (eqb tag 3) (λ e. omega arith) (λ e. omega (arith, number_bound tag))))

abbrev pub longest_line : ℕ
longest_line = 256

-- and what is shown with a field's line, which is an arrival's at most
abbrev pub longest_value : ℕ
longest_value = 5 * longest_line

fault-bound : (held : Held) (size : ℕ) → Few 26 (fault_text held size)
unfolding letters
fault-bound ANumber size = omega arith
fault-bound AByte size = omega arith
fault-bound Bytes size = omega arith
fault-bound NoPart size = size-bound size

module _ (offset : ℕ) (s : List ℕ) where
  called-bound : (p : Part) → Few 125 (called offset s p)
  unfolding called letters
  called-bound p =
      simp length-append (omega (arith, margin-bound offset s p.start p.end, label-bound p.name p.what))

  value-bound : (held : Held) (is_type : Bool) (p : Part) → Few 102 (value_text held is_type s p)
  value-bound ANumber is_type p = omega (arith, number-text-bound is_type (p.end - p.start) p.value)
  value-bound AByte is_type p = omega (arith, number_bound p.value)
  value-bound Bytes is_type p = content-bound (between s p.start p.end)
  value-bound NoPart is_type p = omega (arith, size-bound (p.end - p.start))

  pub part-bound : (is_type : Bool) (p : Part) → length (part_line offset s is_type p) ≤ longest_line
  unfolding part_line
  part-bound is_type p = simp length-append (omega (arith, called-bound p, value-bound (held_by p.what) is_type p))

  pub faulty-bound : (p : Part) → length (faulty_line offset s p) ≤ longest_line
  unfolding faulty_line
  faulty-bound p =
      simp length-append (omega (arith, called-bound p, fault-bound (held_by p.what) (p.end - p.start)))

  pub left-bound : (used : ℕ) → length (left_line offset s used) ≤ longest_line
  unfolding left_line
  left-bound used =
      pick-by (Few longest_line) (ltb used (length s))
      (λ e. faulty-bound (part_of MessageLength Left 0 used (length s)))
      (λ e. omega arith)

  pub cut-field-bound : length (cut_field_line offset s) ≤ longest_line
  unfolding cut_field_line letters
  cut-field-bound =
      simp length-append (omega (arith, margin-bound offset s 0 (length s), size-bound (length s)))

  pub field_bound : length (field_line offset s) ≤ longest_line
  unfolding field_line letters
  field_bound =
      simp length-append (omega (arith, margin-bound offset s 0 3, tag-bound (get_or s 0 0), size-bound (length s - 3)))

numbered-bound : (number : ℕ) → Few 63 (numbered number)
unfolding numbered letters
numbered-bound number = simp length-append (omega (arith, number_bound number, meaning-bound number))

pub mark-bound : (number : ℕ) → length (mark_line number) ≤ longest_line
unfolding mark_line letters
mark-bound number = simp length-append (omega (arith, numbered-bound number))

rule-bound : (rule : ℕ) → Few 34 (rule_text rule)
unfolding rule_text
rule-bound rule = pick-by (Few 34) (eqb rule 0) (λ e. omega arith) (λ e. omega (arith, item-bound (Rule rule)))

pub answer-bound : (number rule : ℕ) → length (answer_line number rule) ≤ longest_line
unfolding answer_line letters
answer-bound number rule =
    simp length-append (omega (arith, numbered-bound number, rule-bound rule))

pub fault-line-bound : (reason : Word) → length (fault_line reason) ≤ longest_line
unfolding fault_line letters
fault-line-bound reason = simp length-append (omega (arith, word_bound reason))

-- ---- the lines of numbers

-- what holds of both holds of what is found
found-by : (P : List ℕ → Type 0) (o : Outcome ℕ) {none : List ℕ} {f : ℕ → ℕ → List ℕ} → P none
    → ((n end : ℕ) → P (f n end)) → P (on_found o none f)
found-by P (whole n end) h k = k n end
found-by P (no fault) h k = h

module _ (offset : ℕ) (s : List ℕ) where
  -- one for each, and two for the last: one that is cut, and its mark
  numbers-bound : (names : List FieldName) (at : ℕ)
      → Few (longest_line * (length names + 2)) (number_lines names offset s at)
  unfolding number_lines cut_lines
  numbers-bound [] at = omega (arith, left-bound offset s at)
  numbers-bound (name ∷ names) at =
      found-by (Few (longest_line * (suc (length names) + 2))) (number_at s at)
      (rw length-append (omega (arith, faulty-bound offset s (part_of name Number 0 at (length s)), mark-bound 1)))
      (λ n end.
      let first = part-bound offset s false (part_of name Number n at end) in
      rw length-append (omega (arith, first, numbers-bound names end)))

  pub arrival-bound : length (arrival_lines offset s) ≤ longest_value
  unfolding arrival_lines
  arrival-bound = numbers-bound (TrackAlias ∷ GroupId ∷ ObjectId ∷ []) 0

  pub start-bound : length (start_lines offset s) ≤ longest_value
  unfolding start_lines letters
  start-bound =
      let maximum = numbers-bound (MaximumSubscribeId ∷ []) 1 in
      rw (length-append, length-append)
      (pick-by (λ (l : List ℕ). length (margin offset s 0 1) + 8 + length l ≤ longest_value) (ltb 0 (length s))
      (λ e. simp length-append (omega (arith, margin-bound offset s 0 1, number_bound (get_or s 0 0), maximum)))
      (λ e. omega (arith, margin-bound offset s 0 1, mark-bound 1)))
