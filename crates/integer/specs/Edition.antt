-- An edition of the integers: a table of forms, and what it is to read and to write a number by it. A row has the
-- columns of RFC 9000's own table, so that the two can be read side by side.
use Rattle.std.specs.Prelude.{ℕ, suc, ◌+◌, ◌-◌, ◌*◌, ◌/◌, ◌%◌, ◌^◌, Bool, List, [], ◌∷◌, length, get_or, take, leb, ltb, eqb}
use Rattle.common.specs.Choice.{guard, pick, both}
use Rattle.common.specs.Answer.{unwritten, Answer, whole, refused, wrote, Written}
use Rattle.common.specs.Buffer.{over}
use Rattle.integer.specs.Bytes.{spell, bytes_of}

-- ---- the table

-- A form: the leading bits of its first byte, which tell it from the others; how many bytes it has; how many of their
-- bits are left for the number; and the greatest number that these hold.
pub record Form : Type 0 where
  pub tag : ℕ
  pub bytes : ℕ
  pub bits : ℕ
  pub greatest : ℕ

abbrev pub row : ℕ → ℕ → ℕ → ℕ → Form
row tag bytes bits greatest = record { tag = tag; bytes = bytes; bits = bits; greatest = greatest }

-- the forms, from the shortest to the longest
abbrev pub Edition : Type 0
Edition = List Form

-- no form
abbrev pub no_form : Form
no_form = row 0 0 0 0

-- a form holds the numbers below this,
abbrev pub room_of : Form → ℕ
room_of form = 2 ^ form.bits

-- and those of its bits that the bytes after the first don't take stand in the first: that many first bytes begin it
abbrev pub share_of : Form → ℕ
share_of form = 2 ^ (form.bits - 8 * (form.bytes - 1))

-- the longest form of an edition is its last
abbrev pub last_of : Form → Edition → Form
last_of form [] = form
last_of form (next ∷ forms) = last_of next forms

abbrev pub longest_form : Edition → Form
longest_form edition = last_of no_form edition

-- ---- a form is found

-- the first that a test takes
abbrev pub first_of : (Form → Bool) → Edition → Form
first_of takes [] = no_form
first_of takes (form ∷ forms) = pick (takes form) form (first_of takes forms)

-- by a first byte: its leading bits are the form's (of a number above 255 only the low byte counts)
unfoldable pub begun_by : Edition → ℕ → Form
begun_by edition first = first_of (λ form. eqb (first % 256 / share_of form) form.tag) edition

-- by how many bytes it has
unfoldable pub of_bytes : Edition → ℕ → Form
of_bytes edition width = first_of (λ form. eqb form.bytes width) edition

-- by a number: "The writer uses the fewest bytes"; no form for a number that can't be written
unfoldable pub fewest_for : Edition → ℕ → Form
fewest_for edition n = first_of (λ form. leb n form.greatest) edition

-- ---- reading

-- the integer at the front of bytes, and the bytes it takes; 1 where it is cut. The remainder is what the bytes spell
-- without the leading bits
unfoldable pub read_by : Edition → List ℕ → Answer ℕ
read_by edition s =
    let form = begun_by edition (get_or s 0 0) in
    let width = form.bytes in
    guard (leb width (length s)) (refused 1) (whole (spell 0 (take width s) % room_of form) width)

-- ---- writing

-- what the bytes of a form spell: its leading bits, and then the number
abbrev pub led_by : Form → ℕ → ℕ
led_by form n = form.tag * room_of form + n

-- the shortest form of a number up to the greatest
unfoldable pub enc_by : Edition → ℕ → List ℕ
enc_by edition n =
    let form = fewest_for edition n in
    bytes_of form.bytes (led_by form n)

-- a form that was chosen, put into a buffer: 7 where it is too short
unfoldable pub put_form : ℕ → ℕ → List ℕ → Written
put_form width n before =
    guard (leb width (length before)) (unwritten 7 before)
    (record { says = wrote width; holds = over (bytes_of width n) before })

-- a number put into a buffer: 5 where it is too great, then 7
unfoldable pub write_by : Edition → ℕ → List ℕ → Written
write_by edition n before =
    let form = fewest_for edition n in
    guard (leb n (longest_form edition).greatest) (unwritten 5 before) (put_form form.bytes (led_by form n) before)

-- ---- what a table must have, so that reader and writer agree

-- the first byte that begins a form: the leading bits, and 0 after them
abbrev pub lead_of : Form → ℕ
lead_of form = form.tag * share_of form

-- and the first byte after those that do
abbrev pub lead_end : Form → ℕ
lead_end form = lead_of form + share_of form

-- A row's columns agree: its greatest number is the last that its bits hold, and they fill the bytes after the first.
abbrev pub agree : Form → Bool
agree form = both (eqb (suc form.greatest) (room_of form)) (leb (8 * (form.bytes - 1)) form.bits)

-- A form follows another, whose first bytes ended at from: it is longer, holds more, and its first bytes go on there.
abbrev pub follows : ℕ → Form → Form → Bool
follows from before form =
    both (ltb before.bytes form.bytes)
    (both (ltb before.greatest form.greatest) (eqb from (lead_of form)))

-- So do all, and at the end no byte is left: each begins one form, and no other.
abbrev pub in_order : ℕ → Form → Edition → Bool
in_order from before [] = eqb from 256
in_order from before (form ∷ forms) =
    both (follows from before form) (both (agree form) (in_order (lead_end form) form forms))

abbrev pub is_edition : Edition → Bool
is_edition edition = in_order 0 no_form edition
