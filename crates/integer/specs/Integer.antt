-- The integers of RFC 9000, section 16: its table, and what follows from it.
use Rattle.std.specs.Prelude.{ℕ, List, [], ◌∷◌, Result, Ok, Err}
use Rattle.common.specs.Answer.{Answer, whole, refused, Nothing, wrote, Written}
use Rattle.integer.specs.Edition.{Edition, row, room_of, longest_form, begun_by, of_bytes, fewest_for, read_by, enc_by, write_by}
use Rattle.integer.specs.declared.Cut.{Cut}
use Rattle.integer.specs.declared.Unwritten.{Unwritten}
use Rattle.integer.specs.declared.Unwritten.TheVariants.{TooGreat, TooShort}
unfoldable pub use Rattle.integer.specs.Bytes.{spell, bytes_of}
unfoldable pub use Rattle.integer.specs.Edition.{put_form}

-- ---- the table

-- "The top two bits of the first byte give 1, 2, 4 or 8 bytes"; "Greatest: 63; 16,383; 1,073,741,823;
-- 4,611,686,018,427,387,903." In each row: the two bits, the bytes, the bits left for the number, the greatest number.
abbrev pub rfc9000 : Edition
rfc9000 =
    row 0b00 1 6 63
    ∷ row 0b01 2 14 16_383
    ∷ row 0b10 4 30 1_073_741_823
    ∷ row 0b11 8 62 4_611_686_018_427_387_903
    ∷ []

-- ---- what follows from it

-- how many bytes a form has that begins with this one
unfoldable pub wide : ℕ → ℕ
unfolding begun_by
wide first = (begun_by rfc9000 first).bytes

-- a form of that many bytes holds the numbers below this
unfoldable pub room : ℕ → ℕ
unfolding of_bytes
room width = room_of (of_bytes rfc9000 width)

-- the greatest number that can be written
abbrev pub greatest : ℕ
greatest = (longest_form rfc9000).greatest

-- how many bytes a number takes; none for one that can't be written
unfoldable pub size_of : ℕ → ℕ
unfolding fewest_for
size_of n = (fewest_for rfc9000 n).bytes

-- ---- reading

-- the integer at the front of bytes, and the bytes it takes; 1 where it is cut
unfoldable pub read_of : List ℕ → Answer ℕ
unfolding read_by begun_by
read_of s = read_by rfc9000 s

-- what is said where none was read, and what comes of an integer that was
abbrev pub on_read {ℓ} : {A : Type ℓ} → Answer ℕ → A → (ℕ → ℕ → A) → A
on_read (whole n used) none f = f n used
on_read (refused number) none f = none

-- 01's number and values of what `read` answers
abbrev pub told : Result (ℕ × ℕ) Cut → Answer ℕ
told (Ok (n, used)) = whole n used
told (Err cut) = refused 1

-- ---- writing

-- the shortest form of a number up to the greatest; where it is opened, so is its size
unfoldable pub enc_of : ℕ → List ℕ
unfolding enc_by size_of
enc_of n = enc_by rfc9000 n

-- a number put into a buffer: 5 where it is too great, then 7; here too
unfoldable pub write_of : ℕ → List ℕ → Written
unfolding write_by size_of
write_of n before = write_by rfc9000 n before

-- 01's number and values of what `write` answers
abbrev pub told_writing : Result ℕ Unwritten → Answer Nothing
told_writing (Ok used) = wrote used
told_writing (Err TooGreat) = refused 5
told_writing (Err TooShort) = refused 7
