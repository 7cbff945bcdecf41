-- What stands in the columns of a line: an offset, bytes in hexadecimal, bytes as text.
use Rattle.std.specs.Prelude.{ℕ, zero, suc, ◌+◌, ◌-◌, ◌/◌, ◌%◌, Bool, true, List, [], ◌∷◌, ◌++◌, length, take, replicate, leb, ltb, eqb}
use Rattle.common.specs.Choice.{pick, both}
use Rattle.types.specs.Letters.{letters}
use Rattle.text.specs.Decimals.{decimal_of}

-- ---- a column

abbrev pub spaces : ℕ → List ℕ
spaces n = replicate n 32

-- how many spaces fill a column of a width after a text of that length: at least one
abbrev pub gap : ℕ → ℕ → ℕ
gap width size = pick (ltb size width) (width - size) 1

unfoldable pub column : ℕ → List ℕ → List ℕ
column width text = text ++ spaces (gap width (length text))

-- an offset takes five places
abbrev pub offset_width : ℕ
offset_width = 5

unfoldable pub offset_column : ℕ → List ℕ
offset_column offset = column offset_width (decimal_of offset)

-- ---- hexadecimal

-- 48 is 0, and 65 is A
abbrev pub hex_digit : ℕ → ℕ
hex_digit d = pick (ltb d 10) (48 + d) (55 + d)

-- two digits for a byte,
unfoldable pub hex_byte : ℕ → List ℕ
hex_byte b = hex_digit (b / 16) ∷ hex_digit (b % 16) ∷ []

-- and a space between two bytes
unfoldable pub hex_after : List ℕ → List ℕ
hex_after [] = []
hex_after (b ∷ bytes) = (32 ∷ hex_byte b) ++ hex_after bytes

unfoldable pub hex_bytes : List ℕ → List ℕ
hex_bytes [] = []
hex_bytes (b ∷ bytes) = hex_byte b ++ hex_after bytes

-- bytes take 26 places: of more than eight the first eight are shown
abbrev pub bytes_width : ℕ
bytes_width = 26

abbrev pub most_shown : ℕ
most_shown = 8

unfoldable pub shown_bytes : List ℕ → List ℕ
shown_bytes s = pick (leb (length s) most_shown) (hex_bytes s) (hex_bytes (take most_shown s) ++ letters "..")

unfoldable pub bytes_column : List ℕ → List ℕ
bytes_column s = column bytes_width (shown_bytes s)

-- a number in hexadecimal digits, if that many are enough for it; sixteen are enough for 64 bits
unfoldable pub hex_in : ℕ → ℕ → List ℕ
hex_in zero n = []
hex_in (suc k) n = pick (ltb n 16) (hex_digit n ∷ []) (hex_in k (n / 16) ++ hex_digit (n % 16) ∷ [])

unfoldable pub hex_of : ℕ → List ℕ
hex_of n = hex_in 16 n

-- ---- how many bytes

unfoldable pub size_text : ℕ → List ℕ
size_text n = decimal_of n ++ pick (eqb n 1) (letters " byte") (letters " bytes")

-- ---- bytes as text

-- printable ASCII
abbrev pub is_printable : ℕ → Bool
is_printable b = both (leb 32 b) (leb b 126)

unfoldable pub is_text : List ℕ → Bool
is_text [] = true
is_text (b ∷ bytes) = both (is_printable b) (is_text bytes)

-- in quotation marks, or else in hexadecimal
abbrev pub text_or : Bool → List ℕ → List ℕ
text_or printable s = pick printable ((34 ∷ s) ++ 34 ∷ []) (hex_bytes s)

-- of more than 24 bytes the first 24 are shown, and how many there are
abbrev pub most_text : ℕ
most_text = 24

unfoldable pub content_text : List ℕ → List ℕ
content_text s =
    pick (leb (length s) most_text) (text_or (is_text s) s)
    (text_or (is_text s) (take most_text s) ++ letters ".., " ++ size_text (length s))
