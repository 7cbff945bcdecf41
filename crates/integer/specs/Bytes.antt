-- Bytes and numbers: "the rest, most significant first, is the number". A byte string is a list of numbers; nothing
-- here asks that they are below 256.
use Rattle.std.specs.Prelude.{ℕ, zero, suc, ◌+◌, ◌*◌, ◌/◌, ◌%◌, List, [], ◌∷◌, ◌++◌}

-- the number that starts as n and goes on with these bytes
unfoldable pub spell : ℕ → List ℕ → ℕ
spell n [] = n
spell n (byte ∷ bytes) = spell (n * 256 + byte) bytes

-- the low bytes of a number, as many as are asked for
unfoldable pub bytes_of : ℕ → ℕ → List ℕ
bytes_of zero n = []
bytes_of (suc width) n = bytes_of width (n / 256) ++ n % 256 ∷ []
