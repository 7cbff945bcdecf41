-- What the two calls on integers do: info and out are changed only with 0; 7 where either is too short.
use Rattle.std.specs.Prelude.{ℕ, List, [], ◌∷◌, leb}
use Rattle.common.specs.Choice.{guard}
use Rattle.common.specs.Answer.{Answer, whole, refused}
use Rattle.integer.specs.Integer.{greatest, size_of, enc_of, read_of}
use Rattle.rewrite.specs.Rewriting.{Doing, putting, refusing}

-- info[0]: the number; info[1]: the bytes used. No bytes are put, and no buffer is lent for them
abbrev pub read_call : Answer ℕ → List ℕ → Doing
read_call (whole n used) info = putting [] (n ∷ used ∷ []) [] info
read_call (refused number) info = refusing number [] info

unfoldable pub integer_read : List ℕ → List ℕ → Doing
integer_read s info = read_call (read_of s) info

-- info[0]: the bytes written. 5 where the number is too great, then 7
unfoldable pub integer_written : ℕ → List ℕ → List ℕ → Doing
integer_written n out info = guard (leb n greatest) (refusing 5 out info) (putting (enc_of n) (size_of n ∷ []) out info)
