-- Text is ASCII: a letter is one byte.
use Rattle.std.specs.Prelude.{ℕ, List, [], ◌∷◌}
use Prim.Native.Char.{code}
use Prim.Native.String.{String, [] as empty, ◌∷◌ as ◌then◌}

-- the bytes of a text
unfoldable pub letters : String → List ℕ
letters empty = []
letters (c then rest) = code c ∷ letters rest
