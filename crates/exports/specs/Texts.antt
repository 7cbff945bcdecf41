-- What the two calls on traces do.
use Rattle.std.specs.Prelude.{ℕ, List, [], ◌∷◌, length}
use Rattle.rewrite.specs.Rewriting.{Doing, putting}

-- the text that the program prints; info[0]: its length
unfoldable pub text_put : List ℕ → List ℕ → List ℕ → Doing
text_put text out info = putting text (length text ∷ []) out info
