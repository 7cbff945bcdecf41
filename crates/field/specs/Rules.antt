-- "group order above 2 in SUBSCRIBE, or 0 or above 2 in SUBSCRIBE_OK"; in FETCH and FETCH_OK alike
use Rattle.std.specs.Prelude.{ℕ, Bool, leb}
use Rattle.common.specs.Choice.{both}

unfoldable pub askable : ℕ → Bool
askable order = leb order 2

unfoldable pub givable : ℕ → Bool
givable order = both (leb 1 order) (leb order 2)
