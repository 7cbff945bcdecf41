-- A LENGTH OVER A LIMIT: where it stands, reading under that limit answers 3, and a higher limit may answer otherwise.
use Rattle.std.specs.Prelude.{ℕ, Bool, false, List, ltb}
use Rattle.common.specs.Choice.{both}
use Rattle.field.specs.Outcome.{on_found}
use Rattle.field.specs.Entries.{number_at}
use Rattle.types.specs.Table.{known}

-- a known Type, and after it a Length over a limit
unfoldable pub length_over : ℕ → List ℕ → Bool
length_over limit s =
    on_found (number_at s 0) false (λ type next.
    both (known type) (on_found (number_at s next) false (λ size at. ltb limit size)))
