-- A trace comes byte by byte: each field that becomes whole is a step. So it doesn't matter how the bytes are cut.
use Rattle.std.specs.Prelude.{ℕ, List, [], ◌∷◌, ◌++◌}
use Rattle.common.specs.Choice.{pick}
use Rattle.trace.specs.Fields.{is_whole}

-- what the fields so far came to, and the bytes of one that isn't whole yet
pub record Held (A : Type 0) : Type 0 where
  pub so_far : A
  pub rest : List ℕ

module _ {A : Type 0} (step : A → List ℕ → A) where
  -- one byte more
  unfoldable pub feed_byte : Held A → ℕ → Held A
  feed_byte h byte =
      let field = h.rest ++ byte ∷ [] in
      pick (is_whole field) (record { so_far = step h.so_far field; rest = [] })
      (record { so_far = h.so_far; rest = field })

  -- more bytes
  unfoldable pub feed : Held A → List ℕ → Held A
  feed h [] = h
  feed h (byte ∷ bytes) = feed (feed_byte h byte) bytes
