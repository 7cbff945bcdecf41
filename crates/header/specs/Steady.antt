-- What a reader of a header on a stream owes to bytes that are still to come.
use Rattle.std.specs.Prelude.{ℕ, ◌≡◌, List, ◌++◌}
use Rattle.common.specs.Answer.{Answer, whole as answered, refused}

-- On a stream bytes come one after the other:
pub record Steady {B : Type 0} (read_of : List ℕ → Answer B) : Type 0 where
  -- those that follow change nothing of a whole header,
  pub whole-stays : (s rest : List ℕ) {b : B} {used : ℕ} → read_of s ≡ answered b used
      → read_of (s ++ rest) ≡ answered b used
  -- nor of a refusal other than 1;
  pub refusal-stays : (s rest : List ℕ) {n : ℕ} → (n ≡ 1 → ⊥) → read_of s ≡ refused n → read_of (s ++ rest) ≡ refused n
  -- and where 1 is answered, more bytes can still decide: so it is answered exactly there.
  pub more : (s : List ℕ) → read_of s ≡ refused 1 → (rest : List ℕ) × (read_of (s ++ rest) ≡ refused 1 → ⊥)
