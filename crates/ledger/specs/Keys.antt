-- Elements by a number that they have, not by their place: the first that has it is looked up, changed, or taken out.
use Rattle.std.specs.Prelude.{ℕ, List, [], ◌∷◌, eqb}
use Rattle.common.specs.Choice.{pick}

pub data Looked (A : Type 0) : Type 0 where
  none : Looked A
  one : A → Looked A

unfoldable pub look : {A : Type 0} → (A → ℕ) → ℕ → List A → Looked A
look key n [] = none
look key n (x ∷ xs) = pick (eqb (key x) n) (one x) (look key n xs)

-- what is said where there is none, and what is said of the one that there is
abbrev pub on_looked : {A B : Type 0} → B → (A → B) → Looked A → B
on_looked missing at none = missing
on_looked missing at (one x) = at x

-- an element goes, or it is now another
pub data Change (A : Type 0) : Type 0 where
  gone : Change A
  now : A → Change A

abbrev pub instead : {A : Type 0} → Change A → List A → List A
instead gone xs = xs
instead (now x) xs = x ∷ xs

unfoldable pub turn : {A : Type 0} → (A → ℕ) → ℕ → (A → Change A) → List A → List A
turn key n f [] = []
turn key n f (x ∷ xs) = pick (eqb (key x) n) (instead (f x) xs) (x ∷ turn key n f xs)
