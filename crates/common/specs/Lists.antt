-- Of each of a list, and one of a list; and a number of places, of which the last are not used.
use Rattle.std.specs.Prelude.{ℕ, ◌-◌, ◌≡◌, List, [], ◌∷◌, ◌++◌, ◌⊎◌, length, replicate}

abbrev pub Each : {A : Type 0} → (A → Type 0) → List A → Type 0
Each P [] = Unit {0}
Each P (x ∷ xs) = P x × Each P xs

abbrev pub Among : {A : Type 0} → A → List A → Type 0
Among x [] = ⊥
Among x (y ∷ ys) = (y ≡ x) ⊎ Among x ys

-- up to a number of places; after those that there are, one that stands for a place not used
unfoldable pub up_to : {A : Type 0} → ℕ → A → List A → List A
up_to n unused xs = xs ++ replicate (n - length xs) unused
