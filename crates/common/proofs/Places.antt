-- What stands in places, of which the last are not used: what was put there is what is found there. Assumes nothing.
use Prim.Native.Nat.{ℕ, ◌-◌, ◌≤◌}
use mathlib.Core.Path.{◌≡◌, refl, sym}
use mathlib.Core.List.{List, [], ◌∷◌, ◌++◌, map}
use lib.ListN.{length, take, drop, replicate, take-append-drop}
use lib.Seq.{length-take-le}
use Rattle.common.specs.Lists.{up_to}

module _ {A : Type 0} (all : ℕ) (unused : A) where
  -- where the others are not used, the first fill the places as all of them do,
  pub filled : (n : ℕ) (xs : List A) → n ≤ length xs → drop n xs ≡ replicate (all - n) unused → xs ≡ up_to all unused (take n xs)
  unfolding up_to
  filled n xs h e = sym (rw (length-take-le n xs h, ← e) (take-append-drop n xs))

  -- and as many as there were are found again
  pub taken_out : {B : Type 0} (into : A → B) (out : B → A) → ((x : A) → out (into x) ≡ x) → (xs : List A) → map out (take (length xs) (map into (up_to all unused xs))) ≡ xs
  unfolding up_to
  taken_out into out back xs = first xs (replicate (all - length xs) unused)
    where
      first : (ys more : List A) → map out (take (length ys) (map into (ys ++ more))) ≡ ys
      first [] more = refl
      first (y ∷ ys) more = λ i. back y i ∷ first ys more i
