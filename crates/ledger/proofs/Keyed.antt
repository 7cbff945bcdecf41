-- Elements by key and by place: to turn the first that has a number is to change it, or to take it out, where it stands;
-- and what a turn depends on. Assumes nothing.
use Prim.Native.Nat.{ℕ, suc, ◌≤◌}
use mathlib.Core.Path.{◌≡◌, refl, ap, ◌∙◌}
use mathlib.Core.Bool.{Bool, true, false}
use mathlib.Core.List.{List, [], ◌∷◌, ◌++◌}
use native.Mathlib.Omega.{arith}
use lib.Dec.{eqb}
use lib.ListN.{length, take, drop, get_or, set}
use Rattle.common.specs.Choice.{pick}
use Rattle.ledger.specs.Keys.{none, one, look, Change, gone, now, instead, turn}
use Rattle.ledger.proofs.Finds.{HasNone, end, other, IsFirst, here, later}

-- a change keeps the number that elements are known by
abbrev pub Known : {A : Type 0} → (A → ℕ) → A → Change A → Type 0
Known key x gone = Unit {0}
Known key x (now next) = key next ≡ key x

module _ {A : Type 0} (key : A → ℕ) (n : ℕ) where
  -- ---- by place

  pub changed-there : {xs : List A} {i : ℕ} → IsFirst key n xs i → (f : A → A) (d : A) → set xs i (f (get_or xs i d)) ≡ turn key n (λ x. now (f x)) xs
  unfolding turn
  changed-there (here e) f d = rw e
  changed-there (later {x = x} e h) f d = rw e (ap (λ t. x ∷ t) (changed-there h f d))

  pub gone-there : {xs : List A} {i : ℕ} → IsFirst key n xs i → take i xs ++ drop (suc i) xs ≡ turn key n (λ _. gone) xs
  unfolding turn
  gone-there (here e) = rw e
  gone-there (later {x = x} e h) = rw e (ap (λ t. x ∷ t) (gone-there h))

  pub look_none : {xs : List A} → HasNone key n xs → look key n xs ≡ none
  unfolding look
  look_none end = refl
  look_none (other e h) = rw e (look_none h)

  pub look_at : {xs : List A} {i : ℕ} → IsFirst key n xs i → (d : A) → look key n xs ≡ one (get_or xs i d)
  unfolding look
  look_at (here e) d = rw e
  look_at (later e h) d = rw e (look_at h d)

  -- ---- what a turn depends on

  -- only on what is done to the one that is found; and nothing where that is nothing
  pub turn-found : (f g : A → Change A) (xs : List A) → ((x : A) → look key n xs ≡ one x → f x ≡ g x) → turn key n f xs ≡ turn key n g xs
  unfolding look turn
  turn-found f g [] e = refl
  turn-found f g (x ∷ xs) e = go (eqb (key x) n) refl (turn-found f g xs)
    where
      go : (b : Bool) → eqb (key x) n ≡ b → (((y : A) → look key n xs ≡ one y → f y ≡ g y) → turn key n f xs ≡ turn key n g xs) → pick b (instead (f x) xs) (x ∷ turn key n f xs) ≡ pick b (instead (g x) xs) (x ∷ turn key n g xs)
      go true p ih = ap (λ (c : Change A). instead c xs) (e x (rw p))
      go false p ih = ap (λ t. x ∷ t) (ih (λ y q. e y (rw p q)))

  pub turn-now : (xs : List A) → turn key n now xs ≡ xs
  unfolding turn
  turn-now [] = refl
  turn-now (x ∷ xs) = go (eqb (key x) n) (turn-now xs)
    where
      go : (b : Bool) → turn key n now xs ≡ xs → pick b (x ∷ xs) (x ∷ turn key n now xs) ≡ x ∷ xs
      go true ih = refl
      go false ih = ap (λ t. x ∷ t) ih

  pub turn-same : (f : A → Change A) (xs : List A) → ((x : A) → look key n xs ≡ one x → f x ≡ now x) → turn key n f xs ≡ xs
  turn-same f xs e = turn-found f now xs e ∙ turn-now xs

  -- ---- a turn makes no list longer

  pub turn-short : (f : A → Change A) (xs : List A) → length (turn key n f xs) ≤ length xs
  unfolding turn
  turn-short f [] = omega arith
  turn-short f (x ∷ xs) = go (eqb (key x) n) (f x) (turn-short f xs)
    where
      go : (b : Bool) (c : Change A) → length (turn key n f xs) ≤ length xs → length (pick b (instead c xs) (x ∷ turn key n f xs)) ≤ length (x ∷ xs)
      go true gone h = omega arith
      go true (now y) h = omega arith
      go false c h = omega arith
