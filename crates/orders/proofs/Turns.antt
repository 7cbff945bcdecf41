-- Two turns of a list, over any element: they may change places. Assumes nothing.
use Prim.Native.Nat.{ℕ}
use mathlib.Core.Path.{◌≡◌, refl, sym, ap, ◌∙◌}
use mathlib.Core.Bool.{Bool, true, false}
use mathlib.Core.List.{List, [], ◌∷◌}
use borrow.Author.Tests.{eqb-true, ne_eqb}
use lib.Dec.{eqb}
use Rattle.common.specs.Choice.{pick}
use Rattle.ledger.proofs.Keyed.{Known}
use Rattle.ledger.specs.Keys.{Looked, none, one, look, on_looked, Change, gone, now, instead, turn}

-- ---- two turns

-- what is put in the place of one is not the one that has another number
module _ {A : Type 0} (key : A → ℕ) (m n : ℕ) (other : m ≡ n → ⊥) (x : A) (here : key x ≡ n) where
  look-past : (c : Change A) (xs : List A) → Known key x c → look key m (instead c xs) ≡ look key m xs
  unfolding look
  look-past gone xs k = refl
  look-past (now y) xs k = rw (ne_eqb (key y) m (λ h. other (sym h ∙ k ∙ here)))

  turn-past : (f : A → Change A) (c : Change A) (xs : List A) → Known key x c → turn key m f (instead c xs) ≡ instead c (turn key m f xs)
  unfolding turn
  turn-past f gone xs k = refl
  turn-past f (now y) xs k = rw (ne_eqb (key y) m (λ h. other (sym h ∙ k ∙ here)))

-- of different numbers: either is looked up as before,
module _ {A : Type 0} (key : A → ℕ) (m n : ℕ) (other : m ≡ n → ⊥) (f : A → Change A) (f-knows : (x : A) → Known key x (f x)) where
  pub look-other : (xs : List A) → look key m (turn key n f xs) ≡ look key m xs
  unfolding look turn
  look-other [] = refl
  look-other (x ∷ xs) = go (eqb (key x) n) refl (look-other xs)
    where
      go : (b : Bool) → eqb (key x) n ≡ b → look key m (turn key n f xs) ≡ look key m xs → look key m (pick b (instead (f x) xs) (x ∷ turn key n f xs)) ≡ look key m (x ∷ xs)
      go true h ih =
          let here : key x ≡ n = eqb-true (key x) n h in
          rw (ne_eqb (key x) m (λ e. other (sym e ∙ here))) (look-past key m n other x here (f x) xs (f-knows x))
      go false h ih = rw ih

  -- and they are turned in either order
  pub turn-other : (g : A → Change A) → ((x : A) → Known key x (g x)) → (xs : List A) → turn key m g (turn key n f xs) ≡ turn key n f (turn key m g xs)
  unfolding turn
  turn-other g g-knows [] = refl
  turn-other g g-knows (x ∷ xs) = go (eqb (key x) n) refl (eqb (key x) m) refl (turn-other g g-knows xs)
    where
      go : (b : Bool) → eqb (key x) n ≡ b → (c : Bool) → eqb (key x) m ≡ c → turn key m g (turn key n f xs) ≡ turn key n f (turn key m g xs) → turn key m g (pick b (instead (f x) xs) (x ∷ turn key n f xs)) ≡ turn key n f (pick c (instead (g x) xs) (x ∷ turn key m g xs))
      go true h true k ih = absurd (other (sym (eqb-true (key x) m k) ∙ eqb-true (key x) n h))
      go true h false k ih = rw h (turn-past key m n other x (eqb-true (key x) n h) g (f x) xs (f-knows x))
      go false h true k ih =
          rw k (sym (turn-past key n m (λ e. other (sym e)) x (eqb-true (key x) m k) f (g x) xs (g-knows x)))
      go false h false k ih = rw (h, k) (ap (λ t. x ∷ t) ih)

-- of one number: it is looked up as what it is now,
abbrev seen : {A : Type 0} → (A → A) → Looked A → Looked A
seen f none = none
seen f (one x) = one (f x)

module _ {A : Type 0} (key : A → ℕ) (n : ℕ) (f : A → A) (f-knows : (x : A) → key (f x) ≡ key x) where
  look-turned : (xs : List A) → look key n (turn key n (λ x. now (f x)) xs) ≡ seen f (look key n xs)
  unfolding look turn
  look-turned [] = refl
  look-turned (x ∷ xs) = go (eqb (key x) n) refl (look-turned xs)
    where
      go : (b : Bool) → eqb (key x) n ≡ b → look key n (turn key n (λ x. now (f x)) xs) ≡ seen f (look key n xs) → look key n (pick b (f x ∷ xs) (x ∷ turn key n (λ x. now (f x)) xs)) ≡ seen f (pick b (one x) (look key n xs))
      go true h ih = rw (f-knows x, h)
      go false h ih = rw h ih

  -- so what is said of it is the same, where that does not depend on the turn,
  pub found-turned : {B : Type 0} (missing : B) (at : A → B) → ((x : A) → at (f x) ≡ at x) → (xs : List A) → on_looked missing at (look key n (turn key n (λ x. now (f x)) xs)) ≡ on_looked missing at (look key n xs)
  found-turned missing at alike xs = ap (on_looked missing at) (look-turned xs) ∙ go (look key n xs)
    where
      go : (looked : Looked A) → on_looked missing at (seen f looked) ≡ on_looked missing at looked
      go none = refl
      go (one x) = alike x

  -- and it is turned twice in either order, where that is so of itself
  pub turn_twice : (g : A → A) → ((x : A) → key (g x) ≡ key x) → ((x : A) → g (f x) ≡ f (g x)) → (xs : List A) → turn key n (λ x. now (g x)) (turn key n (λ x. now (f x)) xs) ≡ turn key n (λ x. now (f x)) (turn key n (λ x. now (g x)) xs)
  unfolding turn
  turn_twice g g-knows either [] = refl
  turn_twice g g-knows either (x ∷ xs) = go (eqb (key x) n) refl (turn_twice g g-knows either xs)
    where
      gs : List A → List A
      gs = turn key n (λ x. now (g x))

      fs : List A → List A
      fs = turn key n (λ x. now (f x))

      go : (b : Bool) → eqb (key x) n ≡ b → gs (fs xs) ≡ fs (gs xs) → gs (pick b (f x ∷ xs) (x ∷ fs xs)) ≡ fs (pick b (g x ∷ xs) (x ∷ gs xs))
      go true h ih = rw (f-knows x, g-knows x, h, either x)
      go false h ih = rw h (ap (λ t. x ∷ t) ih)
