-- The greatest of places: one of them, and none stands after it. Assumes nothing.
use Rattle.std.specs.Prelude.{Option, Some, None}
use Prim.Native.Nat.{ℕ}
use mathlib.Core.Path.{◌≡◌, refl, sym, subst}
use mathlib.Core.Bool.{Bool, true, false}
use mathlib.Core.List.{List, [], ◌∷◌}
use mathlib.Core.Logic.{inl, inr}
use native.Mathlib.Omega.{arith}
use Rattle.common.specs.Choice.{pick}
use Rattle.common.specs.Lists.{Each, Among}
use Rattle.field.specs.declared.Place.{Place}
use Rattle.row.proofs.Ordering.{before_self, before-not, not-before}
use Rattle.row.specs.Places.{before}
use Rattle.row.specs.Rows.{greater}
use Rattle.history.specs.Rows.{greatest_of}

-- nowhere exactly where there are none
pub nowhere-only : (ps : List Place) → greatest_of ps ≡ None → ps ≡ []
unfolding greatest_of
nowhere-only [] e = refl
nowhere-only (p ∷ ps) e = absurd (let z : ◌≡◌ {A = ℕ} 0 1 = cc in omega arith)

pub none-nowhere : (ps : List Place) → ps ≡ [] → greatest_of ps ≡ None
unfolding greatest_of
none-nowhere [] e = refl
none-nowhere (p ∷ ps) e = absurd (let z : ◌≡◌ {A = ℕ} 0 1 = cc in omega arith)

-- one of them, and none stands after it
record Foremost (g : Place) (ps : List Place) : Type 0 where
  among : Among g ps
  last : Each (λ p. before g p ≡ false) ps

-- what is not after a place is not after one after it
each_after : (g h : Place) (ps : List Place) → before h g ≡ false → Each (λ p. before g p ≡ false) ps → Each (λ p. before h p ≡ false) ps
each_after g h [] e all = tt
each_after g h (p ∷ ps) e all = (not-before h g p e all.0, each_after g h ps e all.1)

foremost-more : (g : Option Place) (p : Place) (ps : List Place) → greatest_of ps ≡ g → ((h : Place) → g ≡ Some h → Foremost h ps) → Foremost (greater g p) (p ∷ ps)
unfolding greater
foremost-more None p ps e ih =
    let none = nowhere-only ps e in
    record { among = inl refl; last = (before_self p, subst (Each (λ q. before p q ≡ false)) (sym none) tt) }
foremost-more (Some h) p ps e ih = go (before h p) refl
  where
    go : (b : Bool) → before h p ≡ b → Foremost (pick b p h) (p ∷ ps)
    go true q =
        record { among = inl refl; last = (before_self p, each_after h p ps (before-not h p q) (ih h refl).last) }
    go false q = record { among = inr (ih h refl).among; last = (q, (ih h refl).last) }

foremost : (ps : List Place) (g : Place) → greatest_of ps ≡ Some g → Foremost g ps
unfolding greatest_of
foremost [] g e = absurd (let z : ◌≡◌ {A = ℕ} 0 1 = cc in omega arith)
foremost (p ∷ ps) g e =
    let is : greater (greatest_of ps) p ≡ g = cc in
    subst (λ (h : Place). Foremost h (p ∷ ps)) is (foremost-more (greatest_of ps) p ps refl (foremost ps))

pub among : (ps : List Place) (g : Place) → greatest_of ps ≡ Some g → Among g ps
among ps g e = (foremost ps g e).among

pub none_after : (ps : List Place) (g : Place) → greatest_of ps ≡ Some g → Each (λ p. before g p ≡ false) ps
none_after ps g e = (foremost ps g e).last
