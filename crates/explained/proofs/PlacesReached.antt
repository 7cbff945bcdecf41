-- Places in a layout: what stands there, and what is left behind it; and how many fields a layout has. Assumes nothing.
use Prim.Native.Nat.{ℕ, zero, suc}
use mathlib.Core.Path.{◌≡◌, refl, ap}
use mathlib.Core.List.{List, [], ◌∷◌, ◌++◌, append_assoc}
use mathlib.Core.Bool.{true, false}
use Rattle.field.specs.Fields.{FieldForm}
use Rattle.layout.specs.Layout.{Layout, done, forbidden, field, when}
use Rattle.layout.specs.declared.FieldName.{FieldName}
use Rattle.outline.specs.Places.{rest_of, ahead_of, laid_out, ahead_at}
use Rattle.outline.specs.declared.Outline.{Outline}

-- ---- a place that was reached

-- after those numbers a layout is left: what stands ahead is what it begins with, and what is left further on is what is
-- left of it
pub record Reached (outline : Outline) (ns : List ℕ) (l : Layout) : Type 0 where
  pub ahead : ahead_at outline ns ≡ ahead_of l
  pub rest : (n : ℕ) (ms : List ℕ) → rest_of (laid_out outline) (ns ++ (n ∷ ms)) ≡ rest_of l (n ∷ ms)

-- before any number, all of it;
pub reached-first : (outline : Outline) → Reached outline [] (laid_out outline)
unfolding ahead_at rest_of
reached-first outline = record { ahead = refl; rest = λ n ms. refl }

-- by a test, the one or the other;
pub reached-true : {outline : Outline} {ns : List ℕ} {l m : Layout} → Reached outline ns (when true l m) → Reached outline ns l
unfolding ahead_of rest_of
reached-true r = record { ahead = r.ahead; rest = r.rest }

pub reached-false : {outline : Outline} {ns : List ℕ} {l m : Layout} → Reached outline ns (when false l m) → Reached outline ns m
unfolding ahead_of rest_of
reached-false r = record { ahead = r.ahead; rest = r.rest }

-- and behind a field that hands on a number, what follows the field
pub reached-next : {outline : Outline} {ns : List ℕ} {name : FieldName} {form : FieldForm} {next : ℕ → Layout} → Reached outline ns (field name form next) → (n : ℕ) → Reached outline (ns ++ (n ∷ [])) (next n)
unfolding ahead_at rest_of
reached-next r n = record { ahead = ap ahead_of (r.rest n []); rest = λ m ms. rw append_assoc (r.rest n (m ∷ ms)) }

-- ---- how many fields there are at most

abbrev pub Shallow : ℕ → Layout → Type 0
Shallow room done = Unit {0}
Shallow room forbidden = Unit {0}
Shallow zero (field name form next) = ⊥
Shallow (suc room) (field name form next) = (n : ℕ) → Shallow room (next n)
Shallow room (when test l m) = Shallow room l × Shallow room m
