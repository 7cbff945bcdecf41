-- What is told from a cursor is one. Assumes nothing.
use Prim.Native.Nat.{ℕ}
use mathlib.Core.Path.{◌≡◌, refl, sym, ap, ◌∙◌}
use mathlib.Core.List.{List}
use Rattle.parts.specs.Telling.{next_of}
use Rattle.parts.specs.declared.Cursor.{Cursor}
use Rattle.parts.specs.declared.Step.{Step}
use Rattle.parts.specs.declared.Step.TheVariants.{Part as APart, Refused as IsRefused, Faulty, Whole}
use Rattle.parts.specs.declared.NextPart.{NextPart}
use Rattle.explained.specs.Explaining.{Explained, first, taking, refusing}
use Rattle.explained.specs.Tiling.{Tells, part, before, here, all}

-- what is told by a step
abbrev StepTells : List ℕ → Cursor → Step → Explained → Type 0
StepTells s d (APart p) e = (f : Explained) × (Tells s d f) × (e ≡ first p f)
StepTells s d (IsRefused number) e = e ≡ refusing number
StepTells s d (Faulty p number) e = e ≡ first p (refusing number)
StepTells s d (Whole used) e = e ≡ taking used

abbrev ToldBy : List ℕ → NextPart → Explained → Type 0
ToldBy s t e = StepTells s t.cursor t.step e

-- is told by the next one
by_next : {s : List ℕ} {c : Cursor} {e : Explained} → Tells s c e → ToldBy s (next_of s c) e
by_next (part {e = f} h t) = rw h (f, t, refl)
by_next (before h) = rw h refl
by_next (here h) = rw h refl
by_next (all h) = rw h refl

pub told-once : {s : List ℕ} {c : Cursor} {e f : Explained} → Tells s c e → Tells s c f → e ≡ f
told-once (part {p = p} h t) u = let v = rw h at (by_next u) in ap (first p) (told-once t v.1) ∙ sym v.2
told-once (before h) u = sym (rw h at (by_next u))
told-once (here h) u = sym (rw h at (by_next u))
told-once (all h) u = sym (rw h at (by_next u))
