-- Bytes that must be filled: the last part is what no field takes. Assumes nothing.
use Prim.Native.Nat.{ℕ}
use mathlib.Core.Path.{◌≡◌, refl, sym, ap, ◌∙◌}
use mathlib.Core.List.{List, [], ◌∷◌}
use mathlib.Core.Bool.{Bool, true, false}
use native.Mathlib.Nat.{le_refl}
use lib.Dec.{ltb}
use Rattle.common.specs.Answer.{Answer, Nothing, whole, refused}
use Rattle.common.specs.Choice.{pick, guard, both}
use Rattle.common.proofs.Cases.{pick-by}
use Rattle.field.specs.Outcome.{Outcome, whole as found, no, on_found}
use Rattle.layout.specs.declared.FieldName.TheVariants.{MessageLength}
use Rattle.parts.specs.declared.What.TheVariants.{Left}
use Rattle.parts.specs.declared.Part.{Part}
use Rattle.explained.specs.Explaining.{Explained, taking, refusing, first, filling_by, leading, filling}
use Rattle.explained.specs.Tiling.{Tiles, none, next as one_more}
use Rattle.explained.proofs.TiledParts.{Tiled, taking-tiled, refusing-tiled, first-tiled}

-- parts before others leave their answer,
leading-says : (ps : List Part) (e : Explained) → (leading ps e).answer ≡ e.answer
leading-says [] e = refl
leading-says (p ∷ ps) e = leading-says ps e

pub filling-says : (size : ℕ) (e : Explained) → (filling size e).answer ≡ (filling_by size e.answer).answer
filling-says size e = leading-says e.parts (filling_by size e.answer)

-- and stand before them
leading-tiled : {size at mid : ℕ} {ps : List Part} {e : Explained} → Tiles at ps mid → Tiled size mid e → Tiled size at (leading ps e)
leading-tiled none t = t
leading-tiled (one_more {p = p} h r) t =
    first-tiled p.name p.what p.value p.start p.end h (leading-tiled r t)

-- so bytes that are filled are tiled
pub filling-tiled : {size at : ℕ} {e : Explained} → Tiled size at e → Tiled size at (filling size e)
filling-tiled {size} {e = e} t = leading-tiled t.tiles (go e.answer t.tells)
  where
    go : (a : Answer Nothing) → ((used : ℕ) → a ≡ whole tt used → t.last ≡ used) → Tiled size t.last (filling_by size a)
    go (whole _ used) h =
        let k : used ≡ t.last = sym (h used refl) in
        rw k (pick-by (Tiled size t.last) (ltb t.last size)
        (λ f. first-tiled MessageLength Left 0 t.last size t.reach (refusing-tiled size 4 (le_refl size)))
        (λ f. taking-tiled t.last t.reach))
    go (refused number) h = refusing-tiled t.last number t.reach

-- ---- where they must be filled, or need not

abbrev pub ended : Bool → ℕ → Explained → Explained
ended must size e = pick must (filling size e) e

pub ended-tiled : (must : Bool) {size at : ℕ} {e : Explained} → Tiled size at e → Tiled size at (ended must size e)
ended-tiled true t = filling-tiled t
ended-tiled false t = t

-- what stands before the end of all changes nothing of it: a part,
ended-first : (must : Bool) (size : ℕ) (p : Part) (e : Explained) → first p (ended must size e) ≡ ended must size (first p e)
ended-first true size p e = refl
ended-first false size p e = refl

-- a refusal,
pub ended-refusing : (must : Bool) (size number : ℕ) → refusing number ≡ ended must size (refusing number)
ended-refusing true size number = refl
ended-refusing false size number = refl

ended-faulty : (must : Bool) (size : ℕ) (p : Part) (number : ℕ) → first p (refusing number) ≡ ended must size (first p (refusing number))
ended-faulty must size p number = ap (first p) (ended-refusing must size number) ∙ ended-first must size p (refusing number)

-- an integer, and where it is cut,
pub ended-found : (must : Bool) (size : ℕ) (o : Outcome ℕ) (p : Part) (number : ℕ) (q : ℕ → ℕ → Part) (e : ℕ → ℕ → Explained)
    → on_found o (first p (refusing number)) (λ n mid. first (q n mid) (ended must size (e n mid))) ≡ ended must size (on_found o (first p (refusing number)) (λ n mid. first (q n mid) (e n mid)))
ended-found must size (found n mid) p number q e = ended-first must size (q n mid) (e n mid)
ended-found must size (no fault) p number q e = ended-faulty must size p number

-- or a test
pub ended-guard : (must : Bool) (size : ℕ) (t : Bool) (p : Part) (number : ℕ) (q : Part) (e : Explained)
    → guard t (first p (refusing number)) (first q (ended must size e)) ≡ ended must size (guard t (first p (refusing number)) (first q e))
ended-guard must size true p number q e = ended-first must size q e
ended-guard must size false p number q e = ended-faulty must size p number

-- ---- where all is taken, no part is added

leading-none : (ps : List Part) (used : ℕ) → (leading ps (taking used)).parts ≡ ps
leading-none [] used = refl
leading-none (p ∷ ps) used = ap (λ (qs : List Part). p ∷ qs) (leading-none ps used)

pub ended-parts : (must : Bool) (size : ℕ) (e : Explained) {used : ℕ} → e.answer ≡ whole tt used → both must (ltb used size) ≡ false → (ended must size e).parts ≡ e.parts
ended-parts true size e {used} h k = rw (h, k) (leading-none e.parts used)
ended-parts false size e h k = refl
