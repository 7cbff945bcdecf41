-- Fields have the shape that a layout asks for: they are of its forms, and pass its tests. Good fields that do are what it permits.
-- Assumes nothing.
use mathlib.Core.Path.{◌≡◌, refl}
use mathlib.Core.Bool.{Bool, true, false}
use mathlib.Core.List.{List, [], ◌∷◌}
use lib.Dec.{eqb}
use Rattle.common.specs.Choice.{pick, both}
use Rattle.common.proofs.Tests.{both-each}
use Rattle.field.specs.Value.{Value}
use Rattle.layout.specs.Layout.{Layout, done, forbidden, field, when}
use Rattle.layout.specs.Permitted.{form_of, handed, code, permitted}
use Rattle.encode.proofs.Good.{AllGood, more}

-- values are of the forms that a layout asks for, and pass its tests
unfoldable pub fitting : Layout → List Value → Bool
fitting done [] = true
fitting done (v ∷ vs) = false
fitting forbidden vs = false
fitting (field name form next) [] = false
fitting (field name form next) (v ∷ vs) = both (eqb (code form) (code (form_of v))) (fitting (next (handed v)) vs)
fitting (when test l m) vs = pick test (fitting l vs) (fitting m vs)

-- good values that do are permitted
pub fitting-permitted : (l : Layout) (vs : List Value) → fitting l vs ≡ true → AllGood vs → permitted l vs ≡ true
unfolding fitting permitted
fitting-permitted done [] h g = refl
fitting-permitted done (v ∷ vs) h g = h
fitting-permitted forbidden vs h g = h
fitting-permitted (field name form next) [] h g = h
fitting-permitted (field name form next) (v ∷ vs) h (more g gs) =
    let p = both-each (eqb (code form) (code (form_of v))) (fitting (next (handed v)) vs) h in
    rw (p.0, g) (fitting-permitted (next (handed v)) vs p.1 gs)
fitting-permitted (when true l m) vs h g = fitting-permitted l vs h g
fitting-permitted (when false l m) vs h g = fitting-permitted m vs h g
