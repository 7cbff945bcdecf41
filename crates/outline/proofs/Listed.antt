-- A layout that is a list of fields: after as many numbers as an index says, the field of that index stands there, and
-- after all of them nothing. Assumes nothing.
use Prim.Native.Nat.{ℕ, ◌≤◌, ◌<◌}
use mathlib.Core.Path.{◌≡◌, refl}
use mathlib.Core.List.{List, [], ◌∷◌}
use native.Mathlib.Omega.{arith}
use lib.ListN.{length, get_or}
use Rattle.layout.specs.declared.FieldName.{FieldName}
use Rattle.outline.specs.Places.{form_of, form_in, listed, rest_of, ahead_of}
use Rattle.outline.specs.declared.Form.{Form}
use Rattle.outline.specs.declared.Form.TheVariants.{Integer, Byte, Bytes, List as Listing, Track}
use Rattle.outline.specs.declared.Ahead.TheVariants.{Field, Done}
use Rattle.outline.proofs.OneByOne.{done-ahead}

form-back : (form : Form) → form_in (form_of form) ≡ form
form-back Integer = refl
form-back Byte = refl
form-back Bytes = refl
form-back (Listing kind) = refl
form-back Track = refl

pub stands-listed : (fields : List (FieldName × Form)) (v : List ℕ) (f : FieldName × Form) → length v < length fields → f ≡ get_or fields (length v) f
    → Field f.0 f.1 ≡ ahead_of (rest_of (listed fields) v)
unfolding listed rest_of ahead_of
stands-listed [] v f h e = absurd (omega arith)
stands-listed (g ∷ fields) [] f h e = rw (e, form-back g.1)
stands-listed (g ∷ fields) (n ∷ v) f h e = stands-listed fields v f (omega arith) e

pub past-listed : (fields : List (FieldName × Form)) (v : List ℕ) → length fields ≤ length v → Done ≡ ahead_of (rest_of (listed fields) v)
unfolding listed rest_of ahead_of
past-listed [] v h = done-ahead v
past-listed (g ∷ fields) [] h = absurd (omega arith)
past-listed (g ∷ fields) (n ∷ v) h = past-listed fields v (omega arith)
