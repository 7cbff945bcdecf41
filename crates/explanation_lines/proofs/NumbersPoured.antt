-- The lines of numbers, one after the other. Assumes nothing.
use Rattle.std.proofs.Common.{◌≡◌, ℕ, ◌+◌, ◌<◌, ◌≤◌, false, List, ◌∷◌, length, get_or, drop, drop-cons, drop_of_length-le, add-one, refl, ◌∙◌}
use Rattle.field.specs.Fields.{field_at, integer}
use Rattle.field.specs.Outcome.{whole, no}
use Rattle.field.specs.declared.Fault.TheVariants.{Cut}
use Rattle.field.specs.declared.Piece.TheVariants.{Number as Numbered}
use Rattle.field.proofs.TwoReads.{number-there, number-missing}
use Rattle.layout.specs.declared.FieldName.{FieldName}
use Rattle.parts.specs.Telling.{part_of}
use Rattle.parts.specs.declared.What.TheVariants.{Number}
use Rattle.columns.specs.Pouring.{Filling, pour}
use Rattle.columns.proofs.Poured.{poured-both}
use Rattle.explanation_lines.specs.Lines.{part_line, cut_lines, left_line, number_lines}

module _ (names : List FieldName) (name : FieldName) (offset : ℕ) (s : List ℕ) (at : ℕ) (f : Filling)
    {g : Filling} where
  -- the bytes end in one,
  pub number_cut : no Cut ≡ field_at integer s at → g ≡ pour f (cut_lines name offset s at)
      → g ≡ pour f (number_lines (name ∷ names) offset s at)
  unfolding number_lines
  number_cut e p = rw (number-missing s at e) p

  -- or it is there, and then the others are told
  pub number-poured : {n end : ℕ} {h : Filling} → whole (Numbered n) end ≡ field_at integer s at
      → g ≡ pour f (part_line offset s false (part_of name Number n at end))
      → h ≡ pour g (number_lines names offset s end) → h ≡ pour f (number_lines (name ∷ names) offset s at)
  unfolding number_lines
  number-poured e p q = rw (number-there s at e) (poured-both f _ _ p q)

-- a loop over the names of the numbers, which has met i of them
module _ (names : List FieldName) (i : ℕ) (offset : ℕ) (s : List ℕ) (at : ℕ) (f : Filling) {all : Filling}
    (inv : pour f (number_lines (drop i names) offset s at) ≡ all) where
  next : (d : FieldName) → i < length names → pour f (number_lines (get_or names i d ∷ drop (i + 1) names) offset s at) ≡ all
  next d h =
      let e : drop i names ≡ get_or names i d ∷ drop (i + 1) names = rw (add-one i, drop-cons names i d h) in
      rw e at inv

  module _ (d : FieldName) (h : i < length names) {g : Filling} where
    -- the bytes end in the next,
    pub loop-cut : no Cut ≡ field_at integer s at → g ≡ pour f (cut_lines (get_or names i d) offset s at) → g ≡ all
    loop-cut e p = number_cut (drop (i + 1) names) (get_or names i d) offset s at f e p ∙ next d h

    -- or it is there, and the others are left
    pub loop-poured : {n end : ℕ} → whole (Numbered n) end ≡ field_at integer s at
        → g ≡ pour f (part_line offset s false (part_of (get_or names i d) Number n at end))
        → pour g (number_lines (drop (i + 1) names) offset s end) ≡ all
    loop-poured e p = number-poured (drop (i + 1) names) (get_or names i d) offset s at f e p refl ∙ next d h

  -- and what is left after the last
  pub loop-left : length names ≤ i → {g : Filling} → g ≡ pour f (left_line offset s at) → g ≡ all
  unfolding number_lines
  loop-left h p = p ∙ (rw (drop_of_length-le names {i = i} h) at inv)
