-- The parts of a layout are answered as its fields are. Assumes nothing.
use Prim.Native.Nat.{ℕ}
use mathlib.Core.Path.{◌≡◌, refl, ◌∙◌}
use mathlib.Core.List.{List, ◌∷◌}
use mathlib.Core.Bool.{true, false}
use Rattle.field.specs.Outcome.{Outcome, whole, no, and_then, answer}
use Rattle.field.specs.Fields.{field_at}
use Rattle.field.specs.declared.Piece.{Piece}
use Rattle.layout.specs.Layout.{Layout, done, forbidden, field, when, control, scan}
use Rattle.explained.specs.Grammar.{parts_of}
use Rattle.explained.specs.Explaining.{explain}
use Rattle.explained.specs.Tiling.{forget}
use Rattle.explained.proofs.AfterOutcomes.{after, after-alike}
use Rattle.explained.proofs.FieldAnswers.{field-says}

-- a field before others changes only what was read
after-field : (cut : ℕ) (o : Outcome Piece) (rest : Piece → ℕ → Outcome (List Piece))
    → after cut o (λ p end. forget (answer cut (rest p end))) ≡ forget (answer cut (and_then o λ p end. and_then (rest p end) λ ps last. whole (p ∷ ps) last))
after-field cut (whole p end) rest = go (rest p end)
  where
    go : (o : Outcome (List Piece)) → forget (answer cut o) ≡ forget (answer cut (and_then o λ ps last. whole (p ∷ ps) last))
    go (whole ps last) = refl
    go (no fault) = refl
after-field cut (no fault) rest = refl

pub layout-says : (cut : ℕ) (l : Layout) (s : List ℕ) (at : ℕ) → (explain cut (parts_of l) s at).answer ≡ forget (answer cut (scan l s at))
unfolding explain parts_of scan
layout-says cut done s at = refl
layout-says cut forbidden s at = refl
layout-says cut (field name form next) s at =
    field-says cut name s form (λ n. parts_of (next n)) at
    ∙ after-alike cut (field_at form s at) (λ p end e. layout-says cut (next (control p)) s end)
    ∙ after-field cut (field_at form s at) (λ p end. scan (next (control p)) s end)
layout-says cut (when true l m) s at = layout-says cut l s at
layout-says cut (when false l m) s at = layout-says cut m s at
