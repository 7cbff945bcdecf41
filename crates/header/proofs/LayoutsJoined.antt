-- A layout with another after it: what is read by the first, and then by the other. Assumes nothing.
use Prim.Native.Nat.{ℕ}
use mathlib.Core.Path.{◌≡◌, refl}
use mathlib.Core.List.{List, [], ◌∷◌}
use mathlib.Core.Bool.{true, false}
use Rattle.field.specs.Outcome.{Outcome, whole, no, and_then}
use Rattle.field.specs.Fields.{field_at}
use Rattle.field.specs.declared.Fault.{Fault}
use Rattle.field.specs.declared.Piece.{Piece}
use Rattle.layout.specs.Layout.{Layout, done, forbidden, field, when, control, scan}
use Rattle.layout.specs.Typed.{led}
use Rattle.header.specs.Layouts.{behind}

-- no fields before others are as none,
led-none : (o : Outcome (List Piece)) → o ≡ led [] o
led-none (whole ps end) = refl
led-none (no fault) = refl

module _ (k : Layout) (s : List ℕ) where
  -- what the other reads after the fields of the first
  abbrev after : Outcome (List Piece) → Outcome (List Piece)
  after o = and_then o (λ ps end. led ps (scan k s end))

  -- one field more stands before them all
  one_more : (p : Piece) (o : Outcome (List Piece)) → and_then (after o) (λ ps end. whole (p ∷ ps) end) ≡ after (and_then o (λ ps end. whole (p ∷ ps) end))
  one_more p (whole ps end) = go (scan k s end)
    where
      go : (o : Outcome (List Piece)) → and_then (led ps o) (λ qs last. whole (p ∷ qs) last) ≡ led (p ∷ ps) o
      go (whole qs last) = refl
      go (no fault) = refl
  one_more p (no fault) = refl

  -- so it is after a field where it is after what follows that
  behind-field : (next more : ℕ → Layout) → ((n at : ℕ) → scan (more n) s at ≡ after (scan (next n) s at)) → (o : Outcome Piece) → and_then o (λ p end. and_then (scan (more (control p)) s end) (λ ps last. whole (p ∷ ps) last)) ≡ after (and_then o (λ p end. and_then (scan (next (control p)) s end) (λ ps last. whole (p ∷ ps) last)))
  behind-field next more h (whole p end) = rw (h (control p) end) (one_more p (scan (next (control p)) s end))
  behind-field next more h (no fault) = refl

  behind-is : (l : Layout) (at : ℕ) → scan (behind l k) s at ≡ after (scan l s at)
  unfolding scan behind
  behind-is done at = led-none (scan k s at)
  behind-is forbidden at = refl
  behind-is (field name form next) at = behind-field next (λ n. behind (next n) k) (λ n end. behind-is (next n) end) (field_at form s at)
  behind-is (when true l m) at = behind-is l at
  behind-is (when false l m) at = behind-is m at

  module _ (l : Layout) (at : ℕ) where
    -- Where the first is read whole, the other is read after its fields;
    pub behind-whole : {ps : List Piece} {end : ℕ} → scan l s at ≡ whole ps end → led ps (scan k s end) ≡ scan (behind l k) s at
    behind-whole h = rw (behind-is l at, h)

    -- and where it is refused, both are.
    pub behind-no : {fault : Fault} → scan l s at ≡ no fault → no fault ≡ scan (behind l k) s at
    behind-no h = rw (behind-is l at, h)
