-- A family of messages: each kind has a number and a layout. What its readers answer, with the number of its type. Assumes nothing.
use Prim.Native.Nat.{ℕ}
use mathlib.Core.Path.{◌≡◌, ap}
use mathlib.Core.List.{List}
use Rattle.std.specs.Prelude.{Result}
use Rattle.common.proofs.Cases.{both}
use Rattle.field.specs.Outcome.{Outcome, whole, no}
use Rattle.field.specs.declared.Fault.{Fault}
use Rattle.field.specs.declared.Piece.{Piece}
use Rattle.field.proofs.OneAnswer.{fault-once}
use Rattle.field.proofs.Unjudged.{apart}
use Rattle.layout.specs.Layout.{Layout, done, scan}
use Rattle.layout.specs.Typed.{Typed, typed, told_typed}
use Rattle.layout.proofs.Steps.{To, Stops, is_whole, is-no}

-- ---- a reader of one type

module _ (type : ℕ) {s : List ℕ} {k : Layout} {at : ℕ} where
  -- stops,
  pub typed_no : {fault : Fault} → Stops s k at fault → no fault ≡ typed type (scan k s at)
  typed_no w = ap (typed type) (is-no w)

  -- or comes to the end
  pub typed-whole : {ps : List Piece} {end : ℕ} → To s k at ps done end → whole (record { type = type; pieces = ps }) end ≡ typed type (scan k s at)
  typed-whole w = ap (typed type) (is_whole w)

-- ---- a reader of every type, by the kind

module _ {K : Type 0} (number_of : K → ℕ) (layout_of : K → Layout) (s : List ℕ) (at : ℕ) {k j : K} (which : k ≡ j) where
  -- by a reader of its own,
  pub by-reader : {o : Outcome Typed} → o ≡ typed (number_of j) (scan (layout_of j) s at) → o ≡ typed (number_of k) (scan (layout_of k) s at)
  by-reader h = rw which h

  -- or field by field
  pub by-fields : {type : ℕ} {ps : List Piece} {end : ℕ} → To s (layout_of j) at ps done end → type ≡ number_of j → whole (record { type = type; pieces = ps }) end ≡ typed (number_of k) (scan (layout_of k) s at)
  by-fields w e = rw e (by-reader (typed-whole (number_of j) w))

  pub by-fault : {fault : Fault} → Stops s (layout_of j) at fault → no fault ≡ typed (number_of k) (scan (layout_of k) s at)
  by-fault w = by-reader (typed_no (number_of j) w)

-- ---- one possible answer: where a type and fields are those of one message, what is told is told of one answer

pub told_once : {M : Type 0} (typed_of : M → Typed) → ((m n : M) → typed_of m ≡ typed_of n → m ≡ n) → (a b : Result (M × ℕ) Fault) → told_typed typed_of a ≡ told_typed typed_of b → a ≡ b
told_once typed_of once = fault-once _ (λ a fault e. apart e) λ a b e. both (once a.0 b.0 (cc)) (cc)
