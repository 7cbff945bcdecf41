-- A message or a header: the number of its type, and its fields.
use Rattle.std.specs.Prelude.{ℕ, List, ◌++◌, Result, Ok, Err}
use Rattle.field.specs.Outcome.{Outcome, whole, no}
use Rattle.field.specs.Told.{told_fault}
use Rattle.field.specs.declared.Fault.{Fault}
use Rattle.field.specs.declared.Piece.{Piece}
use Rattle.layout.specs.Layout.{scan, parameters}

-- fields, after others that were read before them
abbrev pub led : List Piece → Outcome (List Piece) → Outcome (List Piece)
led first (whole ps end) = whole (first ++ ps) end
led first (no fault) = no fault

-- the fields that stand before parameters, as a reader of them tells: those, and then the parameters from their end on
abbrev pub before_parameters : {A : Type 0} → (A → List Piece) → List ℕ → Result (A × ℕ) Fault → Outcome (List Piece)
before_parameters pieces s (Ok (a, end)) = led (pieces a) (scan parameters s end)
before_parameters pieces s (Err fault) = no fault

pub record Typed : Type 0 where
  pub type : ℕ
  pub pieces : List Piece

-- fields that were read of something of a type
abbrev pub typed : ℕ → Outcome (List Piece) → Outcome Typed
typed type (whole ps end) = whole (record { type = type; pieces = ps }) end
typed type (no fault) = no fault

-- what a reader of messages or headers answers, by the type and the fields of each
abbrev pub told_typed : {M : Type 0} → (M → Typed) → Result (M × ℕ) Fault → Outcome Typed
told_typed typed_of = told_fault λ (m, end). whole (typed_of m) end
