-- Arrivals that come together: three numbers each, taken one by one.
use Rattle.std.specs.Prelude.{ℕ, ◌≡◌, List, [], ◌∷◌, length, leb, Result, Ok, Err}
use Rattle.common.specs.Choice.{guard}
use Rattle.common.specs.Answer.{Answer, refused, Nothing, wrote}
use Rattle.common.specs.Buffer.{over}
use Rattle.field.specs.declared.Arrival.{Arrival}
use Rattle.ledger.specs.Ledgers.{is_ledger}
use Rattle.ledger.specs.Steps.{arrival_of}
use Rattle.ledger.specs.declared.Ledger.{Ledger}
use Rattle.ledger.specs.declared.RunRefused.{RunRefused}
use Rattle.ledger.specs.declared.RunRefused.TheVariants.{NotALedger, TooShort}
use Rattle.ledger.specs.declared.Ran.{Ran}

-- "An arrival is alias, group, object"; one or two numbers at the end are none
unfoldable pub arrivals_in : List ℕ → List Arrival
arrivals_in [] = []
arrivals_in (alias ∷ []) = []
arrivals_in (alias ∷ group ∷ []) = []
arrivals_in (alias ∷ group ∷ object ∷ rest) =
    record { alias = alias; place = record { group = group; object = object } } ∷ arrivals_in rest

-- a number, which is found by itself
abbrev pub itself : ℕ → ℕ
itself n = n

-- the ledger after them,
unfoldable pub after_arrivals : Ledger → List Arrival → Ledger
after_arrivals l [] = l
after_arrivals l (a ∷ rest) = after_arrivals (arrival_of l a).next rest

-- and 01's number of each
unfoldable pub answer_numbers : Ledger → List Arrival → List ℕ
answer_numbers l [] = []
answer_numbers l (a ∷ rest) = (arrival_of l a).says.number ∷ answer_numbers (arrival_of l a).next rest

-- what a run does: what is said, the ledger after it, and what the buffer for the numbers then holds
pub record Run : Type 0 where
  pub says : Answer Nothing
  pub next : Ledger
  pub holds : List ℕ

-- a refusal changes nothing
abbrev pub no_run : Ledger → List ℕ → ℕ → Run
no_run l before number = record { says = refused number; next = l; holds = before }

-- "Order: 14, 5, 10, then the rest": 14 is of the call, and goes before 7, where there is no room for a number for each
-- arrival; 5 and 10 are of an arrival
unfoldable pub run_of : Ledger → List ℕ → List ℕ → Run
run_of l run before =
    let came = arrivals_in run in
    guard (is_ledger l) (no_run l before 14)
    (guard (leb (length came) (length before)) (no_run l before 7)
    (record { says = wrote (length came); next = after_arrivals l came; holds = over (answer_numbers l came) before }))

abbrev pub told_filled : Result ℕ RunRefused → Answer Nothing
told_filled (Ok count) = wrote count
told_filled (Err NotALedger) = refused 14
told_filled (Err TooShort) = refused 7

pub record Runs (w : Run) (r : Ran) (after : List ℕ) : Type 0 where
  pub says : told_filled r.answer ≡ w.says
  pub next : r.ledger ≡ w.next
  pub holds : after ≡ w.holds
