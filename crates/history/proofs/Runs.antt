-- A run of arrivals is the history of its arrivals. Assumes nothing.
use Prim.Native.Nat.{ℕ, ◌≤◌}
use mathlib.Core.Path.{◌≡◌, refl, ap}
use mathlib.Core.Bool.{true}
use mathlib.Core.List.{List, [], ◌∷◌, map}
use borrow.Author.Tests.{le-leb}
use lib.ListN.{length}
use Rattle.common.specs.Buffer.{over}
use Rattle.field.specs.declared.Arrival.{Arrival}
use Rattle.ledger.specs.Ledgers.{is_ledger}
use Rattle.ledger.specs.Runs.{arrivals_in, after_arrivals, answer_numbers, run_of}
use Rattle.ledger.specs.Steps.{arrival_of}
use Rattle.ledger.specs.declared.Ledger.{Ledger}
use Rattle.orders.specs.Events.{arrival}
use Rattle.history.specs.Events.{ledger_after, log_of}
use Rattle.history.specs.Runs.{answer_number, Follows}

pub behind-run : (l : Ledger) (xs : List Arrival) → after_arrivals l xs ≡ ledger_after l (map arrival xs)
unfolding after_arrivals ledger_after
behind-run l [] = refl
behind-run l (a ∷ xs) = behind-run (arrival_of l a).next xs

pub numbers-told : (l : Ledger) (xs : List Arrival) → answer_numbers l xs ≡ map answer_number (log_of l (map arrival xs))
unfolding answer_numbers log_of
numbers-told l [] = refl
numbers-told l (a ∷ xs) = ap (λ (ns : List ℕ). (arrival_of l a).says.number ∷ ns) (numbers-told (arrival_of l a).next xs)

-- where it is a ledger, and there is room for a number for each
pub run-follows : (l : Ledger) (ns before : List ℕ) → is_ledger l ≡ true → length (arrivals_in ns) ≤ length before → Follows l (map arrival (arrivals_in ns)) before (run_of l ns before)
unfolding run_of
run-follows l ns before w room =
    let fits = le-leb (length (arrivals_in ns)) (length before) room in
    record {
      next = rw (w, fits) (behind-run l (arrivals_in ns));
      holds = rw (w, fits) (ap (λ (xs : List ℕ). over xs before) (numbers-told l (arrivals_in ns)));
    }
