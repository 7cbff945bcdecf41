-- What holds of a ledger's numbers, for every ledger and all numbers. Each theorem with its sentence, and nothing else.
-- Assumes nothing.
use Prim.Native.Nat.{ℕ}
use mathlib.Core.Path.{◌≡◌}
use mathlib.Core.Bool.{false}
use mathlib.Core.List.{List, ◌++◌}
use lib.ListN.{length, take}
use Rattle.ledger.specs.Ledgers.{most_rows, is_ledger}
use Rattle.ledger.specs.declared.Ledger.{Ledger}
use Rattle.ledger_numbers.specs.Numbers.{ledger_numbers, numbers_of}
use Rattle.ledger_numbers.specs.Naming.{ledger_named, no_ledger, unpack_of, kept_in}
use Rattle.ledger_numbers.proofs.Again as again

module _ (l : Ledger) (places : length l.rows ≡ most_rows) where
  -- 1. The numbers of a ledger name it,
  pub named_again : ledger_named (numbers_of l) ≡ l
  named_again = again.named l places

  -- and so a ledger that is packed is unpacked as the same, whatever stands after its numbers.
  pub unpacked-again : (rest : List ℕ) → unpack_of (numbers_of l ++ rest) ≡ l
  unpacked-again = again.unpacked l places

module _ (ns : List ℕ) where
  -- 2. Numbers that are unpacked as a ledger with room for a row are that ledger's own,
  pub numbers-again : ((unpack_of ns).capacity ≡ 0 → ⊥) → numbers_of (unpack_of ns) ≡ take ledger_numbers ns
  numbers-again = again.numbers-again ns

  -- and so a call that leaves the ledger as it is leaves the numbers as they are.
  pub kept_again : kept_in ns (unpack_of ns) ≡ ns
  kept_again = again.kept ns

-- 3. What other numbers are unpacked as is no ledger: every call on it answers 14.
pub no-ledger : is_ledger no_ledger ≡ false
no-ledger = again.no-ledger
