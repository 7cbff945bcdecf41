-- No report is longer than `longest_report`. Assumes nothing.
use Prim.Native.Nat.{ℕ, ◌≤◌}
use mathlib.Core.Path.{◌≡◌}
use mathlib.Core.List.{List}
use native.Mathlib.Omega.{arith}
use lib.ListN.{length}
use Rattle.ledger.specs.Ledgers.{most_rows}
use Rattle.ledger.proofs.Facts.{parts}
use Rattle.text.specs.Lines.{line_of, fault_line}
use Rattle.text.proofs.Bounds.{line-bound}
use Rattle.replay.specs.Progressing.{on_fault, begun, fed, finish_of, replay_of}
use Rattle.replay.specs.declared.Stage.{Stage}
use Rattle.replay.specs.declared.Stage.TheVariants.{Empty, Running, Faulty}
use Rattle.replay.specs.declared.Progress.{Progress}
use Rattle.replay.proofs.Theorems.{run-ledger}
use Rattle.report.specs.Report.{ledger_text, text_of, report_of, longest_report}
use Rattle.report.proofs.RowLines.{ledger-bound}

-- of a ledger with its places, whatever the stage
pub text-bound : (p : Progress) → length p.ledger.rows ≡ most_rows → length (text_of p) ≤ longest_report
unfolding text_of
text-bound p places = go p.stage
  where
    go : (stage : Stage) → length (on_fault stage (λ at. line_of (fault_line at)) (ledger_text p.ledger)) ≤ longest_report
    go Empty = omega (arith, line-bound (fault_line 0))
    go Running = ledger-bound p.ledger places
    go (Faulty at) = omega (arith, line-bound (fault_line at))

pub ended-bound : (p : Progress) (left : ℕ) → length p.ledger.rows ≡ most_rows → length (text_of (finish_of p left)) ≤ longest_report
unfolding finish_of
ended-bound p left places = text-bound (finish_of p left) places

-- THE BOUND, for every trace
pub report-bound : (s : List ℕ) → length (report_of s) ≤ longest_report
unfolding report_of replay_of finish_of
report-bound s = text-bound (replay_of s) (parts (fed begun s).so_far.ledger (run-ledger s)).long
