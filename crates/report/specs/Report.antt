-- THE REPORT, from the whole trace to the whole output.
use Rattle.std.specs.Prelude.{ℕ, ◌+◌, ◌*◌, List, [], ◌∷◌, ◌++◌}
use Rattle.row.specs.declared.Row.{Row}
use Rattle.ledger.specs.Ledgers.{most_rows, held}
use Rattle.ledger.specs.declared.Ledger.{Ledger}
use Rattle.text.specs.Lines.{line_of, fault_line, longest_line}
use Rattle.replay.specs.Progressing.{on_fault, replay_of}
use Rattle.replay.specs.declared.Progress.{Progress}
use Rattle.report.specs.Rows.{session_line, columns_line, row_line}

-- a line for each row, in their order
unfoldable pub rows_text : List Row → List ℕ
rows_text [] = []
rows_text (r ∷ rs) = line_of (row_line r) ++ rows_text rs

unfoldable pub ledger_text : Ledger → List ℕ
ledger_text l = line_of (session_line l.session l.used) ++ (line_of columns_line ++ rows_text (held l))

-- a replay that ended shows its ledger; a fault "prints only `trace fault at N`"
unfoldable pub text_of : Progress → List ℕ
text_of p = on_fault p.stage (λ at. line_of (fault_line at)) (ledger_text p.ledger)

unfoldable pub report_of : List ℕ → List ℕ
report_of s = text_of (replay_of s)

-- no report is longer: a line for the session, one for the columns, and one for each row
abbrev pub longest_report : ℕ
longest_report = longest_line * (2 + most_rows)
