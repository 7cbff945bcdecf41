-- `put` meets its contract: a report always has room. Assumes nothing.
use Rattle.std.proofs.Common.{◌≡◌, length, arith}
use Rattle.ledger.specs.Ledgers.{most_rows}
use Rattle.report.proofs.LinePut.{line-put}
use Rattle.report.proofs.Longest.{ended-bound}
use Rattle.moqreport.proofs.put.Goals as goal

pub returns : goal.returns
returns c =
    let places : length c.args.p.ledger.rows ≡ most_rows = c.well_formed.1.0.1.1.0.1.1.0.1.0.1 in
    let fits = ended-bound c.args.p c.args.left places in
    rw c.unwrap_or.ensures (line-put _ _ c.of_progress.result (omega (arith, c.requires, fits)) c.of_progress.ensures)
