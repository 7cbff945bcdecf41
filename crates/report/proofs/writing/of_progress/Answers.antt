-- `of_progress` meets its contract. Assumes nothing.
use Rattle.report.proofs.ReplayShown.{shows_nothing, shows-ledger, shows-fault}
use Rattle.report.proofs.writing.of_progress.Goals as goal

pub returns-in-Empty : goal.returns-in-Empty
returns-in-Empty c = shows_nothing _ _ c.finish-ended.ensures _ _ c.in-Empty.is c.fault_line.ensures c.put.ensures

pub returns-in-Running : goal.returns-in-Running
returns-in-Running c = shows-ledger _ _ c.finish-ended.ensures _ c.in-Running.is c.write_ledger.ensures

pub returns-in-Faulty : goal.returns-in-Faulty
returns-in-Faulty c =
    shows-fault _ _ c.finish-ended.ensures _ _ _ c.in-Faulty.is c.fault_line-in-Faulty.ensures c.put-in-Faulty.ensures
