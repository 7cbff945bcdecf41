-- `fault_line` meets its contract. Assumes nothing.
use Rattle.answers.proofs.lines.fault_line.Goals as goal

pub returns-in-Empty : goal.returns-in-Empty
returns-in-Empty c = rw c.in-Empty.is c.fault_line.ensures

pub returns-in-Running : goal.returns-in-Running
returns-in-Running c = rw c.in-Running.is c.of.ensures

pub returns-in-Faulty : goal.returns-in-Faulty
returns-in-Faulty c = rw c.in-Faulty.is c.fault_line-in-Faulty.ensures
