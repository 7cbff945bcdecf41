-- `of_trace` meets its contract: the text is counted first, and only then put. Assumes nothing.
use Rattle.answers.proofs.TextAdded.{passes-short, passes-done}
use Rattle.answers.proofs.writing.of_trace.Goals as goal

pub returns-in_err-pass : goal.returns-in_err-pass
returns-in_err-pass c = rw c.from_residual.ensures (passes-short _ _ _ c.pass.ensures c.in_err-pass.was)

pub returns : goal.returns
returns c = passes-done _ _ _ c.pass.ensures c.in_ok-pass.was c.pass-2.ensures
