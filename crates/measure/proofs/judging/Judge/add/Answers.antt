-- `add` meets its contract: neither test adds, so nothing wraps. Assumes nothing.
use native.Mathlib.Omega.{arith}
use Rattle.measure.proofs.Judges.{fit-within, fit-over}
use Rattle.measure.proofs.judging.Judge.add.Goals as goal
use Rattle.measure.proofs.judging.Judge.add.Goals.{then-a-self-via-then-a-self, then-a-self-via-else-a-self+then-b-self}

pub returns-then-a-self : goal.returns-then-a-self
returns-then-a-self c =
    fit-over _ _ (elim c.then-a-self.branch [
      | then-a-self-via-then-a-self w ↦ omega arith
      | then-a-self-via-else-a-self+then-b-self w ↦ omega arith
    ])

pub returns : goal.returns
returns c = fit-within _ _ (omega arith)
