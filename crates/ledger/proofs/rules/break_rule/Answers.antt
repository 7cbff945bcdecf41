-- `break_rule` meets its contract. Assumes nothing.
use Rattle.ledger.proofs.CodePaths.{own-breaks, peer-breaks}
use Rattle.ledger.proofs.rules.break_rule.Goals as goal
use Rattle.ledger.proofs.rules.break_rule.Goals.{then-own, else-own}

pub returns : goal.returns
returns c =
    rw c.answers.ensures (elim c.if-own.branch [
      | then-own w ↦ rw (w.next-is, w.if-own.true) (own-breaks _ c.requires c.args.rule)
      | else-own w ↦ rw (w.next-is, w.if-own.false) (peer-breaks _ c.requires c.args.rule)
    ])
