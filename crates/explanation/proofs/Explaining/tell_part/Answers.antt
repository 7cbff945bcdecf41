-- `tell_part` meets its contract. Assumes nothing.
use Rattle.std.proofs.Common.{refl}
use Rattle.explanation.proofs.FieldValues.{told_part}
use Rattle.explanation.proofs.Explaining.tell_part.Goals as goal

pub returns : goal.returns
returns c =
    told_part _ c.args.self c.min-start.ensures refl c.next-told.ensures c.put_step.ensures c.after_step.ensures
