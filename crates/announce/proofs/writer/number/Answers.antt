-- `number` meets its contract. Assumes nothing.
use Rattle.common.proofs.Telling.{told_of}
use Rattle.announce.specs.Told.{typed_of}
use Rattle.announce.proofs.writer.number.Goals as goal

pub returns-in-Named : goal.returns-in-Named
returns-in-Named c = search (told_of (λ m. (typed_of m).type))

pub returns-in-Asked : goal.returns-in-Asked
returns-in-Asked c = search (told_of (λ m. (typed_of m).type))

pub returns-in-Refused : goal.returns-in-Refused
returns-in-Refused c = search (told_of (λ m. (typed_of m).type))
