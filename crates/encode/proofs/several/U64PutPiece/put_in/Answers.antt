-- `put_in` meets its contract at a number. Assumes nothing.
use mathlib.Core.Path.{refl}
use Rattle.encode.proofs.Pieces.{number-asks, number_is}
use Rattle.encode.proofs.several.U64PutPiece.put_in.Goals as goal

pub put_number-requires : goal.put_number-requires
put_number-requires c = number-asks _ (c.requires.value, c.requires.in_bounds) refl

pub returns : goal.returns
returns c = rw (number_is c.args.bytes.now {n = c.args.self} refl) c.put_number.ensures
