-- `read_joining` meets its contract. Assumes nothing.
use mathlib.Core.Path.{refl}
use mathlib.Core.List.{[], ◌∷◌}
use Rattle.common.proofs.Exits.{handed}
use Rattle.field.specs.declared.Piece.TheVariants.{Number}
use Rattle.layout.proofs.Steps.{passed_on, led-no, stopping, going}
use Rattle.types.specs.Fetches.{joining}
use Rattle.fetch.specs.Told.{joining_type}
use Rattle.fetch.proofs.reader.read_joining.Goals as goal

pub returns-in_err-id : goal.returns-in_err-id
unfolding joining
returns-in_err-id c = rw (handed c.from_residual.ensures.1) (search (led-no, stopping, c.in_err-id.ensures) depth 20)

pub returns-in_err-start : goal.returns-in_err-start
unfolding joining
returns-in_err-start c = rw (handed c.from_residual-in_err-start.ensures.1) (search (led-no, stopping, c.in_ok-id.ensures, c.in_err-start.ensures) depth 20)

pub returns : goal.returns
unfolding joining
returns c =
    passed_on (Number (joining_type c.args.absolute) ∷ []) (Number c.in_ok-id.id ∷ Number c.in_ok-start.start ∷ []) refl (search (going, c.in_ok-id.ensures, c.in_ok-start.ensures) depth 20)
