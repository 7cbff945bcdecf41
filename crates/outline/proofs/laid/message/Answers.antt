-- `message` meets its contract: another number is no type. Assumes nothing.
use mathlib.Core.Path.{refl}
use mathlib.Core.List.{map}
use borrow.Author.Rules.{rules}
use Rattle.types.specs.Table.{TypeRow, messages}
use Rattle.types.proofs.Gaps.{layoutless-missed}
use Rattle.outline.proofs.OneByOne.{forbidden-ahead}
use Rattle.outline.proofs.laid.message.Goals as goal

pub returns-in_default : goal.returns-in_default
unfolding messages
returns-in_default c =
    rw (layoutless-missed (map (λ (r : TypeRow). r.number) messages) refl c.args.number (search rules depth 60))
    (forbidden-ahead c.args.v.now)
