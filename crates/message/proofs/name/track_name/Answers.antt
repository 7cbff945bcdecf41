-- `track_name` meets its contract: the name's part, where it stands within the bytes. Assumes nothing.
use mathlib.Core.Path.{refl}
use native.Mathlib.Omega.{arith}
use borrow.Author.Rules.{rules}
use Rattle.message.proofs.Naming.{named-backward, named_past, named-within}
use Rattle.message.proofs.Places.{is-part}
use Rattle.message.proofs.name.track_name.Goals as goal

-- a name that ends before it starts,
pub returns-then-start-end : goal.returns-then-start-end
returns-then-start-end c = is-part (named-backward _ _ c.name_of-name.ensures (omega arith)) refl (search rules) refl

-- one that ends past the bytes,
pub returns-then-end-s : goal.returns-then-end-s
returns-then-end-s c = is-part (named_past _ _ c.name_of-name.ensures (omega arith) (omega arith)) refl (search rules) refl

-- and one within them
pub returns : goal.returns
returns c = is-part (named-within _ _ c.name_of-name.ensures (omega arith) (omega arith)) refl refl refl
