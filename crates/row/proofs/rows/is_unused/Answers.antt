-- `is_unused` meets its contract. Assumes nothing.
use Rattle.std.specs.Prelude.{ℕ, ◌≡◌, Option, Some, None}
use Rattle.std.proofs.Common.{arith}
use Rattle.std.proofs.lemmas.Grind.{common_steps}
use Rattle.field.specs.declared.Place.{Place}
use Rattle.row.specs.Rows.{is_unused, is_pending, is_nowhere, unused_row}
use Rattle.row.specs.Ranges.{is_known}
use Rattle.row.specs.declared.State.{State}
use Rattle.row.specs.declared.Range.{Range}
use Rattle.row.specs.declared.Row.{Row}
use Rattle.row.specs.declared.State.TheVariants.{Pending, Active}
use Rattle.row.specs.declared.Range.TheVariants.{Unknown, Open, Closed}
use Rattle.row.specs.contracts.RowPartialEq.TheImpl.{eq-value}
use Rattle.row.proofs.rows.is_unused.Goals as goal

-- the derived equality compares field by field; `is_unused` looks at each
abbrev row_of : ℕ → ℕ → State → Range → Option Place → ℕ → Row
row_of id alias s range g count = record { id = id; alias = alias; state = s; range = range; greatest = g; count = count }

each : (id alias : ℕ) (s : State) (range : Range) (g : Option Place) (count : ℕ) → eq-value.it (row_of id alias s range g count) unused_row ≡ is_unused (row_of id alias s range g count)
unfolding is_unused is_pending is_nowhere is_known
each id alias Pending Unknown None count = grind (arith, common_steps)
each id alias Pending Unknown (Some x) count = grind (arith, common_steps)
each id alias Pending (Open a) g count = grind (arith, common_steps)
each id alias Pending (Closed a b) g count = grind (arith, common_steps)
each id alias Active range g count = grind (arith, common_steps)

pub returns : goal.returns
returns c = rw (c.eq.ensures, c.unused.ensures) (let r = c.args.row in each r.id r.alias r.state r.range r.greatest r.count)
