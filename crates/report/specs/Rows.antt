-- The lines of a report.
use Rattle.std.specs.Prelude.{ℕ, List, [], ◌∷◌, Option, Some, None}
use Rattle.field.specs.declared.Place.{Place}
use Rattle.row.specs.declared.State.{State}
use Rattle.row.specs.declared.State.TheVariants.{Pending, Active}
use Rattle.row.specs.declared.Row.{Row}
use Rattle.ledger.specs.Answers.{rule_number}
use Rattle.ledger.specs.declared.Session.{Session}
use Rattle.ledger.specs.declared.Session.TheVariants.{Open, Closed}
use Rattle.text.specs.declared.Item.{Item}
use Rattle.text.specs.declared.Item.TheVariants.{Number, Word, Rule}
use Rattle.text.specs.declared.Word.TheVariants.{Open as AnOpen, Closed as AClosed, Columns, Pending as APending, Active as AnActive, Nothing}

-- "A closed session begins `closed R4 1` (rule, rows)."
abbrev pub session_line : Session → ℕ → List Item
session_line Open rows = Word AnOpen ∷ Number rows ∷ []
session_line (Closed rule) rows = Word AClosed ∷ Rule (rule_number rule) ∷ Number rows ∷ []

-- `ID ALIAS STATE GROUP OBJECT COUNT`
abbrev pub columns_line : List Item
columns_line = Word Columns ∷ []

abbrev pub state_item : State → Item
state_item Pending = Word APending
state_item Active = Word AnActive

-- "A row with nothing counted shows `-` for group and object."
abbrev pub group_item : Option Place → Item
group_item None = Word Nothing
group_item (Some place) = Number place.group

abbrev pub object_item : Option Place → Item
object_item None = Word Nothing
object_item (Some place) = Number place.object

abbrev pub row_line : Row → List Item
row_line r =
    Number r.id ∷ Number r.alias ∷ state_item r.state ∷ group_item r.greatest ∷ object_item r.greatest
    ∷ Number r.count ∷ []
