-- THE ROWS HELD, told by a history and its answers: there is a row for each SUBSCRIBE answered 8, in their order, that
-- nothing has ended since; what it shows is told by what came since.
use Rattle.std.specs.Prelude.{ℕ, min, Bool, true, false, List, [], ◌∷◌, ◌++◌, eqb, length, Option, Some, None}
use Rattle.common.specs.Choice.{pick}
use Rattle.field.specs.declared.Place.{Place}
use Rattle.subscription.specs.declared.Subscribe.{Subscribe}
use Rattle.row.specs.Ranges.{asked_of, settled_of}
use Rattle.row.specs.Rows.{top, greater}
use Rattle.row.specs.declared.State.{State}
use Rattle.row.specs.declared.State.TheVariants.{Pending, Active}
use Rattle.row.specs.declared.Range.{Range}
use Rattle.row.specs.declared.Row.{Row}
use Rattle.history.specs.Events.{Logged}
use Rattle.history.specs.Deeds.{Deed, asked, opened, ended, raised, counted, nothing, deed_of}

-- ---- what a deed is to a row

-- whether it ended the row of this ID,
abbrev pub ends : ℕ → Deed → Bool
ends id (asked m) = false
ends id (opened other content) = false
ends id (ended other) = eqb id other
ends id (raised maximum) = false
ends id (counted a) = false
ends id nothing = false

-- the content by which it made that row active, if it did,
abbrev pub opens : ℕ → Deed → List (Option Place)
opens id (asked m) = []
opens id (opened other content) = pick (eqb id other) (content ∷ []) []
opens id (ended other) = []
opens id (raised maximum) = []
opens id (counted a) = []
opens id nothing = []

-- and the place that it counted for this alias, if it did
abbrev pub counts : ℕ → Deed → List Place
counts alias (asked m) = []
counts alias (opened other content) = []
counts alias (ended other) = []
counts alias (raised maximum) = []
counts alias (counted a) = pick (eqb alias a.alias) (a.place ∷ []) []
counts alias nothing = []

-- ---- what a history is to it

-- whether one of its deeds ended the row of this ID,
unfoldable pub is_ended : ℕ → List Logged → Bool
is_ended id [] = false
is_ended id (t ∷ ts) = pick (ends id (deed_of t)) true (is_ended id ts)

-- and what they give, the earliest first
unfoldable pub given : {A : Type 0} → (Deed → List A) → List Logged → List A
given by [] = []
given by (t ∷ ts) = by (deed_of t) ++ given by ts

-- a row is active once there is a content,
abbrev pub state_of : List (Option Place) → State
state_of [] = Pending
state_of (content ∷ later) = Active

-- by which its range is settled
unfoldable pub settled : Range → List (Option Place) → Range
settled range [] = range
settled range (content ∷ later) = settled (settled_of range content) later

-- the greatest of places
unfoldable pub greatest_of : List Place → Option Place
greatest_of [] = None
greatest_of (p ∷ ps) = Some (greater (greatest_of ps) p)

-- ---- the rows

-- the row of a SUBSCRIBE, by what came since: active exactly when a SUBSCRIBE_OK was answered 8 for its ID; the range
-- that was asked for, settled by that; the greatest of the places that were answered 16 for its alias; and how many
-- they are, up to the top
unfoldable pub row_of : Subscribe → List Logged → Row
row_of m since =
    let contents = given (opens m.id) since in
    let places = given (counts m.alias) since in
    record {
      id = m.id;
      alias = m.alias;
      state = state_of contents;
      range = settled (asked_of m.filter) contents;
      greatest = greatest_of places;
      count = min top (length places);
    }

-- what a deed adds: the row of a SUBSCRIBE that was accepted, unless it was ended since
abbrev pub adds : Deed → List Logged → List Row
adds (asked m) since = pick (is_ended m.id since) [] (row_of m since ∷ [])
adds (opened id content) since = []
adds (ended id) since = []
adds (raised maximum) since = []
adds (counted a) since = []
adds nothing since = []

unfoldable pub rows_of : List Logged → List Row
rows_of [] = []
rows_of (t ∷ since) = adds (deed_of t) since ++ rows_of since
