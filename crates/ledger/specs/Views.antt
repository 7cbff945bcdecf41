-- A view: a ledger without the places where its rows stand. What a message or an arrival does is said of views alone.
use Rattle.std.specs.Prelude.{ℕ, List, length}
use Rattle.common.specs.Lists.{up_to}
use Rattle.row.specs.Rows.{unused_row}
use Rattle.row.specs.declared.Row.{Row}
use Rattle.ledger.specs.Answers.{Verdict, Came}
use Rattle.ledger.specs.Ledgers.{most_rows, held}
use Rattle.ledger.specs.declared.Part.{Part}
use Rattle.ledger.specs.declared.Session.{Session}
use Rattle.ledger.specs.declared.Ledger.{Ledger}

-- what stands beside the rows
pub record Standing : Type 0 where
  pub part : Part
  pub session : Session
  pub capacity : ℕ
  pub maximum : ℕ
  pub next : ℕ

pub record View : Type 0 where
  pub standing : Standing
  pub rows : List Row

-- what is said, and the next view
pub record Seen : Type 0 where
  pub says : Verdict
  pub next : View

-- ---- the view of a ledger

abbrev pub standing_of : Ledger → Standing
standing_of l = record {
  part = l.part;
  session = l.session;
  capacity = l.capacity;
  maximum = l.maximum;
  next = l.next;
}

abbrev pub view_of : Ledger → View
view_of l = record { standing = standing_of l; rows = held l }

-- ---- the ledger that has a view: its rows stand first, and every other place is unused

abbrev pub ledger_of : View → Ledger
ledger_of v = record {
  rows = up_to most_rows unused_row v.rows;
  part = v.standing.part;
  session = v.standing.session;
  capacity = v.standing.capacity;
  maximum = v.standing.maximum;
  next = v.standing.next;
  used = length v.rows;
}

-- what a step comes to, as a ledger keeps it
abbrev pub came_of : Seen → Came
came_of seen = record { says = seen.says; next = ledger_of seen.next }

-- and what a call comes to, as it is seen
abbrev pub seen_of : Came → Seen
seen_of c = record { says = c.says; next = view_of c.next }
