-- A LEDGER, told by a history and its answers from the start on: every part of it.
use Rattle.std.specs.Prelude.{ℕ, ◌+◌, ◌≡◌, List, [], ◌∷◌}
use Rattle.ledger.specs.Ledgers.{held}
use Rattle.ledger.specs.declared.Ledger.{Ledger}
use Rattle.history.specs.Events.{Logged}
use Rattle.history.specs.Deeds.{Deed, asked, opened, ended, raised, counted, nothing, deed_of}
use Rattle.history.specs.Rows.{rows_of}
use Rattle.history.specs.Closings.{first_broken}
use Rattle.ledger.specs.Answers.{closing_rule}

-- a number of the ledger, changed by one deed after the other
unfoldable pub through : (ℕ → Deed → ℕ) → ℕ → List Logged → ℕ
through by n [] = n
through by n (t ∷ ts) = through by (by n (deed_of t)) ts

-- the next ID is one more than that of the last SUBSCRIBE answered 8: "the ID becomes the highest"
abbrev pub next_by : ℕ → Deed → ℕ
next_by next (asked m) = m.id + 1
next_by next (opened id content) = next
next_by next (ended id) = next
next_by next (raised maximum) = next
next_by next (counted a) = next
next_by next nothing = next

-- the maximum is that of the last MAX_SUBSCRIBE_ID answered 8
abbrev pub maximum_by : ℕ → Deed → ℕ
maximum_by maximum (asked m) = maximum
maximum_by maximum (opened id content) = maximum
maximum_by maximum (ended id) = maximum
maximum_by maximum (raised larger) = larger
maximum_by maximum (counted a) = maximum
maximum_by maximum nothing = maximum

-- the ledger after a history, by what was told from the start on
pub record ShownBy (start : Ledger) (ts : List Logged) (after : Ledger) : Type 0 where
  pub part : after.part ≡ start.part
  pub capacity : after.capacity ≡ start.capacity
  pub rows : held after ≡ rows_of ts
  pub next : after.next ≡ through next_by 0 ts
  pub maximum : after.maximum ≡ through maximum_by start.maximum ts
  pub closing : closing_rule after.session ≡ first_broken start.part ts
