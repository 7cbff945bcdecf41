-- What an event does to a ledger is what its deed tells. Assumes nothing.
use Prim.Native.Nat.{ℕ, ◌+◌, ◌≤◌}
use mathlib.Core.Path.{◌≡◌, refl, sym, ap, subst, ◌∙◌}
use mathlib.Core.Bool.{Bool, true, false, not}
use mathlib.Core.List.{List, [], ◌∷◌, ◌++◌, append-nil}
use native.Mathlib.Omega.{arith}
use borrow.Author.Tests.{eqb-true, ne_eqb, not-true, leb-true}
use lib.Dec.{eqb, leb, ltb}
use Rattle.common.specs.Choice.{pick}
use Rattle.common.specs.Lists.{Each}
use Rattle.common.proofs.Tests.{both-each}
use Rattle.message.specs.declared.Message.TheVariants.{Subscription, Fetch, Announce, Session}
use Rattle.row.specs.Rows.{is_row}
use Rattle.row.specs.declared.Row.{Row}
use Rattle.ledger.specs.Ledgers.{held, has_alias, distinct, rising}
use Rattle.ledger.specs.Steps.{id_of, alias_of, new_row, broken, replied}
use Rattle.ledger.specs.declared.Ledger.{Ledger}
use Rattle.ledger.specs.declared.Rule.{Rule}
use Rattle.ledger.proofs.Facts.{parts}
use Rattle.ledger.specs.Keys.{Change, now, instead, turn}
use Rattle.ledger.specs.Views.{View, Seen, view_of}
use Rattle.orders.specs.Events.{Event, message, malformed, arrival, comes}
use Rattle.orders.proofs.LedgersFollow.{seen_by}
use Rattle.history.specs.Deeds.{Deed, nothing, deed_in}
use Rattle.history.specs.Ledgers.{next_by, maximum_by}
use Rattle.ledger.proofs.Rises.{has-not}
use Rattle.history.proofs.EventCases.{Quiet, not-a-ledger, quiet, with_rows, counting, Turns, opens, frees, Moves, stayed, broke, turned, taken, raised, moves}
use Rattle.history.proofs.RowsByDeeds.{made, every, new}

-- ---- no two rows have one number

abbrev Others : (Row → ℕ) → ℕ → List Row → Type 0
Others key n = Each (λ (r : Row). eqb (key r) n ≡ false)

abbrev Lone : (Row → ℕ) → List Row → Type 0
Lone key [] = Unit {0}
Lone key (r ∷ rs) = Others key (key r) rs × Lone key rs

alias-others : (alias : ℕ) (rs : List Row) → has_alias alias rs ≡ false → Others alias_of alias rs
alias-others alias [] e = tt
alias-others alias (r ∷ rs) e = let (here, more) = has-not alias r rs e in (here, alias-others alias rs more)

alias-lone : (rs : List Row) → distinct rs ≡ true → Lone alias_of rs
unfolding distinct
alias-lone [] e = tt
alias-lone (r ∷ rs) e =
    let (fresh, more) = both-each (not (has_alias r.alias rs)) (distinct rs) e in
    (alias-others r.alias rs (not-true (has_alias r.alias rs) fresh), alias-lone rs more)

-- the first of rows that rise, and those after it
rising-first : (low next : ℕ) (r : Row) (rs : List Row) → rising low next (r ∷ rs) ≡ true → (low ≤ r.id) × (rising (r.id + 1) next rs ≡ true)
unfolding rising
rising-first low next r rs e =
    let (above, e₁) = both-each (leb low r.id) _ e in
    let (_, e₂) = both-each (ltb r.id next) _ e₁ in
    let (_, more) = both-each (is_row r) _ e₂ in
    (leb-true low r.id above, more)

id-others : (n low next : ℕ) (rs : List Row) → n + 1 ≤ low → rising low next rs ≡ true → Others id_of n rs
id-others n low next [] h e = tt
id-others n low next (r ∷ rs) h e =
    let (above, more) = rising-first low next r rs e in
    (ne_eqb r.id n (λ s. omega arith), id-others n (r.id + 1) next rs (omega arith) more)

id-lone : (low next : ℕ) (rs : List Row) → rising low next rs ≡ true → Lone id_of rs
id-lone low next [] e = tt
id-lone low next (r ∷ rs) e =
    let (_, more) = rising-first low next r rs e in
    (id-others r.id (r.id + 1) next rs (omega arith) more, id-lone (r.id + 1) next rs more)

-- so to turn the first row that has a number is to turn each that has it
module _ (key : Row → ℕ) (n : ℕ) (f : Row → Change Row) where
  abbrev at : Row → Change Row
  at r = pick (eqb (key r) n) (f r) (now r)

  every-other : (rs : List Row) → Others key n rs → every at rs ≡ rs
  unfolding every
  every-other [] h = refl
  every-other (r ∷ rs) h = rw h.0 (ap (λ (xs : List Row). r ∷ xs) (every-other rs h.1))

  turn-every : (rs : List Row) → Lone key rs → turn key n f rs ≡ every at rs
  unfolding turn every
  turn-every [] h = refl
  turn-every (r ∷ rs) h = go (eqb (key r) n) refl (turn-every rs h.1)
    where
      go : (b : Bool) → eqb (key r) n ≡ b → turn key n f rs ≡ every at rs → pick b (instead (f r) rs) (r ∷ turn key n f rs) ≡ instead (pick b (f r) (now r)) (every at rs)
      go true e ih =
          ap (instead (f r)) (sym (every-other rs (subst (λ (k : ℕ). Others key k rs) (eqb-true (key r) n e) h.0)))
      go false e ih = ap (λ (xs : List Row). r ∷ xs) ih

every-now : (rs : List Row) → every now rs ≡ rs
unfolding every
every-now [] = refl
every-now (r ∷ rs) = ap (λ (xs : List Row). r ∷ xs) (every-now rs)

-- ---- one event

-- every part of the ledger but the session
pub record Did (v : View) (d : Deed) (after : View) : Type 0 where
  pub part : after.standing.part ≡ v.standing.part
  pub capacity : after.standing.capacity ≡ v.standing.capacity
  pub rows : after.rows ≡ every (made d) v.rows ++ new d
  pub next : after.standing.next ≡ next_by v.standing.next d
  pub maximum : after.standing.maximum ≡ maximum_by v.standing.maximum d

-- what changes nothing, and what breaks a rule, does nothing
quiet-deed : {n : ℕ} → Quiet n → (e : Event) → deed_in e n ≡ nothing
quiet-deed q (message (Subscription m)) = rw (quiet q).0
quiet-deed q (message (Fetch m)) = refl
quiet-deed q (message (Announce m)) = refl
quiet-deed q (message (Session m)) = refl
quiet-deed q malformed = refl
quiet-deed q (arrival a) = rw (quiet q).2

broken-deed : (e : Event) → deed_in e 13 ≡ nothing
broken-deed (message (Subscription m)) = refl
broken-deed (message (Fetch m)) = refl
broken-deed (message (Announce m)) = refl
broken-deed (message (Session m)) = refl
broken-deed malformed = refl
broken-deed (arrival a) = refl

module _ (v : View) where
  rows_stay : v.rows ≡ every now v.rows ++ []
  rows_stay = sym (append-nil (every now v.rows) ∙ every-now v.rows)

  did_nothing : Did v nothing v
  did_nothing = record { part = refl; capacity = refl; rows = rows_stay; next = refl; maximum = refl }

  did-broken : (own : Bool) (rule : Rule) → Did v nothing (replied v own (broken rule)).next
  did-broken true rule = did_nothing
  did-broken false rule = record { part = refl; capacity = refl; rows = rows_stay; next = refl; maximum = refl }

  -- one row is turned
  turned_rows : (key : Row → ℕ) (n : ℕ) (f : Row → Change Row) → Lone key v.rows → turn key n f v.rows ≡ every (at key n f) v.rows ++ []
  turned_rows key n f lone = turn-every key n f v.rows lone ∙ sym (append-nil (every (at key n f) v.rows))

  did-turned : {d : Deed} {id : ℕ} {f : Row → Change Row} → Lone id_of v.rows → Turns d id f → Did v d (with_rows v (turn id_of id f v.rows))
  did-turned {id = id} {f = f} lone opens =
      record { part = refl; capacity = refl; rows = turned_rows id_of id f lone; next = refl; maximum = refl }
  did-turned {id = id} {f = f} lone frees =
      record { part = refl; capacity = refl; rows = turned_rows id_of id f lone; next = refl; maximum = refl }

  did-moves : {e : Event} {c : Seen} → Lone alias_of v.rows → Lone id_of v.rows → Moves v e c → Did v (deed_in e c.says.number) c.next
  did-moves aliases ids (stayed {e} q) = rw (quiet-deed q e) did_nothing
  did-moves aliases ids (broke {e} own rule p) = rw (broken-deed e) (did-broken own rule)
  did-moves aliases ids (Moves.counted {a}) =
      record {
        part = refl;
        capacity = refl;
        rows = turned_rows alias_of a.alias (counting a.place) aliases;
        next = refl;
        maximum = refl;
      }
  did-moves aliases ids (turned id f is) = did-turned ids is
  did-moves aliases ids (taken {m}) =
      record {
        part = refl;
        capacity = refl;
        rows = ap (λ (rs : List Row). rs ++ (new_row m ∷ [])) (sym (every-now v.rows));
        next = refl;
        maximum = refl;
      }
  did-moves aliases ids (raised {id} more) =
      record { part = refl; capacity = refl; rows = rows_stay; next = refl; maximum = refl }

pub did : (l : Ledger) (e : Event) → Did (view_of l) (deed_in e (comes l e).says.number) (view_of (comes l e).next)
did l e =
    seen_by l e (λ c. Did (view_of l) (deed_in e c.says.number) c.next)
    (λ w.
    let is = parts l w in
    did-moves (view_of l) (alias-lone (held l) is.apart) (id-lone 0 l.next (held l) is.rises) (moves (view_of l) e))
    (rw (quiet-deed not-a-ledger e) (did_nothing (view_of l)))
