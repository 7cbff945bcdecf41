-- A ledger is the one that has its view: the rows in use stand first, and every other place is unused. Assumes nothing.
use Rattle.std.specs.Prelude.{Option, Some, None}
use Prim.Native.Nat.{ℕ, ◌-◌, ◌≤◌}
use mathlib.Core.Path.{◌≡◌, refl, sym, ap, ◌∙◌}
use mathlib.Core.Bool.{true, not}
use mathlib.Core.List.{List, [], ◌∷◌, ◌++◌}
use native.Mathlib.Omega.{arith}
use borrow.Author.Tests.{eqb-true}
use lib.Dec.{eqb}
use lib.ListN.{length, take, drop, replicate, take-append-drop, length-drop}
use Rattle.common.specs.Lists.{up_to}
use Rattle.common.proofs.Tests.{both_first, both-second}
use Rattle.field.specs.declared.Place.{Place}
use Rattle.row.specs.Ranges.{is_known}
use Rattle.row.specs.Rows.{unused_row, is_pending, is_nowhere, is_unused}
use Rattle.row.specs.declared.State.{State}
use Rattle.row.specs.declared.State.TheVariants.{Pending, Active}
use Rattle.row.specs.declared.Range.{Range}
use Rattle.row.specs.declared.Range.TheVariants.{Unknown, Open, Closed}
use Rattle.row.specs.declared.Row.{Row}
use Rattle.ledger.specs.Ledgers.{most_rows, held, all_unused}
use Rattle.ledger.specs.Answers.{Came, same}
use Rattle.ledger.specs.Views.{Seen, view_of, ledger_of, came_of, seen_of}
use Rattle.ledger.specs.Steps.{unchanged}
use Rattle.ledger.specs.declared.Ledger.{Ledger}
use Rattle.ledger.proofs.Facts.{IsLedger}
use Rattle.ledger.proofs.PartsOfLists.{held-long}

-- ---- there is one unused row

is-pending : (s : State) → is_pending s ≡ true → s ≡ Pending
unfolding is_pending
is-pending Pending e = refl
is-pending Active e = absurd (let z : ◌≡◌ {A = ℕ} 0 1 = cc in omega arith)

is-unknown : (r : Range) → not (is_known r) ≡ true → r ≡ Unknown
unfolding is_known
is-unknown Unknown e = refl
is-unknown (Open p) e = absurd (let z : ◌≡◌ {A = ℕ} 0 1 = cc in omega arith)
is-unknown (Closed p g) e = absurd (let z : ◌≡◌ {A = ℕ} 0 1 = cc in omega arith)

is-nowhere : (g : Option Place) → is_nowhere g ≡ true → g ≡ None
unfolding is_nowhere
is-nowhere None e = refl
is-nowhere (Some p) e = absurd (let z : ◌≡◌ {A = ℕ} 0 1 = cc in omega arith)

pub unused-is : (r : Row) → is_unused r ≡ true → r ≡ unused_row
unfolding is_unused
unused-is r e =
    let t₁ = eqb r.id 0 in
    let t₂ = eqb r.alias 0 in
    let t₃ = eqb r.count 0 in
    let t₄ = is_pending r.state in
    let t₅ = not (is_known r.range) in
    let e₁ = both-second t₁ _ e in
    let e₂ = both-second t₂ _ e₁ in
    let e₃ = both-second t₃ _ e₂ in
    let e₄ = both-second t₄ _ e₃ in
    let i₁ = eqb-true r.id 0 (both_first t₁ _ e) in
    let i₂ = eqb-true r.alias 0 (both_first t₂ _ e₁) in
    let i₃ = eqb-true r.count 0 (both_first t₃ _ e₂) in
    let i₄ = is-pending r.state (both_first t₄ _ e₃) in
    let i₅ = is-unknown r.range (both_first t₅ _ e₄) in
    let i₆ = is-nowhere r.greatest (both-second t₅ _ e₄) in
    λ i. record { id = i₁ i; alias = i₂ i; state = i₄ i; range = i₅ i; greatest = i₆ i; count = i₃ i }

all-unused-are : (rs : List Row) → all_unused rs ≡ true → rs ≡ replicate (length rs) unused_row
unfolding all_unused
all-unused-are [] e = refl
all-unused-are (r ∷ rs) e =
    λ i. unused-is r (both_first (is_unused r) (all_unused rs) e) i ∷ all-unused-are rs (both-second (is_unused r) (all_unused rs) e) i

-- ---- the places of a ledger

-- there are as many as a ledger has, those in use are among them, and the others hold the unused row
pub record Shaped (rows : List Row) (used : ℕ) : Type 0 where
  pub long : length rows ≡ most_rows
  pub few : used ≤ most_rows
  pub rest : all_unused (drop used rows) ≡ true

pub shaped : (l : Ledger) → IsLedger l → Shaped l.rows l.used
shaped l w = record { long = w.long; few = omega (arith, w.within.few, w.within.room); rest = w.rest }

module _ (l : Ledger) (h : Shaped l.rows l.used) where
  pub used-is : length (held l) ≡ l.used
  used-is = held-long l h.long h.few

  rows_are : up_to most_rows unused_row (held l) ≡ l.rows
  unfolding held up_to
  rows_are =
      let left : length (drop l.used l.rows) ≡ most_rows - length (take l.used l.rows) =
      length-drop l.used l.rows ∙ (λ i. h.long i - sym used-is i)
      in
      sym
      (sym (take-append-drop l.used l.rows)
      ∙ ap (λ (t : List Row). take l.used l.rows ++ t)
      (all-unused-are (drop l.used l.rows) h.rest ∙ ap (λ (n : ℕ). replicate n unused_row) left))

  -- the ledger that has the view of a ledger is this one
  pub ledger-is : ledger_of (view_of l) ≡ l
  ledger-is = λ i. record {
    rows = rows_are i;
    part = l.part;
    session = l.session;
    capacity = l.capacity;
    maximum = l.maximum;
    next = l.next;
    used = used-is i;
  }

  -- so an answer that leaves the view leaves the ledger
  pub same_kept : (number : ℕ) → same l number ≡ came_of (unchanged (view_of l) number)
  same_kept number = ap (λ (k : Ledger). same k number) (sym ledger-is)

-- what a call comes to is kept as it is seen
pub kept-as : (c : Came) → Shaped c.next.rows c.next.used → {s : Seen} → seen_of c ≡ s → c ≡ came_of s
kept-as c h e = (λ i. record { says = c.says; next = sym (ledger-is c.next h) i }) ∙ ap came_of e
