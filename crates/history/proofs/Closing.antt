-- When a session closes: at the first of the peer's events that breaks a rule, and never again. Assumes nothing.
use Prim.Native.Nat.{ℕ}
use mathlib.Core.Path.{◌≡◌, refl, ap, subst, ◌∙◌}
use mathlib.Core.Bool.{Bool, true, false, not}
use mathlib.Core.List.{List, [], ◌∷◌, ◌++◌}
use native.Mathlib.Omega.{arith}
use lib.Dec.{eqb}
use Rattle.common.specs.Choice.{both}
use Rattle.ledger.specs.Answers.{Came, rule_number, closing_rule}
use Rattle.ledger.specs.Ledgers.{is_ledger, is_open}
use Rattle.ledger.specs.declared.Ledger.{Ledger}
use Rattle.ledger.specs.declared.Part.{Part}
use Rattle.ledger.specs.declared.Rule.{Rule}
use Rattle.ledger.specs.declared.Session.{Session}
use Rattle.ledger.specs.declared.Session.TheVariants.{Open, Closed}
use Rattle.ledger.specs.Views.{View, Seen, view_of, seen_of}
use Rattle.ledger.specs.Steps.{broken, replied}
use Rattle.orders.proofs.LedgersFollow.{ledger-follows, no-ledger, view-once}
use Rattle.orders.proofs.Guards.{closed-stays}
use Rattle.orders.specs.Events.{Event, comes}
use Rattle.history.specs.Events.{ledger_after, Logged, log_of}
use Rattle.history.specs.Closings.{is_peers, any_broken, first_broken}
use Rattle.history.proofs.Keeping.{comes-keeps}
use Rattle.history.proofs.EventCases.{Moves, stayed, broke, counted, turned, taken, raised, ledger-moves, quiet}

-- ---- a closed session

pub closed-next : (l : Ledger) (e : Event) → is_open l.session ≡ false → (comes l e).next ≡ l
closed-next l e shut = go (is_ledger l) refl
  where
    go : (b : Bool) → is_ledger l ≡ b → (comes l e).next ≡ l
    go true w =
        view-once (comes l e).next l (comes-keeps l e w) w (ap (λ (s : Seen). s.next) (ledger-follows l e w) ∙ closed-stays (view_of l) e shut)
    go false w = ap (λ (c : Came). c.next) (no-ledger l e w)

closed-history : (l : Ledger) (es : List Event) → is_open l.session ≡ false → ledger_after l es ≡ l
unfolding ledger_after
closed-history l [] shut = refl
closed-history l (e ∷ es) shut = rw (closed-next l e shut) (closed-history l es shut)

pub closed-later : (l : Ledger) (es later : List Event) → is_open (ledger_after l es).session ≡ false → ledger_after l (es ++ later) ≡ ledger_after l es
unfolding ledger_after
closed-later l [] later shut = closed-history l later shut
closed-later l (e ∷ es) later shut = closed-later (comes l e).next es later shut

is_open_lem : (s : Session) → is_open s ≡ true → s ≡ Open
is_open_lem Open e = refl
is_open_lem (Closed rule) e = absurd (let z : ◌≡◌ {A = ℕ} 0 1 = cc in omega arith)

-- ---- one event

-- whether what is said of an event of the peer's (or of an own one) closes the session
abbrev shuts : Seen → Bool → Bool
shuts c peers = both (eqb c.says.number 13) peers

-- what an event leaves of the session: all of it, or the rule that was broken
data Leaves (v : View) (peers : Bool) (c : Seen) : Type 0 where
  stays : shuts c peers ≡ false → c.next.standing.session ≡ v.standing.session → c.next.standing.part ≡ v.standing.part → Leaves v peers c
  closes : shuts c peers ≡ true → (rule : Rule) → c.says.rule ≡ rule_number rule → c.next.standing.session ≡ Closed rule → Leaves v peers c

module _ (v : View) where
  breaking : (own : Bool) (rule : Rule) → Leaves v (not own) (replied v own (broken rule))
  breaking true rule = stays refl refl refl
  breaking false rule = closes refl rule refl refl

  leaves : {e : Event} {c : Seen} → Moves v e c → Leaves v (is_peers v.standing.part e) c
  leaves (stayed q) = stays (rw (quiet q).1) refl refl
  leaves (broke own rule p) = rw p (breaking own rule)
  leaves counted = stays refl refl refl
  leaves (turned id f is) = stays refl refl refl
  leaves taken = stays refl refl refl
  leaves (raised more) = stays refl refl refl

-- ---- a history

-- how the session stands, and what was told of it
record Stands (s : Session) (part : Part) (ts : List Logged) : Type 0 where
  opened : is_open s ≡ not (any_broken part ts)
  rule : closing_rule s ≡ first_broken part ts

stands : (l : Ledger) (es : List Event) → l.session ≡ Open → Stands (ledger_after l es).session l.part (log_of l es)
unfolding ledger_after log_of any_broken first_broken
stands l [] o = record { opened = ap is_open o; rule = ap closing_rule o }
stands l (e ∷ es) o = go (leaves (view_of l) (ledger-moves l e)) (stands (comes l e).next es)
  where
    after : Ledger
    after = (comes l e).next

    go : Leaves (view_of l) (is_peers l.part e) (seen_of (comes l e)) → (after.session ≡ Open → Stands (ledger_after after es).session after.part (log_of after es)) → Stands (ledger_after l (e ∷ es)).session l.part (log_of l (e ∷ es))
    go (stays s session part) ih =
        let h = subst (λ (p : Part). Stands (ledger_after after es).session p (log_of after es)) part (ih (session ∙ o)) in
        record { opened = rw s h.opened; rule = rw s h.rule }
    go (closes s rule said session) ih =
        let still = closed-history after es (ap is_open session) in
        record { opened = rw (s, still, session); rule = rw (s, said, still, session) }

module _ (l : Ledger) (es : List Event) (o : is_open l.session ≡ true) where
  pub open_after : is_open (ledger_after l es).session ≡ not (any_broken l.part (log_of l es))
  open_after = (stands l es (is_open_lem l.session o)).opened

  pub kept-after : closing_rule (ledger_after l es).session ≡ first_broken l.part (log_of l es)
  kept-after = (stands l es (is_open_lem l.session o)).rule
