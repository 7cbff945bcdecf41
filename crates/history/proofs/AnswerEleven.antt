-- What holds a SUBSCRIBE back that found all rows in use is only that: no other event can bring a rule against it. Assumes nothing.
use Prim.Native.Nat.{ℕ, ◌≤◌, ◌<◌}
use mathlib.Core.Path.{◌≡◌, refl, sym, ap, ◌∙◌}
use mathlib.Core.Bool.{Bool, true, false}
use mathlib.Core.List.{List, [], ◌∷◌}
use native.Mathlib.Omega.{arith}
use borrow.Author.Tests.{ltb-false, leb-false, le-ltb, lt-leb}
use lib.Dec.{leb, ltb}
use lib.ListN.{length}
use Rattle.common.proofs.Cases.{pick-by}
use Rattle.field.specs.declared.Place.{Place}
use Rattle.subscription.specs.declared.Subscribe.{Subscribe}
use Rattle.subscription.specs.declared.SubscriptionMessage.TheVariants.{Subscribe as ASubscribe}
use Rattle.message.specs.declared.Message.TheVariants.{Subscription}
use Rattle.row.specs.Rows.{counted_row}
use Rattle.row.specs.declared.Row.{Row}
use Rattle.ledger.specs.Ledgers.{held, has_alias, is_ledger, is_open}
use Rattle.ledger.specs.Answers.{Verdict, Came, no_rule}
use Rattle.ledger.specs.Steps.{id_of, alias_of, take_of, broken, replied, subscribe_step}
use Rattle.ledger.specs.declared.Ledger.{Ledger}
use Rattle.ledger.specs.declared.Rule.{Rule}
use Rattle.ledger.proofs.Facts.{parts, ledger-used}
use Rattle.ledger.proofs.PartsOfLists.{held-long}
use Rattle.ledger.specs.Keys.{Change, turn}
use Rattle.ledger.specs.Views.{View, Seen, view_of}
use Rattle.orders.specs.Events.{Event, message, comes, is_sound}
use Rattle.orders.specs.Steps.{view_step}
use Rattle.ledger.proofs.Keyed.{Known}
use Rattle.orders.proofs.LedgersFollow.{ledger-follows, no-ledger}
use Rattle.orders.proofs.Guards.{passed}
use Rattle.history.specs.Events.{ledger_after, log_of}
use Rattle.history.specs.Deeds.{Deed, deed_in}
use Rattle.history.specs.Takings.{NoneTaken}
use Rattle.history.proofs.Keeping.{history-keeps}
use Rattle.ledger.proofs.Rises.{has-turn}
use Rattle.history.proofs.EventCases.{with_rows, counting, Turns, opens, frees, Moves, stayed, broke, counted, turned, taken, raised, ledger-moves}

-- nothing but the rows in use stands against a SUBSCRIBE
record Waits (m : Subscribe) (v : View) : Type 0 where
  new : v.standing.next ≤ m.id
  below : m.id < v.standing.maximum
  fresh : has_alias m.alias v.rows ≡ false

abbrev asking : Subscribe → Event
asking m = message (Subscription (ASubscribe m))

module _ (v : View) (m : Subscribe) where
  unlike : {A : Type 0} (n : ℕ) (rule : ℕ) → (n ≡ 11 → ⊥) → record { number = n; rule = rule } ≡ no_rule 11 → A
  unlike n rule other h = absurd (other (ap (λ (s : Verdict). s.number) h))

  -- ---- from an 11

  full-waits : (subscribe_step v m).says ≡ no_rule 11 → Waits m v
  unfolding subscribe_step
  full-waits =
      pick-by P (ltb m.id v.standing.next) (λ _. broke-rule) (λ new.
      pick-by P (leb v.standing.maximum m.id) (λ _. broke-rule) (λ below.
      pick-by P (has_alias m.alias v.rows) (λ _. broke-rule) (λ fresh _.
      record { new = ltb-false m.id v.standing.next new; below = leb-false v.standing.maximum m.id below; fresh = fresh })))
    where
      P : Seen → Type 0
      P c = c.says ≡ no_rule 11 → Waits m v

      broke-rule : {rule : ℕ} → record { number = 13; rule = rule } ≡ no_rule 11 → Waits m v
      broke-rule {rule} = unlike 13 rule (λ z. omega arith)

  eleven-waits : (view_step v (asking m)).says ≡ no_rule 11 → Waits m v × (is_sound (asking m) ≡ true)
  unfolding view_step
  eleven-waits =
      pick-by P (is_sound (asking m)) (λ s.
      pick-by P (is_open v.standing.session) (λ _ h. (full-waits h, s)) (λ _. unlike 10 0 (λ z. omega arith)))
      (λ _. unlike 5 0 (λ z. omega arith))
    where
      P : Seen → Type 0
      P c = c.says ≡ no_rule 11 → Waits m v × (is_sound (asking m) ≡ true)

  -- ---- to an 8

  waits-taken : Waits m v → is_sound (asking m) ≡ true → is_open v.standing.session ≡ true → length v.rows < v.standing.capacity → (view_step v (asking m)).says ≡ no_rule 8
  unfolding subscribe_step
  waits-taken w s o free =
      ap (λ (c : Seen). c.says) (passed v (asking m) s o)
      ∙ rw (le-ltb m.id v.standing.next w.new, lt-leb v.standing.maximum m.id w.below, w.fresh, lt-leb v.standing.capacity (length v.rows) free)

  -- ---- over any event between

  broken-waits : (own : Bool) (rule : Rule) → Waits m v → Waits m (replied v own (broken rule)).next
  broken-waits true rule w = w
  broken-waits false rule w = record { new = w.new; below = w.below; fresh = w.fresh }

  turned-waits : (key : Row → ℕ) (n : ℕ) (f : Row → Change Row) → ((r : Row) → Known alias_of r (f r)) → Waits m v → Waits m (with_rows v (turn key n f v.rows))
  turned-waits key n f keeps w =
      record { new = w.new; below = w.below; fresh = has-turn key n f keeps m.alias v.rows w.fresh }

  counted-alias : (place : Place) (r : Row) → Known alias_of r (counting place r)
  unfolding counted_row
  counted-alias place r = refl

  turns-alias : {d : Deed} {id : ℕ} {f : Row → Change Row} → Turns d id f → (r : Row) → Known alias_of r (f r)
  turns-alias opens r = refl
  turns-alias frees r = tt

  waits-on : {e : Event} {c : Seen} → Moves v e c → ((x : Subscribe) → deed_in e c.says.number ≡ Deed.asked x → ⊥) → Waits m v → Waits m c.next
  waits-on (stayed q) none w = w
  waits-on (broke own rule p) none w = broken-waits own rule w
  waits-on (counted {a}) none w = turned-waits alias_of a.alias (counting a.place) (counted-alias a.place) w
  waits-on (turned id f is) none w = turned-waits id_of id f (turns-alias is) w
  waits-on (taken {m = x}) none w = absurd (none x refl)
  waits-on (raised {id} more) none w = record { new = w.new; below = omega (arith, w.below); fresh = w.fresh }

waits-after : (m : Subscribe) (l : Ledger) (es : List Event) → NoneTaken (log_of l es) → Waits m (view_of l) → Waits m (view_of (ledger_after l es))
unfolding ledger_after log_of
waits-after m l [] none w = w
waits-after m l (e ∷ es) none w =
    waits-after m (comes l e).next es none.1 (waits-on (view_of l) m (ledger-moves l e) none.0 w)

-- what is no ledger answers 14
eleven-ledger : (l : Ledger) (e : Event) → (comes l e).says ≡ no_rule 11 → is_ledger l ≡ true
eleven-ledger l e h = go (is_ledger l) refl
  where
    go : (b : Bool) → is_ledger l ≡ b → b ≡ true
    go true w = refl
    go false w = absurd (let z : ◌≡◌ {A = ℕ} 14 11 = ap (λ (s : Verdict). s.number) (sym (ap (λ (c : Came). c.says) (no-ledger l e w)) ∙ h) in omega arith)

pub promised : (l : Ledger) (m : Subscribe) (es : List Event) → (take_of l (Subscription (ASubscribe m))).says ≡ no_rule 11 → NoneTaken (log_of l es) → is_open (ledger_after l es).session ≡ true → (ledger_after l es).used < (ledger_after l es).capacity → (take_of (ledger_after l es) (Subscription (ASubscribe m))).says ≡ no_rule 8
promised l m es eleven none o free =
    let w = eleven-ledger l (asking m) eleven in
    let v = history-keeps l es w in
    let (waits, sound) = eleven-waits (view_of l) m (sym (ap (λ (s : Seen). s.says) (ledger-follows l (asking m) w)) ∙ eleven) in
    let few : length (held (ledger_after l es)) < (ledger_after l es).capacity = omega (arith, held-long (ledger_after l es) (parts (ledger_after l es) v).long (ledger-used (ledger_after l es) v)) in
    ap (λ (s : Seen). s.says) (ledger-follows (ledger_after l es) (asking m) v)
    ∙ waits-taken (view_of (ledger_after l es)) m (waits-after m l es none waits) sound o few
