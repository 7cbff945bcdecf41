-- What a view's step looks at first, and what it then comes to. Assumes nothing.
use mathlib.Core.Path.{◌≡◌, refl, sym, ap, ◌∙◌}
use mathlib.Core.Bool.{Bool, true, false}
use Rattle.common.proofs.Cases.{pick-by}
use Rattle.ledger.specs.Ledgers.{is_open}
use Rattle.ledger.specs.Views.{View, Seen}
use Rattle.orders.specs.Events.{Event, is_sound}
use Rattle.ledger.specs.Steps.{unchanged}
use Rattle.orders.specs.Steps.{event_step, view_step}

module _ (v : View) (e : Event) where
  pub passed : is_sound e ≡ true → is_open v.standing.session ≡ true → view_step v e ≡ event_step v e
  unfolding view_step
  passed s o = rw (s, o)

  pub forbidden : is_sound e ≡ false → view_step v e ≡ unchanged v 5
  unfolding view_step
  forbidden s = rw s

  pub closed-stays : is_open v.standing.session ≡ false → (view_step v e).next ≡ v
  unfolding view_step
  closed-stays o = rw o (pick-by (λ (c : Seen). c.next ≡ v) (is_sound e) (λ _. refl) (λ _. refl))

  -- what is open after an event was open before it
  pub open-before : is_open (view_step v e).next.standing.session ≡ true → is_open v.standing.session ≡ true
  open-before after-it = go (is_open v.standing.session) refl
    where
      go : (b : Bool) → is_open v.standing.session ≡ b → b ≡ true
      go true o = refl
      go false o = sym (ap (λ (w : View). is_open w.standing.session) (closed-stays o) ∙ o) ∙ after-it
