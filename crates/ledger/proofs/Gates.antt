-- What every call looks at first, and what it then comes to. Assumes nothing.
use Rattle.std.specs.Prelude.{Result, Ok, Err}
use Prim.Native.Nat.{ℕ}
use mathlib.Core.Path.{◌≡◌, refl, sym, ap, ◌∙◌}
use mathlib.Core.Bool.{Bool, true, false}
use native.Mathlib.Omega.{arith}
use borrow.Author.Tests.{eq-eqb, ne_eqb}
use Rattle.common.specs.Choice.{pick}
use Rattle.ledger.specs.Ledgers.{is_ledger, is_open}
use Rattle.ledger.specs.Answers.{Verdict, no_rule, told_answer, told, Came, stops, gate_of, told_gate, gated}
use Rattle.ledger.specs.declared.Ledger.{Ledger}
use Rattle.ledger.specs.declared.Answer.{Answer}
use Rattle.ledger.specs.declared.Answer.TheVariants.{Forbidden, Done, NotKept, AlreadyClosed, Full, Stale, Breaks, NotALedger, StartRefused, Counted, Outside, NoRow, StillPending}

-- every answer has a number
some_number : (a : Answer) → (told_answer a).number ≡ 0 → ⊥
some_number Forbidden e = omega arith
some_number Done e = omega arith
some_number NotKept e = omega arith
some_number AlreadyClosed e = omega arith
some_number Full e = omega arith
some_number Stale e = omega arith
some_number (Breaks rule) e = omega arith
some_number NotALedger e = omega arith
some_number StartRefused e = omega arith
some_number Counted e = omega arith
some_number Outside e = omega arith
some_number NoRow e = omega arith
some_number StillPending e = omega arith

-- ---- what passes

passes : (w sound opened : Bool) → pick {A = ℕ} w (pick sound (pick opened 0 10) 5) 14 ≡ 0 → (w ≡ true) × (sound ≡ true) × (opened ≡ true)
passes true true true e = (refl, refl, refl)
passes true true false e = absurd (omega arith)
passes true false opened e = absurd (omega arith)
passes false sound opened e = absurd (omega arith)

-- a ledger, sound numbers, an open session
pub gate-passed : (l : Ledger) (sound : Bool) → gate_of l sound ≡ 0 → (is_ledger l ≡ true) × (sound ≡ true) × (is_open l.session ≡ true)
unfolding gate_of stops
gate-passed l sound e = passes (is_ledger l) sound (is_open l.session) e

-- ---- a call, by what the gate told

module _ (l : Ledger) {sound want : Bool} (judged : sound ≡ want) {g : Result Unit Answer} (t : told_gate g ≡ no_rule (gate_of l sound)) where
  -- it stops there,
  pub stopped : {a : Answer} (rest : Came) → g ≡ Err a → told (record { answer = a; ledger = l }) ≡ gated l want rest
  unfolding gated
  stopped {a} rest e =
      let at : told_answer a ≡ no_rule (gate_of l want) = sym (ap told_gate e) ∙ t ∙ ap (λ (b : Bool). no_rule (gate_of l b)) judged in
      let some : gate_of l want ≡ 0 → ⊥ = λ z. some_number a (ap (λ (s : Verdict). s.number) at ∙ z) in
      rw (ne_eqb (gate_of l want) 0 some) (ap (λ (s : Verdict). record { says = s; next = l }) at)

  -- or goes on
  at_zero : g ≡ Ok tt → gate_of l want ≡ 0
  at_zero e =
      sym (ap (λ (b : Bool). gate_of l b) judged) ∙ sym (ap (λ (s : Verdict). s.number) (sym (ap told_gate e) ∙ t))

  pub went : {came rest : Came} → g ≡ Ok tt → came ≡ rest → came ≡ gated l want rest
  unfolding gated
  went e h = h ∙ sym (rw (eq-eqb (gate_of l want) 0 (at_zero e)))

  -- with a ledger
  pub went-ledger : g ≡ Ok tt → is_ledger l ≡ true
  went-ledger e = (gate-passed l want (at_zero e)).0
