-- What is told of an answer loses nothing, so each contract leaves one possible answer, and one possible content of the buffer.
-- Assumes nothing.
use Rattle.std.proofs.Common.{◌≡◌, ℕ, true, false, eqb, List, sym, refl, ap, ◌∙◌, arith}
use Rattle.std.specs.Prelude.{Option, Some, None}
use Rattle.ledger.specs.Answers.{Verdict, no_rule, told_answer}
use Rattle.ledger.specs.declared.Answer.{Answer}
use Rattle.ledger.specs.declared.Answer.TheVariants.{Forbidden, Done, NotKept, AlreadyClosed, Full, Stale, Breaks, NotALedger, StartRefused, Counted, Outside, NoRow, StillPending}
use Rattle.ledger.proofs.OneAnswer.{told-answer-once}
use Rattle.replay.specs.Progressing.{Hearing, Stepping, verdict_of, told_heard, told_step}
use Rattle.replay.specs.Advancing.{Onward, Advances}
use Rattle.replay.specs.declared.Heard.{Heard}
use Rattle.replay.specs.declared.Stepped.{Stepped}
use Rattle.replay.specs.declared.Advanced.{Advanced}

-- an answer has a number, so nothing is none of them
no-answer : (a : Answer) → eqb (told_answer a).number 0 ≡ false
no-answer Forbidden = refl
no-answer Done = refl
no-answer NotKept = refl
no-answer AlreadyClosed = refl
no-answer Full = refl
no-answer Stale = refl
no-answer (Breaks rule) = refl
no-answer NotALedger = refl
no-answer StartRefused = refl
no-answer Counted = refl
no-answer Outside = refl
no-answer NoRow = refl
no-answer StillPending = refl

not-none : (a : Answer) → no_rule 0 ≡ told_answer a → ⊥
not-none a e =
    let zero : true ≡ false = ap (λ (v : Verdict). eqb v.number 0) e ∙ no-answer a in
    let n : ◌≡◌ {A = ℕ} 0 1 = cc in
    omega arith

verdict-once : (a b : Option Answer) → verdict_of a ≡ verdict_of b → a ≡ b
verdict-once (Some a) (Some b) e = ap Some (told-answer-once a b e)
verdict-once (Some a) None e = absurd (not-none a (sym e))
verdict-once None (Some b) e = absurd (not-none b e)
verdict-once None None e = refl

pub heard-once : (a b : Heard) → told_heard a ≡ told_heard b → a ≡ b
heard-once a b e =
    let said = verdict-once a.said b.said (ap (λ (h : Hearing). h.says) e) in
    λ i. record { said = said i; ledger = (e i).ledger; stage = (e i).stage }

pub step-once : (a b : Stepped) → told_step a ≡ told_step b → a ≡ b
step-once a b e =
    let said = verdict-once a.said b.said (ap (λ (s : Stepping). s.says) e) in
    λ i. record { event = (e i).event; said = said i; progress = (e i).next }

pub advance-once : (w : Onward) (a b : Advanced) {x y : List ℕ} → Advances w a x → Advances w b y → (a ≡ b) × (x ≡ y)
advance-once w a b p q =
    let progress = p.progress ∙ sym q.progress in
    let left = p.left ∙ sym q.left in
    ((λ i. record { progress = progress i; left = left i }), p.holds ∙ sym q.holds)
