-- What is told of an answer loses nothing: one number and rule, one answer; so each contract leaves one possible answer and
-- ledger. Assumes nothing.
use Rattle.std.specs.Prelude.{Result, Ok, Err}
use Prim.Native.Nat.{ℕ}
use mathlib.Core.Path.{◌≡◌, refl, sym, ap, ◌∙◌}
use mathlib.Core.List.{List}
use lib.Dec.{eqb}
use Rattle.common.specs.Choice.{pick}
use Rattle.common.specs.Answer.{Answer as AnswerOf, whole, refused, Nothing}
use Rattle.ledger.specs.Answers.{rule_number, Verdict, told_answer, Came, told}
use Rattle.ledger.specs.declared.Rule.{Rule}
use Rattle.ledger.specs.declared.Rule.TheVariants.{R1, R2, R3, R4, R5, R6, R7}
use Rattle.ledger.specs.declared.Answer.{Answer}
use Rattle.ledger.specs.declared.Answer.TheVariants.{Forbidden, Done, NotKept, AlreadyClosed, Full, Stale, Breaks, NotALedger, StartRefused, Counted, Outside, NoRow, StillPending}
use Rattle.ledger.specs.declared.Taken.{Taken}
use Rattle.ledger.specs.declared.RunRefused.{RunRefused}
use Rattle.ledger.specs.declared.RunRefused.TheVariants.{NotALedger as NoLedger, TooShort}
use Rattle.ledger.specs.declared.Ran.{Ran}
use Rattle.ledger.specs.Runs.{Run, told_filled, Runs}

-- the rule of a number, and the answer of a number and a rule
rule_of : ℕ → Rule
rule_of n =
    pick (eqb n 1) R1 (pick (eqb n 2) R2 (pick (eqb n 3) R3 (pick (eqb n 4) R4 (pick (eqb n 5) R5 (pick (eqb n 6) R6 R7)))))

answer_of : Verdict → Answer
answer_of s =
    let n = s.number in
    pick (eqb n 5) Forbidden
    (pick (eqb n 8) Done
    (pick (eqb n 9) NotKept
    (pick (eqb n 10) AlreadyClosed
    (pick (eqb n 11) Full
    (pick (eqb n 12) Stale
    (pick (eqb n 13) (Breaks (rule_of s.rule))
    (pick (eqb n 14) NotALedger
    (pick (eqb n 15) StartRefused
    (pick (eqb n 16) Counted (pick (eqb n 17) Outside (pick (eqb n 18) NoRow StillPending)))))))))))

rule-back : (r : Rule) → rule_of (rule_number r) ≡ r
unfolding rule_of
rule-back R1 = refl
rule-back R2 = refl
rule-back R3 = refl
rule-back R4 = refl
rule-back R5 = refl
rule-back R6 = refl
rule-back R7 = refl

answer_back : (a : Answer) → answer_of (told_answer a) ≡ a
unfolding answer_of
answer_back Forbidden = refl
answer_back Done = refl
answer_back NotKept = refl
answer_back AlreadyClosed = refl
answer_back Full = refl
answer_back Stale = refl
answer_back (Breaks rule) = ap Breaks (rule-back rule)
answer_back NotALedger = refl
answer_back StartRefused = refl
answer_back Counted = refl
answer_back Outside = refl
answer_back NoRow = refl
answer_back StillPending = refl

-- two answers of which the same is said are the same
pub told-answer-once : (a b : Answer) → told_answer a ≡ told_answer b → a ≡ b
told-answer-once a b e = sym (answer_back a) ∙ ap answer_of e ∙ answer_back b

-- and so are two answers with the next ledger of which the same is told
pub told-once : (a b : Taken) → told a ≡ told b → a ≡ b
told-once a b e =
    let answers = told-answer-once a.answer b.answer (ap (λ (c : Came). c.says) e) in
    λ i. record { answer = answers i; ledger = (e i).next }

-- ---- a run

filled_of : AnswerOf Nothing → Result ℕ RunRefused
filled_of (whole n used) = Ok used
filled_of (refused n) = Err (pick (eqb n 14) NoLedger TooShort)

filled-back : (f : Result ℕ RunRefused) → filled_of (told_filled f) ≡ f
unfolding filled_of
filled-back (Ok count) = refl
filled-back (Err NoLedger) = refl
filled-back (Err TooShort) = refl

-- two runs that do the same are the same
pub ran-once : (w : Run) (a b : Ran) (before after : List ℕ) → Runs w a before → Runs w b after → (a ≡ b) × (before ≡ after)
ran-once w a b before after p q =
    let says = sym (filled-back a.answer) ∙ ap filled_of (p.says ∙ sym q.says) ∙ filled-back b.answer in
    let next = p.next ∙ sym q.next in
    ((λ i. record { answer = says i; ledger = next i }), p.holds ∙ sym q.holds)
