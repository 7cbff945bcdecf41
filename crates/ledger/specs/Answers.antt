-- What a ledger answers, in the numbers of document 01, and the ledger that it leaves.
use Rattle.std.specs.Prelude.{ℕ, Bool, true, false, eqb, Result, Ok, Err}
use Rattle.common.specs.Choice.{guard}
use Rattle.ledger.specs.Ledgers.{is_ledger, is_open}
use Rattle.ledger.specs.declared.Part.{Part}
use Rattle.ledger.specs.declared.Part.TheVariants.{Subscriber, Publisher}
use Rattle.ledger.specs.declared.Rule.{Rule}
use Rattle.ledger.specs.declared.Rule.TheVariants.{R1, R2, R3, R4, R5, R6, R7}
use Rattle.ledger.specs.declared.Session.{Session}
use Rattle.ledger.specs.declared.Session.TheVariants.{Open, Closed}
use Rattle.ledger.specs.declared.Ledger.{Ledger}
use Rattle.ledger.specs.declared.Answer.{Answer}
use Rattle.ledger.specs.declared.Answer.TheVariants.{Forbidden, Done, NotKept, AlreadyClosed, Full, Stale, Breaks, NotALedger, StartRefused, Counted, Outside, NoRow, StillPending}
use Rattle.ledger.specs.declared.Taken.{Taken}

abbrev pub rule_number : Rule → ℕ
rule_number R1 = 1
rule_number R2 = 2
rule_number R3 = 3
rule_number R4 = 4
rule_number R5 = 5
rule_number R6 = 6
rule_number R7 = 7

-- the rule that a session is closed by, 0 while it is open
abbrev pub closing_rule : Session → ℕ
closing_rule Open = 0
closing_rule (Closed rule) = rule_number rule

-- "R3 closes as Too Many Subscribes, R4 as Duplicate Track Alias, the others as Protocol Violation": table 1 of source
-- document 004
abbrev pub close_code : Rule → ℕ
close_code R1 = 0x3
close_code R2 = 0x3
close_code R3 = 0x6
close_code R4 = 0x4
close_code R5 = 0x3
close_code R6 = 0x3
close_code R7 = 0x3

-- ---- 01's number of an answer, and the rule that comes with a 13 (0 with any other)

pub record Verdict : Type 0 where
  pub number : ℕ
  pub rule : ℕ

abbrev pub no_rule : ℕ → Verdict
no_rule number = record { number = number; rule = 0 }

abbrev pub told_answer : Answer → Verdict
told_answer Forbidden = no_rule 5
told_answer Done = no_rule 8
told_answer NotKept = no_rule 9
told_answer AlreadyClosed = no_rule 10
told_answer Full = no_rule 11
told_answer Stale = no_rule 12
told_answer (Breaks rule) = record { number = 13; rule = rule_number rule }
told_answer NotALedger = no_rule 14
told_answer StartRefused = no_rule 15
told_answer Counted = no_rule 16
told_answer Outside = no_rule 17
told_answer NoRow = no_rule 18
told_answer StillPending = no_rule 19

-- what a call comes to: what is said, and the next ledger
pub record Came : Type 0 where
  pub says : Verdict
  pub next : Ledger

abbrev pub told : Taken → Came
told t = record { says = told_answer t.answer; next = t.ledger }

-- ---- an answer that leaves the ledger as it was, and one that does not

abbrev pub same : Ledger → ℕ → Came
same l number = record { says = no_rule number; next = l }

abbrev pub done : Ledger → Came
done next = record { says = no_rule 8; next = next }

-- a message that this end sends
abbrev pub is_own : Part → Part → Bool
is_own Subscriber Subscriber = true
is_own Subscriber Publisher = false
is_own Publisher Subscriber = false
is_own Publisher Publisher = true

-- ---- "Order: 14, 5, 10, then the rest"

-- 0 where the rest is next
unfoldable pub stops : Bool → Bool → Bool → ℕ
stops is_ledger sound opened = guard is_ledger 14 (guard sound 5 (guard opened 10 0))

unfoldable pub gate_of : Ledger → Bool → ℕ
gate_of l sound = stops (is_ledger l) sound (is_open l.session)

abbrev pub told_gate : Result Unit Answer → Verdict
told_gate (Ok passed) = no_rule 0
told_gate (Err answer) = told_answer answer

-- the rest, past the gate
unfoldable pub gated : Ledger → Bool → Came → Came
gated l sound rest = guard (eqb (gate_of l sound) 0) (same l (gate_of l sound)) rest
