-- What the calls on a ledger do, which the caller holds as numbers. "A message is taken by a ledger, which hands back
-- the next ledger and an answer." `out` is what the ledger's numbers then are, `info` what is told beside.
use Rattle.std.specs.Prelude.{ℕ, List, [], ◌∷◌, length, leb, eqb}
use Rattle.common.specs.Choice.{guard, pick}
use Rattle.common.specs.Answer.{number}
use Rattle.common.specs.Buffer.{over}
use Rattle.field.specs.declared.Arrival.{Arrival}
use Rattle.message.specs.Reading.{Reading, told, on_whole}
use Rattle.message.proofs.OneReading.{reading_of}
use Rattle.ledger.specs.Answers.{Came}
use Rattle.ledger.specs.Steps.{start_of, take_of, malformed_of, arrival_of}
use Rattle.ledger.specs.Runs.{run_of}
use Rattle.ledger_numbers.specs.Numbers.{numbers_of}
use Rattle.ledger_numbers.specs.Naming.{part_named, unpack_of, kept_in}
use Rattle.rewrite.specs.Rewriting.{Doing, refusing}

-- a new ledger: 5 for a part that is none, 15, and 7 where it has no room
abbrev pub begun_call : Came → List ℕ → Doing
begun_call c before =
    guard (eqb c.says.number 8) (refusing c.says.number before [])
    (guard (leb (length (numbers_of c.next)) (length before)) (refusing 7 before [])
    (record { says = 8; out = over (numbers_of c.next) before; info = [] }))

unfoldable pub start_call : ℕ → ℕ → ℕ → List ℕ → Doing
start_call part rows maximum before =
    guard (leb part 1) (refusing 5 before []) (begun_call (start_of (part_named part) rows maximum) before)

-- 01's number, and the numbers of the next ledger
abbrev pub answered_call : Came → List ℕ → Doing
answered_call c before = record { says = c.says.number; out = kept_in before c.next; info = [] }

unfoldable pub malformed_call : List ℕ → Doing
malformed_call before = answered_call (malformed_of (unpack_of before)) before

unfoldable pub arrival_call : Arrival → List ℕ → Doing
arrival_call a before = answered_call (arrival_of (unpack_of before) a) before

-- a message read from the front of bytes. info[0]: the bytes used; info[1]: the rule, 0 where none is broken. 14 goes
-- before 7, and neither changes anything
abbrev pub taken_call : Came → ℕ → List ℕ → List ℕ → Doing
taken_call c used before info =
    pick (eqb c.says.number 14) (refusing 14 before info)
    (guard (leb 2 (length info)) (refusing 7 before info)
    (record { says = c.says.number; out = kept_in before c.next; info = over (used ∷ c.says.rule ∷ []) info }))

-- "Only a whole message reaches the ledger; every other reading ends there"
abbrev pub taken_by : Reading → List ℕ → List ℕ → Doing
taken_by r before info =
    on_whole r (refusing (number (told r)) before info)
    (λ m used. taken_call (take_of (unpack_of before) m) used before info)

-- the one reading that `told r ≡ read_of s` names: there is one, and no other (message/proofs/OneReading.antt:
-- `reading-is`, `reading-only`)
unfoldable pub message_call : List ℕ → List ℕ → List ℕ → Doing
message_call s before info = taken_by (reading_of s) before info

-- a run of arrivals, and 01's number of each; 14, and 7 where there is no room for these
unfoldable pub arrivals_call : List ℕ → List ℕ → List ℕ → Doing
arrivals_call run before answers =
    let w = run_of (unpack_of before) run answers in
    record { says = number w.says; out = kept_in before w.next; info = w.holds }
