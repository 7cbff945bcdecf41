-- What the calls on a ledger do, answer by answer. Assumes nothing.
use Rattle.std.specs.Prelude.{Result}
use Prim.Native.Nat.{ℕ, ◌≤◌, ◌<◌}
use mathlib.Core.Path.{◌≡◌, refl, sym, ap, ◌∙◌}
use mathlib.Core.Bool.{Bool, true, false}
use mathlib.Core.List.{List, []}
use native.Mathlib.Omega.{arith}
use borrow.Author.Tests.{leb-true, le-leb, lt-leb, eq-eqb, ne_eqb}
use lib.ListN.{length, set}
use lib.Dec.{leb}
use Rattle.common.specs.Choice.{pick, both}
use Rattle.common.specs.Answer.{number}
use Rattle.common.specs.Buffer.{over}
use Rattle.row.specs.Places.{small}
use Rattle.types.specs.Limits.{longest_body}
use Rattle.types.specs.declared.Refusal.{Refusal}
use Rattle.std.specs.Prelude.{Ok, Err}
use Rattle.message.specs.Reading.{Reading, read_of, told as told_reading}
use Rattle.message.specs.declared.Message.{Message}
use Rattle.message.proofs.OneReading.{reading_of, reading-only}
use Rattle.ledger.specs.Ledgers.{most_rows, empty_ledger}
use Rattle.ledger.specs.Answers.{Came, told_answer, told, done}
use Rattle.ledger.specs.Steps.{start_of, refused_start, take_of}
use Rattle.ledger.specs.Runs.{run_of, told_filled, Runs}
use Rattle.ledger.specs.declared.Part.{Part}
use Rattle.ledger.specs.declared.Part.TheVariants.{Subscriber, Publisher}
use Rattle.ledger.specs.declared.Ledger.{Ledger}
use Rattle.ledger.specs.declared.Taken.{Taken}
use Rattle.ledger.specs.declared.RunRefused.{RunRefused}
use Rattle.ledger.specs.declared.Ran.{Ran}
use Rattle.ledger_numbers.specs.Numbers.{ledger_numbers, numbers_of}
use Rattle.ledger_numbers.specs.Naming.{part_named, unpack_of, kept_in}
use Rattle.ledger_numbers.proofs.Storing.{numbers-length}
use Rattle.rewrite.specs.Rewriting.{Does}
use Rattle.rewrite.proofs.InfoTold.{two}
use Rattle.ledger_calls.specs.Calls.{start_call, answered_call, taken_call, message_call, arrivals_call}

-- ---- a new ledger

pub part-first : {part : ℕ} {own : Part} → part ≡ 0 → own ≡ Subscriber → own ≡ part_named part
unfolding part_named
part-first h is = is ∙ rw h

pub part-second : (part : ℕ) {own : Part} → (part ≡ 0 → ⊥) → own ≡ Publisher → own ≡ part_named part
unfolding part_named
part-second part h is = is ∙ rw (ne_eqb part 0 h)

-- the capacity of one that was started is not 0, and there are places for all rows in any
by-test : (b : Bool) (part : Part) (rows maximum : ℕ) → (pick b (done (empty_ledger part rows maximum)) (refused_start part)).says.number ≡ 8 → b ≡ true
by-test true part rows maximum h = refl
by-test false part rows maximum h = absurd (omega arith)

by-places : (b : Bool) (part : Part) (rows maximum : ℕ) → length (pick b (done (empty_ledger part rows maximum)) (refused_start part)).next.rows ≡ most_rows
by-places true part rows maximum = refl
by-places false part rows maximum = refl

first : (a b : Bool) → both a b ≡ true → a ≡ true
first true b h = refl
first false b h = h

module _ (part : Part) (rows maximum : ℕ) where
  start-places : length (start_of part rows maximum).next.rows ≡ most_rows
  unfolding start_of
  start-places = by-places (both (leb 1 rows) (both (leb rows most_rows) (small maximum))) part rows maximum

  start-room : (start_of part rows maximum).says.number ≡ 8 → (start_of part rows maximum).next.capacity ≡ 0 → ⊥
  unfolding start_of
  start-room h k =
      let b = by-test (both (leb 1 rows) (both (leb rows most_rows) (small maximum))) part rows maximum h in
      let zero : rows ≡ 0 = rw b at k in
      omega (arith, leb-true 1 rows (first (leb 1 rows) (both (leb rows most_rows) (small maximum)) b))

module _ (part rows maximum : ℕ) (before : List ℕ) {own : Part} (t : Taken) {n : ℕ} (kind : part ≤ 1) (which : own ≡ part_named part) (s : told t ≡ start_of own rows maximum) (says : n ≡ (told_answer t.answer).number) where
  came : told t ≡ start_of (part_named part) rows maximum
  came = rw (← which) s

  places : length t.ledger.rows ≡ most_rows
  places = ap (λ (c : Came). length c.next.rows) s ∙ start-places own rows maximum

  pub started-else : (n ≡ 8 → ⊥) → Does (start_call part rows maximum before) n before []
  unfolding start_call
  started-else h = rw (le-leb part 1 kind, ← came, ← says, ne_eqb n 8 h) (record { says = refl; leaves = refl; tells = refl })

  module _ (h : n ≡ 8) where
    has_room : t.ledger.capacity ≡ 0 → ⊥
    has_room z =
        start-room own rows maximum (sym (ap (λ (c : Came). c.says.number) s) ∙ sym says ∙ h) (sym (ap (λ (c : Came). c.next.capacity) s) ∙ z)

    pub started-short : length before < ledger_numbers → Does (start_call part rows maximum before) 7 before []
    unfolding start_call
    started-short k =
        rw (le-leb part 1 kind, ← came, ← says, eq-eqb n 8 h, numbers-length t.ledger places, lt-leb ledger_numbers (length before) k) (record { says = refl; leaves = refl; tells = refl })

    module _ (k : ledger_numbers ≤ length before) where
      fits : leb (length (numbers_of t.ledger)) (length before) ≡ true
      fits = le-leb (length (numbers_of t.ledger)) (length before) (omega (arith, numbers-length t.ledger places))

      keeps : kept_in before t.ledger ≡ over (numbers_of t.ledger) before
      unfolding kept_in
      keeps = rw (ne_eqb t.ledger.capacity 0 has_room, fits)

      pub started-whole : {after : List ℕ} → after ≡ kept_in before t.ledger → Does (start_call part rows maximum before) 8 after []
      unfolding start_call
      started-whole e =
          rw (le-leb part 1 kind, ← came, ← says, eq-eqb n 8 h, fits) (record { says = refl; leaves = e ∙ keeps; tells = refl })

pub started-other : (part rows maximum : ℕ) (before : List ℕ) → 1 < part → Does (start_call part rows maximum before) 5 before []
unfolding start_call
started-other part rows maximum before h = rw (lt-leb part 1 h) (record { says = refl; leaves = refl; tells = refl })

-- ---- a step of a ledger

module _ (before : List ℕ) {l : Ledger} (e : l ≡ unpack_of before) (t : Taken) {n : ℕ} (says : n ≡ (told_answer t.answer).number) {after : List ℕ} (keeps : after ≡ kept_in before t.ledger) where
  pub stepped : (step : Ledger → Came) → told t ≡ step l → Does (answered_call (step (unpack_of before)) before) n after []
  stepped step s = rw (← e, ← s) (record { says = says; leaves = keeps; tells = refl })

-- a message, by what it is answered
module _ (before info : List ℕ) (m : Message) (used : ℕ) {l : Ledger} (e : l ≡ unpack_of before) (t : Taken) (s : told t ≡ take_of l m) {n : ℕ} (says : n ≡ (told_answer t.answer).number) where
  pub no-ledger : n ≡ 14 → Does (taken_call (take_of (unpack_of before) m) used before info) 14 before info
  no-ledger h = rw (← e, ← s, ← says, h) (record { says = refl; leaves = refl; tells = refl })

  module _ (h : n ≡ 14 → ⊥) where
    pub not-told : length info < 2 → Does (taken_call (take_of (unpack_of before) m) used before info) 7 before info
    not-told k =
        rw (← e, ← s, ← says, ne_eqb n 14 h, lt-leb 2 (length info) k) (record { says = refl; leaves = refl; tells = refl })

    -- with what is told beside
    pub taken : {rule : ℕ} {after : List ℕ} → after ≡ kept_in before t.ledger → rule ≡ (told_answer t.answer).rule → 2 ≤ length info → Does (taken_call (take_of (unpack_of before) m) used before info) n after (set (set info 0 used) 1 rule)
    taken {rule} keeps f k =
        rw (← e, ← s, ← says, ne_eqb n 14 h, le-leb 2 (length info) k)
        (record { says = refl; leaves = keeps; tells = rw (← f) (two info used rule k) })

-- a message that was read decides,
pub read_as : (s before info : List ℕ) (m : Message) {used n : ℕ} {out inf : List ℕ} → told_reading (Ok (m, used)) ≡ read_of s → Does (taken_call (take_of (unpack_of before) m) used before info) n out inf → Does (message_call s before info) n out inf
unfolding message_call
read_as s before info m {used} f d =
    let e : reading_of s ≡ Ok (m, used) = sym (reading-only longest_body s (Ok (m, used)) f) in
    rw e d

-- "every other reading ends there"
pub read-else : (s before info : List ℕ) (r : Refusal) {reading : Reading} {n : ℕ} → told_reading (Err r) ≡ read_of s → reading ≡ Err r → n ≡ number (told_reading reading) → Does (message_call s before info) n before info
unfolding message_call number
read-else s before info r f is says =
    let e : reading_of s ≡ Err r = sym (reading-only longest_body s (Err r) f) in
    rw (e, says, is) (record { says = refl; leaves = refl; tells = refl })

-- ---- a run of arrivals

pub ran : (run before answers : List ℕ) {l : Ledger} {t : Ran} {after held : List ℕ} {f : Result ℕ RunRefused} {n : ℕ} → l ≡ unpack_of before → Runs (run_of l run answers) t held → after ≡ kept_in before t.ledger → t.answer ≡ f → n ≡ number (told_filled f) → Does (arrivals_call run before answers) n after held
unfolding arrivals_call
ran run before answers {l} {t} e w keeps h says =
    rw (← e) (record { says = says ∙ ap (λ (a : Result ℕ RunRefused). number (told_filled a)) (sym h) ∙ ap number w.says; leaves = keeps ∙ ap (kept_in before) w.next; tells = w.holds })
