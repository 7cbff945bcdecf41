-- A run of arrivals, one turn after the other. Assumes nothing.
use Rattle.std.specs.Prelude.{Option, Some, None, Result, Ok, Err}
use Rattle.std.specs.Result.{result_unwrap_or}
use Rattle.std.specs.Simd.{first_chunks}
use Prim.Native.Nat.{ℕ, suc, ◌+◌, ◌*◌, ◌/◌, ◌≤◌, ◌<◌}
use mathlib.Core.Path.{◌≡◌, refl, sym, ap, subst, ◌∙◌}
use mathlib.Core.Bool.{Bool, true, false}
use mathlib.Core.List.{List, [], ◌∷◌, ◌++◌, map, append-nil}
use native.Mathlib.Numerals.{add-one}
use native.Mathlib.Nat.{add-zero, add-div_right, lt-div-mul-add, div-mul-le_self}
use native.Mathlib.Omega.{arith}
use borrow.Author.Tests.{ne_eqb, eqb-true, le-leb, lt-leb}
use lib.Dec.{leb, eqb}
use lib.ListN.{length, take, drop, get_or, set, length-drop, length-append, length-map}
use lib.Seq.{get_or-take, get_or-drop, drop-cons, set_at, append_snoc, map-set_same}
use Rattle.common.specs.Answer.{wrote}
use Rattle.common.proofs.Cases.{pick-by}
use Rattle.field.specs.declared.Arrival.{Arrival}
use Rattle.row.specs.Rows.{unused_row, arrive_of, arrived_number, left_by, told_arriving}
use Rattle.row.specs.declared.Row.{Row}
use Rattle.row.specs.declared.NotCounted.{NotCounted}
use Rattle.row.proofs.Keeping.{after, after-alias}
use Rattle.ledger.specs.Ledgers.{most_rows, held, is_ledger, is_open}
use Rattle.ledger.specs.Answers.{Came, no_rule, same, stops, gate_of, gated}
use Rattle.ledger.specs.Views.{view_of, came_of}
use Rattle.ledger.specs.Steps.{alias_of, arrival_step, arrival_of, small_arrival}
use Rattle.ledger.specs.Arrays.{find, row_at, changed}
use Rattle.ledger.specs.Runs.{arrivals_in, itself, after_arrivals, answer_numbers, run_of, Runs}
use Rattle.ledger.specs.declared.Ledger.{Ledger}
use Rattle.ledger.specs.declared.RunRefused.TheVariants.{NotALedger, TooShort}
use Rattle.ledger.proofs.PartsOfLists.{chunk}
use Rattle.ledger.proofs.Facts.{parts, ledger-used}
use Rattle.ledger.proofs.Gates.{gate-passed}
use Rattle.ledger.proofs.Finds.{found-used, by_place}
use Rattle.ledger.proofs.AliasesFound.{take-map, find-map}
use Rattle.ledger.proofs.CodePaths.{no-alias, by_row, answered}
use Rattle.ledger.proofs.Keeps.{keeps-arrival}

-- ---- arrivals in a list of numbers

abbrev pub arrival_at : List ℕ → ℕ → Arrival
arrival_at ns at =
    record { alias = get_or ns at 0; place = record { group = get_or ns (at + 1) 0; object = get_or ns (at + 2) 0 } }

three : (ns : List ℕ) (k : ℕ) → 3 * k + 2 < length ns → arrivals_in (drop (3 * k) ns) ≡ arrival_at ns (3 * k) ∷ arrivals_in (drop (3 * (k + 1)) ns)
unfolding arrivals_in
three ns k h =
    let at = 3 * k in
    let one : suc at ≡ at + 1 = omega arith in
    let two : suc (at + 1) ≡ at + 2 = omega arith in
    let all : suc (at + 2) ≡ 3 * (k + 1) = omega arith in
    rw (drop-cons ns at 0 (omega arith), one, drop-cons ns (at + 1) 0 (omega arith), two, drop-cons ns (at + 2) 0 h, all)

none : (ns : List ℕ) → length ns < 3 → arrivals_in ns ≡ []
unfolding arrivals_in
none [] h = refl
none (a ∷ []) h = refl
none (a ∷ g ∷ []) h = refl
none (a ∷ g ∷ o ∷ ns) h = absurd (omega arith)

-- there are a third as many
pub thirds : (ns : List ℕ) → length (arrivals_in ns) ≡ length ns / 3
unfolding arrivals_in
thirds [] = refl
thirds (a ∷ []) = refl
thirds (a ∷ g ∷ []) = refl
thirds (a ∷ g ∷ o ∷ ns) =
    let more : length (a ∷ g ∷ o ∷ ns) ≡ length ns + 3 = omega arith in
    ap suc (thirds ns) ∙ sym (add-one (length ns / 3)) ∙ sym (ap (λ (n : ℕ). n / 3) more ∙ add-div_right (length ns) {k = 3} (omega arith))

numbers-long : (l : Ledger) (came : List Arrival) → length (answer_numbers l came) ≡ length came
unfolding answer_numbers
numbers-long l [] = refl
numbers-long l (a ∷ came) = ap suc (numbers-long (arrival_of l a).next came)

-- a third of them, as the code cuts them
module _ (ns : List ℕ) (came : List (List ℕ)) (k : ℕ) (cut : came ≡ first_chunks 3 (length ns / 3) ns) (h : k < length ns / 3) where
  number : (j : ℕ) → j < 3 → get_or (get_or came k []) j 0 ≡ get_or ns (3 * k + j) 0
  number j l = rw (cut, chunk 3 (length ns / 3) k ns h, get_or-take 3 (drop (3 * k) ns) j 0 l) (get_or-drop (3 * k) ns j 0)

  pub in-chunk : record { alias = get_or (get_or came k []) 0 0; place = record { group = get_or (get_or came k []) 1 0; object = get_or (get_or came k []) 2 0 } } ≡ arrival_at ns (3 * k)
  in-chunk = rw (number 0 (omega arith), number 1 (omega arith), number 2 (omega arith), add-zero (3 * k))

-- the row that is left, as the code has it
left-is : (came : Result Row NotCounted) (r : Row) → result_unwrap_or came r ≡ left_by came r
left-is (Err why) r = refl
left-is (Ok next) r = refl

-- ---- what an arrival leaves as it was

module _ (l : Ledger) (a : Arrival) where
  -- it changes nothing, or the row that it is found at
  arrival-by : (P : Ledger → Type 0) → P l → ((i : ℕ) → P (changed l i (after a.place (row_at l i)))) → P (arrival_of l a).next
  unfolding arrival_of gated after
  arrival-by P as-was row =
      pick-by (λ (c : Came). P c.next) (eqb (gate_of l (small_arrival a)) 0)
      (λ e. passed (gate-passed l (small_arrival a) (eqb-true (gate_of l (small_arrival a)) 0 e)).0) (λ _. as-was)
    where
      passed : is_ledger l ≡ true → P (came_of (arrival_step (view_of l) a)).next
      passed w =
          by_place alias_of a.alias l (λ f. f ≡ find alias_of a.alias 0 (held l) → P (came_of (arrival_step (view_of l) a)).next)
          (λ _ e. subst P (ap (λ (c : Came). c.next) (no-alias l w a e refl)) as-was)
          (λ i _ e. subst P (ap (λ (c : Came). c.next) (by_row l w a e refl)) (row i))
          refl

  arrival-session : (arrival_of l a).next.session ≡ l.session
  unfolding changed
  arrival-session = arrival-by (λ (x : Ledger). x.session ≡ l.session) refl (λ _. refl)

  arrival-used : (arrival_of l a).next.used ≡ l.used
  unfolding changed
  arrival-used = arrival-by (λ (x : Ledger). x.used ≡ l.used) refl (λ _. refl)

  arrival-names : map alias_of (arrival_of l a).next.rows ≡ map alias_of l.rows
  unfolding changed
  arrival-names =
      arrival-by (λ (x : Ledger). map alias_of x.rows ≡ map alias_of l.rows) refl
      (λ i. map-set_same alias_of l.rows i (after a.place (row_at l i)) unused_row (after-alias a.place (row_at l i)))

  -- where the gate stops it, that is its number
  arrival-stopped : (n : ℕ) → gate_of l (small_arrival a) ≡ n → (n ≡ 0 → ⊥) → arrival_of l a ≡ same l n
  unfolding arrival_of gated
  arrival-stopped n e h = rw (e, ne_eqb n 0 h)

  -- and else it is looked at
  arrival-went : gate_of l (small_arrival a) ≡ 0 → arrival_of l a ≡ came_of (arrival_step (view_of l) a)
  unfolding arrival_of gated
  arrival-went e = rw e

  -- what is no ledger stays what it is
  no-ledger : is_ledger l ≡ false → (arrival_of l a).next ≡ l
  unfolding gate_of stops
  no-ledger e = ap (λ (c : Came). c.next) (arrival-stopped 14 (rw e) (λ z. omega arith))

none-behind : (l : Ledger) (came : List Arrival) → is_ledger l ≡ false → after_arrivals l came ≡ l
unfolding after_arrivals
none-behind l [] e = refl
none-behind l (a ∷ came) e = rw (no-ledger l a e) (none-behind l came e)

-- ---- along a run

pub record Along (start : Ledger) (run before names : List ℕ) (opened : Bool) (used : ℕ) (answers : List ℕ) (l : Ledger) (k : ℕ) : Type 0 where
  pub is : is_ledger l ≡ true
  pub goes : opened ≡ is_open l.session
  pub uses : used ≡ l.used
  pub named : names ≡ map alias_of l.rows
  pub rest : after_arrivals l (arrivals_in (drop (3 * k) run)) ≡ after_arrivals start (arrivals_in run)
  pub told : List ℕ
  pub so_far : length told ≡ k
  pub holds : answers ≡ told ++ drop k before
  pub more : told ++ answer_numbers l (arrivals_in (drop (3 * k) run)) ≡ answer_numbers start (arrivals_in run)

-- before the first
pub begins : (l : Ledger) (run before names : List ℕ) {opened : Bool} → is_ledger l ≡ true → opened ≡ is_open l.session → names ≡ map alias_of l.rows → Along l run before names opened l.used before l 0
begins l run before names v o n =
    record { is = v; goes = o; uses = refl; named = n; rest = refl; told = []; so_far = refl; holds = refl; more = refl }

module _ {start : Ledger} {run before names : List ℕ} {opened : Bool} {used : ℕ} {answers : List ℕ} {l : Ledger} {k : ℕ} (g : Along start run before names opened used answers l k) where
  module _ (h : 3 * k + 2 < length run) (room : k < length before) where
    -- one turn: the next ledger and the number are those of the arrival
    turn : {n : ℕ} {next : Ledger} → next ≡ (arrival_of l (arrival_at run (3 * k))).next → n ≡ (arrival_of l (arrival_at run (3 * k))).says.number → Along start run before names opened used (set answers k n) next (k + 1)
    unfolding after_arrivals answer_numbers
    turn {n} {next} to says =
        let a = arrival_at run (3 * k) in
        record {
          is = rw to (keeps-arrival l g.is a);
          goes = rw to (g.goes ∙ ap is_open (sym (arrival-session l a)));
          uses = rw to (g.uses ∙ sym (arrival-used l a));
          named = rw to (g.named ∙ sym (arrival-names l a));
          rest = rw to (rw (three run k h) at g.rest);
          told = g.told ++ (n ∷ []);
          so_far = length-append g.told (n ∷ []) ∙ ap (λ (m : ℕ). m + 1) g.so_far;
          holds =
              rw (g.holds, drop-cons before k 0 room, set_at g.told (get_or before k 0) (drop (suc k) before) n k g.so_far, add-one k)
              (sym (append_snoc g.told n (drop (suc k) before)));
          more = rw (to, says) (append_snoc g.told _ _ ∙ (rw (three run k h) at g.more));
        }

    module _ {a : Arrival} (at : a ≡ arrival_at run (3 * k)) {n : ℕ} (first : n ≡ stops true (small_arrival a) opened) where
      gate : n ≡ gate_of l (small_arrival (arrival_at run (3 * k)))
      unfolding gate_of
      gate = first ∙ rw (at, g.is, g.goes)

      pub stopped-turn : (n ≡ 0 → ⊥) → Along start run before names opened used (set answers k n) l (k + 1)
      stopped-turn z =
          let e = arrival-stopped l (arrival_at run (3 * k)) n (sym gate) z in
          turn (sym (ap (λ (c : Came). c.next) e)) (sym (ap (λ (c : Came). c.says.number) e))

      module _ (z : n ≡ 0) where
        -- the names in use fit
        pub fits : (used ≤ most_rows) × (used ≤ length names)
        fits =
            let few = ledger-used l g.is in
            let long : length names ≡ most_rows = ap length g.named ∙ length-map l.rows alias_of ∙ (parts l g.is).long in
            (omega (arith, g.uses), omega (arith, g.uses))

        module _ {f : Option ℕ} (found : f ≡ find itself a.alias 0 (take used names)) where
          by-alias : f ≡ find alias_of (get_or run (3 * k) 0) 0 (held l)
          unfolding held
          by-alias = found ∙ rw (at, g.named, g.uses, take-map alias_of l.used l.rows, find-map)

          step : arrival_of l (arrival_at run (3 * k)) ≡ came_of (arrival_step (view_of l) (arrival_at run (3 * k)))
          step = arrival-went l (arrival_at run (3 * k)) (sym gate ∙ z)

          -- by what the step came to
          taken-turn : {n : ℕ} {next : Ledger} → record { says = no_rule n; next = next } ≡ came_of (arrival_step (view_of l) (arrival_at run (3 * k))) → Along start run before names opened used (set answers k n) next (k + 1)
          taken-turn e = let s = e ∙ sym step in turn (ap (λ (c : Came). c.next) s) (ap (λ (c : Came). c.says.number) s)

          pub missed-turn : f ≡ None → Along start run before names opened used (set answers k 18) l (k + 1)
          missed-turn e = taken-turn (no-alias l g.is (arrival_at run (3 * k)) by-alias e)

          module _ {i : ℕ} (here : f ≡ Some i) where
            pub inside : i < most_rows
            inside = omega (arith, found-used alias_of (get_or run (3 * k) 0) l by-alias here, ledger-used l g.is)

            pub counted-turn : (w : Result Row NotCounted) {r : Row} {m : ℕ} → told_arriving w (row_at l i) ≡ arrive_of (row_at l i) a.place → r ≡ result_unwrap_or w (row_at l i) → m ≡ arrived_number w → Along start run before names opened used (set answers k m) (changed l i r) (k + 1)
            counted-turn w came left number =
                let to = came ∙ ap (λ (x : Arrival). arrive_of (row_at l i) x.place) at in
                taken-turn (rw (left ∙ left-is w (row_at l i), number) (answered l g.is (arrival_at run (3 * k)) by-alias here {v = w} to {u = w} refl))

  -- after the last
  module _ {count : ℕ} (e : count ≡ length run / 3) (all : count ≤ k) (to : k ≤ count) where
    over-all : arrivals_in (drop (3 * k) run) ≡ []
    over-all =
        let last : length run < length run / 3 * 3 + 3 = lt-div-mul-add {a = length run} {b = 3} (omega arith) in
        none (drop (3 * k) run) (rw length-drop (omega arith))

    all_told : g.told ≡ answer_numbers start (arrivals_in run)
    unfolding answer_numbers
    all_told = sym (append-nil g.told) ∙ (rw over-all at g.more)

    all-behind : l ≡ after_arrivals start (arrivals_in run)
    unfolding after_arrivals
    all-behind = rw over-all at g.rest

    pub ends : is_ledger start ≡ true → count ≤ length before → Runs (run_of start run before) (record { answer = Ok count; ledger = l }) answers
    unfolding run_of
    ends valid room =
        let counts : count ≡ length (arrivals_in run) = e ∙ sym (thirds run) in
        let fits = le-leb (length (arrivals_in run)) (length before) (omega arith) in
        let told : k ≡ length (answer_numbers start (arrivals_in run)) = sym g.so_far ∙ ap length all_told in
        record {
          says = rw (valid, fits) (ap wrote counts);
          next = rw (valid, fits) all-behind;
          holds = rw (valid, fits) (g.holds ∙ (λ i. all_told i ++ drop (told i) before));
        }

-- an arrival's three numbers are there
pub within : (n k : ℕ) → k < n / 3 → 3 * k + 2 < n
within n k h = omega (arith, div-mul-le_self n 3)

-- what is no ledger takes none
pub not-one : (l : Ledger) (run before : List ℕ) → is_ledger l ≡ false → Runs (run_of l run before) (record { answer = Err NotALedger; ledger = l }) before
unfolding run_of
not-one l run before e = record { says = rw e; next = rw e; holds = rw e }

-- no room for the numbers
pub no_room : (l : Ledger) (run before : List ℕ) {count : ℕ} → is_ledger l ≡ true → count ≡ length run / 3 → length before < count → Runs (run_of l run before) (record { answer = Err TooShort; ledger = l }) before
unfolding run_of
no_room l run before valid e h =
    let short = lt-leb (length (arrivals_in run)) (length before) (omega (arith, thirds run)) in
    record { says = rw (valid, short); next = rw (valid, short); holds = rw (valid, short) }

-- where there is room, the ledger after a run is that after its arrivals, also of what is no ledger
pub run-behind : (l : Ledger) (run before : List ℕ) → length (arrivals_in run) ≤ length before → (run_of l run before).next ≡ after_arrivals l (arrivals_in run)
unfolding run_of
run-behind l run before room = go (is_ledger l) refl
  where
    fits : leb (length (arrivals_in run)) (length before) ≡ true
    fits = le-leb (length (arrivals_in run)) (length before) room

    go : (b : Bool) → is_ledger l ≡ b → (run_of l run before).next ≡ after_arrivals l (arrivals_in run)
    go true e = rw (e, fits)
    go false e = rw e (sym (none-behind l (arrivals_in run) e))
