-- A field that stands at an offset is a step; arrivals that stand next to each other, one more at a time. Assumes nothing.
use Rattle.std.proofs.Common.{◌≡◌, ℕ, zero, suc, ◌+◌, ◌-◌, ◌*◌, ◌/◌, ◌%◌, ◌^◌, ◌<◌, ◌≤◌, Bool, true, false, eqb, List, [], ◌∷◌, ◌++◌, length, take, drop, set, sym, refl, ap, ◌∙◌, append_assoc, mod-eq_of_lt, div-mul-le_self, arith, length-drop, length-set, length-take-le, get_or-take, drop-drop, take-suc-set, eqb-true}
use native.Mathlib.Nat.{mod-add-mod}
use Rattle.field.specs.declared.Arrival.{Arrival}
use Rattle.ledger.specs.Steps.{arrival_of}
use Rattle.ledger.specs.Runs.{arrivals_in, after_arrivals, run_of}
use Rattle.ledger.specs.declared.Ledger.{Ledger}
use Rattle.ledger.proofs.RunTurns.{thirds, run-behind}
use Rattle.trace.specs.Fields.{number_of_tag, value_of, field_size, is_whole, field_of}
use Rattle.trace.specs.Feeding.{Held, feed}
use Rattle.trace.specs.declared.Field.{Field}
use Rattle.std.specs.Prelude.{Option, Some, None}
use Rattle.trace.proofs.Fed.{size-take, size-head, whole-fits, fed-field, fed-none}
use Rattle.replay.specs.Events.{event_of}
use Rattle.replay.specs.Progressing.{due_of, heard_of, offset_of, Stepping, step_of, step, fed, fed_of, arrived_all, told_heard, told_step, holding}
use Rattle.replay.specs.Gathering.{arrival_in, Gathers, Further, Turns}
use Rattle.replay.specs.declared.Event.{Event}
use Rattle.replay.specs.declared.Event.TheVariants.{Arrived, Fault}
use Rattle.replay.specs.declared.Stage.TheVariants.{Running}
use Rattle.replay.specs.declared.Progress.{Progress}
use Rattle.replay.specs.declared.Heard.{Heard}
use Rattle.replay.specs.declared.Stepped.{Stepped}
use Rattle.replay.specs.declared.Fed.{Fed}
use Rattle.replay.specs.declared.Gathered.{Gathered}
use Rattle.replay.proofs.WhatIsLeft.{drop-take}

-- ---- one event

-- an event's step, by its parts
pub stepped : (p : Progress) (e : Event) (size : ℕ) {due : Event} (h : Heard) {offset : ℕ} → due ≡ due_of p.stage e → told_heard h ≡ heard_of p due → offset ≡ (p.offset + size) % 2 ^ 64 → told_step (record { event = due; said = h.said; progress = record { ledger = h.ledger; stage = h.stage; offset = offset } }) ≡ step_of p e size
unfolding step_of offset_of
stepped p e size heard d h o =
    let all = h ∙ ap (heard_of p) d in
    λ i. record { event = d i; says = (all i).says; next = record { ledger = (all i).ledger; stage = (all i).stage; offset = o i } }

-- arrivals that fit are all taken
pub taken-all : (p : Progress) (run before : List ℕ) (size : ℕ) {l : Ledger} {offset : ℕ} → length run ≤ 3 * length before → l ≡ (run_of p.ledger run before).next → offset ≡ (p.offset + size) % 2 ^ 64 → record { ledger = l; stage = p.stage; offset = offset } ≡ arrived_all p run size
unfolding arrived_all offset_of
taken-all p run before size h k o =
    let all = k ∙ run-behind p.ledger run before (omega (arith, thirds run, div-mul-le_self (length run) 3)) in
    λ i. record { ledger = all i; stage = p.stage; offset = o i }

-- ---- a field at an offset

pub record Stands (s : List ℕ) (at : ℕ) (f : Field) : Type 0 where
  pub is : is_whole (drop at s) ≡ true
  pub starts : f.start ≡ at + 3
  pub ordered : f.start ≤ f.end
  pub ends : f.end ≡ at + field_size (drop at s)
  pub within : f.end ≤ length s
  pub tagged : f.tag ≡ number_of_tag (drop at s)

-- the one that stands there, if any does
abbrev front : List ℕ → ℕ → Field
front s at = record { tag = number_of_tag (drop at s); start = at + 3; end = at + field_size (drop at s) }

pub stands : (s : List ℕ) (at : ℕ) {r : Option Field} {f : Field} → r ≡ field_of s at → r ≡ Some f → Stands s at f
unfolding field_of
stands s at {r} {f} said h = go (is_whole (drop at s)) refl
  where
    go : (b : Bool) → is_whole (drop at s) ≡ b → Stands s at f
    go true e =
        let same : front s at ≡ f = (let both : Some (front s at) ≡ Some f = sym (rw e at said) ∙ h in cc) in
        let w = whole-fits (drop at s) e in
        let ends : f.end ≡ at + field_size (drop at s) = sym (ap (λ (x : Field). x.end) same) in
        let starts : f.start ≡ at + 3 = sym (ap (λ (x : Field). x.start) same) in
        record {
          is = e;
          starts = starts;
          ordered = omega (arith, size-head (drop at s));
          ends = ends;
          within = omega (arith, w.0, w.1, length-drop at s);
          tagged = sym (ap (λ (x : Field). x.tag) same);
        }
    go false e = absurd (let z : None ≡ Some f = sym (rw e at said) ∙ h in let n : ◌≡◌ {A = ℕ} 0 1 = cc in omega arith)

-- where none was found none stands
pub stands-none : (s : List ℕ) (at : ℕ) {r : Option Field} → r ≡ field_of s at → r ≡ None → is_whole (drop at s) ≡ false
unfolding field_of
stands-none s at {r} said h = go (is_whole (drop at s)) refl
  where
    go : (b : Bool) → is_whole (drop at s) ≡ b → is_whole (drop at s) ≡ false
    go false e = e
    go true e = absurd (let z : Some (front s at) ≡ None = sym (rw e at said) ∙ h in let n : ◌≡◌ {A = ℕ} 0 1 = cc in omega arith)

module _ {s : List ℕ} {at : ℕ} {f : Field} (w : Stands s at f) where
  abbrev field : List ℕ
  field = take (field_size (drop at s)) (drop at s)

  value-is : value_of field ≡ take (f.end - f.start) (drop f.start s)
  unfolding value_of
  value-is =
      let size = field_size (drop at s) in
      let long : size ≡ 3 + (f.end - f.start) = omega (arith, w.starts, w.ends, size-head (drop at s)) in
      ap (λ (n : ℕ). drop 3 (take n (drop at s))) long
      ∙ drop-take 3 (f.end - f.start) (drop at s) (whole-fits (drop at s) w.is).0
      ∙ ap (take (f.end - f.start)) (drop-drop 3 at s ∙ ap (λ (n : ℕ). drop n s) (sym w.starts))

  tag_is : number_of_tag field ≡ f.tag
  unfolding number_of_tag
  tag_is = get_or-take (field_size (drop at s)) (drop at s) 0 0 (omega (arith, size-head (drop at s))) ∙ sym w.tagged

  size_is : field_size field ≡ f.end - at
  size_is = size-take (field_size (drop at s)) (drop at s) (size-head (drop at s)) ∙ omega (arith, w.ends)

  abbrev event_at : Event
  event_at = event_of f.tag (take (f.end - f.start) (drop f.start s))

  -- it is one step,
  pub stepped-is : (p : Progress) → step_of p (event_of (number_of_tag field) (value_of field)) (field_size field) ≡ step_of p event_at (f.end - at)
  stepped-is p = λ i. step_of p (event_of (tag_is i) (value-is i)) (size_is i)

  step_is : (p : Progress) → step p field ≡ (step_of p event_at (f.end - at)).next
  unfolding step
  step_is p = ap (λ (x : Stepping). x.next) (stepped-is p)

  -- and what is after it is fed on
  pub one_field : (p : Progress) → fed p (drop at s) ≡ fed (step_of p event_at (f.end - at)).next (drop f.end s)
  unfolding fed
  one_field p =
      let rest : drop (field_size (drop at s)) (drop at s) ≡ drop f.end s = drop-drop (field_size (drop at s)) at s ∙ ap (λ (n : ℕ). drop n s) (sym w.ends) in
      fed-field step p (drop at s) w.is ∙ (λ i. feed step (holding (step_is p i) []) (rest i))

-- ---- a turn

module _ (p : Progress) (s : List ℕ) (at : ℕ) {r : Option Field} (said : r ≡ field_of s at) {f : Field} (found : r ≡ Some f) where
  -- a field is one
  pub one-turn : {e : Event} (t : Stepped) → e ≡ event_of f.tag (take (f.end - f.start) (drop f.start s)) → told_step t ≡ step_of p e (f.end - at) → Further p s at (record { progress = t.progress; used = f.end })
  one-turn {e} t is went =
      let w = stands s at said found in
      let three = size-head (drop at s) in
      let next : t.progress ≡ (step_of p (event_at w) (f.end - at)).next = ap (λ (x : Stepping). x.next) went ∙ ap (λ (x : Event). (step_of p x (f.end - at)).next) is in
      record {
        goes_on = omega (arith, w.ends);
        ends = w.within;
        feeds = one_field w p ∙ ap (λ (q : Progress). fed q (drop f.end s)) (sym next);
      }

-- ---- arrivals

-- a field that is an arrival is one
arrival-event : (s : List ℕ) (f : Field) {r : Event} {a : Arrival} → r ≡ arrival_in s f → r ≡ Arrived a → event_of f.tag (take (f.end - f.start) (drop f.start s)) ≡ Arrived a
unfolding arrival_in event_of
arrival-event s f {r} {a} said h = go (eqb f.tag 3) refl
  where
    go : (b : Bool) → eqb f.tag 3 ≡ b → event_of f.tag (take (f.end - f.start) (drop f.start s)) ≡ Arrived a
    go true e = rw (eqb-true f.tag 3 e) (sym (rw e at said) ∙ h)
    go false e = absurd (let z : Fault ≡ Arrived a = sym (rw e at said) ∙ h in let n : ◌≡◌ {A = ℕ} 0 1 = cc in omega arith)

-- the three numbers of one
abbrev pub numbers_in : Arrival → List ℕ
numbers_in a = a.alias ∷ a.place.group ∷ a.place.object ∷ []

arrivals-snoc : (k : ℕ) (ns : List ℕ) (a : Arrival) → length ns ≡ 3 * k → arrivals_in (ns ++ numbers_in a) ≡ arrivals_in ns ++ a ∷ []
unfolding arrivals_in
arrivals-snoc zero [] a h = refl
arrivals-snoc zero (x ∷ ns) a h = absurd (omega arith)
arrivals-snoc (suc k) [] a h = absurd (omega arith)
arrivals-snoc (suc k) (x ∷ []) a h = absurd (omega arith)
arrivals-snoc (suc k) (x ∷ y ∷ []) a h = absurd (omega arith)
arrivals-snoc (suc k) (x ∷ y ∷ z ∷ ns) a h =
    ap (λ (came : List Arrival). record { alias = x; place = record { group = y; object = z } } ∷ came) (arrivals-snoc k ns a (omega arith))

behind-snoc : (l : Ledger) (came : List Arrival) (a : Arrival) → after_arrivals l (came ++ a ∷ []) ≡ (arrival_of (after_arrivals l came) a).next
unfolding after_arrivals
behind-snoc l [] a = refl
behind-snoc l (b ∷ came) a = behind-snoc (arrival_of l b).next came a

offset-add : (offset m n : ℕ) → offset_of (offset_of offset m) n ≡ offset_of offset (m + n)
unfolding offset_of
offset-add offset m n =
    let sum : offset + m + n ≡ offset + (m + n) = omega arith in
    mod-add-mod (offset + m) (2 ^ 64) n ∙ ap (λ (x : ℕ). x % 2 ^ 64) sum

-- no arrivals
none-all : (p : Progress) → p.offset < 2 ^ 64 → arrived_all p [] 0 ≡ p
unfolding arrived_all offset_of arrivals_in after_arrivals
none-all p h =
    let sum : p.offset + 0 ≡ p.offset = omega arith in
    let same : (p.offset + 0) % 2 ^ 64 ≡ p.offset = ap (λ (x : ℕ). x % 2 ^ 64) sum ∙ mod-eq_of_lt h in
    λ i. record { ledger = p.ledger; stage = p.stage; offset = same i }

-- one more
more-all : (p : Progress) (k : ℕ) (ns : List ℕ) (a : Arrival) (m n : ℕ) → p.stage ≡ Running → length ns ≡ 3 * k → (step_of (arrived_all p ns m) (Arrived a) n).next ≡ arrived_all p (ns ++ numbers_in a) (m + n)
unfolding step_of arrived_all
more-all p k ns a m n run h =
    let last : (arrival_of (after_arrivals p.ledger (arrivals_in ns)) a).next ≡ after_arrivals p.ledger (arrivals_in (ns ++ numbers_in a)) = sym (behind-snoc p.ledger (arrivals_in ns) a) ∙ ap (after_arrivals p.ledger) (sym (arrivals-snoc k ns a h)) in
    rw (run, last, offset-add p.offset m n)

-- stored in their places
stored : (run : List ℕ) (i x y z : ℕ) → i + 2 < length run → take (suc (i + 2)) (set (set (set run i x) (i + 1) y) (i + 2) z) ≡ take i run ++ x ∷ y ∷ z ∷ []
stored run i x y z h =
    let one : suc i ≡ i + 1 = omega arith in
    let two : suc (i + 1) ≡ i + 2 = omega arith in
    let first : take (i + 1) (set run i x) ≡ take i run ++ x ∷ [] = ap (λ (n : ℕ). take n (set run i x)) (sym one) ∙ take-suc-set run i x (omega arith) in
    let second : take (i + 2) (set (set run i x) (i + 1) y) ≡ take (i + 1) (set run i x) ++ y ∷ [] = ap (λ (n : ℕ). take n (set (set run i x) (i + 1) y)) (sym two) ∙ take-suc-set (set run i x) (i + 1) y (rw length-set (omega arith)) in
    take-suc-set (set (set run i x) (i + 1) y) (i + 2) z (simp length-set (omega arith)) ∙ rw (second, first) (simp append_assoc)

-- none yet
pub gathers-none : (s : List ℕ) (at : ℕ) (run : List ℕ) → at ≤ length s → Gathers s at (record { count = 0; end = at }) run run
gathers-none s at run h =
    let here : at - at ≡ 0 = omega arith in
    record {
      same-room = refl;
      fits = omega arith;
      goes_on = omega arith;
      ends = h;
      moves = λ z. absurd (omega arith);
      feeds = λ p _ small. ap (λ (q : Progress). fed q (drop at s)) (sym (ap (arrived_all p []) here ∙ none-all p small));
    }

-- one more
pub gathers-more : {s : List ℕ} {at : ℕ} {count end : ℕ} {before run : List ℕ} {r : Option Field} {f : Field} {e : Event} {a : Arrival} → Gathers s at (record { count = count; end = end }) before run → r ≡ field_of s end → r ≡ Some f → e ≡ arrival_in s f → e ≡ Arrived a → count < length before / 3 → Gathers s at (record { count = count + 1; end = f.end }) before (set (set (set run (3 * count) a.alias) (3 * count + 1) a.place.group) (3 * count + 2) a.place.object)
gathers-more {s} {at} {count} {end} {before} {run} {r} {f} {e} {a} g said found event arrived room =
    let w = stands s end said found in
    let three = size-head (drop end s) in
    let fits : 3 * count + 2 < length before = omega (arith, div-mul-le_self (length before) 3) in
    let long : length (take (3 * count) run) ≡ 3 * count = length-take-le (3 * count) run (omega (arith, g.same-room)) in
    let next : 3 * (count + 1) ≡ suc (3 * count + 2) = omega arith in
    let sum : end - at + (f.end - end) ≡ f.end - at = omega (arith, w.ends, g.goes_on) in
    let run' = set (set (set run (3 * count) a.alias) (3 * count + 1) a.place.group) (3 * count + 2) a.place.object in
    let holds : take (3 * (count + 1)) run' ≡ take (3 * count) run ++ numbers_in a = ap (λ (n : ℕ). take n run') next ∙ stored run (3 * count) a.alias a.place.group a.place.object (omega (arith, g.same-room)) in
    record {
      same-room = simp length-set g.same-room;
      fits = omega arith;
      goes_on = omega (arith, w.ends, g.goes_on);
      ends = w.within;
      moves = λ _. omega (arith, w.ends, g.goes_on);
      feeds = λ p run-stage small.
          g.feeds p run-stage small
          ∙ one_field w (arrived_all p (take (3 * count) run) (end - at))
          ∙ ap (λ (x : Event). fed (step_of (arrived_all p (take (3 * count) run) (end - at)) x (f.end - end)).next (drop f.end s)) (arrival-event s f event arrived)
          ∙ ap (λ (q : Progress). fed q (drop f.end s)) (more-all p count (take (3 * count) run) a (end - at) (f.end - end) run-stage long ∙ (λ i. arrived_all p (sym holds i) (sum i)));
    }

-- as many as there is room for a number each
pub gathered-fit : {s : List ℕ} {at : ℕ} {g : Gathered} {before after : List ℕ} (answers : List ℕ) → Gathers s at g before after → length before ≡ 3 * length answers → length (take (3 * g.count) after) ≤ 3 * length answers
gathered-fit {g = g} {after = after} answers w e =
    omega (arith, w.fits, length-take-le (3 * g.count) after (omega (arith, w.fits, w.same-room)))

-- gathered arrivals are a turn
pub run-turn : (p : Progress) (s : List ℕ) (at : ℕ) {g : Gathered} {before after : List ℕ} {q : Progress} → Gathers s at g before after → p.stage ≡ Running → p.offset < 2 ^ 64 → 0 < g.count → q ≡ arrived_all p (take (3 * g.count) after) (g.end - at) → Further p s at (record { progress = q; used = g.end })
run-turn p s at {g} w run small some is =
    record {
      goes_on = w.moves some;
      ends = w.ends;
      feeds = w.feeds p run small ∙ ap (λ (x : Progress). fed x (drop g.end s)) (sym is);
    }

-- ---- turn after turn

pub record Ahead (p₀ : Progress) (s run answers : List ℕ) (p : Progress) (used : ℕ) : Type 0 where
  pub room : length run ≡ 3072
  pub answer-room : length answers ≡ 1024
  pub within : used ≤ length s
  pub feeds : fed p₀ s ≡ fed p (drop used s)

-- where no whole field stands, all were taken
pub all-taken : {p₀ : Progress} {s run answers : List ℕ} {p : Progress} {used : ℕ} {r : Option Fed} → Ahead p₀ s run answers p used → Turns p s used r → r ≡ None → record { progress = p; used = used } ≡ fed_of p₀ s
unfolding fed_of fed
all-taken {p₀} {s} {p = p} {used = used} g t e =
    let all : fed p₀ s ≡ holding p (drop used s) = g.feeds ∙ fed-none step p (drop used s) (rw e at t) in
    let n : used ≡ length s - length (drop used s) = omega (arith, g.within, length-drop used s) in
    (λ i. record { progress = p; used = n i }) ∙ ap (λ (h : Held Progress). record { progress = h.so_far; used = length s - length h.rest }) (sym all)
