-- What bytes that follow can change of a field: nothing of what was found whole, and nothing of a refusal, unless it is a cut
-- one. Assumes nothing.
use Prim.Native.Nat.{ℕ, zero, suc, ◌+◌, ◌-◌, ◌≤◌}
use mathlib.Core.Path.{◌≡◌, refl}
use mathlib.Core.List.{List, ◌++◌}
use mathlib.Core.Bool.{Bool, true, false}
use native.Mathlib.Omega.{arith}
use lib.ListN.{length, drop, length-append, length-drop, get_or-append}
use lib.Seq.{take-append-le, drop-append-le}
use lib.Dec.{leb, ltb}
use borrow.Author.Tests.{le-leb, leb-true, lt-ltb, ltb-true}
use Rattle.common.specs.Answer.{Answer, whole as answered, refused}
use Rattle.common.specs.Choice.{pick}
use Rattle.integer.specs.Integer.{read_of, greatest}
use Rattle.integer.proofs.Laws.{stable}
use Rattle.integer.proofs.Offsets.{reach}
use Rattle.field.specs.Outcome.{Outcome, whole, no, and_then}
use Rattle.field.specs.Entries.{size, number_at, text_at, numbered_at, entry_at, most_of, entries_at, few, Listed, list_at}
use Rattle.field.specs.Fields.{FieldForm, integer, byte, bytes, list, track, field_at}
use Rattle.field.specs.Value.{part, entry_values, contents, mean}
use Rattle.field.specs.declared.Fault.{Fault}
use Rattle.field.specs.declared.Fault.TheVariants.{Cut}
use Rattle.field.specs.declared.Span.{Span}
use Rattle.field.specs.declared.Kind.{Kind}
use Rattle.field.specs.declared.Kind.TheVariants.{Namespace, Parameters, Versions}
use Rattle.field.specs.declared.Piece.{Piece}
use Rattle.field.proofs.Found.{steps, number_read, number_cut, entry-at, text_at_lem}
use Rattle.field.proofs.Pieces.{list_at_lem, FieldAt, a-number, a_byte_lem, some_bytes_lem, a-list, a-track, items-suc}

-- ---- an outcome, and the outcome when bytes follow

-- it stays the same; but where the bytes were cut, anything may come of more
pub data Stays {A : Type 0} : Outcome A → Outcome A → Type 0 where
  same : {o : Outcome A} → Stays o o
  cut : {o : Outcome A} → Stays (no Cut) o

-- what was found whole stays,
pub keeps-whole : {A : Type 0} {o p : Outcome A} {a : A} {end : ℕ} → Stays o p → o ≡ whole a end → p ≡ whole a end
keeps-whole same h = h
keeps-whole cut h = absurd (let z : ◌≡◌ {A = ℕ} 0 1 = cc in omega arith)

-- a refusal other than a cut one stays,
pub keeps-refusal : {A : Type 0} {o p : Outcome A} {fault : Fault} → (fault ≡ Cut → ⊥) → Stays o p → o ≡ no fault → p ≡ no fault
keeps-refusal other same h = h
keeps-refusal other cut h = absurd (other (cc))

-- and what is cut was cut before
pub was-cut : {A : Type 0} {o p : Outcome A} → Stays o p → p ≡ no Cut → o ≡ no Cut
was-cut same h = h
was-cut cut h = refl

-- ---- the steps of a reading

-- one thing after another stays, where each of them does
same_then : {A B : Type 0} (o : Outcome A) {next later : A → ℕ → Outcome B} → ((a : A) (end : ℕ) → Stays (next a end) (later a end)) → Stays (and_then o next) (and_then o later)
same_then (whole a end) f = f a end
same_then (no fault) f = same

pub stays_then : {A B : Type 0} {o p : Outcome A} {next later : A → ℕ → Outcome B} → Stays o p → ((a : A) (end : ℕ) → Stays (next a end) (later a end)) → Stays (and_then o next) (and_then p later)
stays_then (same {o = o}) f = same_then o f
stays_then cut f = cut

-- what a test picks stays, where both sides do;
pub stays-pick : {A : Type 0} (t : Bool) {a b c d : Outcome A} → Stays a c → Stays b d → Stays (pick t a b) (pick t c d)
stays-pick true f g = f
stays-pick false f g = g

-- and where there is room for it in fewer bytes, there is in more
stays-room : {A : Type 0} (t u : Bool) {a b : Outcome A} → (t ≡ true → u ≡ true) → (t ≡ true → Stays a b) → Stays (pick t a (no Cut)) (pick u b (no Cut))
stays-room true u r f = rw (r refl) (f refl)
stays-room false u r f = cut

-- ---- what stands at an offset

module _ (s t : List ℕ) where
  -- an integer
  pub number-stays : (at : ℕ) → Stays (number_at s at) (number_at (s ++ t) at)
  number-stays at = go (read_of (drop at s)) refl
    where
      go : (r : Answer ℕ) → read_of (drop at s) ≡ r → Stays (number_at s at) (number_at (s ++ t) at)
      go (answered n used) e =
          let room = reach s at e in
          let later : read_of (drop at (s ++ t)) ≡ answered n used = rw (drop-append-le at s t (omega arith)) (stable (drop at s) t e) in
          rw (number_read s at e, number_read (s ++ t) at later) same
      go (refused k) e = rw (number_cut s at e) cut

  -- a length and bytes
  pub text-stays : (most at : ℕ) → Stays (text_at most s at) (text_at most (s ++ t) at)
  unfolding text_at
  text-stays most at =
      stays_then (number-stays at)
      (λ n start. stays-pick (leb n most)
      (stays-room (leb n (length s - start)) (leb n (length (s ++ t) - start)) (more n start) (λ room. same))
      same)
    where
      more : (n start : ℕ) → leb n (length s - start) ≡ true → leb n (length (s ++ t) - start) ≡ true
      more n start e = le-leb n (length (s ++ t) - start) (rw length-append (omega (arith, leb-true n (length s - start) e)))

  -- an entry
  numbered-stays : (number most at : ℕ) → Stays (numbered_at number most s at) (numbered_at number most (s ++ t) at)
  unfolding numbered_at
  numbered-stays number most at = stays_then (text-stays most at) (λ p end. same)

  pub entry-stays : (kind : Kind) (most at : ℕ) → Stays (entry_at kind most s at) (entry_at kind most (s ++ t) at)
  unfolding entry_at
  entry-stays Namespace most at = numbered-stays 0 most at
  entry-stays Parameters most at = stays_then (number-stays at) (λ type next. numbered-stays type most next)
  entry-stays Versions most at = stays_then (number-stays at) (λ version end. same)

  -- a run of entries
  pub entries-stays : (sized : Bool) (kind : Kind) (count held at : ℕ) → Stays (entries_at sized kind count held s at) (entries_at sized kind count held (s ++ t) at)
  unfolding entries_at
  entries-stays sized kind zero held at = same
  entries-stays sized kind (suc count) held at =
      stays_then (entry-stays kind (most_of sized kind held) at)
      (λ e end. entries-stays sized kind count (held + size e.bytes) end)

  -- a count and entries
  pub list-stays : (kind : Kind) (at : ℕ) → Stays (list_at kind s at) (list_at kind (s ++ t) at)
  unfolding list_at
  list-stays kind at =
      stays_then (number-stays at)
      (λ count first. stays-pick (few kind count) (stays_then (entries-stays true kind count 0 first) (λ held end. same)) same)

  -- a field
  pub field-stays : (form : FieldForm) (at : ℕ) → Stays (field_at form s at) (field_at form (s ++ t) at)
  unfolding field_at
  field-stays integer at = stays_then (number-stays at) (λ n end. same)
  field-stays byte at =
      stays-room (ltb at (length s)) (ltb at (length (s ++ t)))
      (λ e. lt-ltb at (length (s ++ t)) (rw length-append (omega (arith, ltb-true at (length s) e))))
      (λ e. rw (get_or-append s t 0 at (ltb-true at (length s) e)) same)
  field-stays bytes at = stays_then (text-stays greatest at) (λ p end. same)
  field-stays (list kind) at = stays_then (list-stays kind at) (λ l end. same)
  field-stays track at =
      stays_then (list-stays Namespace at)
      (λ l next. stays_then (text-stays (most_of true Namespace l.held) next) (λ name end. same))

  -- ---- and by content

  -- the bytes of a part
  part_stays : (p : Span) → p.start ≤ p.end → p.end ≤ length s → part (s ++ t) p ≡ part s p
  part_stays p h k =
      rw (drop-append-le p.start s t (omega arith), take-append-le (size p) (drop p.start s) t (rw length-drop (omega arith)))

  -- the items of a run
  items_stay : (sized : Bool) (kind : Kind) (count held at : ℕ) {holds end : ℕ} → entries_at sized kind count held s at ≡ whole holds end → entry_values kind count (s ++ t) at ≡ entry_values kind count s at
  unfolding entries_at entry_values
  items_stay sized kind zero held at h = refl
  items_stay sized kind (suc count) held at h =
      let most = most_of sized kind held in
      let u = steps (entry_at kind most s at) _ h in
      let e = entry-at kind most s at u.first in
      let later = keeps-whole (entry-stays kind most at) u.first in
      let held_bytes = part_stays u.found.bytes e.ordered (omega arith) in
      rw (items-suc kind most count (s ++ t) at later, items-suc kind most count s at u.first, held_bytes, items_stay sized kind count (held + size u.found.bytes) u.end u.then)

  -- the bytes that a length names, and the items of a list
  bytes-stay : (most at : ℕ) {p : Span} {end : ℕ} → text_at most s at ≡ whole p end → part (s ++ t) p ≡ part s p
  bytes-stay most at {p} h = let u = text_at_lem most s at h in part_stays p u.ordered u.within

  contents-stay : (kind : Kind) (at : ℕ) {l : Listed} {end : ℕ} → list_at kind s at ≡ whole l end → contents (s ++ t) kind l.entries ≡ contents s kind l.entries
  contents-stay kind at {l} h = items_stay true kind l.entries.count 0 l.entries.start (list_at_lem kind s at h).run

  -- the value of a piece
  pub mean-stays : {at : ℕ} {form : FieldForm} {p : Piece} {end : ℕ} → FieldAt s at form p end → mean (s ++ t) p ≡ mean s p
  unfolding mean
  mean-stays (a-number e) = refl
  mean-stays (a_byte_lem e) = refl
  mean-stays {at} (some_bytes_lem e) = rw (bytes-stay greatest at e)
  mean-stays {at} (a-list {kind = kind} e) = rw (contents-stay kind at e)
  mean-stays {at} (a-track {l = l} {next = next} e f) = rw (contents-stay Namespace at e, bytes-stay (most_of true Namespace l.held) next f)
