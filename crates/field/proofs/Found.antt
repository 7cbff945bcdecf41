-- What was found at an offset, by its parts: an integer, a length and bytes, an entry. Each way round. Assumes nothing.
use Prim.Native.Nat.{ℕ, ◌+◌, ◌-◌, ◌≤◌, ◌<◌, zero-le}
use mathlib.Core.Path.{◌≡◌, refl, sym, ap, ◌∙◌}
use mathlib.Core.List.{List}
use native.Mathlib.Omega.{arith}
use lib.ListN.{length, drop}
use borrow.Author.Tests.{le-leb, lt-leb}
use Rattle.common.specs.Answer.{Answer, whole as answered, refused}
use Rattle.common.proofs.Cases.{pick-le}
use Rattle.integer.specs.Integer.{read_of, on_read, enc_of, greatest}
use Rattle.integer.proofs.Laws.{bounds, shortest}
use Rattle.integer.proofs.Offsets.{reach}
use Rattle.field.specs.Outcome.{Outcome, whole, no, and_then}
use Rattle.field.specs.Entries.{size, number_at, text_at, numbered_at, entry_at}
use Rattle.field.specs.Value.{item_size}
use Rattle.field.specs.declared.Fault.{Fault}
use Rattle.field.specs.declared.Fault.TheVariants.{Cut, Oversize}
use Rattle.field.specs.declared.Span.{Span}
use Rattle.field.specs.declared.Entry.{Entry}
use Rattle.field.specs.declared.Kind.{Kind}
use Rattle.field.specs.declared.Kind.TheVariants.{Namespace, Parameters, Versions}

-- ---- one thing after another

-- what was found in two steps
pub record Steps {A B : Type 0} (o : Outcome A) (next : A → ℕ → Outcome B) (b : B) (last : ℕ) : Type 0 where
  pub found : A
  pub end : ℕ
  pub first : o ≡ whole found end
  pub then : next found end ≡ whole b last

pub steps : {A B : Type 0} (o : Outcome A) (next : A → ℕ → Outcome B) {b : B} {last : ℕ} → and_then o next ≡ whole b last → Steps o next b last
steps (whole a e) next h = record { found = a; end = e; first = refl; then = h }
steps (no fault) next h = absurd (let z : ◌≡◌ {A = ℕ} 0 1 = cc in omega arith)

-- where one of two steps is refused
pub data StopsIn {A B : Type 0} (o : Outcome A) (next : A → ℕ → Outcome B) (fault : Fault) : Type 0 where
  at_first : o ≡ no fault → StopsIn o next fault
  at_next : {a : A} {end : ℕ} → o ≡ whole a end → next a end ≡ no fault → StopsIn o next fault

pub stops-in : {A B : Type 0} (o : Outcome A) (next : A → ℕ → Outcome B) {fault : Fault} → and_then o next ≡ no fault → StopsIn o next fault
stops-in (whole a e) next h = at_next refl h
stops-in (no f) next h = at_first (cc)

-- ---- an integer

pub record NumberAt (s : List ℕ) (at n end : ℕ) : Type 0 where
  pub used : ℕ
  pub reads : read_of (drop at s) ≡ answered n used
  pub ends : end ≡ at + used
  pub small : n ≤ greatest
  pub fits : at + length (enc_of n) ≤ end
  pub after : at < end
  pub within : end ≤ length s

pub number-at : (s : List ℕ) (at : ℕ) {n end : ℕ} → number_at s at ≡ whole n end → NumberAt s at n end
unfolding number_at
number-at s at {n} {end} = go (read_of (drop at s)) refl
  where
    go : (r : Answer ℕ) → read_of (drop at s) ≡ r → on_read r (no Cut) (λ n used. whole n (at + used)) ≡ whole n end → NumberAt s at n end
    go (answered m used) e h =
        let p : m ≡ n = cc in
        let q : at + used ≡ end = cc in
        let f : read_of (drop at s) ≡ answered n used = e ∙ ap (λ (x : ℕ). answered x used) p in
        let b = bounds f in
        record {
          used = used;
          reads = f;
          ends = sym q;
          small = b.small;
          fits = omega (arith, shortest (drop at s) f);
          after = omega (arith, b.some);
          within = omega (arith, reach s at f);
        }
    go (refused k) e h = absurd (let z : ◌≡◌ {A = ℕ} 0 1 = cc in omega arith)

pub number_read : (s : List ℕ) (at : ℕ) {n used : ℕ} → read_of (drop at s) ≡ answered n used → number_at s at ≡ whole n (at + used)
unfolding number_at
number_read s at e = rw e

pub number_cut : (s : List ℕ) (at : ℕ) {k : ℕ} → read_of (drop at s) ≡ refused k → number_at s at ≡ no Cut
unfolding number_at
number_cut s at e = rw e

-- ---- a length and bytes

pub record TextAt (most : ℕ) (s : List ℕ) (at : ℕ) (p : Span) (end : ℕ) : Type 0 where
  pub length_at : number_at s at ≡ whole (size p) p.start
  pub ordered : p.start ≤ p.end
  pub ends : end ≡ p.end
  pub short : size p ≤ most
  pub within : p.end ≤ length s

-- a part that starts and has that many bytes
abbrev pub span : ℕ → ℕ → Span
span start n = record { start = start; end = start + n }

pub text_at_lem : (most : ℕ) (s : List ℕ) (at : ℕ) {p : Span} {end : ℕ} → text_at most s at ≡ whole p end → TextAt most s at p end
unfolding text_at
text_at_lem most s at {p} {end} h =
    let t = steps (number_at s at) _ h in
    let n = t.found in
    let start = t.end in
    let m = number-at s at t.first in
    pick-le (λ r. r ≡ whole p end → TextAt most s at p end) n most
    (λ short. pick-le (λ r. r ≡ whole p end → TextAt most s at p end) n (length s - start)
    (λ room e. have n start t.first short (omega (arith, m.within)) (cc) (cc))
    (λ room e. absurd (let z : ◌≡◌ {A = ℕ} 0 1 = cc in omega arith)))
    (λ short e. absurd (let z : ◌≡◌ {A = ℕ} 0 1 = cc in omega arith))
    t.then
  where
    have : (n start : ℕ) → number_at s at ≡ whole n start → n ≤ most → start + n ≤ length s → p ≡ span start n → end ≡ start + n → TextAt most s at p end
    have n start f short room e q =
        let z : start + n - start ≡ n = omega arith in
        rw e (record { length_at = rw z f; ordered = omega arith; ends = q; short = rw z short; within = room })

pub text_of : (most : ℕ) (s : List ℕ) (at : ℕ) {n start : ℕ} → number_at s at ≡ whole n start → n ≤ most → n ≤ length s - start → text_at most s at ≡ whole (span start n) (start + n)
unfolding text_at
text_of most s at {n} {start} e h k = rw (e, le-leb n most h, le-leb n (length s - start) k)

pub text-over : (most : ℕ) (s : List ℕ) (at : ℕ) {n start : ℕ} → number_at s at ≡ whole n start → most < n → text_at most s at ≡ no Oversize
unfolding text_at
text-over most s at {n} e h = rw (e, lt-leb n most h)

pub text-missing : (most : ℕ) (s : List ℕ) (at : ℕ) {n start : ℕ} → number_at s at ≡ whole n start → n ≤ most → length s - start < n → text_at most s at ≡ no Cut
unfolding text_at
text-missing most s at {n} {start} e h k = rw (e, le-leb n most h, lt-leb n (length s - start) k)

pub text-cut : (most : ℕ) (s : List ℕ) (at : ℕ) → number_at s at ≡ no Cut → text_at most s at ≡ no Cut
unfolding text_at
text-cut most s at e = rw e

-- ---- an entry

pub record EntryAt (kind : Kind) (most : ℕ) (s : List ℕ) (at : ℕ) (e : Entry) (end : ℕ) : Type 0 where
  pub small : e.number ≤ greatest
  pub little : size e.bytes ≤ greatest
  pub ordered : e.bytes.start ≤ e.bytes.end
  pub ends : end ≡ e.bytes.end
  pub fits : at + item_size kind e.number (size e.bytes) ≤ end
  pub held : at + size e.bytes < end
  pub within : end ≤ length s

pub record NumberedAt (number most : ℕ) (s : List ℕ) (at : ℕ) (e : Entry) (end : ℕ) : Type 0 where
  pub numbered : e.number ≡ number
  pub is-text : TextAt most s at e.bytes end

pub numbered-at : (number most : ℕ) (s : List ℕ) (at : ℕ) {e : Entry} {end : ℕ} → numbered_at number most s at ≡ whole e end → NumberedAt number most s at e end
unfolding numbered_at
numbered-at number most s at {e} {end} h =
    let t = steps (text_at most s at) _ h in
    have t.found t.end t.first (cc) (cc)
  where
    have : (p : Span) (last : ℕ) → text_at most s at ≡ whole p last → e ≡ record { number = number; bytes = p } → end ≡ last → NumberedAt number most s at e end
    have p last f q r = rw (q, r) (record { numbered = refl; is-text = text_at_lem most s at f })

pub entry-at : (kind : Kind) (most : ℕ) (s : List ℕ) (at : ℕ) {e : Entry} {end : ℕ} → entry_at kind most s at ≡ whole e end → EntryAt kind most s at e end
unfolding entry_at item_size
entry-at Namespace most s at h =
    let r = numbered-at 0 most s at h in
    let t = r.is-text in
    let n = number-at s at t.length_at in
    record { small = rw r.numbered zero-le; little = n.small; ordered = t.ordered; ends = t.ends; fits = omega (arith, n.fits, t.ordered, t.ends); held = omega (arith, n.after, t.ordered, t.ends); within = rw t.ends t.within }
entry-at Parameters most s at h =
    let u = steps (number_at s at) _ h in
    let m = number-at s at u.first in
    let r = numbered-at u.found most s u.end u.then in
    let t = r.is-text in
    let n = number-at s u.end t.length_at in
    record { small = rw r.numbered m.small; little = n.small; ordered = t.ordered; ends = t.ends; fits = rw r.numbered (omega (arith, m.fits, n.fits, t.ordered, t.ends)); held = omega (arith, m.after, n.after, t.ordered, t.ends); within = rw t.ends t.within }
entry-at Versions most s at {e} {end} h =
    let u = steps (number_at s at) _ h in
    have u.found u.end u.first (cc) (cc)
  where
    have : (n last : ℕ) → number_at s at ≡ whole n last → e ≡ record { number = n; bytes = record { start = last; end = last } } → end ≡ last → EntryAt Versions most s at e end
    have n last f q r =
        let m = number-at s at f in
        rw (q, r) (record { small = m.small; little = omega arith; ordered = omega arith; ends = refl; fits = m.fits; held = omega (arith, m.after); within = m.within })
