-- A control message at the front of bytes: what each answer comes from, and a whole message by its parts. Each way round.
-- Assumes nothing.
use Prim.Native.Nat.{ℕ, ◌+◌, ◌-◌, ◌≤◌, ◌<◌}
use mathlib.Core.Path.{◌≡◌, refl, sym, ap, ◌∙◌}
use mathlib.Core.List.{List}
use mathlib.Core.Bool.{true, false}
use native.Mathlib.Omega.{arith}
use lib.ListN.{length, take}
use lib.Dec.{eqb}
use borrow.Author.Tests.{le-leb, lt-leb, eq-eqb, eqb-true}
use Rattle.common.specs.Answer.{Answer, whole as answered, refused}
use Rattle.common.proofs.Cases.{pick-by, pick-le, apart}
use Rattle.field.specs.Outcome.{Outcome, whole, no, on_found}
use Rattle.field.specs.Entries.{number_at}
use Rattle.field.specs.declared.Fault.{Fault}
use Rattle.field.specs.declared.Piece.{Piece}
use Rattle.field.proofs.Found.{number-at}
use Rattle.layout.specs.Layout.{scan}
use Rattle.layout.specs.Typed.{Typed, typed}
use Rattle.types.specs.Table.{known, layout_of}
use Rattle.message.specs.Reading.{filled_by, body_up_to, read_up_to}

-- ---- what an answer comes from

-- a Type that is known, and after it a Length
pub record Headed (s : List ℕ) (type size at : ℕ) : Type 0 where
  pub next : ℕ
  pub type_at : number_at s 0 ≡ whole type next
  pub is_known : known type ≡ true
  pub length_at : number_at s next ≡ whole size at

-- what refuses a message before its body is read: there is no Type, it is unknown, there is no Length, it is too great, not all
-- of the body is there
pub data Stops (limit : ℕ) (s : List ℕ) : ℕ → Type 0 where
  no-type : {fault : Fault} → number_at s 0 ≡ no fault → Stops limit s 1
  unknown : {type next : ℕ} → number_at s 0 ≡ whole type next → known type ≡ false → Stops limit s 2
  no_length : {type next : ℕ} {fault : Fault} → number_at s 0 ≡ whole type next → known type ≡ true → number_at s next ≡ no fault → Stops limit s 1
  too_long : {type size at : ℕ} → Headed s type size at → limit < size → Stops limit s 3
  missing : {type size at : ℕ} → Headed s type size at → size ≤ limit → length s - at < size → Stops limit s 1

-- that, or what its body comes to
pub data Judged (limit : ℕ) (s : List ℕ) : Answer Typed → Type 0 where
  stopped : {n : ℕ} → Stops limit s n → Judged limit s (refused n)
  present : {type size at : ℕ} {fields : Outcome (List Piece)} → Headed s type size at → size ≤ limit → size ≤ length s - at → fields ≡ scan (layout_of type) (take (at + size) s) at → Judged limit s (filled_by (at + size) (typed type fields))

-- what holds of what comes of a finding and of none holds of what comes of an outcome
found-by : {A B : Type 0} (P : B → Type 0) (o : Outcome A) {f : A → ℕ → B} {none : B} → ((a : A) (end : ℕ) → o ≡ whole a end → P (f a end)) → ((fault : Fault) → o ≡ no fault → P none) → P (on_found o none f)
found-by P (whole a end) f g = f a end refl
found-by P (no fault) f g = g fault refl

-- every answer comes from one of these,
pub judged : (limit : ℕ) (s : List ℕ) → Judged limit s (read_up_to limit s)
unfolding read_up_to body_up_to
judged limit s =
    found-by (Judged limit s) (number_at s 0)
    (λ type next e. pick-by (Judged limit s) (known type)
    (λ k. found-by (Judged limit s) (number_at s next)
    (λ size at f.
    let h : Headed s type size at = record { next = next; type_at = e; is_known = k; length_at = f } in
    pick-le (Judged limit s) size limit
    (λ short. pick-le (Judged limit s) size (length s - at) (λ room. present h short room refl) (λ room. stopped (missing h short room)))
    (λ long. stopped (too_long h long)))
    (λ fault f. stopped (no_length e k f)))
    (λ k. stopped (unknown e k)))
    (λ fault e. stopped (no-type e))

-- which gives the answer
stop_is : {limit : ℕ} {s : List ℕ} {n : ℕ} → Stops limit s n → refused n ≡ read_up_to limit s
unfolding read_up_to body_up_to
stop_is (no-type e) = rw e
stop_is (unknown e k) = rw (e, k)
stop_is (no_length e k f) = rw (e, k, f)
stop_is {limit} (too_long {size = size} h long) = rw (h.type_at, h.is_known, h.length_at, lt-leb size limit long)
stop_is {limit} {s} (missing {size = size} {at = at} h short room) =
    rw (h.type_at, h.is_known, h.length_at, le-leb size limit short, lt-leb size (length s - at) room)

pub answer-is : {limit : ℕ} {s : List ℕ} {o : Answer Typed} → Judged limit s o → o ≡ read_up_to limit s
unfolding read_up_to body_up_to
answer-is (stopped h) = stop_is h
answer-is {limit} {s} (present {size = size} {at = at} h short room e) =
    rw (h.type_at, h.is_known, h.length_at, le-leb size limit short, le-leb size (length s - at) room, e)

-- ---- a whole message

-- the bytes used are Type, Length and body: the body is as long as Length says, all of it is there, and its fields fill it
pub record WholeAt (limit : ℕ) (s : List ℕ) (t : Typed) (used : ℕ) : Type 0 where
  pub size : ℕ
  pub at : ℕ
  pub head : Headed s t.type size at
  pub short : size ≤ limit
  pub ends : used ≡ at + size
  pub present : used ≤ length s
  pub body : scan (layout_of t.type) (take used s) at ≡ whole t.pieces used

-- what holds of a message and its end holds of those that the same answer tells
as-answered : (P : Typed → ℕ → Type 0) {m t : Typed} {end used : ℕ} → P m end → answered m end ≡ answered t used → P t used
as-answered P {m} {t} {end} {used} p h =
    let e : t ≡ m = cc in
    let z : used ≡ end = cc in
    rw (e, z) p

-- a body is whole where its fields are, up to its end
filled : (P : Typed → ℕ → Type 0) (end type : ℕ) (o : Outcome (List Piece)) → ((ps : List Piece) → o ≡ whole ps end → P (record { type = type; pieces = ps }) end) → {t : Typed} {used : ℕ} → filled_by end (typed type o) ≡ answered t used → P t used
filled P end type (whole ps last) f {t} {used} h =
    pick-by (λ r. r ≡ answered t used → P t used) (eqb last end)
    (λ e. as-answered P (f ps (ap (whole ps) (eqb-true last end e))))
    (λ e k. absurd (apart k))
    h
filled P end type (no fault) f h = absurd (apart h)

-- what was read has these parts,
pub parts : (limit : ℕ) (s : List ℕ) {t : Typed} {used : ℕ} → read_up_to limit s ≡ answered t used → WholeAt limit s t used
parts limit s {t} {used} = go (judged limit s)
  where
    go : {o : Answer Typed} → Judged limit s o → o ≡ answered t used → WholeAt limit s t used
    go (stopped h) f = absurd (apart f)
    go (present {type = type} {size = size} {at = at} {fields = fields} h short room e) f =
        filled (WholeAt limit s) (at + size) type fields
        (λ ps b. record {
          size = size;
          at = at;
          head = h;
          short = short;
          ends = refl;
          present = omega (arith, (number-at s h.next h.length_at).within);
          body = sym e ∙ b;
        })
        f

-- and with these parts it is read
pub joined : (limit : ℕ) (s : List ℕ) {t : Typed} {used : ℕ} → WholeAt limit s t used → read_up_to limit s ≡ answered t used
joined limit s {t} {used} w =
    let e = answer-is (present w.head w.short (omega (arith, w.ends, w.present)) (sym (rw w.ends at w.body))) in
    sym e ∙ rw (← w.ends, eq-eqb used used refl)
