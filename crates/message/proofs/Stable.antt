-- Every answer but 1 is unchanged by bytes that follow; a whole message also where they are cut off. Assumes nothing.
use Prim.Native.Nat.{ℕ, ◌+◌, ◌-◌, ◌≤◌}
use mathlib.Core.Path.{◌≡◌, refl, sym, ap, ◌∙◌}
use mathlib.Core.List.{List, ◌++◌}
use native.Mathlib.Omega.{arith}
use lib.ListN.{length, take, drop, length-append, length-drop}
use lib.Seq.{take-append-le, drop-append-le}
use Rattle.common.specs.Answer.{Answer, whole as answered, refused}
use Rattle.common.proofs.Cases.{apart}
use Rattle.integer.proofs.Laws.{only-used}
use Rattle.field.specs.Outcome.{whole}
use Rattle.field.specs.Entries.{number_at}
use Rattle.field.specs.Fields.{integer}
use Rattle.field.proofs.Found.{number-at, number_read}
use Rattle.field.proofs.Unjudged.{as_number, found_number}
use Rattle.field.proofs.Stable.{keeps-whole, field-stays}
use Rattle.layout.specs.Typed.{Typed}
use Rattle.message.specs.Reading.{read_up_to}
use Rattle.message.proofs.Front.{Headed, Stops, no-type, unknown, no_length, too_long, missing, Judged, stopped, present, judged, answer-is, parts, joined}

module _ (limit : ℕ) (s x : List ℕ) where
  -- an integer that was read stays,
  number-stays : (at : ℕ) {n end : ℕ} → number_at s at ≡ whole n end → number_at (s ++ x) at ≡ whole n end
  number-stays at h = found_number (s ++ x) at (keeps-whole (field-stays s x integer at) (as_number s at h))

  -- so do Type and Length,
  head-stays : {type size at : ℕ} → Headed s type size at → Headed (s ++ x) type size at
  head-stays h =
      record { next = h.next; type_at = number-stays 0 h.type_at; is_known = h.is_known; length_at = number-stays h.next h.length_at }

  -- what refuses a message before its body, unless it is for want of bytes,
  stop-stays : {n : ℕ} → (n ≡ 1 → ⊥) → Stops limit s n → Stops limit (s ++ x) n
  stop-stays other (no-type e) = absurd (other refl)
  stop-stays other (unknown e k) = unknown (number-stays 0 e) k
  stop-stays other (no_length e k f) = absurd (other refl)
  stop-stays other (too_long h long) = too_long (head-stays h) long
  stop-stays other (missing h short room) = absurd (other refl)

  -- and what a body comes to that is there: it is the same bytes
  judged-stays : {o : Answer Typed} → (o ≡ refused 1 → ⊥) → Judged limit s o → Judged limit (s ++ x) o
  judged-stays other (stopped h) = stopped (stop-stays (λ e. other (ap refused e)) h)
  judged-stays other (present {size = size} {at = at} h short room e) =
      let end = (number-at s h.next h.length_at).within in
      let more : size ≤ length (s ++ x) - at = rw length-append (omega arith) in
      present (head-stays h) short more (rw (← take-append-le (at + size) s x (omega arith)) at e)

  -- so the answer is the same,
  stays : (read_up_to limit s ≡ refused 1 → ⊥) → read_up_to limit (s ++ x) ≡ read_up_to limit s
  stays other = sym (answer-is (judged-stays other (judged limit s)))

  -- a whole message
  pub whole-stays : {t : Typed} {used : ℕ} → read_up_to limit s ≡ answered t used → read_up_to limit (s ++ x) ≡ answered t used
  whole-stays h = stays (λ e. apart (sym e ∙ h)) ∙ h

  -- or a refusal other than 1
  pub refusal-stays : {n : ℕ} → (n ≡ 1 → ⊥) → read_up_to limit s ≡ refused n → read_up_to limit (s ++ x) ≡ refused n
  refusal-stays {n} other h = stays (λ e. other (cc)) ∙ h

  -- ---- bytes that are cut off

  -- an integer that ends before them is still there,
  number-before : (at : ℕ) {n end : ℕ} → number_at (s ++ x) at ≡ whole n end → end ≤ length s → number_at s at ≡ whole n end
  number-before at {n} {end} h fits =
      let t = number-at (s ++ x) at h in
      let rest : drop at (s ++ x) ≡ drop at s ++ x = drop-append-le at s x (omega (arith, t.after)) in
      let same = ap (take t.used) rest ∙ take-append-le t.used (drop at s) x (rw length-drop (omega (arith, t.ends))) in
      number_read s at (only-used (drop at (s ++ x)) (drop at s) same t.reads) ∙ ap (whole n) (sym t.ends)

  -- and so is a message
  pub whole_before : {t : Typed} {used : ℕ} → read_up_to limit (s ++ x) ≡ answered t used → used ≤ length s → read_up_to limit s ≡ answered t used
  whole_before {t} {used} h fits =
      let w = parts limit (s ++ x) h in
      let next = w.head.next in
      let ends = (number-at (s ++ x) next w.head.length_at).after in
      joined limit s (record {
        size = w.size;
        at = w.at;
        head = record {
          next = next;
          type_at = number-before 0 w.head.type_at (omega (arith, ends, w.ends));
          is_known = w.head.is_known;
          length_at = number-before next w.head.length_at (omega (arith, w.ends));
        };
        short = w.short;
        ends = w.ends;
        present = fits;
        body = rw (take-append-le used s x fits) at w.body;
      })
