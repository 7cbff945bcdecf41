-- How many bytes are wanted: sixteen more than the longest body decide every message, since a Type takes at most 8 and a Length 8.
-- Assumes nothing.
use Prim.Native.Nat.{ℕ, ◌+◌, ◌≤◌}
use mathlib.Core.Path.{◌≡◌, refl, sym, ◌∙◌}
use mathlib.Core.List.{List, ◌++◌}
use native.Mathlib.Omega.{arith}
use lib.ListN.{length, get_or, drop, replicate, length-append, length-drop, length-replicate}
use Rattle.common.specs.Answer.{Answer, whole as answered, refused}
use Rattle.integer.specs.Integer.{read_of as integer_of}
use Rattle.integer.proofs.Front.{cut-is}
use Rattle.integer.proofs.Widths.{wide_form}
use Rattle.integer.proofs.Laws.{bounds}
use Rattle.field.specs.Outcome.{whole, no}
use Rattle.field.specs.Entries.{number_at}
use Rattle.field.specs.declared.Fault.{Fault}
use Rattle.field.proofs.Found.{number-at, number_read}
use Rattle.field.proofs.Unjudged.{apart}
use Rattle.layout.specs.Typed.{Typed, typed}
use Rattle.message.specs.Reading.{longest_up_to, read_up_to}
use Rattle.message.proofs.Front.{Stops, no-type, unknown, no_length, too_long, missing, Judged, stopped, present, judged, parts}
use Rattle.message.proofs.Numbers.{body-numbers}

-- where there are 8 bytes there is an integer,
integer-there : (s : List ℕ) (at : ℕ) {fault : Fault} → at + 8 ≤ length s → number_at s at ≡ no fault → ⊥
integer-there s at h e = go (integer_of (drop at s)) refl
  where
    go : (r : Answer ℕ) → integer_of (drop at s) ≡ r → ⊥
    go (answered n used) f = apart (sym (number_read s at f) ∙ e)
    go (refused k) f = omega (arith, rw length-drop at (cut-is (drop at s) f).1, (wide_form (get_or (drop at s) 0 0)).few)

-- which takes no more of them
integer-few : (s : List ℕ) (at : ℕ) {n end : ℕ} → number_at s at ≡ whole n end → end ≤ at + 8
integer-few s at h = let t = number-at s at h in omega (arith, t.ends, (bounds t.reads).few)

-- so of as many bytes as the longest message has none is wanting before the body,
stop-decided : {limit : ℕ} {s : List ℕ} {n : ℕ} → longest_up_to limit ≤ length s → Stops limit s n → n ≡ 1 → ⊥
stop-decided {s = s} long (no-type e) z = integer-there s 0 (omega arith) e
stop-decided long (unknown e k) z = omega arith
stop-decided {s = s} long (no_length {next = next} e k f) z = integer-there s next (omega (arith, integer-few s 0 e)) f
stop-decided long (too_long h great) z = omega arith
stop-decided {s = s} long (missing h short room) z = omega (arith, integer-few s 0 h.type_at, integer-few s h.next h.length_at)

-- and a body that is there is never refused by 1
pub decided : (limit : ℕ) (s : List ℕ) → longest_up_to limit ≤ length s → read_up_to limit s ≡ refused 1 → ⊥
decided limit s long = go (judged limit s)
  where
    go : {o : Answer Typed} → Judged limit s o → o ≡ refused 1 → ⊥
    go (stopped h) e = stop-decided long h (cc)
    go (present {type = type} {size = size} {at = at} {fields = fields} h short room e) f =
        omega (arith, (body-numbers (at + size) (typed type fields) f).0)

-- no message that is read has more
pub at_most : (limit : ℕ) (s : List ℕ) {t : Typed} {used : ℕ} → read_up_to limit s ≡ answered t used → used ≤ longest_up_to limit
at_most limit s h =
    let w = parts limit s h in
    omega (arith, w.ends, w.short, integer-few s 0 w.head.type_at, integer-few s w.head.next w.head.length_at)

-- any number of bytes can follow
longer : (n : ℕ) (s : List ℕ) → (x : List ℕ) × (n ≤ length (s ++ x))
longer n s = (replicate n 0, rw (length-append, length-replicate) (omega arith))

-- so whatever is there, more bytes decide it
pub more : (limit : ℕ) (s : List ℕ) → (x : List ℕ) × (read_up_to limit (s ++ x) ≡ refused 1 → ⊥)
more limit s = let l = longer (longest_up_to limit) s in (l.0, decided limit (s ++ l.0) l.1)
