-- Two limits of a body: under the lower, reading answers 3 where a known Type is followed by a Length over it, and else what it answers
-- under the higher. Assumes nothing.
use Prim.Native.Nat.{ℕ, ◌≤◌}
use mathlib.Core.Path.{◌≡◌, sym}
use mathlib.Core.Bool.{false}
use mathlib.Core.List.{List}
use native.Mathlib.Omega.{arith}
use borrow.Author.Tests.{lt-ltb, le-ltb}
use Rattle.common.specs.Answer.{Answer, refused}
use Rattle.common.specs.Choice.{pick}
use Rattle.layout.specs.Typed.{Typed}
use Rattle.message.specs.Reading.{read_up_to}
use Rattle.message.specs.Limits.{length_over}
use Rattle.message.proofs.Front.{no-type, unknown, no_length, too_long, missing, Judged, stopped, present, judged, answer-is}

module _ (low high : ℕ) (rises : low ≤ high) (s : List ℕ) where
  -- what an answer under the lower comes from is a Length over it, or gives the same answer under the higher
  raised : {o : Answer Typed} → Judged low s o → o ≡ pick (length_over low s) (refused 3) (read_up_to high s)
  unfolding length_over
  raised (stopped (no-type e)) = rw e (answer-is (stopped (no-type e)))
  raised (stopped (unknown e k)) = rw (e, k) (answer-is (stopped (unknown e k)))
  raised (stopped (no_length e k f)) = rw (e, k, f) (answer-is (stopped (no_length e k f)))
  raised (stopped (too_long {size = size} h long)) = rw (h.type_at, h.is_known, h.length_at, lt-ltb low size long)
  raised (stopped (missing {size = size} h short room)) =
      rw (h.type_at, h.is_known, h.length_at, le-ltb low size short) (answer-is (stopped (missing h (omega arith) room)))
  raised (present {size = size} h short room e) =
      rw (h.type_at, h.is_known, h.length_at, le-ltb low size short) (answer-is (present h (omega arith) room e))

  pub under-lower : read_up_to low s ≡ pick (length_over low s) (refused 3) (read_up_to high s)
  under-lower = raised (judged low s)

  -- so without such a Length the answer is the same
  pub same-under : length_over low s ≡ false → read_up_to high s ≡ read_up_to low s
  same-under e = sym (rw e at under-lower)
