-- The text of a whole trace, line by line. Assumes nothing.
use Prim.Native.Nat.{ℕ, ◌-◌, ◌≤◌}
use mathlib.Core.Path.{◌≡◌, refl, sym, ap, ◌∙◌}
use mathlib.Core.List.{List, append-nil}
use native.Mathlib.Omega.{arith}
use lib.ListN.{length, drop}
use Rattle.common.specs.Answer.{Answer, Nothing, refused}
use Rattle.std.specs.Prelude.{Option, Some, None}
use Rattle.text.specs.Lines.{line_of, told_putting}
use Rattle.text.specs.declared.Item.{Item}
use Rattle.replay.specs.Progressing.{begun}
use Rattle.replay.specs.declared.Progress.{Progress}
use Rattle.answers.specs.Answers.{end_items, answers_of, taken_at}
use Rattle.answers.specs.Adding.{Adds}
use Rattle.answers.specs.declared.FieldLine.{FieldLine}
use Rattle.answers.proofs.TextAdded.{Passing, passing-start, passing-next, passing-short, passing-end}
use Rattle.answers.proofs.TextLeft.{left_text, all_left, told-goes, told-ends}

-- at an offset of the trace, so much of the text was passed, and the rest is left
pub record Along (s : List ℕ) (room : ℕ) (before out : List ℕ) (at : ℕ) (p : Progress) (used : ℕ) : Type 0 where
  pub reached : used ≤ length s
  pub text : Passing (answers_of s) room before out at (left_text p (drop used s))

pub along-start : (s : List ℕ) (room : ℕ) (before : List ℕ) {p : Progress} → p ≡ begun → Along s room before before 0 p 0
along-start s room before e =
    record {
      reached = omega arith;
      text = passing-start (answers_of s) room before (ap (λ (q : Progress). left_text q s) e ∙ all_left s);
    }

module _ {s : List ℕ} {room : ℕ} {before out : List ℕ} {at : ℕ} {p : Progress} {used : ℕ} (w : Along s room before out at p used) {t : Option FieldLine} (said : t ≡ taken_at p s used) where
  module _ {r : FieldLine} (some : t ≡ Some r) {q : Option ℕ} {after : List ℕ} (a : Adds (line_of r.line) at room out (told_putting q) after) where
    -- the line of a field was added,
    pub along-next : {end : ℕ} → q ≡ Some end → Along s room before after end r.progress r.used
    along-next e =
        let goes = told-goes p s used said some in
        record { reached = goes.within; text = passing-next w.text goes.text a (ap told_putting e) }

    -- or has no room,
    pub along-short : q ≡ None → Adds (answers_of s) 0 room before (refused 7) after
    along-short e = let goes = told-goes p s used said some in passing-short w.text goes.text a (ap told_putting e)

  -- or it was the last
  pub along-end : t ≡ None → {line : List Item} → line ≡ end_items p (length s - used) → {q : Answer Nothing} {after : List ℕ} → Adds (line_of line) at room out q after → Adds (answers_of s) 0 room before q after
  along-end none {line} is a =
      let text = told-ends p s used said none ∙ ap line_of (sym is) ∙ sym (append-nil (line_of line)) in
      passing-end w.text (record { joins = text }) a refl
