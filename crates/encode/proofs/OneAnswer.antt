-- One possible answer: 01's number and values of what a writer answers lose nothing. Assumes nothing.
use Prim.Native.Nat.{ℕ}
use mathlib.Core.Path.{◌≡◌, refl, sym, ap, ◌∙◌}
use mathlib.Core.List.{List}
use lib.Dec.{eqb}
use Rattle.common.specs.Choice.{pick}
use Rattle.common.specs.Answer.{Answer, whole, refused, Nothing, Written, Leaves}
use Rattle.encode.specs.Writing.{told_writing}
use Rattle.std.specs.Prelude.{Result, Ok, Err}
use Rattle.encode.specs.declared.Refusal.{Refusal}
use Rattle.encode.specs.declared.Refusal.TheVariants.{Forbidden as Barred, Oversize as Great, TooLong as Long, TooShort}

-- the answer that was heard
answered : Answer Nothing → Result ℕ Refusal
answered (whole nothing used) = Ok used
answered (refused n) = Err (pick (eqb n 5) Barred (pick (eqb n 6) Great (pick (eqb n 3) Long TooShort)))

-- is the one that was given
answered-answering : (a : Result ℕ Refusal) → answered (told_writing a) ≡ a
unfolding answered
answered-answering (Ok n) = refl
answered-answering (Err Barred) = refl
answered-answering (Err Great) = refl
answered-answering (Err Long) = refl
answered-answering (Err TooShort) = refl

-- so two answers with the same number and values are the same
pub told-writing-once : (a b : Result ℕ Refusal) → told_writing a ≡ told_writing b → a ≡ b
told-writing-once a b e = sym (answered-answering a) ∙ ap answered e ∙ answered-answering b

-- And what a writer leaves is one answer and one content of its buffer.
pub leaves-once : {w : Written} {a b : Result ℕ Refusal} {x y : List ℕ} → Leaves w (told_writing a) x → Leaves w (told_writing b) y → (a ≡ b) × (x ≡ y)
leaves-once {a = a} {b = b} l m = (told-writing-once a b (l.says ∙ sym m.says), l.holds ∙ sym m.holds)
