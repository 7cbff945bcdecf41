-- What putting a line comes to: it is too long, or it stands there; and that this leaves one answer and one content of the
-- buffer. Assumes nothing.
use Prim.Native.Nat.{ℕ, ◌≤◌, ◌<◌}
use mathlib.Core.Path.{◌≡◌, refl, sym, ◌∙◌}
use mathlib.Core.List.{List}
use borrow.Author.Tests.{le-leb, lt-leb}
use lib.ListN.{length}
use Rattle.common.specs.Answer.{refused, wrote, Written, Leaves}
use Rattle.common.proofs.Cases.{pick-le, apart}
use Rattle.common.specs.Buffer.{Put}
use Rattle.text.specs.Lines.{put_text, told_putting}
use Rattle.std.specs.Prelude.{Option, Some, None}

same_count : {m n : ℕ} → wrote m ≡ wrote n → m ≡ n
same_count e = cc

module _ (text before : List ℕ) where
  pub line-short : length before < length text → Leaves (put_text text before) (refused 7) before
  unfolding put_text
  line-short h = rw (lt-leb (length text) (length before) h) (record { says = refl; holds = refl })

  pub line-done : {used : ℕ} {after : List ℕ} → length text ≤ length before → Put text before used after → Leaves (put_text text before) (wrote used) after
  unfolding put_text
  line-done h p = rw (le-leb (length text) (length before) h) (record { says = rw p.count; holds = p.holds })

  module _ {after : List ℕ} where
    -- it was put, so it fits and stands there
    pub done-is : {used : ℕ} → Leaves (put_text text before) (wrote used) after → (length text ≤ length before) × Put text before used after
    unfolding put_text
    done-is {used} =
        pick-le (λ w. Leaves w (wrote used) after → (length text ≤ length before) × Put text before used after) (length text) (length before)
        (λ h l. (h, record { count = same_count l.says; holds = l.holds }))
        (λ h l. absurd (apart (sym l.says)))

    -- it was refused, so it is too long and nothing was changed
    pub short-is : Leaves (put_text text before) (refused 7) after → (length before < length text) × (after ≡ before)
    unfolding put_text
    short-is =
        pick-le (λ w. Leaves w (refused 7) after → (length before < length text) × (after ≡ before)) (length text) (length before)
        (λ h l. absurd (apart l.says))
        (λ h l. (h, l.holds))

-- two answers with the same number and values are the same
pub told-putting-once : (a b : Option ℕ) → told_putting a ≡ told_putting b → a ≡ b
told-putting-once (Some m) (Some n) e = cc
told-putting-once (Some m) None e = absurd (apart (sym e))
told-putting-once None (Some n) e = absurd (apart e)
told-putting-once None None e = refl

-- So two calls of `put` with the same line and the same buffer answer the same, and leave the same.
pub leaves-once : {w : Written} {a b : Option ℕ} {x y : List ℕ} → Leaves w (told_putting a) x → Leaves w (told_putting b) y → (a ≡ b) × (x ≡ y)
leaves-once {a = a} {b = b} l m = (told-putting-once a b (l.says ∙ sym m.says), l.holds ∙ sym m.holds)
