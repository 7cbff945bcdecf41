-- What the calls on traces do, answer by answer. Assumes nothing.
use Prim.Native.Nat.{ℕ, ◌≤◌, ◌<◌}
use mathlib.Core.Path.{◌≡◌, refl}
use mathlib.Core.List.{List}
use borrow.Author.Tests.{le-leb, lt-leb}
use lib.ListN.{length, set}
use Rattle.common.specs.Answer.{Leaves}
use Rattle.rewrite.specs.Rewriting.{Does, putting}
use Rattle.text.specs.Lines.{put_text, told_putting}
use Rattle.std.specs.Prelude.{Option, Some, None}
use Rattle.text.proofs.Outcomes.{done-is, short-is}
use Rattle.exports.specs.Texts.{text_put}
use Rattle.rewrite.proofs.InfoTold.{one}

module _ (text out info : List ℕ) where
  pub no-info : length info < 1 → Does (text_put text out info) 7 out info
  unfolding text_put putting
  no-info h = rw (lt-leb 1 (length info) h) (record { says = refl; leaves = refl; tells = refl })

  module _ (room : 1 ≤ length info) (r : Option ℕ) {after : List ℕ} (w : Leaves (put_text text out) (told_putting r) after) where
    pub text-short : r ≡ None → Does (text_put text out info) 7 after info
    unfolding text_put putting
    text-short e =
        let s = short-is text out (rw e at w) in
        rw (le-leb 1 (length info) room, lt-leb (length text) (length out) s.0) (record { says = refl; leaves = s.1; tells = refl })

    pub text-done : {n : ℕ} → r ≡ Some n → Does (text_put text out info) 0 after (set info 0 n)
    unfolding text_put putting
    text-done {n} e =
        let d = done-is text out (rw e at w) in
        rw (le-leb 1 (length info) room, le-leb (length text) (length out) d.0) (record { says = refl; leaves = d.1.holds; tells = rw (← d.1.count) (one info n room) })
