-- Text that is put after text, or only counted. Assumes nothing.
use Prim.Native.Nat.{ℕ, ◌+◌, ◌-◌, ◌≤◌, ◌<◌}
use mathlib.Core.Path.{◌≡◌, refl, sym, ap, ◌∙◌}
use mathlib.Core.List.{List, [], ◌∷◌, ◌++◌, append_assoc, append-nil}
use native.Mathlib.Nat.{zero-add}
use native.Mathlib.Omega.{arith}
use borrow.Author.Tests.{le-leb, lt-leb}
use lib.Dec.{leb}
use lib.ListN.{length, take, drop, length-append, length-drop}
use lib.Seq.{length-take-le, take-append_seam, drop-append_seam, drop-drop}
use Rattle.common.specs.Choice.{pick}
use Rattle.common.specs.Answer.{Answer, refused, Nothing, wrote, Leaves}
use Rattle.common.specs.Buffer.{over}
use Rattle.common.proofs.Cases.{pick-le, apart}
use Rattle.common.proofs.Parts.{to_end, back}
use Rattle.common.proofs.Puts.{lent, given, put-length}
use Rattle.common.proofs.PutLoop.{Next}
use Rattle.text.specs.Lines.{put_text, told_putting}
use Rattle.std.specs.Prelude.{Option, Some, None}
use Rattle.text.proofs.Outcomes.{line-short}
use Rattle.answers.specs.Adding.{Adds}

-- what a call of `put` leaves is as long as what it was lent, and holds the text where that fits
module _ (text before : List ℕ) {r : Answer Nothing} {after : List ℕ} where
  put_keeps : Leaves (put_text text before) r after → length after ≡ length before
  unfolding put_text
  put_keeps =
      pick-le (λ w. Leaves w r after → length after ≡ length before) (length text) (length before)
      (λ h l. put-length {x = text} {before = before} (record { count = refl; holds = l.holds }) h)
      (λ h l. ap length l.holds)

  put_holds : length text ≤ length before → Leaves (put_text text before) r after → after ≡ over text before
  unfolding put_text
  put_holds h l = (rw (le-leb (length text) (length before) h) at l).holds

-- and what is lent from an offset on comes back into a buffer of the same length
pub lent_length : (before : List ℕ) (at : ℕ) → length (lent at before) ≡ length before - at
lent_length before at = ap length (to_end before at) ∙ length-drop at before

pub given-length : (text before : List ℕ) (at : ℕ) {r : Answer Nothing} {t : List ℕ} → at ≤ length before → Leaves (put_text text (lent at before)) r t → length (given at before t) ≡ length before
given-length text before at {r} {t} k l =
    rw back (omega (arith, length-append (take at before) t, length-take-le at before k, put_keeps text (lent at before) l, lent_length before at))

-- ---- one line

module _ (text : List ℕ) (at room : ℕ) (before : List ℕ) {n : ℕ} (long : n ≡ length text) (within : at ≤ room) where
  -- there is no room,
  pub not-added : room - at < n → Adds text at room before (refused 7) before
  not-added h =
      record {
        says = rw (lt-leb (at + length text) room (omega arith));
        keeps = refl;
        holds = λ _ fits. absurd (omega arith);
      }

  module _ (h : n ≤ room - at) where
    fits-says : wrote (at + n) ≡ pick (leb (at + length text) room) (wrote (at + length text)) (refused 7)
    fits-says = rw (le-leb (at + length text) room (omega arith), long)

    -- it is put,
    pub added : {r : Answer Nothing} {t : List ℕ} → at ≤ length before → Leaves (put_text text (lent at before)) r t → Adds text at room before (wrote (at + n)) (given at before t)
    added {r} {t} k l =
        record {
          says = fits-says;
          keeps = given-length text before at k l;
          holds = λ e f. rw (back, put_holds text (lent at before) (omega (arith, lent_length before at)) l, to_end);
        }

    -- or only counted
    pub counted : length before < at → Adds text at room before (wrote (at + n)) before
    counted k = record { says = fits-says; keeps = refl; holds = λ e f. absurd (omega arith) }

-- ---- a pass

-- all is what was put or counted, and then what is left
pub record Passing (all : List ℕ) (room : ℕ) (before out : List ℕ) (at : ℕ) (left : List ℕ) : Type 0 where
  pub done : List ℕ
  pub joins : done ++ left ≡ all
  pub count : at ≡ length done
  pub within : at ≤ room
  pub keeps : length out ≡ length before
  pub holds : length before ≡ room → out ≡ over done before

pub passing-start : (all : List ℕ) (room : ℕ) (before : List ℕ) {left : List ℕ} → left ≡ all → Passing all room before before 0 left
passing-start all room before e =
    record { done = []; joins = e; count = refl; within = omega arith; keeps = refl; holds = λ _. refl }

same_count : {m n : ℕ} → wrote m ≡ wrote n → m ≡ n
same_count e = cc

-- what was said of a line that was added, and of one that was not
said-done : (m n room : ℕ) → wrote m ≡ pick (leb n room) (wrote n) (refused 7) → (m ≡ n) × (n ≤ room)
said-done m n room =
    pick-le (λ (w : Answer Nothing). wrote m ≡ w → (m ≡ n) × (n ≤ room)) n room
    (λ h e. (same_count e, h))
    (λ h e. absurd (apart (sym e)))

said-short : (n room : ℕ) → refused 7 ≡ pick (leb n room) (wrote n) (refused 7) → room < n
said-short n room =
    pick-le (λ (w : Answer Nothing). refused 7 ≡ w → room < n) n room
    (λ h e. absurd (apart e))
    (λ h e. h)

module _ {all : List ℕ} {room : ℕ} {before out : List ℕ} {at : ℕ} {left : List ℕ} (w : Passing all room before out at left) {x others : List ℕ} (next : Next x others left) where
  regrouped : w.done ++ x ++ others ≡ all
  regrouped = append_assoc w.done x others ∙ ap (λ (y : List ℕ). w.done ++ y) (sym next.joins) ∙ w.joins

  long : length all ≡ at + length x + length others
  long = omega (arith, ap length regrouped, length-append (w.done ++ x) others, length-append w.done x, w.count)

  module _ {said : Answer Nothing} {after : List ℕ} (a : Adds x at room out said after) where
    put-behind : length before ≡ room → at + length x ≤ room → after ≡ over (w.done ++ x) before
    put-behind e f =
        rw (a.holds (w.keeps ∙ e) f, w.holds e, w.count, take-append_seam w.done (drop (length w.done) before), drop-append_seam w.done (drop (length w.done) before), drop-drop, length-append)
        (sym (append_assoc w.done x (drop (length w.done + length x) before)))

    -- the others are left,
    pub passing-next : {end : ℕ} → said ≡ wrote end → Passing all room before after end others
    passing-next {end} e =
        let d = said-done end (at + length x) room (sym e ∙ a.says) in
        record {
          done = w.done ++ x;
          joins = regrouped;
          count = omega (arith, d.0, w.count, length-append w.done x);
          within = omega (arith, d.0, d.1);
          keeps = a.keeps ∙ w.keeps;
          holds = λ same. put-behind same d.1;
        }

    -- or they have no room,
    pub passing-short : said ≡ refused 7 → Adds all 0 room before (refused 7) after
    passing-short e =
        let no = said-short (at + length x) room (sym e ∙ a.says) in
        record {
          says = rw (lt-leb (0 + length all) room (omega (arith, long)));
          keeps = a.keeps ∙ w.keeps;
          holds = λ same fits. absurd (omega (arith, long));
        }

    -- or there are none
    pub passing-end : others ≡ [] → Adds all 0 room before said after
    passing-end none =
        let whole : w.done ++ x ≡ all = sym (append-nil (w.done ++ x)) ∙ ap (λ (y : List ℕ). w.done ++ x ++ y) (sym none) ∙ regrouped in
        let sum : at + length x ≡ 0 + length all = omega (arith, ap length whole, length-append w.done x, w.count) in
        record {
          says = a.says ∙ ap (λ (n : ℕ). pick (leb n room) (wrote n) (refused 7)) sum;
          keeps = a.keeps ∙ w.keeps;
          holds = λ same fits. put-behind same (omega (arith, sum)) ∙ ap (λ (y : List ℕ). over y before) whole;
        }

-- ---- two passes

-- the first is lent no bytes, and gives back none
module _ (all before : List ℕ) (q : Option ℕ) {t : List ℕ} (a : Adds all 0 (length before) [] (told_putting q) t) where
  same_bytes : t ++ before ≡ before
  same_bytes = ap (λ (l : List ℕ). l ++ before) (empty t a.keeps)
    where
      empty : (l : List ℕ) → length l ≡ 0 → l ≡ []
      empty [] e = refl
      empty (x ∷ l) e = absurd (omega arith)

  -- there is no room,
  pub passes-short : q ≡ None → Leaves (put_text all before) (refused 7) (t ++ before)
  passes-short e = rw same_bytes (line-short all before (omega (arith, said-short (0 + length all) (length before) (sym (ap told_putting e) ∙ a.says))))

  -- or the second leaves all of it there
  pub passes-done : {n : ℕ} → q ≡ Some n → {said : Answer Nothing} {after : List ℕ} → Adds all 0 (length before) (t ++ before) said after → Leaves (put_text all before) said after
  unfolding put_text
  passes-done {n} e {said} {after} b =
      let fits : length all ≤ length before = omega (arith, (said-done n (0 + length all) (length before) (sym (ap told_putting e) ∙ a.says)).1) in
      let again : Adds all 0 (length before) before said after = rw same_bytes at b in
      rw (le-leb (length all) (length before) fits)
      (record {
        says = again.says ∙ rw (zero-add, le-leb (length all) (length before) fits);
        holds = again.holds refl (omega arith);
      })
