-- A line ends within the page that it is put in. Assumes nothing.
use Rattle.std.proofs.Common.{◌≡◌, ℕ, ◌+◌, ◌-◌, ◌≤◌, List, [], ◌∷◌, ◌++◌, length, take, drop, refl, arith, length-take, length-drop}
use Rattle.std.proofs.lemmas.List.{append_assoc, drop_at, take_at, length-take-le}
use Rattle.common.specs.Answer.{Leaves}
use Rattle.text.specs.Lines.{line_of, put_text, told_putting}
use Rattle.text.specs.declared.Item.{Item}
use Rattle.std.specs.Prelude.{Option, Some, None}
use Rattle.report.proofs.LinePut.{put-within}
use Rattle.text.proofs.Outcomes.{done-is, short-is}
use Rattle.moqanswers.specs.Waiting.{EndsIn}

pub behind-fits : (text bytes : List ℕ) (size at : ℕ) (r : Option ℕ) {t : List ℕ} {n : ℕ} → at ≤ size → Leaves (put_text text (take (size - at) (drop at bytes))) (told_putting r) t → r ≡ Some n → at + n ≤ size
behind-fits text bytes size at r k w e =
    omega (arith, put-within text (take (size - at) (drop at bytes)) r w e, length-take (size - at) (drop at bytes))

-- and stands there, behind what waits
pub put-behind : (text bytes : List ℕ) (used : ℕ) (r : Option ℕ) {t : List ℕ} {n : ℕ} → used ≤ 65536 → length bytes ≡ 65536 → Leaves (put_text text (take (65536 - used) (drop used bytes))) (told_putting r) t → r ≡ Some n → EndsIn (take used bytes ++ (t ++ drop (65536 - used) (drop used bytes))) (used + n) text
put-behind text bytes used r {t} {n} room long w e =
    let before = take (65536 - used) (drop used bytes) in
    let d = done-is text before (rw e at w) in
    let front : length (take used bytes) ≡ used = length-take-le used bytes (omega (arith, room, long)) in
    let here : used + n - length text ≡ used = omega (arith, d.1.count) in
    let rest = drop (length text) before ++ drop (65536 - used) (drop used bytes) in
    let is : t ++ drop (65536 - used) (drop used bytes) ≡ text ++ rest = rw (d.1.holds, append_assoc text (drop (length text) before) (drop (65536 - used) (drop used bytes))) in
    (omega (arith, d.1.count), rw (here, is, drop_at (take used bytes) (text ++ rest) used front, take_at text rest (length text) refl))

-- a line has room where the longest has
pub has-room : {A : Type 0} (text bytes : List ℕ) (used : ℕ) (r : Option ℕ) {t : List ℕ} → used + 204 ≤ 65536 → length bytes ≡ 65536 → length text ≤ 204 → Leaves (put_text text (take (65536 - used) (drop used bytes))) (told_putting r) t → r ≡ None → A
has-room text bytes used r room long few w e =
    let short = (short-is text (take (65536 - used) (drop used bytes)) (rw e at w)).0 in
    absurd (omega (arith, room, long, few, short, length-take (65536 - used) (drop used bytes), length-drop used bytes))

-- a line of no items has no bytes
pub no-line : (items : List Item) (bytes : List ℕ) (used : ℕ) → length items ≡ 0 → EndsIn bytes used (line_of items)
unfolding line_of
no-line [] bytes used e = (omega arith, refl)
no-line (item ∷ items) bytes used e = absurd (omega (arith, e))
