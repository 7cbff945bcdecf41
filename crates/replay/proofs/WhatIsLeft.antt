-- What is left after the whole fields of bytes, and how it is moved to a buffer's front. Assumes nothing.
use Rattle.std.proofs.Common.{◌≡◌, ℕ, ◌+◌, ◌-◌, ◌<◌, ◌≤◌, min, false, List, ◌++◌, length, take, drop, sym, refl, ap, ◌∙◌, arith, length-drop, drop_of_length-le, length-take-le, drop-drop, take-add, drop_at}
use native.Mathlib.Nat.{min-le_right}
use Rattle.std.specs.List.{copy_within}
use Rattle.std.proofs.lemmas.List.{take_min}
use Rattle.common.specs.Buffer.{over}
use Rattle.trace.specs.Fields.{field_size, is_whole}
use Rattle.trace.specs.Feeding.{Held}
use Rattle.trace.proofs.Fed.{whole-fits, fed_by}
use Rattle.replay.specs.Progressing.{step, fed, fed_of}
use Rattle.replay.specs.Advancing.{advance_of, Advances, kept_of}
use Rattle.replay.specs.declared.Progress.{Progress}
use Rattle.replay.specs.declared.Fed.{Fed}

-- a part, from its offset on
pub drop-take : {A : Type 0} (n m : ℕ) (l : List A) → n ≤ length l → drop n (take (n + m) l) ≡ take m (drop n l)
drop-take n m l h = ap (drop n) (take-add n m l) ∙ drop_at (take n l) (take m (drop n l)) n (length-take-le n l h)

-- ---- what is left

-- it is the end of the bytes,
record Ends (s rest : List ℕ) : Type 0 where
  from : ℕ
  within : from ≤ length s
  is : rest ≡ drop from s

rest-ends : (p : Progress) (s : List ℕ) → Ends s (fed p s).rest
unfolding fed
rest-ends =
    fed_by step (λ (p : Progress) (s : List ℕ) (h : Held Progress). Ends s h.rest)
    (λ p s e. record { from = 0; within = omega arith; is = refl })
    (λ p s h e w. record {
      from = field_size s + w.from;
      within = omega (arith, w.within, length-drop (field_size s) s, (whole-fits s e).1);
      is = w.is ∙ drop-drop w.from (field_size s) s;
    })

pub rest-few : (p : Progress) (s : List ℕ) → length (fed p s).rest ≤ length s
rest-few p s =
    let w = rest-ends p s in
    omega (arith, ap length w.is, length-drop w.from s)

pub rest-is : (p : Progress) (s : List ℕ) → (fed p s).rest ≡ drop (length s - length (fed p s).rest) s
rest-is p s =
    let w = rest-ends p s in
    let from : w.from ≡ length s - length (fed p s).rest = omega (arith, w.within, ap length w.is, length-drop w.from s) in
    w.is ∙ ap (λ (n : ℕ). drop n s) from

-- and no field stands at its front
pub rest-none : (p : Progress) (s : List ℕ) → is_whole (fed p s).rest ≡ false
unfolding fed
rest-none = fed_by step (λ (p : Progress) (s : List ℕ) (h : Held Progress). is_whole h.rest ≡ false) (λ p s e. e) (λ p s h e w. w)

-- ---- moved to the front

moved : (before : List ℕ) (from last : ℕ) → copy_within before from last 0 ≡ take (last - from) (drop from before) ++ drop (last - from) before
moved before from last = ap (λ (n : ℕ). take (last - from) (drop from before) ++ drop n before) (omega arith)

-- bytes up to an offset are kept
module _ (before : List ℕ) (from end : ℕ) {last : ℕ} (bound : last ≡ min end (length before)) where
  pub last-fits : last ≤ length before
  last-fits = omega (arith, bound, min-le_right end (length before))

  up_to : take last before ≡ take end before
  up_to = ap (λ (n : ℕ). take n before) bound ∙ take_min end before

  pub kept-none : last ≤ from → before ≡ kept_of before from end
  unfolding kept_of
  kept-none h = rw (← up_to, drop_of_length-le (take last before) {i = from} (omega (arith, length-take-le last before last-fits)))

  pub kept : {after : List ℕ} → from < last → after ≡ copy_within before from last 0 → after ≡ kept_of before from end
  unfolding kept_of
  kept h e =
      let all : from + (last - from) ≡ last = omega arith in
      let part : take (last - from) (drop from before) ≡ drop from (take end before) = sym (drop-take from (last - from) before (omega (arith, last-fits))) ∙ ap (λ (n : ℕ). drop from (take n before)) all ∙ ap (drop from) up_to in
      let count : last - from ≡ length (take (last - from) (drop from before)) = sym (length-take-le (last - from) (drop from before) (omega (arith, last-fits, length-drop from before))) in
      e ∙ moved before from last ∙ ap (λ (n : ℕ). take (last - from) (drop from before) ++ drop n before) count ∙ ap (λ (l : List ℕ). over l before) part

module _ (p : Progress) (before : List ℕ) (filled : ℕ) {end : ℕ} {f : Fed} (bound : end ≡ min filled (length before)) (fields : f ≡ fed_of p (take end before)) where
  abbrev rest : List ℕ
  rest = (fed p (take end before)).rest

  long : length (take end before) ≡ end
  long = length-take-le end before (last-fits before 0 filled bound)

  used : f.used ≡ end - length rest
  unfolding fed_of
  used = ap (λ (x : Fed). x.used) fields ∙ ap (λ (n : ℕ). n - length rest) long

  few : length rest ≤ end
  few = omega (arith, rest-few p (take end before), long)

  pub used-fits : f.used ≤ end
  used-fits = omega (arith, used)

  pub advanced : {after : List ℕ} → after ≡ copy_within before f.used end 0 → Advances (advance_of p before filled) (record { progress = f.progress; left = end - f.used }) after
  unfolding advance_of fed_of
  advanced {after} e =
      let first : take end before ≡ take filled before = ap (λ (n : ℕ). take n before) bound ∙ take_min filled before in
      let left : end - f.used ≡ length rest = omega (arith, used, few) in
      let all : f.used + (end - f.used) ≡ end = omega (arith, used, few) in
      let is : rest ≡ take (end - f.used) (drop f.used before) =
      rest-is p (take end before)
      ∙ ap (λ (n : ℕ). drop n (take end before)) (ap (λ (n : ℕ). n - length rest) long ∙ sym used)
      ∙ ap (λ (n : ℕ). drop f.used (take n before)) (sym all)
      ∙ drop-take f.used (end - f.used) before (omega (arith, used, last-fits before 0 filled bound)) in
      record {
        progress = ap (λ (x : Fed). x.progress) fields ∙ ap (λ (l : List ℕ). (fed p l).so_far) first;
        left = left ∙ ap (λ (l : List ℕ). length (fed p l).rest) first;
        holds = e ∙ moved before f.used end ∙ (λ i. sym is i ++ drop (left i) before) ∙ ap (λ (l : List ℕ). (fed p l).rest ++ drop (length (fed p l).rest) before) first;
      }
