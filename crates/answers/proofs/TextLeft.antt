-- The text that is left at an offset of a trace: the line of the field that stands there, and the text that is left after it.
-- Assumes nothing.
use Prim.Native.Nat.{ℕ, ◌+◌, ◌-◌, ◌≤◌, ◌<◌}
use mathlib.Core.Path.{◌≡◌, refl, sym, ap, subst, ◌∙◌}
use mathlib.Core.Bool.{Bool, true, false}
use mathlib.Core.List.{List, [], ◌++◌, append-nil, append_assoc}
use native.Mathlib.Omega.{arith}
use lib.ListN.{length, take, drop, length-drop}
use lib.Seq.{drop-drop}
use Rattle.common.proofs.PutLoop.{Next}
use Rattle.text.specs.Lines.{line_of}
use Rattle.std.specs.Prelude.{Option, Some, None}
use Rattle.trace.specs.Fields.{field_size, is_whole}
use Rattle.trace.specs.Feeding.{Held, feed}
use Rattle.trace.proofs.Fed.{size-head, whole-fits, fed-field, fed-none}
use Rattle.replay.specs.Progressing.{begun, stepped_by}
use Rattle.replay.specs.declared.Progress.{Progress}
use Rattle.answers.specs.Answers.{line_in, SoFar, add_line, with_text, end_items, last_text, answers_of, taken_at}
use Rattle.answers.specs.declared.FieldLine.{FieldLine}
use Rattle.answers.proofs.FedAlike.{feed-alike}

abbrev holding : SoFar → List ℕ → Held SoFar
holding t rest = record { so_far = t; rest = rest }

-- the text that bytes come to after a progress
unfoldable pub left_text : Progress → List ℕ → List ℕ
left_text p s = last_text (feed add_line (holding (with_text p []) []) s)

pub all_left : (s : List ℕ) → left_text begun s ≡ answers_of s
unfolding left_text answers_of
all_left s = refl

-- ---- text that was there before stays in front

abbrev behind : List ℕ → SoFar → SoFar
behind text t = with_text t.progress (text ++ t.text)

behind-tell : (text : List ℕ) (t : SoFar) (field : List ℕ) → behind text (add_line t field) ≡ add_line (behind text t) field
unfolding add_line
behind-tell text t field =
    ap (with_text (stepped_by t.progress field).next) (sym (append_assoc text t.text (line_of (line_in t.progress field))))

behind-left : (p : Progress) (text s : List ℕ) → last_text (feed add_line (holding (with_text p text) []) s) ≡ text ++ left_text p s
unfolding left_text last_text
behind-left p text s =
    let h = feed add_line (holding (with_text p []) []) s in
    ap (λ (x : List ℕ). last_text (feed add_line (holding (with_text p x) []) s)) (sym (append-nil text))
    ∙ ap last_text (sym (feed-alike add_line add_line (behind text) (behind-tell text) (holding (with_text p []) []) s))
    ∙ append_assoc text h.so_far.text (line_of (end_items h.so_far.progress (length h.rest)))

-- ---- one field

first-left : (p : Progress) (s : List ℕ) → is_whole s ≡ true → left_text p s ≡ line_of (line_in p (take (field_size s) s)) ++ left_text (stepped_by p (take (field_size s) s)).next (drop (field_size s) s)
unfolding left_text add_line
first-left p s e =
    let field = take (field_size s) s in
    ap last_text (fed-field add_line (with_text p []) s e) ∙ behind-left (stepped_by p field).next (line_of (line_in p field)) (drop (field_size s) s)

none_left : (p : Progress) (s : List ℕ) → is_whole s ≡ false → left_text p s ≡ line_of (end_items p (length s))
unfolding left_text last_text
none_left p s e = ap last_text (fed-none add_line (with_text p []) s e)

-- what was told of a field, where one stood
pub record Goes (p : Progress) (s : List ℕ) (at : ℕ) (r : FieldLine) : Type 0 where
  pub after : at < r.used
  pub within : r.used ≤ length s
  pub text : Next (line_of r.line) (left_text r.progress (drop r.used s)) (left_text p (drop at s))

-- the field that stands there
abbrev field_at : List ℕ → ℕ → List ℕ
field_at s at = take (field_size (drop at s)) (drop at s)

module _ (p : Progress) (s : List ℕ) (at : ℕ) where
  abbrev taken : FieldLine
  taken =
      record { line = line_in p (field_at s at); progress = (stepped_by p (field_at s at)).next; used = at + field_size (drop at s) }

  whole_is : is_whole (drop at s) ≡ true → taken_at p s at ≡ Some taken
  unfolding taken_at
  whole_is e = rw e

  cut-is : is_whole (drop at s) ≡ false → taken_at p s at ≡ None
  unfolding taken_at
  cut-is e = rw e

  whole-goes : is_whole (drop at s) ≡ true → Goes p s at taken
  whole-goes e =
      let size = field_size (drop at s) in
      let fits = whole-fits (drop at s) e in
      record {
        after = omega (arith, size-head (drop at s));
        within = omega (arith, fits.0, fits.1, length-drop at s);
        text = record { joins = first-left p (drop at s) e ∙ ap (λ (x : List ℕ). line_of (line_in p (field_at s at)) ++ left_text (stepped_by p (field_at s at)).next x) (drop-drop size at s) };
      }

  module _ {t : Option FieldLine} (said : t ≡ taken_at p s at) where
    -- one stood there,
    pub told-goes : {r : FieldLine} → t ≡ Some r → Goes p s at r
    told-goes {r} some = go (is_whole (drop at s)) refl
      where
        go : (b : Bool) → is_whole (drop at s) ≡ b → Goes p s at r
        go true e =
            let same : ◌≡◌ {A = Option FieldLine} (Some taken) (Some r) = sym (whole_is e) ∙ sym said ∙ some in
            let is : taken ≡ r = cc in
            subst (λ (x : FieldLine). Goes p s at x) is (whole-goes e)
        go false e = absurd (let none : ◌≡◌ {A = Option FieldLine} None (Some r) = sym (cut-is e) ∙ sym said ∙ some in cc)

    -- or none
    pub told-ends : t ≡ None → left_text p (drop at s) ≡ line_of (end_items p (length s - at))
    told-ends none = go (is_whole (drop at s)) refl
      where
        go : (b : Bool) → is_whole (drop at s) ≡ b → left_text p (drop at s) ≡ line_of (end_items p (length s - at))
        go true e = absurd (let some : ◌≡◌ {A = Option FieldLine} (Some taken) None = sym (whole_is e) ∙ sym said ∙ none in cc)
        go false e = none_left p (drop at s) e ∙ ap (λ (n : ℕ). line_of (end_items p n)) (length-drop at s)
