-- On a stream, bytes that follow change no answer but 1, which they can. Assumes nothing.
use Prim.Native.Nat.{ℕ}
use mathlib.Core.Path.{◌≡◌, sym, ap, ◌∙◌}
use mathlib.Core.List.{List, ◌++◌}
use Rattle.common.specs.Answer.{Answer, refused}
use Rattle.common.proofs.Cases.{apart}
use Rattle.field.specs.Outcome.{answer}
use Rattle.layout.specs.Layout.{Layout, scan}
use Rattle.header.specs.Layouts.{streams, subgroup_object, fetch_object}
use Rattle.header.specs.Reading.{stream_of, subgroup_object_of, fetch_object_of}
use Rattle.header.specs.Steady.{Steady}
use Rattle.header.proofs.Front.{scan-steady, headed-steady}
use Rattle.header.proofs.More.{bare-more, headed-more}

-- what is answered the same when bytes follow, unless it is 1, and can then be answered otherwise, is steady
steady : {B : Type 0} (read_of : List ℕ → Answer B) → ((s rest : List ℕ) → (read_of s ≡ refused 1 → ⊥) → read_of (s ++ rest) ≡ read_of s) → ((s : List ℕ) → (rest : List ℕ) × (read_of (s ++ rest) ≡ refused 1 → ⊥)) → Steady read_of
steady read_of same more =
    record {
      whole-stays = λ s rest h. same s rest (λ e. apart (sym e ∙ h)) ∙ h;
      refusal-stays = λ s rest other h. same s rest (λ e. other (cc)) ∙ h;
      more = λ s _. more s;
    }

pub stream-steady : Steady stream_of
unfolding stream_of
stream-steady = steady stream_of (headed-steady 1 streams) (headed-more streams)

-- a header without a type
bare-steady : (l : Layout) (s rest : List ℕ) → (answer 1 (scan l s 0) ≡ refused 1 → ⊥) → answer 1 (scan l (s ++ rest) 0) ≡ answer 1 (scan l s 0)
bare-steady l s rest other = ap (answer 1) (scan-steady l s rest 0 (λ e. other (ap (answer 1) e)))

pub subgroup-object-steady : Steady subgroup_object_of
unfolding subgroup_object_of
subgroup-object-steady = steady subgroup_object_of (bare-steady subgroup_object) (bare-more subgroup_object)

pub fetch-object-steady : Steady fetch_object_of
unfolding fetch_object_of
fetch-object-steady = steady fetch_object_of (bare-steady fetch_object) (bare-more fetch_object)
