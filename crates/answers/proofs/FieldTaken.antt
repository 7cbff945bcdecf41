-- The field at an offset, as it is taken. Assumes nothing.
use Prim.Native.Nat.{ℕ, ◌-◌}
use mathlib.Core.Path.{◌≡◌, sym, ap, ◌∙◌}
use mathlib.Core.List.{List}
use lib.ListN.{take, drop}
use Rattle.text.specs.declared.Item.{Item}
use Rattle.trace.specs.Fields.{field_size, field_of}
use Rattle.trace.specs.declared.Field.{Field}
use Rattle.std.specs.Prelude.{Option, Some, None}
use Rattle.replay.specs.Events.{event_of}
use Rattle.replay.specs.Progressing.{Stepping, step_of, verdict_of, told_step, stepped_by}
use Rattle.replay.specs.declared.Event.{Event}
use Rattle.replay.specs.declared.Progress.{Progress}
use Rattle.replay.specs.declared.Stepped.{Stepped}
use Rattle.replay.proofs.FieldSteps.{stands, stands-none, stepped-is}
use Rattle.answers.specs.Answers.{line_by, line_in, taken_at}
use Rattle.answers.specs.declared.FieldLine.{FieldLine}

module _ (p : Progress) (s : List ℕ) (at : ℕ) {r : Option Field} (said : r ≡ field_of s at) where
  -- where none is whole, none is,
  pub none-taken : r ≡ None → None ≡ taken_at p s at
  unfolding taken_at
  none-taken cut = rw (stands-none s at said cut)

  -- and else its line is that of the step
  module _ {f : Field} (found : r ≡ Some f) {line : List Item} where
    pub one-taken : {e : Event} (t : Stepped) → e ≡ event_of f.tag (take (f.end - f.start) (drop f.start s)) → told_step t ≡ step_of p e (f.end - at) → line ≡ line_by p.offset t.event (verdict_of t.said) → ◌≡◌ {A = Option FieldLine} (Some (record { line = line; progress = t.progress; used = f.end })) (taken_at p s at)
    unfolding taken_at line_in
    one-taken {e} t is went held =
        let w = stands s at said found in
        let field = take (field_size (drop at s)) (drop at s) in
        let all : told_step t ≡ stepped_by p field = went ∙ ap (λ (x : Event). step_of p x (f.end - at)) is ∙ sym (stepped-is w p) in
        let same = held ∙ ap (λ (x : Stepping). line_by p.offset x.event x.says) all in
        rw w.is (λ i. Some (record { line = same i; progress = (all i).next; used = w.ends i }))
