-- The field at an offset, as it is taken. Assumes nothing.
use Prim.Native.Nat.{ℕ, ◌-◌}
use mathlib.Core.Path.{◌≡◌, sym, ap, ◌∙◌}
use mathlib.Core.List.{List}
use native.Mathlib.Omega.{arith}
use lib.ListN.{take, drop}
use Rattle.trace.specs.Fields.{field_size, field_of}
use Rattle.trace.specs.declared.Field.{Field}
use Rattle.std.specs.Prelude.{Option, Some, None}
use Rattle.replay.specs.Events.{event_of}
use Rattle.replay.specs.Progressing.{step_of, verdict_of, told_step, stepped_by}
use Rattle.replay.specs.declared.Event.{Event}
use Rattle.replay.specs.declared.Progress.{Progress}
use Rattle.replay.specs.declared.Stepped.{Stepped}
use Rattle.replay.proofs.FieldSteps.{stands, stands-none, stepped-is}
use Rattle.explanation_traces.specs.Traces.{explaining_by, explaining_in, taken_at}
use Rattle.explanation.specs.declared.Explaining.{Explaining}

module _ (p : Progress) (s : List ℕ) (at : ℕ) {r : Option Field} (said : r ≡ field_of s at) where
  -- where none is whole, none is,
  pub none-taken : r ≡ None → None ≡ taken_at p s at
  unfolding taken_at
  none-taken cut = rw (stands-none s at said cut)

  -- and else it is explained by its step
  pub one-taken : {f : Field} {e : Event} (t : Stepped) {d : Explaining} → r ≡ Some f → e ≡ event_of f.tag (take (f.end - f.start) (drop f.start s)) → told_step t ≡ step_of p e (f.end - at) → d ≡ explaining_by p.stage p.offset (take (f.end - at) (drop at s)) t.event (verdict_of t.said) → Some (record { explaining = d; progress = t.progress; used = f.end }) ≡ taken_at p s at
  unfolding taken_at explaining_in
  one-taken {f} {e} t found is went shown =
      let w = stands s at said found in
      let field = take (field_size (drop at s)) (drop at s) in
      let size : f.end - at ≡ field_size (drop at s) = omega (arith, w.ends) in
      let all : told_step t ≡ stepped_by p field = went ∙ ap (λ (x : Event). step_of p x (f.end - at)) is ∙ sym (stepped-is w p) in
      let goes = shown ∙ (λ i. explaining_by p.stage p.offset (take (size i) (drop at s)) (all i).event (all i).says) in
      rw w.is (λ i. Some (record { explaining = goes i; progress = (all i).next; used = w.ends i }))
