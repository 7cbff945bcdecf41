-- Text ends within its page, and messages and fields within the bytes that were read. Assumes nothing.
use Rattle.std.proofs.Common.{◌≡◌, ℕ, ◌+◌, ◌-◌, ◌<◌, ◌≤◌, Bool, true, false, List, length, take, drop, sym, refl, ap, ◌∙◌, arith, length-drop, length-take-le}
use Rattle.std.specs.Prelude.{Option, Some, None, Result, Ok}
use Rattle.types.specs.declared.Refusal.{Refusal}
use Rattle.message.specs.Reading.{read_of, told}
use Rattle.message.specs.declared.Message.{Message}
use Rattle.message_writer.proofs.Theorems.{used-there}
use Rattle.trace.specs.Fields.{field_size, is_whole}
use Rattle.trace.proofs.Fed.{size-head, whole-fits}
use Rattle.replay.specs.declared.Progress.{Progress}
use Rattle.explanation_traces.specs.Traces.{taken_at}
use Rattle.explanation_traces.specs.declared.FieldTaken.{FieldTaken}

-- a message that was read takes some bytes, all of which are there
pub read-there : (s : List ℕ) (at : ℕ) {r : Result (Message × ℕ) Refusal} {m : Message} {used : ℕ} → at ≤ length s
    → told r ≡ read_of (take (length s - at) (drop at s)) → r ≡ Ok (m, used) → (2 ≤ used) × (at + used ≤ length s)
read-there s at h said is =
    let rest : length (drop at s) ≡ length s - at = length-drop at s in
    let there = used-there (take (length s - at) (drop at s)) (sym said ∙ ap told is) in
    (there.0, omega (arith, there.1, length-take-le (length s - at) (drop at s) (omega (arith, rest))))

-- ---- a field that was taken ends within the bytes, behind where it begins

-- where it ends, if one was taken, and 0 if none was
abbrev used_in : Option FieldTaken → ℕ
used_in None = 0
used_in (Some f) = f.used

module _ (p : Progress) (s : List ℕ) (at : ℕ) {r : Option FieldTaken} {f : FieldTaken} (said : r ≡ taken_at p s at) (is : r ≡ Some f) where
  pub taken-goes : (at < f.used) × (f.used ≤ length s)
  unfolding taken_at field_size
  taken-goes = go (is_whole (drop at s)) refl
    where
      go : (b : Bool) → is_whole (drop at s) ≡ b → (at < f.used) × (f.used ≤ length s)
      go true e =
          let size : f.used ≡ at + field_size (drop at s) = ap used_in (sym is ∙ rw e at said) in
          let fits = whole-fits (drop at s) e in
          (omega (arith, size, size-head (drop at s)), omega (arith, size, fits.0, fits.1, length-drop at s))
      go false e = let none : Some f ≡ None = sym is ∙ rw e at said in absurd (let z : ◌≡◌ {A = ℕ} 0 1 = cc in omega arith)
