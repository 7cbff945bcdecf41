-- The value of a field: its bytes from an offset on, as far as they are there. Assumes nothing.
use Rattle.std.proofs.Common.{◌≡◌, ℕ, ◌+◌, ◌-◌, ◌%◌, ◌^◌, ◌≤◌, min, List, length, get_or, take, drop, sym, ap, ◌∙◌, ⊎_elim, eq-or-lt_of_le, arith, drop_of_length-le}
use Rattle.common.proofs.Parts.{to_end}
use Rattle.trace.specs.Fields.{offset_of}
use Rattle.parts.specs.Telling.{next_of}
use Rattle.parts.specs.declared.NextPart.{NextPart}
use Rattle.columns.specs.Pouring.{filling, pour}
use Rattle.columns.proofs.Poured.{poured-both}
use Rattle.explanation_lines.specs.Lines.{field_line, step_lines, value_lines}
use Rattle.explanation.specs.Telling.{duly, due_after, field_told, after_step, part_told, Tells}
use Rattle.explanation.specs.declared.Due.{Due}
use Rattle.explanation.specs.declared.Explaining.{Explaining}

abbrev lent : List ℕ → ℕ → List ℕ
lent field n = take (length field - n) (drop n field)

module _ (field : List ℕ) (start : ℕ) {n : ℕ} (least : n ≡ min start (length field)) where
  dropped : drop n field ≡ drop start field
  dropped =
      let few : n ≤ start = omega arith in
      ⊎_elim
      (λ e. ap (λ (k : ℕ). drop k field) e)
      (λ l.
      let short : length field ≤ n = omega arith in
      let beyond : length field ≤ start = omega arith in
      drop_of_length-le field short ∙ sym (drop_of_length-le field beyond))
      (eq-or-lt_of_le few)

  -- as it reaches a callee
  pub value_lent : lent field n ≡ drop start field
  value_lent = to_end field n ∙ dropped

module _ (field : List ℕ) (e : Explaining) {n offset : ℕ} (least : n ≡ min e.start (length field)) (sum : offset ≡ (e.offset + e.start) % 2 ^ 64) {before after : List ℕ} {at r : ℕ} {next : Explaining} where
  -- behind the line of the field
  pub told-field : {tag line : ℕ} {mid : List ℕ} {due : Due} → tag ≡ get_or field 0 0 → filling mid line ≡ pour (filling before at) (field_line e.offset field) → filling after r ≡ pour (filling mid line) (value_lines tag offset (lent field n)) → due ≡ due_after tag → next ≡ duly e due → Tells (field_told field e) before at (record { at = r; next = next }) after
  unfolding field_told offset_of
  told-field {line = line} {mid = mid} is p q goes left =
      let same = value_lent field e.start least in
      record {
        puts = poured-both _ _ _ p (q ∙ ap (pour (filling mid line)) (λ i. value_lines (is i) (sum i) (same i)));
        leaves = left ∙ ap (duly e) (goes ∙ ap due_after is);
      }

  -- part by part
  pub told_part : {told : NextPart} → told ≡ next_of (lent field n) e.cursor → filling after r ≡ pour (filling before at) (step_lines told.step offset (lent field n)) → next ≡ after_step told.step told.cursor e → Tells (part_told field e) before at (record { at = r; next = next }) after
  unfolding part_told offset_of
  told_part {told} is q left =
      let same = value_lent field e.start least in
      let next : told ≡ next_of (drop e.start field) e.cursor = is ∙ ap (λ (s : List ℕ). next_of s e.cursor) same in
      record {
        puts = q ∙ ap (pour (filling before at)) (λ i. step_lines (next i).step (sum i) (same i));
        leaves = left ∙ (λ i. after_step (next i).step (next i).cursor e);
      }
