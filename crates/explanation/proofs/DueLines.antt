-- The next lines, by what is due. Assumes nothing.
use Rattle.std.proofs.Common.{◌≡◌, ℕ, List, sym, subst}
use Rattle.explanation.specs.Telling.{told_by, next_told, Tells}
use Rattle.explanation.specs.declared.Due.{Due}
use Rattle.explanation.specs.declared.Explaining.{Explaining}
use Rattle.explanation.specs.declared.NextLines.{NextLines}

pub as-due : (field : List ℕ) (e : Explaining) {due : Due} {before after : List ℕ} {at : ℕ} {r : NextLines} → e.due ≡ due → Tells (told_by due field e) before at r after → Tells (next_told field e) before at r after
unfolding next_told
as-due field e {before = before} {after = after} {at = at} {r = r} is =
    subst (λ (due : Due). Tells (told_by due field e) before at r after) (sym is)
