-- A part that is not left is cut. Assumes nothing.
use Rattle.std.proofs.Common.{◌≡◌, ℕ, List, sym, refl, ap, ◌∙◌}
use Rattle.types.specs.Letters.{letters}
use Rattle.columns.specs.Pouring.{Filling, pour}
use Rattle.explanation_lines.specs.Lines.{fault_text}
use Rattle.explanation_lines.specs.declared.Held.{Held}
use Rattle.explanation_lines.specs.declared.Held.TheVariants.{Number, Byte, Bytes, Left}

-- by the variants that are there for the last arm of the match
cut-unless-left : (held : Held) (size : ℕ) → (held ≡ Left → ⊥) → fault_text held size ≡ letters "cut"
cut-unless-left Number size h = refl
cut-unless-left Byte size h = refl
cut-unless-left Bytes size h = refl
cut-unless-left Left size h = absurd (h refl)

pub cut-poured : (f : Filling) (size : ℕ) {held is : Held} {g : Filling} → held ≡ is
    → (held ≡ Left → ⊥) → g ≡ pour f (letters "cut") → g ≡ pour f (fault_text is size)
cut-poured f size {held} e h p =
    p ∙ ap (λ (text : List ℕ). pour f text) (sym (cut-unless-left held size h) ∙ ap (λ x. fault_text x size) e)
