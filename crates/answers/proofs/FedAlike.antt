-- Two ways to feed the same bytes, of which the one tells the other at each step, tell each other throughout. Assumes nothing.
use Prim.Native.Nat.{ℕ}
use mathlib.Core.Path.{◌≡◌, refl, ap, ◌∙◌}
use mathlib.Core.Bool.{Bool, true, false}
use mathlib.Core.List.{List, [], ◌∷◌, ◌++◌}
use Rattle.trace.specs.Fields.{is_whole}
use Rattle.trace.specs.Feeding.{Held, feed_byte, feed}

module _ {A B : Type 0} (step : A → List ℕ → A) (other : B → List ℕ → B) (f : A → B) (alike : (a : A) (field : List ℕ) → f (step a field) ≡ other (f a) field) where
  abbrev told_by : Held A → Held B
  told_by h = record { so_far = f h.so_far; rest = h.rest }

  byte-alike : (h : Held A) (byte : ℕ) → told_by (feed_byte step h byte) ≡ feed_byte other (told_by h) byte
  unfolding feed_byte
  byte-alike h byte = go (is_whole (h.rest ++ byte ∷ [])) refl
    where
      go : (b : Bool) → is_whole (h.rest ++ byte ∷ []) ≡ b → told_by (feed_byte step h byte) ≡ feed_byte other (told_by h) byte
      go true e = rw e (ap (λ (x : B). record { so_far = x; rest = [] }) (alike h.so_far (h.rest ++ byte ∷ [])))
      go false e = rw e

  pub feed-alike : (h : Held A) (s : List ℕ) → told_by (feed step h s) ≡ feed other (told_by h) s
  unfolding feed
  feed-alike h [] = refl
  feed-alike h (byte ∷ s) =
      feed-alike (feed_byte step h byte) s ∙ ap (λ (x : Held B). feed other x s) (byte-alike h byte)
