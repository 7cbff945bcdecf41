-- What is fed to any step is each of a trace's fields, in their order. Assumes nothing.
use Prim.Native.Nat.{ℕ}
use mathlib.Core.Path.{◌≡◌, sym, ◌∙◌}
use mathlib.Core.Bool.{true, false}
use mathlib.Core.List.{List, [], ◌∷◌, ◌++◌, append_assoc, append-nil}
use lib.ListN.{take, drop}
use Rattle.trace.specs.Fields.{field_size, is_whole}
use Rattle.trace.specs.Feeding.{Held, feed}
use Rattle.trace.proofs.Fed.{fed-none, fed-field, fed_by}
use Rattle.trace_history.specs.Histories.{gathered, trace_fields}

-- bytes are cut into fields, and what is left of them
pub data Cut : List ℕ → List (List ℕ) → List ℕ → Type 0 where
  none : {s : List ℕ} → is_whole s ≡ false → Cut s [] s
  more : {s rest : List ℕ} {fields : List (List ℕ)} → is_whole s ≡ true → Cut (drop (field_size s) s) fields rest → Cut s (take (field_size s) s ∷ fields) rest

abbrev pub holding : {A : Type 0} → A → List ℕ → Held A
holding a rest = record { so_far = a; rest = rest }

-- each field is a step
unfoldable pub steps : {A : Type 0} → (A → List ℕ → A) → A → List (List ℕ) → A
steps step a [] = a
steps step a (field ∷ fields) = steps step (step a field) fields

pub fed-steps : {A : Type 0} (step : A → List ℕ → A) (a : A) {s rest : List ℕ} {fields : List (List ℕ)} → Cut s fields rest → feed step (holding a []) s ≡ holding (steps step a fields) rest
unfolding steps
fed-steps step a (none {s} e) = fed-none step a s e
fed-steps step a (more {s} e c) = fed-field step a s e ∙ fed-steps step (step a (take (field_size s) s)) c

-- ---- every trace is cut so

record Gathers (before : List (List ℕ)) (s : List ℕ) (h : Held (List (List ℕ))) : Type 0 where
  fields : List (List ℕ)
  cut : Cut s fields h.rest
  all : h.so_far ≡ before ++ fields

gathers : (before : List (List ℕ)) (s : List ℕ) → Gathers before s (feed gathered (holding before []) s)
gathers =
    fed_by gathered Gathers (λ before s e. record { fields = []; cut = none e; all = sym (append-nil before) })
    (λ before s h e g.
    record {
      fields = take (field_size s) s ∷ g.fields;
      cut = more e g.cut;
      all = g.all ∙ append_assoc before (take (field_size s) s ∷ []) g.fields;
    })

unfoldable pub rest_of : List ℕ → List ℕ
rest_of s = (feed gathered (holding [] []) s).rest

pub cut-so : (s : List ℕ) → Cut s (trace_fields s) (rest_of s)
unfolding trace_fields rest_of
cut-so s = rw (gathers [] s).all (gathers [] s).cut
