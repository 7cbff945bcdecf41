-- What is told of a thing: where it can be taken back it loses nothing, and it is told of whatever the thing is known to be.
-- Assumes nothing.
use mathlib.Core.Path.{◌≡◌, sym, ap, ◌∙◌}

-- where there is a way back, two things that are told alike are the same
pub once : {A B : Type 0} (tell : A → B) (back : B → A) → ((a : A) → back (tell a) ≡ a) → (a b : A) → tell a ≡ tell b → a ≡ b
once tell back returns a b e = sym (returns a) ∙ ap back e ∙ returns b

-- what is told of a value that is known
pub told_of : {A B : Type 0} (tell : A → B) {a v : A} {o : B} → a ≡ v → o ≡ tell v → o ≡ tell a
told_of tell e h = h ∙ ap tell (sym e)
