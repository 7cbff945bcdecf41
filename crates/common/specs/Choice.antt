-- Tests, and what is chosen by them.
use Rattle.std.specs.Prelude.{Bool, true, false}

-- the one or the other, by a test
abbrev pub pick {ℓ} : {A : Type ℓ} → Bool → A → A → A
pick true a b = a
pick false a b = b

-- a test, what is answered where it fails, and the rest: so refusals stand in the order in which they are looked for
abbrev pub guard {ℓ} : {A : Type ℓ} → Bool → A → A → A
guard test refusal rest = pick test rest refusal

-- both of two tests
abbrev pub both : Bool → Bool → Bool
both true b = b
both false b = false
