-- What reading at an offset comes to: what was found and where it ends, or why it is refused.
use Rattle.std.specs.Prelude.{ℕ}
use Rattle.common.specs.Answer.{Answer, whole as answered, refused}
use Rattle.field.specs.declared.Fault.{Fault}
use Rattle.field.specs.declared.Fault.TheVariants.{Cut, Forbidden, Oversize}

pub data Outcome (A : Type 0) : Type 0 where
  whole : A → ℕ → Outcome A
  no : Fault → Outcome A

-- what comes next, where something was found; the first fault decides
abbrev pub and_then : {A B : Type 0} → Outcome A → (A → ℕ → Outcome B) → Outcome B
and_then (whole a end) next = next a end
and_then (no fault) next = no fault

-- what is said where nothing was found, and what comes of a finding and its end: so a refusal stands beside its test
abbrev pub on_found : {A B : Type 0} → Outcome A → B → (A → ℕ → B) → B
on_found (whole a end) none f = f a end
on_found (no fault) none f = none

-- document 01's number of a fault: a cut field is 4 in a body or a datagram, and 1 on a stream
abbrev pub fault_number : ℕ → Fault → ℕ
fault_number cut Cut = cut
fault_number cut Forbidden = 5
fault_number cut Oversize = 6

-- and the answer that an outcome is, by the answer for a cut field
abbrev pub answer : {A : Type 0} → ℕ → Outcome A → Answer A
answer cut (whole a end) = answered a end
answer cut (no fault) = refused (fault_number cut fault)
