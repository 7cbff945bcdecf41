-- What reading a control message answers: "Type, known or not; Length, at most" 65,000; "whole body present; fields
-- left to right, the first fault deciding; no byte left over".
use Rattle.std.specs.Prelude.{ℕ, ◌+◌, ◌-◌, List, length, take, leb, eqb, Result, Ok, Err}
use Rattle.common.specs.Choice.{guard}
use Rattle.common.specs.Answer.{Answer, whole as answered, refused}
use Rattle.field.specs.Outcome.{Outcome, whole, no, on_found, fault_number}
use Rattle.field.specs.Entries.{number_at}
use Rattle.field.specs.declared.Fault.{Fault}
use Rattle.layout.specs.Layout.{scan}
use Rattle.layout.specs.Typed.{Typed, typed, told_typed}
use Rattle.types.specs.Limits.{longest_body}
use Rattle.types.specs.Refusals.{number_of}
use Rattle.types.specs.declared.Refusal.{Refusal}
use Rattle.types.specs.Table.{known, layout_of}
use Rattle.message.specs.Types.{typed_of}
use Rattle.message.specs.declared.Message.{Message}

-- the longest message whose body takes up to a limit: its body, after a Type and a Length of eight bytes each
abbrev pub longest_up_to : ℕ → ℕ
longest_up_to limit = 8 + 8 + limit

-- and with the limit of a body: 65,016 bytes, which always decide
abbrev pub longest_message : ℕ
longest_message = longest_up_to longest_body

-- a body that ends at `end` must be filled: 4 where its fields end before, or are cut
abbrev pub filled_by : ℕ → Outcome Typed → Answer Typed
filled_by end (whole m last) = guard (eqb last end) (refused 4) (answered m end)
filled_by end (no fault) = refused (fault_number 4 fault)

-- the body of a message, from an offset on, when its type and its Length are known; it may take up to a limit
unfoldable pub body_up_to : ℕ → List ℕ → ℕ → ℕ → ℕ → Answer Typed
body_up_to limit s type size at =
    guard (leb size limit) (refused 3)
    (guard (leb size (length s - at)) (refused 1)
    (filled_by (at + size) (typed type (scan (layout_of type) (take (at + size) s) at))))

-- and the message, at the front of bytes
unfoldable pub read_up_to : ℕ → List ℕ → Answer Typed
read_up_to limit s =
    on_found (number_at s 0) (refused 1) (λ type next.
    guard (known type) (refused 2)
    (on_found (number_at s next) (refused 1) (λ size at.
    body_up_to limit s type size at)))

-- READING, with the limit of a body
abbrev pub read_of : List ℕ → Answer Typed
read_of s = read_up_to longest_body s

-- ---- 01's number and values of what is answered

-- a message and the bytes that it took, or why there is none
abbrev pub Reading : Type 0
Reading = Result (Message × ℕ) Refusal

abbrev pub told : Reading → Answer Typed
told (Ok (m, used)) = answered (typed_of m) used
told (Err r) = refused (number_of r)

-- "Only a whole message reaches the ledger; every other reading ends there": what is done with it, and what else
abbrev pub on_whole : {A : Type 0} → Reading → A → (Message → ℕ → A) → A
on_whole (Ok (m, used)) rest taken = taken m used
on_whole (Err r) rest taken = rest

-- and a body's
abbrev pub told_body : Result (Message × ℕ) Fault → Outcome Typed
told_body = told_typed typed_of
