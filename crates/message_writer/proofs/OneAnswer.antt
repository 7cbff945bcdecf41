-- One possible answer, and one possible content of the buffer. Assumes nothing.
use Prim.Native.Nat.{ℕ}
use mathlib.Core.Path.{◌≡◌, sym, ◌∙◌}
use mathlib.Core.List.{List}
use Rattle.common.specs.Answer.{Leaves}
use Rattle.encode.specs.Writing.{told_writing}
use Rattle.std.specs.Prelude.{Result}
use Rattle.encode.specs.declared.Refusal.{Refusal}
use Rattle.encode.proofs.OneAnswer.{told-writing-once}
use Rattle.message.specs.declared.Message.{Message}
use Rattle.message_writer.specs.Writing.{write_of}

-- two answers, and what the buffer then holds, that both meet the contract of `write` are the same: refusals too
pub write-once : (s : List ℕ) (m : Message) (before : List ℕ) (a b : Result ℕ Refusal) {x y : List ℕ} → Leaves (write_of s m before) (told_writing a) x → Leaves (write_of s m before) (told_writing b) y → (a ≡ b) × (x ≡ y)
write-once s m before a b p q = (told-writing-once a b (p.says ∙ sym q.says), p.holds ∙ sym q.holds)
