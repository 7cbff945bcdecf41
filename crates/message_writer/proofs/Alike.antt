-- The bytes of a message that is written are those of its frame: wherever, and however often, it is written. Assumes nothing.
use Prim.Native.Nat.{ℕ}
use mathlib.Core.Path.{◌≡◌, sym, ap, ◌∙◌}
use mathlib.Core.Bool.{true}
use mathlib.Core.List.{List}
use lib.ListN.{length, take}
use lib.Dec.{leb}
use Rattle.common.specs.Answer.{refused, wrote}
use Rattle.common.proofs.Tests.{both-each}
use Rattle.integer.specs.Integer.{greatest}
use Rattle.layout.specs.Typed.{Typed}
use Rattle.layout.specs.Same.{Same}
use Rattle.measure.specs.Measuring.{right_all, encode_all}
use Rattle.encode.specs.Writing.{frame}
use Rattle.encode.proofs.ChecksPassed.{was-written}
use Rattle.encode.proofs.Alike as shortest
use Rattle.message.specs.Types.{typed_of}
use Rattle.message_writer.specs.Writing.{allowed_of, write_up_to, write_of}
use Rattle.message.specs.declared.Message.{Message}

-- the bytes of a message: Type, Length and body, in their shortest form
abbrev pub framed : List ℕ → Typed → List ℕ
framed s t = frame t.type (encode_all s t.pieces)

-- the same message has the same bytes
pub framed_alike : (s t : List ℕ) (a b : Typed) → Same s a t b → framed s a ≡ framed t b
framed_alike s t a b e = rw (e.type, shortest.encoded-alike s t a.pieces b.pieces e.values)

-- they are what is written, where it is said to be
pub record Frame (s : List ℕ) (m : Message) (before : List ℕ) (n : ℕ) : Type 0 where
  pub used : n ≡ length (framed s (typed_of m))
  pub stands : take n (write_of s m before).holds ≡ framed s (typed_of m)

pub is-frame : (s : List ℕ) (m : Message) (before : List ℕ) {n : ℕ} → (write_of s m before).says ≡ wrote n → Frame s m before n
unfolding write_up_to
is-frame s m before h = let w = was-written _ _ _ _ before h in record { used = w.used; stands = shortest.wrote-bytes w }

-- Writing again into the buffer that was just written changes nothing.
pub again : (s : List ℕ) (m : Message) (before : List ℕ) → write_of s m (write_of s m before).holds ≡ write_of s m before
unfolding write_up_to
again s m before = shortest.written-again _ _ _ _ before

module _ (s t : List ℕ) (m k : Message) (same : Same s (typed_of m) t (typed_of k)) where
  -- The same message, written into two buffers, takes the same bytes.
  pub alike : (a b : List ℕ) {n j : ℕ} → (write_of s m a).says ≡ wrote n → (write_of t k b).says ≡ wrote j → (n ≡ j) × (take n (write_of s m a).holds ≡ take j (write_of t k b).holds)
  alike a b h i =
      let e = framed_alike s t (typed_of m) (typed_of k) same in
      let f = is-frame s m a h in
      let g = is-frame t k b i in
      (f.used ∙ ap length e ∙ sym g.used, f.stands ∙ e ∙ sym g.stands)

  -- a message that is not answered with 5 holds parts that make what it states
  right : (s : List ℕ) (m : Message) (before : List ℕ) → ((write_of s m before).says ≡ refused 5 → ⊥) → (allowed_of m ≡ true) × (right_all s (typed_of m).pieces ≡ true)
  unfolding write_up_to
  right s m before h =
      let p = both-each (allowed_of m) _ (shortest.not_five _ _ _ _ before h) in
      (p.0, (both-each (leb (typed_of m).type greatest) (right_all s (typed_of m).pieces) p.1).1)

  -- Into the same buffer it is written alike, with the same answer; or one of the two is answered with 5.
  pub written-alike : (before : List ℕ) → ((write_of s m before).says ≡ refused 5 → ⊥) → ((write_of t k before).says ≡ refused 5 → ⊥) → write_of s m before ≡ write_of t k before
  unfolding write_up_to
  written-alike before h i =
      let p = right s m before h in
      let q = right t k before i in
      rw (p.0, q.0, p.1, q.1, shortest.sized-alike s t (typed_of m).pieces (typed_of k).pieces same.values p.1 q.1, shortest.encoded-alike s t (typed_of m).pieces (typed_of k).pieces same.values, same.type)
