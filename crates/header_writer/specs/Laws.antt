-- What reader and writer of a header owe each other, said once for every header.
use Rattle.std.specs.Prelude.{ℕ, ◌≤◌, ◌≡◌, List, [], ◌++◌, Bool, false, length, take}
use Rattle.common.specs.Answer.{Answer, whole as answered, refused, wrote, Written}
use Rattle.common.specs.Octets.{Octets}
use Rattle.layout.specs.Typed.{Typed}
use Rattle.layout.specs.Same.{Same}

-- A header A, of which reading tells B: its fields, with its type where it has one. And its type and fields over the
-- bytes s, what reading answers, what writing does, and whether bytes may follow it
pub record Codec (A B : Type 0) : Type 0 where
  pub fields : A → B
  pub typed : B → Typed
  pub read_of : List ℕ → Answer B
  pub write_of : List ℕ → A → List ℕ → Written
  pub takes_more : A → Bool

-- a header is read whole, from that many bytes, and it is the same as another
pub record ReadsAs {A B : Type 0} (c : Codec A B) (s : List ℕ) (used : ℕ) (r : List ℕ) (a : A) : Type 0 where
  pub found : B
  pub reads : c.read_of s ≡ answered found used
  pub same : Same s (c.typed found) r (c.typed (c.fields a))

pub record Kept {A B : Type 0} (c : Codec A B) : Type 0 where
  -- What is written reads back as the same header from exactly the bytes written, whatever follows that may follow.
  pub reads-back : (s : List ℕ) (a : A) (before rest : List ℕ) {n : ℕ} → (c.write_of s a before).says ≡ wrote n
      → (c.takes_more a ≡ false → rest ≡ []) → ReadsAs c (take n (c.write_of s a before).holds ++ rest) n s a
  -- What was read is written into no more bytes than it was read from,
  pub no_longer : (s : List ℕ) (a : A) (before : List ℕ) {used n : ℕ} → c.read_of s ≡ answered (c.fields a) used
      → (c.write_of s a before).says ≡ wrote n → n ≤ used
  -- is refused for nothing but want of room,
  pub only-room : (s : List ℕ) (a : A) (before : List ℕ) {used k : ℕ} → c.read_of s ≡ answered (c.fields a) used
      → (c.write_of s a before).says ≡ refused k → k ≡ 7
  -- and for want of room only where there is less than it was read from.
  pub written-again : (s : List ℕ) (a : A) (before : List ℕ) {used : ℕ} → c.read_of s ≡ answered (c.fields a) used
      → used ≤ length before → (n : ℕ) × ((c.write_of s a before).says ≡ wrote n)

-- The written bytes are the only shortest form of a header:
pub record Shortest {A B : Type 0} (c : Codec A B) : Type 0 where
  -- no bytes that read as the same header are fewer, whatever follows them,
  pub none-shorter : (s : List ℕ) (a : A) (before b : List ℕ) {n used : ℕ}
      → (c.write_of s a before).says ≡ wrote n → ReadsAs c b used s a → n ≤ used
  -- and those that are as many are the ones written.
  pub only_one : (s : List ℕ) (a : A) (before b : List ℕ) {n used : ℕ}
      → (c.write_of s a before).says ≡ wrote n → ReadsAs c b used s a → Octets b → used ≡ n
      → take used b ≡ take n (c.write_of s a before).holds
