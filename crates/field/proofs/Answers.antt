-- What a caller has from the answers of `read_at`, `numbered` and `entry_at`: a law for each answer that it gives in turn.
-- Assumes nothing.
use Prim.Native.Nat.{ℕ, ◌+◌, ◌-◌, ◌*◌, ◌^◌, ◌<◌, ◌≤◌}
use mathlib.Core.Path.{◌≡◌, sym}
use mathlib.Core.Bool.{true, false}
use mathlib.Core.List.{List}
use native.Mathlib.Omega.{arith}
use lib.ListN.{length, drop}
use mir.Syntax.{w64}
use mir.Val.{Fits}
use Rattle.common.specs.Answer.{whole as read, refused}
use Rattle.common.specs.Choice.{pick}
use Rattle.integer.specs.Integer.{read_of, greatest}
use Rattle.field.specs.Outcome.{Outcome, whole, no, and_then}
use Rattle.field.specs.Entries.{size, number_at, text_at, numbered_at, has_number, has_bytes, entry_at}
use Rattle.field.specs.Fields.{field_at, integer, bytes}
use Rattle.field.specs.declared.Fault.{Fault}
use Rattle.field.specs.declared.Fault.TheVariants.{Cut, Oversize}
use Rattle.field.specs.declared.Span.{Span}
use Rattle.field.specs.declared.Entry.{Entry}
use Rattle.field.specs.declared.Kind.{Kind}
use Rattle.field.specs.declared.Kind.TheVariants.{Namespace, Parameters, Versions}
use Rattle.field.specs.declared.Piece.TheVariants.{Number, Bytes}
use Rattle.field.proofs.Found.{steps, number-at, number_read, number_cut, span, text_of, text-over, text-missing, text-cut, entry-at}
use Rattle.field.proofs.Unjudged.{apart, text-refused}

-- bytes that are lent: there are fewer than 2 ^ 63 of them
abbrev pub Lent : List ℕ → Type 0
Lent s = length s * 1 < 2 ^ 63

-- the number that an entry begins with: 0 where it has none
abbrev pub lead_at : Kind → List ℕ → ℕ → Outcome ℕ
lead_at kind s at = pick (has_number kind) (number_at s at) (whole 0 at)

-- ---- no integer was read: what should have started there is cut

module _ (s : List ℕ) (at : ℕ) (said : refused 1 ≡ read_of (drop at s)) where
  -- an integer,
  pub read_more : number_at s at ≡ no Cut
  read_more = number_cut s at (sym said)

  -- as a field,
  pub number-field-cut : no Cut ≡ field_at integer s at
  unfolding field_at
  number-field-cut = rw read_more

  -- a length and bytes,
  pub numbered-cut : (number most : ℕ) → no Cut ≡ numbered_at number most s at
  unfolding numbered_at
  numbered-cut number most = rw (text-cut most s at read_more)

  -- an entry that begins with one
  pub entry-cut : (kind : Kind) (most : ℕ) → has_number kind ≡ true → no Cut ≡ entry_at kind most s at
  unfolding entry_at
  entry-cut Namespace most h = cc
  entry-cut Parameters most h = rw read_more
  entry-cut Versions most h = rw read_more

-- ---- an integer was read

module _ (s : List ℕ) (at : ℕ) {n used : ℕ} (said : read n used ≡ read_of (drop at s)) where
  -- it ends where its bytes do,
  pub read_whole : number_at s at ≡ whole n (at + used)
  read_whole = number_read s at (sym said)

  -- also as a field,
  pub number-field : whole (Number n) (at + used) ≡ field_at integer s at
  unfolding field_at
  number-field = rw read_whole

  -- which is within the bytes,
  pub read-within : at + used ≤ length s
  read-within = (number-at s at read_whole).within

  -- at an offset that does not wrap
  pub read_fits : Lent s → Fits w64 (at + used)
  read_fits h = omega (arith, read-within)

  -- as a length it is over what may be held,
  pub numbered-over : (number most : ℕ) → most < n → no Oversize ≡ numbered_at number most s at
  unfolding numbered_at
  numbered-over number most h = rw (text-over most s at read_whole h)

  -- or the bytes are missing,
  pub numbered-missing : (number most : ℕ) → n ≤ most → length s - (at + used) < n → no Cut ≡ numbered_at number most s at
  unfolding numbered_at
  numbered-missing number most h k = rw (text-missing most s at read_whole h k)

  -- or they are there
  pub numbered-whole : (number most : ℕ) → n ≤ most → n ≤ length s - (at + used) → whole (record { number = number; bytes = span (at + used) n }) (at + used + n) ≡ numbered_at number most s at
  unfolding numbered_at
  numbered-whole number most h k = rw (text_of most s at read_whole h k)

  -- up to an offset that does not wrap
  pub numbered-fits : n ≤ length s - (at + used) → Lent s → Fits w64 (at + used + n)
  numbered-fits k h = omega (arith, read-within)

  -- as the number that an entry begins with
  pub lead-read : (kind : Kind) → has_number kind ≡ true → lead_at kind s at ≡ whole n (at + used)
  lead-read kind h = rw (h, read_whole)

-- ---- the number that an entry begins with, and what stands after it

module _ (s : List ℕ) (at : ℕ) where
  -- where it has none it is 0
  pub lead-none : (kind : Kind) → has_number kind ≡ false → lead_at kind s at ≡ whole 0 at
  lead-none kind h = rw h

  -- an entry that holds no bytes is its number,
  pub entry-bare : (kind : Kind) (most : ℕ) {number next : ℕ} → has_bytes kind ≡ false → lead_at kind s at ≡ whole number next → whole (record { number = number; bytes = record { start = next; end = next } }) next ≡ entry_at kind most s at
  unfolding entry_at
  entry-bare Namespace most h lead = cc
  entry-bare Parameters most h lead = cc
  entry-bare Versions most h lead = rw lead

  -- and another goes on with a length and bytes
  pub entry-text : (kind : Kind) (most : ℕ) {number next : ℕ} {o : Outcome Entry} → has_bytes kind ≡ true → lead_at kind s at ≡ whole number next → o ≡ numbered_at number most s next → o ≡ entry_at kind most s at
  unfolding entry_at
  entry-text Namespace most {number} {next} h lead e = let n : number ≡ 0 = cc in let a : next ≡ at = cc in rw (n, a) at e
  entry-text Parameters most h lead e = rw lead e
  entry-text Versions most h lead e = cc

-- ---- the text of an entry

-- what was found is the entry's bytes,
pub numbered-text : (number most : ℕ) (s : List ℕ) (at : ℕ) {e : Entry} {end : ℕ} → numbered_at number most s at ≡ whole e end → text_at most s at ≡ whole e.bytes end
unfolding numbered_at
numbered-text number most s at {e} {end} h =
    let t = steps (text_at most s at) _ h in
    have t.found t.end t.first (cc) (cc)
  where
    have : (p : Span) (last : ℕ) → text_at most s at ≡ whole p last → e ≡ record { number = number; bytes = p } → end ≡ last → text_at most s at ≡ whole e.bytes end
    have p last f q r = rw (q, r) f

-- and a fault is the entry's
pub numbered-fault : (number most : ℕ) (s : List ℕ) (at : ℕ) {fault : Fault} → numbered_at number most s at ≡ no fault → text_at most s at ≡ no fault
unfolding numbered_at
numbered-fault number most s at {fault} = go (text_at most s at)
  where
    go : (o : Outcome Span) → (and_then {B = Entry} o λ p end. whole (record { number = number; bytes = p }) end) ≡ no fault → o ≡ no fault
    go (whole p end) h = absurd (apart h)
    go (no f) h = cc

-- a field of bytes is such a text, of any length

module _ (s : List ℕ) (at : ℕ) where
  -- it is there,
  pub bytes_whole : {e : Entry} → whole e e.bytes.end ≡ entry_at Namespace greatest s at → whole (Bytes e.bytes) e.bytes.end ≡ field_at bytes s at
  unfolding field_at entry_at
  bytes_whole said = rw (numbered-text 0 greatest s at (sym said))

  -- or it is cut
  pub bytes-no : {fault : Fault} → no fault ≡ entry_at Namespace greatest s at → no Cut ≡ field_at bytes s at
  unfolding field_at entry_at
  bytes-no said =
      let h = numbered-fault 0 greatest s at (sym said) in
      rw (h, text-refused s at h)

-- ---- an entry was found

module _ (kind : Kind) (most : ℕ) (s : List ℕ) (at : ℕ) {e : Entry} (said : whole e e.bytes.end ≡ entry_at kind most s at) where
  -- its bytes end no earlier than they start,
  pub entry-ordered : e.bytes.start ≤ e.bytes.end
  entry-ordered = (entry-at kind most s at (sym said)).ordered

  -- its number can be written,
  pub entry-small : e.number ≤ greatest
  entry-small = (entry-at kind most s at (sym said)).small

  -- and so can its length
  pub entry-little : size e.bytes ≤ greatest
  entry-little = (entry-at kind most s at (sym said)).little
