-- The shortest form of an entry: the numbers in front of its bytes, and then those. Assumes nothing.
use Prim.Native.Nat.{ℕ}
use mathlib.Core.Path.{◌≡◌}
use mathlib.Core.List.{List, ◌++◌, append_assoc, append-nil}
use native.Mathlib.Omega.{arith}
use Rattle.integer.specs.Integer.{enc_of, greatest}
use Rattle.field.specs.Outcome.{whole}
use Rattle.field.specs.Entries.{size, number_at, entry_at}
use Rattle.field.specs.Value.{part, entry_value, enc_text, enc_item}
use Rattle.field.specs.declared.Entry.{Entry}
use Rattle.field.specs.declared.Kind.{Kind}
use Rattle.field.specs.declared.Kind.TheVariants.{Namespace, Parameters, Versions}
use Rattle.field.proofs.Found.{steps, entry-at}
use Rattle.field.proofs.Lengths.{length_part}
use Rattle.encode.specs.Entries.{enc_head}

-- ---- the numbers in front

module _ (kind : Kind) (number n : ℕ) where
  -- of a field of a namespace are its length,
  pub field-head : kind ≡ Namespace → enc_head kind number n ≡ enc_of n
  unfolding enc_head
  field-head k = rw k

  -- of a version its number,
  pub version-head : kind ≡ Versions → enc_head kind number n ≡ enc_of number
  unfolding enc_head
  version-head k = rw k

  -- and of a parameter its type, and then its length
  pub parameter-head : kind ≡ Parameters → enc_head kind number n ≡ enc_of number ++ enc_of n
  unfolding enc_head
  parameter-head k = rw k

-- ---- and then the bytes

-- an entry that was found is both
pub head-is : (kind : Kind) (s : List ℕ) (at : ℕ) {e : Entry} {next : ℕ} → entry_at kind greatest s at ≡ whole e next → enc_head kind e.number (size e.bytes) ++ part s e.bytes ≡ enc_item kind (entry_value s e)
unfolding enc_head enc_item enc_text entry_at
head-is Namespace s at {e} f =
    let i = entry-at Namespace greatest s at f in
    rw (length_part s e.bytes (omega (arith, i.ends, i.within)))
head-is Parameters s at {e} f =
    let i = entry-at Parameters greatest s at f in
    rw (length_part s e.bytes (omega (arith, i.ends, i.within))) (append_assoc (enc_of e.number) _ _)
head-is Versions s at {e} f =
    let u = steps (number_at s at) _ f in
    have u.found u.end (cc)
  where
    have : (n last : ℕ) → e ≡ record { number = n; bytes = record { start = last; end = last } } → enc_of e.number ++ part s e.bytes ≡ enc_of e.number
    have n last q =
        let z : size e.bytes ≡ 0 = rw q (omega arith) in
        rw z (append-nil (enc_of e.number))
