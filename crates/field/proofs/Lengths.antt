-- How long things are: a part of bytes, and the shortest form of bytes and of an entry. Assumes nothing.
use Prim.Native.Nat.{ℕ, ◌+◌, ◌≤◌}
use mathlib.Core.Path.{◌≡◌, refl, ap, ◌∙◌}
use mathlib.Core.List.{List}
use native.Mathlib.Omega.{arith}
use lib.ListN.{length, drop, length-append, length-drop}
use lib.Seq.{length-take-le}
use Rattle.integer.specs.Integer.{enc_of}
use Rattle.field.specs.Entries.{size}
use Rattle.field.specs.Value.{part, EntryValue, entry_value, enc_text, enc_item, item_size}
use Rattle.field.specs.declared.Span.{Span}
use Rattle.field.specs.declared.Entry.{Entry}
use Rattle.field.specs.declared.Kind.{Kind}
use Rattle.field.specs.declared.Kind.TheVariants.{Namespace, Parameters, Versions}

-- a part within bytes has as many bytes as it says
pub length_part : (s : List ℕ) (p : Span) → p.end ≤ length s → length (part s p) ≡ size p
length_part s p h = length-take-le (size p) (drop p.start s) (rw length-drop (omega arith))

-- how long the shortest form of bytes is,
pub length-text : (b : List ℕ) → length (enc_text b) ≡ length (enc_of (length b)) + length b
unfolding enc_text
length-text b = length-append (enc_of (length b)) b

-- and that of an entry
pub length-item : (kind : Kind) (i : EntryValue) → length (enc_item kind i) ≡ item_size kind i.number (length i.bytes)
unfolding enc_item item_size
length-item Namespace i = length-text i.bytes
length-item Parameters i = rw (length-append, length-text)
length-item Versions i = refl

-- which for an entry of the bytes is its size
pub length-entry : (kind : Kind) (s : List ℕ) (e : Entry) → e.bytes.end ≤ length s → length (enc_item kind (entry_value s e)) ≡ item_size kind e.number (size e.bytes)
length-entry kind s e h = length-item kind (entry_value s e) ∙ ap (item_size kind e.number) (length_part s e.bytes h)
