-- A field, by what it is: what its shortest form is made of, and what its writer asks. Assumes nothing.
use Prim.Native.Nat.{ℕ, ◌≤◌, ◌<◌}
use mathlib.Core.Path.{◌≡◌}
use mathlib.Core.Bool.{true}
use mathlib.Core.List.{List, [], ◌∷◌}
use borrow.Author.Tests.{leb-true}
use lib.ListN.{length}
use Rattle.common.specs.Choice.{both}
use Rattle.common.proofs.Tests.{both_first, both-second}
use Rattle.common.proofs.Puts.{Room}
use Rattle.integer.specs.Integer.{greatest, enc_of}
use Rattle.field.specs.Value.{part, contents, mean, enc_text, enc_items, enc_list, enc_field}
use Rattle.field.specs.declared.Span.{Span}
use Rattle.field.specs.declared.Entries.{Entries}
use Rattle.field.specs.declared.Kind.{Kind}
use Rattle.field.specs.declared.Kind.TheVariants.{Namespace}
use Rattle.field.specs.declared.Track.{Track}
use Rattle.field.specs.declared.Piece.{Piece}
use Rattle.field.specs.declared.Piece.TheVariants.{Number, Byte, Bytes, List as Listing, Track as Tracked}
use Rattle.measure.specs.Judging.{right_span, right_list, right}
use Rattle.measure.proofs.Lists.{holds, list-is}

-- a field that is right, of which there is so much room
abbrev pub Asks : List ℕ → Piece → ℕ → Type 0
Asks s p room = (right s p ≡ true) × (length (enc_field (mean s p)) ≤ room)

module _ (s : List ℕ) {p : Piece} where
  -- a number is written as an integer
  pub number_is : {n : ℕ} → p ≡ Number n → enc_field (mean s p) ≡ enc_of n
  unfolding mean enc_field
  number_is e = rw e

  -- a byte as it is
  pub byte-is : {b : ℕ} → p ≡ Byte b → enc_field (mean s p) ≡ b ∷ []
  unfolding mean enc_field
  byte-is e = rw e

  -- bytes as a length and the bytes
  pub bytes-is : {q : Span} → p ≡ Bytes q → enc_field (mean s p) ≡ enc_text (part s q)
  unfolding mean enc_field
  bytes-is e = rw e

  -- a list as a count and the entries
  pub listing-is : {kind : Kind} {l : Entries} → p ≡ Listing kind l → enc_field (mean s p) ≡ enc_list kind (contents s kind l)
  unfolding mean enc_field
  listing-is e = rw e

  module _ {room : ℕ} (h : Asks s p room) where
    -- what the writer of each asks: an integer that can be written,
    pub number-asks : {n : ℕ} → p ≡ Number n → (n ≤ greatest) × (length (enc_of n) ≤ room)
    unfolding right
    number-asks {n} e = (leb-true n greatest (rw e at h.0), rw (number_is e) at h.1)

    -- room for a byte,
    pub byte-asks : {b : ℕ} → p ≡ Byte b → 0 < room
    byte-asks e = rw (byte-is e) at h.1

    -- a right part,
    pub bytes-asks : {q : Span} → p ≡ Bytes q → (right_span s q ≡ true) × (length (enc_text (part s q)) ≤ room)
    unfolding right
    bytes-asks e = (rw e at h.0, rw (bytes-is e) at h.1)

    -- a right list,
    pub list-asks : {kind : Kind} {l : Entries} → p ≡ Listing kind l → (right_list s kind l ≡ true) × (length (enc_list kind (contents s kind l)) ≤ room)
    unfolding right
    list-asks e = (rw e at h.0, rw (listing-is e) at h.1)

    module _ {t : Track} (e : p ≡ Tracked t) where
      -- and for a full track name both
      both_right : both (right_list s Namespace t.namespace) (right_span s t.name) ≡ true
      unfolding right
      both_right = rw e at h.0

      -- a right list
      pub namespace-right : right_list s Namespace t.namespace ≡ true
      namespace-right = both_first (right_list s Namespace t.namespace) (right_span s t.name) both_right

      -- and a right part
      pub name-right : right_span s t.name ≡ true
      name-right = both-second (right_list s Namespace t.namespace) (right_span s t.name) both_right

  -- a full track name is its namespace, and then its name
  pub track-room : (before : List ℕ) {t : Track} → Asks s p (length before) → p ≡ Tracked t → Room (enc_list Namespace (contents s Namespace t.namespace)) (enc_text (part s t.name)) (enc_field (mean s p)) before
  unfolding mean enc_field
  track-room before h e = record { joins = rw e; fits = h.1 }

-- a count and entries are one, and then the other
pub list-room : (s : List ℕ) (kind : Kind) (l : Entries) (before : List ℕ) → (right_list s kind l ≡ true) × (length (enc_list kind (contents s kind l)) ≤ length before) → Room (enc_of l.count) (enc_items kind (contents s kind l)) (enc_list kind (contents s kind l)) before
list-room s kind l before h = record { joins = list-is l (holds s kind l h.0).run; fits = h.1 }
