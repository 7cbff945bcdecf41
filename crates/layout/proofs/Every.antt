-- What holds of all fields that a layout can read, whatever they hold. Assumes nothing.
use Prim.Native.Nat.{ℕ}
use mathlib.Core.Path.{◌≡◌, refl}
use mathlib.Core.Bool.{true, false}
use mathlib.Core.List.{List, [], ◌∷◌}
use lib.ListN.{get_or}
use Rattle.field.specs.Fields.{integer, byte, bytes, list, track}
use Rattle.field.specs.Outcome.{whole}
use Rattle.field.specs.declared.Span.{Span}
use Rattle.field.specs.declared.Entries.{Entries}
use Rattle.field.specs.declared.Track.{Track}
use Rattle.field.specs.declared.Piece.{Piece}
use Rattle.field.specs.declared.Piece.TheVariants.{Number, Byte, Bytes, List as Listing, Track as Tracked}
use Rattle.field.proofs.Pieces.{a-number, a_byte_lem, some_bytes_lem, a-list, a-track}
use Rattle.layout.specs.Layout.{Layout, done, forbidden, field, when, scan}
use Rattle.layout.proofs.Scanned.{Scanned, at-end, one_more, taken, left, scanned}

-- of a list of fields that a layout gives the shape of, each with whatever it may hold
abbrev pub Every : Layout → (List Piece → Type 0) → Type 0
Every done P = P []
Every forbidden P = Unit {0}
Every (field name integer next) P = (n : ℕ) → Every (next n) (λ ps. P (Number n ∷ ps))
Every (field name byte next) P = (b : ℕ) → Every (next b) (λ ps. P (Byte b ∷ ps))
Every (field name bytes next) P = (p : Span) → Every (next 0) (λ ps. P (Bytes p ∷ ps))
Every (field name (list kind) next) P = (l : Entries) → Every (next 0) (λ ps. P (Listing kind l ∷ ps))
Every (field name track next) P = (t : Track) → Every (next 0) (λ ps. P (Tracked t ∷ ps))
Every (when test l m) P = (test ≡ true → Every l P) × (test ≡ false → Every m P)

-- it holds of those that were read
every : {s : List ℕ} {l : Layout} {at : ℕ} {ps : List Piece} {end : ℕ} (P : List Piece → Type 0) → Scanned s l at ps end → Every l P → P ps
every P at-end h = h
every P (one_more (a-number {n} e) w) h = every (λ ps. P (Number n ∷ ps)) w (h n)
every {s} {at = at} P (one_more (a_byte_lem e) w) h = every (λ ps. P (Byte (get_or s at 0) ∷ ps)) w (h (get_or s at 0))
every P (one_more (some_bytes_lem {p} e) w) h = every (λ ps. P (Bytes p ∷ ps)) w (h p)
every P (one_more (a-list {kind} {l} e) w) h = every (λ ps. P (Listing kind l.entries ∷ ps)) w (h l.entries)
every P (one_more (a-track {l} {name = name} e f) w) h =
    let t : Track = record { namespace = l.entries; name = name } in
    every (λ ps. P (Tracked t ∷ ps)) w (h t)
every P (taken w) h = every P w (h.0 refl)
every P (left w) h = every P w (h.1 refl)

pub every-read : (P : List Piece → Type 0) (l : Layout) (s : List ℕ) (at : ℕ) {ps : List Piece} {end : ℕ} → Every l P → scan l s at ≡ whole ps end → P ps
every-read P l s at h e = every P (scanned l s at e) h
