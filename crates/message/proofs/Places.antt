-- A part of the caller's bytes has one place: it is told from a part that holds the same bytes elsewhere. Assumes nothing.
use Prim.Native.Nat.{ℕ, ◌+◌}
use mathlib.Core.Path.{◌≡◌, refl, sym, ap, ◌∙◌}
use mathlib.Core.List.{List, [], ◌∷◌}
use native.Mathlib.Omega.{arith}
use denote.Ref.{Bor}
use Rattle.common.specs.Answer.{whole as answered}
use Rattle.integer.specs.Integer.{wide, room, spell, read_of as integer_of}
use Rattle.field.specs.Entries.{number_at, text_at, numbered_at, entry_at, most_of, entries_at, few, list_at}
use Rattle.field.specs.Fields.{field_at}
use Rattle.field.specs.Value.{part}
use Rattle.field.specs.declared.Span.{Span}
use Rattle.layout.specs.Layout.{scan}
use Rattle.types.specs.Fetches.{track_status_request}
use Rattle.fetch.specs.declared.FetchMessage.TheVariants.{TrackStatusRequest}
use Rattle.types.specs.Table.{messages, type_row_in, type_row_of, known, layout_of}
use Rattle.message.specs.Types.{typed_of}
use Rattle.message.specs.Reading.{body_up_to, read_up_to, read_of}
use Rattle.message.specs.Part.{PartOf}
use Rattle.message.specs.Names.{named_span}
use Rattle.message.specs.declared.Message.{Message}
use Rattle.message.specs.declared.Message.TheVariants.{Fetch}

-- ---- any part

-- a reference into the same block, that many bytes further on, with the bytes that stand there
pub is-part : {s r : Bor (List ℕ)} {p q : Span} → q ≡ p → r.ref_ptr.0 ≡ s.ref_ptr.0 → r.ref_ptr.1 ≡ p.start + s.ref_ptr.1 → r.now ≡ part s.now p → PartOf s r q
is-part e block further bytes = rw e (record { block = block; place = omega arith; content = bytes })

-- two references that are the same part point to one place, and refer to the same bytes;
pub part-once : {s a b : Bor (List ℕ)} {p : Span} → PartOf s a p → PartOf s b p → (a.ref_ptr.0 ≡ b.ref_ptr.0) × (a.ref_ptr.1 ≡ b.ref_ptr.1) × (a.now ≡ b.now)
part-once x y = (x.block ∙ sym y.block, x.place ∙ sym y.place, x.content ∙ sym y.content)

-- and one reference is a part from one offset on only
pub one-start : {s r : Bor (List ℕ)} {p q : Span} → PartOf s r p → PartOf s r q → p.start ≡ q.start
one-start x y = omega (arith, x.place, y.place)

-- ---- two parts with the same bytes

-- a TRACK_STATUS_REQUEST whose namespace has one field, the byte at 4, and whose name is the byte at 6
abbrev pub alike : List ℕ
alike = 0x0D ∷ 0x05 ∷ 0x01 ∷ 0x01 ∷ 0x61 ∷ 0x01 ∷ 0x61 ∷ []

abbrev pub request : Message
request = Fetch (TrackStatusRequest (record { namespace = record { start = 3; end = 5; count = 1 }; name = record { start = 6; end = 7 } }))

abbrev pub byte_at : ℕ → Span
byte_at n = record { start = n; end = n + 1 }

pub alike-reads : read_of alike ≡ answered (typed_of request) 7
unfolding read_up_to body_up_to known layout_of type_row_of type_row_in messages track_status_request scan field_at list_at few entries_at most_of entry_at numbered_at text_at number_at integer_of wide room spell
alike-reads = refl

-- both are the same bytes,
pub alike-bytes : part alike (byte_at 4) ≡ part alike (byte_at 6)
alike-bytes = refl

-- the name is the second,
pub alike-named : named_span alike request ≡ byte_at 6
unfolding named_span
alike-named = refl

-- and the first is not what is handed back
pub not-the-like : {s r : Bor (List ℕ)} → s.now ≡ alike → PartOf s r (named_span s.now request) → PartOf s r (byte_at 4) → ⊥
not-the-like {s} e x y =
    let six : (named_span s.now request).start ≡ 6 =
    ap (λ (l : List ℕ). (named_span l request).start) e ∙ ap (λ (p : Span). p.start) alike-named in
    omega (arith, one-start x y)
