-- A header after its type: a law for each of its answers in turn, by what was told of the type and of the fields. Assumes nothing.
use Prim.Native.Nat.{ℕ}
use mathlib.Core.Path.{◌≡◌, sym, ap}
use mathlib.Core.List.{List}
use borrow.Author.Tests.{ne_eqb}
use Rattle.common.specs.Answer.{refused}
use Rattle.field.specs.Outcome.{Outcome, whole, no, answer}
use Rattle.field.specs.Entries.{number_at}
use Rattle.field.specs.Fields.{integer, field_at}
use Rattle.field.specs.declared.Fault.TheVariants.{Cut}
use Rattle.field.specs.declared.Piece.{Piece}
use Rattle.field.specs.declared.Piece.TheVariants.{Number}
use Rattle.field.proofs.Unjudged.{found_number, cut-number}
use Rattle.layout.specs.Layout.{Layout, scan}
use Rattle.layout.specs.Typed.{typed}
use Rattle.layout.proofs.Steps.{Stops, is-no}
use Rattle.header.specs.Layouts.{object_datagram_row, object_datagram_status_row, subgroup_header_row, fetch_header_row, InTable, listed, unlisted, datagrams, streams}
use Rattle.header.specs.Reading.{headed_of}

-- fields that are cut, by the answer for them
pub cut_short : (cut : ℕ) (l : Layout) {s : List ℕ} {at : ℕ} → Stops s l at Cut → refused cut ≡ answer cut (scan l s at)
cut_short cut l w = ap (answer cut) (is-no w)

module _ (cut : ℕ) (types : ℕ → InTable) (s : List ℕ) where
  -- there is no type,
  pub headed-cut : no Cut ≡ field_at integer s 0 → refused cut ≡ headed_of cut types s
  unfolding headed_of
  headed-cut e = rw (cut-number s 0 (sym e))

  module _ {n at : ℕ} (read : whole (Number n) at ≡ field_at integer s 0) where
    -- or there is one,
    type-is : number_at s 0 ≡ whole n at
    type-is = found_number s 0 (sym read)

    -- and it is unknown,
    pub headed-unknown : types n ≡ unlisted → refused 2 ≡ headed_of cut types s
    unfolding headed_of
    headed-unknown h = rw (type-is, h)

    module _ {k : ℕ} {l : Layout} (is : n ≡ k) (names : types k ≡ listed l) where
      -- or it names a layout, which decides
      pub headed-is : {o : Outcome (List Piece)} → o ≡ scan l s at → answer cut (typed k o) ≡ headed_of cut types s
      unfolding headed_of
      headed-is h = rw (type-is, is, names, h)

-- ---- the types that are unknown

pub no-datagram : {n : ℕ} → (n ≡ object_datagram_row.number → ⊥) → (n ≡ object_datagram_status_row.number → ⊥) → datagrams n ≡ unlisted
unfolding datagrams
no-datagram {n} h k = rw (ne_eqb n object_datagram_row.number h, ne_eqb n object_datagram_status_row.number k)

pub no_stream : {n : ℕ} → (n ≡ subgroup_header_row.number → ⊥) → (n ≡ fetch_header_row.number → ⊥) → streams n ≡ unlisted
unfolding streams
no_stream {n} h k = rw (ne_eqb n subgroup_header_row.number h, ne_eqb n fetch_header_row.number k)
