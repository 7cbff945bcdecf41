-- A header has the shape that its layout asks for exactly where its values are allowed. Assumes nothing.
use Prim.Native.Nat.{ℕ}
use mathlib.Core.Path.{◌≡◌, refl}
use mathlib.Core.List.{List, map}
use Rattle.field.specs.Value.{mean}
use Rattle.field.specs.declared.Piece.{Piece}
use Rattle.layout.specs.Layout.{Layout, place}
use Rattle.layout.specs.Allowed.{allowed}
use Rattle.layout.specs.Permitted.{code}
use Rattle.layout.specs.Typed.{Typed}
use Rattle.encode.proofs.Fitting.{fitting}
use Rattle.header.specs.Layouts.{behind, status, object_datagram, datagram_status, subgroup_header, fetch_header, payload, subgroup_object, fetch_object, InTable, listed, layout_of, datagrams, streams}
use Rattle.header.specs.Told.{datagram_typed, stream_typed, payload_pieces, subgroup_object_pieces, fetch_object_pieces}
use Rattle.header.specs.declared.Datagram.{Datagram}
use Rattle.header.specs.declared.Datagram.TheVariants.{Object, Status as WithStatus}
use Rattle.header.specs.declared.StreamHeader.{StreamHeader}
use Rattle.header.specs.declared.StreamHeader.TheVariants.{Subgroup, Fetch}
use Rattle.header.specs.declared.Payload.{Payload}
use Rattle.header.specs.declared.Payload.TheVariants.{Length, Status}
use Rattle.header.specs.declared.SubgroupObject.{SubgroupObject}
use Rattle.header.specs.declared.FetchObject.{FetchObject}

-- fields have the shape that a layout asks for where it allows their values, and only there
abbrev pub Fits : Layout → List ℕ → List Piece → Type 0
Fits l s ps = fitting l (map (mean s) ps) ≡ allowed l ps

-- ---- headers with a type: it names a layout, whose shape they have

pub record Shaped (types : ℕ → InTable) (s : List ℕ) (t : Typed) : Type 0 where
  pub named : types t.type ≡ listed (layout_of (types t.type))
  pub fits : Fits (layout_of (types t.type)) s t.pieces

module _ (s : List ℕ) where
  pub datagram-shape : (d : Datagram) → Shaped datagrams s (datagram_typed d)
  unfolding fitting code mean allowed datagrams place behind object_datagram datagram_status status
  datagram-shape (Object d) = record { named = refl; fits = refl }
  datagram-shape (WithStatus d n) = record { named = refl; fits = refl }

  pub stream-shape : (h : StreamHeader) → Shaped streams s (stream_typed h)
  unfolding fitting code mean allowed streams subgroup_header fetch_header
  stream-shape (Subgroup h) = record { named = refl; fits = refl }
  stream-shape (Fetch id) = record { named = refl; fits = refl }

  -- ---- headers of objects

  payload-shape : (p : Payload) → Fits payload s (payload_pieces p)
  unfolding fitting code mean allowed payload status
  payload-shape (Length n) = refl
  payload-shape (Status n) = refl

  pub subgroup-object-shape : (o : SubgroupObject) → Fits subgroup_object s (subgroup_object_pieces o)
  unfolding fitting code mean allowed subgroup_object
  subgroup-object-shape o = payload-shape o.payload

  pub fetch-object-shape : (o : FetchObject) → Fits fetch_object s (fetch_object_pieces o)
  unfolding fitting code mean allowed fetch_object
  fetch-object-shape o = payload-shape o.payload
