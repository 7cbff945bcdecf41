-- What its layout forbids in a message that retrieves: FETCH, FETCH_OK and TRACK_STATUS can hold it. Assumes nothing.
use mathlib.Core.Path.{◌≡◌, refl}
use mathlib.Core.Bool.{Bool, true, false}
use mathlib.Core.List.{[], ◌∷◌, ◌++◌}
use Rattle.field.specs.Rules.{askable, givable}
use Rattle.field.specs.declared.Kind.TheVariants.{Parameters}
use Rattle.field.specs.declared.Entries.{Entries}
use Rattle.field.specs.declared.Piece.TheVariants.{Number, List as Listing}
use Rattle.layout.specs.Layout.{place, parameters}
use Rattle.layout.specs.Allowed.{allowed}
use Rattle.common.proofs.Tests.{test-alone}
use Rattle.types.specs.Rules.{is_track_status, may_hold}
use Rattle.types.specs.Fetches.{standalone, joining, range, fetch, fetch_ok, largest, track_status}
use Rattle.types.specs.Table.{messages, type_row_in, type_row_of, layout_of, allowed_typed}
use Rattle.fetch.specs.Told.{joining_type, range_pieces, status_pieces, typed_of}
use Rattle.fetch.specs.declared.Range.{Range}
use Rattle.fetch.specs.declared.Range.TheVariants.{Standalone, Joining}
use Rattle.fetch.specs.declared.Fetch.{Fetch}
use Rattle.fetch.specs.declared.FetchOk.{FetchOk}
use Rattle.fetch.specs.declared.TrackStatus.{TrackStatus}
use Rattle.fetch.specs.declared.FetchMessage.{FetchMessage}
use Rattle.fetch.specs.declared.FetchMessage.TheVariants.{Fetch as AFetch, FetchOk as AFetchOk}

-- ---- TRACK_STATUS: its status is judged, and then each number of its largest place

module _ (x : TrackStatus) where
  pub status-no : false ≡ is_track_status x.status → false ≡ allowed track_status (status_pieces x)
  unfolding allowed track_status
  status-no h = rw (← h)

  module _ (known : true ≡ is_track_status x.status) where
    pub group-no : false ≡ may_hold x.status x.largest.group → false ≡ allowed track_status (status_pieces x)
    unfolding allowed largest track_status
    group-no h = rw (← known, ← h)

    pub object-is : true ≡ may_hold x.status x.largest.group → may_hold x.status x.largest.object ≡ allowed track_status (status_pieces x)
    unfolding allowed largest track_status
    object-is h = rw (← known, ← h, test-alone (may_hold x.status x.largest.object))

-- ---- FETCH: its order is judged, and nothing is forbidden after it

range-any : (r : Range) (e : Entries) → allowed range (range_pieces r ++ Listing Parameters e ∷ []) ≡ true
unfolding allowed place parameters standalone joining range
range-any (Standalone r) e = refl
range-any (Joining j) e = by-type j.absolute
  where
    by-type : (absolute : Bool) → allowed range (Number (joining_type absolute) ∷ Number j.id ∷ Number j.start ∷ Listing Parameters e ∷ []) ≡ true
    by-type true = refl
    by-type false = refl

-- ---- a message

-- what its layout allows
abbrev pub judged : FetchMessage → Bool
judged m = allowed_typed (typed_of m)

pub fetch-is : {m : FetchMessage} {x : Fetch} {a : Bool} → m ≡ AFetch x → a ≡ askable x.order → a ≡ judged m
unfolding allowed fetch layout_of type_row_of type_row_in messages
fetch-is {x = x} which h = rw (which, range-any x.range x.parameters, test-alone (askable x.order)) h

-- and so in a FETCH_OK
pub ok-is : {m : FetchMessage} {x : FetchOk} {a : Bool} → m ≡ AFetchOk x → a ≡ givable x.order → a ≡ judged m
unfolding allowed place parameters fetch_ok layout_of type_row_of type_row_in messages
ok-is {x = x} which h = rw (which, test-alone (givable x.order)) h
