-- The name of a message's track: where it stands in the bytes that the message was read from.
use Rattle.field.specs.Value.{nowhere}
use Rattle.field.specs.declared.Span.{Span}
use Rattle.fetch.specs.declared.Range.{Range}
use Rattle.fetch.specs.declared.Range.TheVariants.{Standalone, Joining}
use Rattle.fetch.specs.declared.FetchMessage.{FetchMessage}
use Rattle.fetch.specs.declared.FetchMessage.TheVariants.{Fetch, FetchOk, FetchError, FetchCancel, TrackStatusRequest, TrackStatus}

-- a standalone fetch names one, and a joining fetch a subscription
abbrev pub range_name : Range → Span
range_name (Standalone r) = r.track.name
range_name (Joining j) = nowhere

-- so do the request for a track's status, and the answer to it
abbrev pub name_span : FetchMessage → Span
name_span (Fetch m) = range_name m.range
name_span (FetchOk m) = nowhere
name_span (FetchError m) = nowhere
name_span (FetchCancel id) = nowhere
name_span (TrackStatusRequest t) = t.name
name_span (TrackStatus m) = m.track.name
