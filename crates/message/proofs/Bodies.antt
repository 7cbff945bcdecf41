-- A body that a family of messages read, as the body of a message. Assumes nothing.
use Prim.Native.Nat.{ℕ}
use mathlib.Core.Path.{◌≡◌, ◌∙◌}
use mathlib.Core.List.{List}
use Rattle.field.specs.Outcome.{Outcome}
use Rattle.layout.specs.Layout.{Layout, scan}
use Rattle.layout.specs.Typed.{Typed, typed}
use Rattle.types.specs.SubscriptionKinds.{number_of as subscription_number, layout_of as subscription_layout}
use Rattle.types.specs.declared.kinds.SubscriptionKind.{SubscriptionKind}
use Rattle.types.specs.FetchKinds.{number_of as fetch_number, layout_of as fetch_layout}
use Rattle.types.specs.declared.kinds.FetchKind.{FetchKind}
use Rattle.types.specs.AnnounceKinds.{number_of as announce_number, layout_of as announce_layout}
use Rattle.types.specs.declared.kinds.AnnounceKind.{AnnounceKind}
use Rattle.types.specs.SessionKinds.{number_of as session_number, layout_of as session_layout}
use Rattle.types.specs.declared.kinds.SessionKind.{SessionKind}
use Rattle.types.specs.Table.{layout_of}
use Rattle.types.specs.Kinds.{number_of}
use Rattle.types.specs.declared.kinds.Kind.{Kind}
use Rattle.types.specs.declared.kinds.Kind.TheVariants.{Subscription, Fetch, Announce, Session}
use Rattle.types.proofs.KindRows.{layout-subscription, layout-fetch, layout-announce, layout-session}

-- what a reader told of a kind that has this layout
as-body : (s : List ℕ) (at : ℕ) {kind j : Kind} {o : Outcome Typed} {l : Layout} → layout_of (number_of j) ≡ l → kind ≡ j → o ≡ typed (number_of j) (scan l s at) → o ≡ typed (number_of kind) (scan (layout_of (number_of kind)) s at)
as-body s at e which h = h ∙ rw (which, e)

module _ (s : List ℕ) (at : ℕ) {kind : Kind} {o : Outcome Typed} where
  pub as-subscription : {k : SubscriptionKind} → kind ≡ Subscription k → o ≡ typed (subscription_number k) (scan (subscription_layout k) s at) → o ≡ typed (number_of kind) (scan (layout_of (number_of kind)) s at)
  unfolding number_of
  as-subscription {k} which h = as-body s at (layout-subscription k) which h

  pub as-fetch : {k : FetchKind} → kind ≡ Fetch k → o ≡ typed (fetch_number k) (scan (fetch_layout k) s at) → o ≡ typed (number_of kind) (scan (layout_of (number_of kind)) s at)
  unfolding number_of
  as-fetch {k} which h = as-body s at (layout-fetch k) which h

  pub as-announce : {k : AnnounceKind} → kind ≡ Announce k → o ≡ typed (announce_number k) (scan (announce_layout k) s at) → o ≡ typed (number_of kind) (scan (layout_of (number_of kind)) s at)
  unfolding number_of
  as-announce {k} which h = as-body s at (layout-announce k) which h

  pub as-session : {k : SessionKind} → kind ≡ Session k → o ≡ typed (session_number k) (scan (session_layout k) s at) → o ≡ typed (number_of kind) (scan (layout_of (number_of kind)) s at)
  unfolding number_of
  as-session {k} which h = as-body s at (layout-session k) which h
