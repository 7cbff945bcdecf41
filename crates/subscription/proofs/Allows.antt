-- What its layout forbids in a message of subscriptions: SUBSCRIBE and SUBSCRIBE_OK can hold it. Assumes nothing.
use Rattle.std.specs.Prelude.{Option, Some, None}
use Prim.Native.Nat.{ℕ}
use mathlib.Core.Path.{◌≡◌, refl, sym, ◌∙◌}
use mathlib.Core.Bool.{Bool, true, false, not}
use mathlib.Core.List.{[], ◌∷◌, ◌++◌}
use borrow.Author.Tests.{not-true, not-false}
use Rattle.field.specs.Rules.{askable, givable}
use Rattle.field.specs.declared.Place.{Place}
use Rattle.field.specs.declared.Kind.TheVariants.{Parameters}
use Rattle.field.specs.declared.Entries.{Entries}
use Rattle.field.specs.declared.Piece.TheVariants.{List as Listing}
use Rattle.layout.specs.Layout.{place, parameters}
use Rattle.layout.specs.Allowed.{allowed}
use Rattle.common.proofs.Tests.{test-alone}
use Rattle.types.specs.Rules.{ends_after}
use Rattle.types.specs.Subscriptions.{ending, filter, delivery, subscribe, content, subscribe_ok}
use Rattle.types.specs.Table.{messages, type_row_in, type_row_of, layout_of, allowed_typed}
use Rattle.subscription.specs.Told.{filter_pieces, content_pieces, subscribe_pieces, typed_of}
use Rattle.subscription.specs.declared.Filter.{Filter}
use Rattle.subscription.specs.declared.Filter.TheVariants.{Range}
use Rattle.subscription.specs.declared.Subscribe.{Subscribe}
use Rattle.subscription.specs.declared.SubscribeOk.{SubscribeOk}
use Rattle.subscription.specs.declared.SubscriptionMessage.{SubscriptionMessage}
use Rattle.subscription.specs.declared.SubscriptionMessage.TheVariants.{SubscribeOk as ASubscribeOk}

-- ---- SUBSCRIBE: its order is judged, and then its filter

module _ (x : Subscribe) {a : Bool} (first : a ≡ askable x.order) where
  -- an order that may not be asked for
  pub order-no : not a ≡ true → false ≡ allowed subscribe (subscribe_pieces x)
  unfolding allowed delivery subscribe
  order-no h = rw (← first, not-true a h)

  -- an order that may, and the filter after it,
  pub filter-is : {b : Bool} {f : Filter} → not a ≡ false → x.filter ≡ f → b ≡ allowed filter (filter_pieces f ++ Listing Parameters x.parameters ∷ []) → b ≡ allowed subscribe (subscribe_pieces x)
  unfolding allowed delivery subscribe
  filter-is h e k = rw (← first, not-false a h, e) k

  -- or the end of its range
  pub range-is : {b : Bool} {start : Place} {end_group : ℕ} → not a ≡ false → x.filter ≡ Range start end_group → b ≡ ends_after start.group end_group → b ≡ allowed subscribe (subscribe_pieces x)
  unfolding allowed place parameters ending filter
  range-is {start = start} {end_group = end_group} h e k = filter-is h e (k ∙ sym (test-alone (ends_after start.group end_group)))

-- ---- SUBSCRIBE_OK: its order is judged, and nothing is forbidden after it

content-any : (c : Option Place) (e : Entries) → allowed content (content_pieces c ++ Listing Parameters e ∷ []) ≡ true
unfolding allowed place parameters content
content-any None e = refl
content-any (Some p) e = refl

-- ---- a message

-- what its layout allows
abbrev pub judged : SubscriptionMessage → Bool
judged m = allowed_typed (typed_of m)

pub ok-is : {m : SubscriptionMessage} {x : SubscribeOk} {a : Bool} → m ≡ ASubscribeOk x → a ≡ givable x.order → a ≡ judged m
unfolding allowed subscribe_ok layout_of type_row_of type_row_in messages
ok-is {x = x} which h = rw (which, content-any x.largest x.parameters, test-alone (givable x.order)) h
