-- What a sound message holds: no number that goes into a row is above the greatest integer. Assumes nothing.
use Rattle.std.specs.Prelude.{Option, Some, None}
use Prim.Native.Nat.{ℕ}
use mathlib.Core.Path.{◌≡◌, refl}
use mathlib.Core.Bool.{true}
use mathlib.Core.List.{List, [], ◌∷◌, ◌++◌}
use lib.Dec.{leb}
use Rattle.common.proofs.Tests.{both_first, both-second}
use Rattle.integer.specs.Integer.{greatest}
use Rattle.field.specs.declared.Place.{Place}
use Rattle.field.specs.declared.Kind.TheVariants.{Parameters}
use Rattle.field.specs.declared.Piece.{Piece}
use Rattle.field.specs.declared.Piece.TheVariants.{Number, List as Listing}
use Rattle.measure.specs.Small.{small_piece, small_all}
use Rattle.subscription.specs.Told.{filter_pieces, content_pieces}
use Rattle.subscription.specs.declared.Filter.{Filter}
use Rattle.subscription.specs.declared.Filter.TheVariants.{Latest, From, Range as Until}
use Rattle.subscription.specs.declared.Subscribe.{Subscribe}
use Rattle.subscription.specs.declared.SubscribeOk.{SubscribeOk}
use Rattle.subscription.specs.declared.SubscriptionMessage.TheVariants.{Subscribe as ASubscribe, SubscribeOk as ASubscribeOk, MaxSubscribeId as AMaxSubscribeId}
use Rattle.message.specs.Types.{typed_of}
use Rattle.message_writer.specs.Writing.{allowed_of}
use Rattle.message_writer.specs.Sound.{sound_of}
use Rattle.message.specs.declared.Message.{Message}
use Rattle.message.specs.declared.Message.TheVariants.{Subscription}
use Rattle.row.specs.Places.{small, small_place}
use Rattle.row.specs.Ranges.{small_range, asked_of}
use Rattle.row.proofs.Keeping.{small_content}

-- the first field, and the rest
first_small : (n : ℕ) (ps : List Piece) → small_all (Number n ∷ ps) ≡ true → small n ≡ true
unfolding small_all small_piece small
first_small n ps e = both_first (leb n greatest) (small_all ps) e

rest-small : (p : Piece) (ps : List Piece) → small_all (p ∷ ps) ≡ true → small_all ps ≡ true
unfolding small_all
rest-small p ps e = both-second (small_piece p) (small_all ps) e

place-small : (group object : ℕ) (ps : List Piece) → small_all (Number group ∷ Number object ∷ ps) ≡ true → small_place (record { group = group; object = object }) ≡ true
unfolding small_place
place-small group object ps e = rw (first_small group _ e, first_small object ps (rest-small (Number group) _ e))

all_small : (m : Message) → sound_of m ≡ true → small_all (typed_of m).pieces ≡ true
unfolding sound_of
all_small m e = both-second (allowed_of m) (small_all (typed_of m).pieces) e

range_small : (filter : Filter) (ps : List Piece) → small_all (filter_pieces filter ++ ps) ≡ true → small_range (asked_of filter) ≡ true
unfolding small_range
range_small Latest ps e = refl
range_small (From start) ps e = place-small start.group start.object ps (rest-small (Number 3) _ e)
range_small (Until start last) ps e =
    let e₁ = rest-small (Number 4) _ e in
    let e₂ = rest-small (Number start.object) _ (rest-small (Number start.group) _ e₁) in
    rw (place-small start.group start.object _ e₁, first_small last ps e₂)

content-small : (content : Option Place) (ps : List Piece) → small_all (content_pieces content ++ ps) ≡ true → small_content content ≡ true
content-small None ps e = refl
content-small (Some place) ps e = place-small place.group place.object ps (rest-small _ _ e)

-- SUBSCRIBE
pub record Asks (m : Subscribe) : Type 0 where
  pub id : small m.id ≡ true
  pub alias : small m.alias ≡ true
  pub range : small_range (asked_of m.filter) ≡ true

pub sound-subscribe : (m : Subscribe) → sound_of (Subscription (ASubscribe m)) ≡ true → Asks m
sound-subscribe m e =
    let e₁ = all_small (Subscription (ASubscribe m)) e in
    let e₂ = rest-small (Number m.id) _ e₁ in
    let e₃ = rest-small _ _ (rest-small _ _ (rest-small _ _ (rest-small (Number m.alias) _ e₂))) in
    record { id = first_small m.id _ e₁; alias = first_small m.alias _ e₂; range = range_small m.filter _ e₃ }

-- SUBSCRIBE_OK
pub sound-ok : (m : SubscribeOk) → sound_of (Subscription (ASubscribeOk m)) ≡ true → small_content m.largest ≡ true
sound-ok m e =
    content-small m.largest (Listing Parameters m.parameters ∷ [])
    (rest-small _ _ (rest-small _ _ (rest-small (Number m.id) _ (all_small (Subscription (ASubscribeOk m)) e))))

-- MAX_SUBSCRIBE_ID
pub sound-maximum : (id : ℕ) → sound_of (Subscription (AMaxSubscribeId id)) ≡ true → small id ≡ true
sound-maximum id e = first_small id [] (all_small (Subscription (AMaxSubscribeId id)) e)
