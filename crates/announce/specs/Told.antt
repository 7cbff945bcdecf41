-- Each message as the number of its type and its fields, in the order of its layout; and what a reader answers.
use Rattle.std.specs.Prelude.{ℕ, List, [], ◌∷◌, Result}
use Rattle.field.specs.Outcome.{Outcome}
use Rattle.field.specs.declared.Fault.{Fault}
use Rattle.field.specs.declared.Kind.TheVariants.{Namespace, Parameters}
use Rattle.field.specs.declared.Entries.{Entries}
use Rattle.field.specs.declared.Piece.{Piece}
use Rattle.field.specs.declared.Piece.TheVariants.{Number, Bytes, List as Listing}
use Rattle.layout.specs.Typed.{Typed, told_typed}
use Rattle.types.specs.Table.{typed_as}
use Rattle.types.specs.AnnounceKinds.{type_row}
use Rattle.announce.specs.declared.Announce.{Announce}
use Rattle.announce.specs.declared.Refusal.{Refusal}
use Rattle.types.specs.declared.kinds.AnnounceKind.TheVariants.{Named, Asked, Refused}
use Rattle.announce.specs.declared.AnnounceMessage.{AnnounceMessage}
use Rattle.announce.specs.declared.AnnounceMessage.TheVariants.{Named as ANamed, Asked as AnAsked, Refused as ARefused}

abbrev pub named_pieces : Entries → List Piece
named_pieces namespace = Listing Namespace namespace ∷ []

abbrev pub asked_pieces : Announce → List Piece
asked_pieces m = Listing Namespace m.namespace ∷ Listing Parameters m.parameters ∷ []

abbrev pub refused_pieces : Refusal → List Piece
refused_pieces m = Listing Namespace m.namespace ∷ Number m.failure.code ∷ Bytes m.failure.reason ∷ []

abbrev pub typed_of : AnnounceMessage → Typed
typed_of (ANamed k n) = typed_as (type_row (Named k)) (named_pieces n)
typed_of (AnAsked k m) = typed_as (type_row (Asked k)) (asked_pieces m)
typed_of (ARefused k m) = typed_as (type_row (Refused k)) (refused_pieces m)

abbrev pub told : Result (AnnounceMessage × ℕ) Fault → Outcome Typed
told = told_typed typed_of
