-- Each message as the number of its type and its fields, in the order of its layout; and what a reader answers.
use Rattle.std.specs.Prelude.{ℕ, List, [], ◌∷◌, Result}
use Rattle.field.specs.Outcome.{Outcome}
use Rattle.field.specs.declared.Fault.{Fault}
use Rattle.field.specs.declared.Kind.TheVariants.{Parameters, Versions}
use Rattle.field.specs.declared.Piece.{Piece}
use Rattle.field.specs.declared.Piece.TheVariants.{Number, Bytes, List as Listing}
use Rattle.layout.specs.Typed.{Typed, told_typed}
use Rattle.types.specs.Table.{typed_as, client_setup_row, server_setup_row, goaway_row}
use Rattle.session.specs.declared.ClientSetup.{ClientSetup}
use Rattle.session.specs.declared.ServerSetup.{ServerSetup}
use Rattle.session.specs.declared.SessionMessage.{SessionMessage}
use Rattle.session.specs.declared.SessionMessage.TheVariants.{ClientSetup as AClientSetup, ServerSetup as AServerSetup, GoAway as AGoAway}

abbrev pub client_pieces : ClientSetup → List Piece
client_pieces m = Listing Versions m.versions ∷ Listing Parameters m.parameters ∷ []

abbrev pub server_pieces : ServerSetup → List Piece
server_pieces m = Number m.version ∷ Listing Parameters m.parameters ∷ []

abbrev pub typed_of : SessionMessage → Typed
typed_of (AClientSetup m) = typed_as client_setup_row (client_pieces m)
typed_of (AServerSetup m) = typed_as server_setup_row (server_pieces m)
typed_of (AGoAway uri) = typed_as goaway_row (Bytes uri ∷ [])

abbrev pub told : Result (SessionMessage × ℕ) Fault → Outcome Typed
told = told_typed typed_of
