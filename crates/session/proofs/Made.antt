-- The message that a type and fields say. Made of any fields that the layout of its type reads, it says them. Assumes nothing.
use mathlib.Core.Path.{◌≡◌, refl}
use lib.Dec.{eqb}
use Rattle.common.specs.Choice.{pick}
use Rattle.layout.proofs.Parts.{number_in, bytes_in, entries_in}
use Rattle.layout.specs.Typed.{Typed}
use Rattle.layout.specs.Layout.{parameters}
use Rattle.layout.proofs.Every.{Every}
use Rattle.types.specs.Table.{typed_as, client_setup_row, server_setup_row}
use Rattle.types.specs.Sessions.{client_setup, server_setup, go_away}
use Rattle.session.specs.declared.SessionMessage.{SessionMessage}
use Rattle.session.specs.declared.SessionMessage.TheVariants.{ClientSetup, ServerSetup, GoAway}
use Rattle.types.specs.SessionKinds.{type_row}
use Rattle.session.specs.Told.{typed_of}
use Rattle.types.specs.declared.kinds.SessionKind.{SessionKind}
use Rattle.types.specs.declared.kinds.SessionKind.TheVariants as kinds

unfoldable pub message_of : Typed → SessionMessage
message_of t =
    let ps = t.pieces in
    pick (eqb t.type client_setup_row.number) (ClientSetup (record { versions = entries_in ps 0; parameters = entries_in ps 1 }))
    (pick (eqb t.type server_setup_row.number) (ServerSetup (record { version = number_in ps 0; parameters = entries_in ps 1 }))
    (GoAway (bytes_in ps 0)))

-- whatever fields the layout of a kind reads, the message that is made of them says them
pub made-says : (k : SessionKind) → Every (type_row k).layout (λ ps. typed_of (message_of (typed_as (type_row k) ps)) ≡ typed_as (type_row k) ps)
unfolding type_row message_of parameters client_setup server_setup go_away
made-says kinds.ClientSetup = λ versions ps. refl
made-says kinds.ServerSetup = λ version ps. refl
made-says kinds.GoAway = λ uri. refl
