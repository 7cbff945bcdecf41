-- The row of the table that each kind of message stands in.
use Rattle.std.specs.Prelude.{ℕ}
use Rattle.layout.specs.Layout.{Layout}
use Rattle.types.specs.Table.{TypeRow, client_setup_row, server_setup_row, goaway_row}
use Rattle.types.specs.declared.kinds.SessionKind.{SessionKind}
use Rattle.types.specs.declared.kinds.SessionKind.TheVariants.{ClientSetup, ServerSetup, GoAway}

unfoldable pub type_row : SessionKind → TypeRow
type_row ClientSetup = client_setup_row
type_row ServerSetup = server_setup_row
type_row GoAway = goaway_row

-- its number, and the layout of its body
abbrev pub number_of : SessionKind → ℕ
number_of kind = (type_row kind).number

abbrev pub layout_of : SessionKind → Layout
layout_of kind = (type_row kind).layout
