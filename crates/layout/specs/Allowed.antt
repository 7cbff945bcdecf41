-- "Forbidden field values (5)": what a layout forbids, whoever asks: its reader, the writer, or the ledger.
use Rattle.std.specs.Prelude.{List, [], ◌∷◌, Bool, true, false}
use Rattle.common.specs.Choice.{pick}
use Rattle.field.specs.declared.Piece.{Piece}
use Rattle.layout.specs.Layout.{Layout, done, forbidden, field, when, control}

-- whether fields hold no value that a layout forbids; and one that asks for another field is forbidden where none
-- follows it, as a payload's length of 0 is without a status
unfoldable pub allowed : Layout → List Piece → Bool
allowed done ps = true
allowed forbidden ps = false
allowed (field name form next) [] = false
allowed (field name form next) (p ∷ ps) = allowed (next (control p)) ps
allowed (when test l m) ps = pick test (allowed l ps) (allowed m ps)
