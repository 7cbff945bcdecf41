-- The layouts of CLIENT_SETUP, SERVER_SETUP and GOAWAY: sections 8.2 and 8.3 of source document 004.
use Rattle.field.specs.Fields.{integer, bytes, list}
use Rattle.field.specs.declared.Kind.TheVariants.{Versions}
use Rattle.layout.specs.Layout.{Layout, done, field, parameters}
use Rattle.layout.specs.declared.FieldName.TheVariants.{SupportedVersions, SelectedVersion, NewSessionUri}

unfoldable pub client_setup : Layout
client_setup = field SupportedVersions (list Versions) λ _. parameters

unfoldable pub server_setup : Layout
server_setup = field SelectedVersion integer λ version. parameters

unfoldable pub go_away : Layout
go_away = field NewSessionUri bytes λ _. done
