-- The layouts of ANNOUNCE, ANNOUNCE_OK, ANNOUNCE_ERROR, UNANNOUNCE, ANNOUNCE_CANCEL, SUBSCRIBE_ANNOUNCES,
-- SUBSCRIBE_ANNOUNCES_OK, SUBSCRIBE_ANNOUNCES_ERROR and UNSUBSCRIBE_ANNOUNCES: sections 8.18 to 8.26 of source document
-- 004. A namespace prefix has the form and the sizes of a namespace.
use Rattle.field.specs.Fields.{list}
use Rattle.field.specs.declared.Kind.TheVariants.{Namespace}
use Rattle.layout.specs.Layout.{Layout, field}
use Rattle.layout.specs.declared.FieldName.{FieldName}

-- a namespace by its name, and what follows it: nothing, Parameters, or Error Code and Reason Phrase
unfoldable pub named : FieldName → Layout → Layout
named name next = field name (list Namespace) λ _. next
