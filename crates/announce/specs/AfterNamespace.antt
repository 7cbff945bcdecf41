-- What follows the namespace.
use Rattle.layout.specs.Layout.{Layout, done, failure, parameters}
use Rattle.types.specs.declared.kinds.AnnounceKind.{AnnounceKind}
use Rattle.types.specs.declared.kinds.AnnounceKind.TheVariants.{Named, Asked, Refused}

-- nothing; Parameters; or Error Code, Reason Phrase. This is the last column of the table of types, by the shape of the
-- message (proofs/ByKind.antt: `layout_is`).
unfoldable pub rest : AnnounceKind → Layout
rest (Named k) = done
rest (Asked k) = parameters
rest (Refused k) = failure done
