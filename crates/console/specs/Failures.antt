-- What failed: reading, or writing.
use Rattle.console.specs.declared.Failed.{Failed}
use Rattle.console.specs.declared.Failed.TheVariants.{Input, Output}

abbrev pub IsInput : Failed → Type 0
IsInput (Input e) = Unit {0}
IsInput (Output e) = ⊥

abbrev pub IsOutput : Failed → Type 0
IsOutput (Input e) = ⊥
IsOutput (Output e) = Unit {0}
