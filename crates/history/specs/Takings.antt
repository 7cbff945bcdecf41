-- "once a row is freed the same message is taken, if no SUBSCRIBE was taken between and the session is open"
use Rattle.std.specs.Prelude.{◌≡◌, List}
use Rattle.common.specs.Lists.{Each}
use Rattle.subscription.specs.declared.Subscribe.{Subscribe}
use Rattle.history.specs.Events.{Logged}
use Rattle.history.specs.Deeds.{asked, deed_of}

-- no SUBSCRIBE was answered 8
abbrev pub NoneTaken : List Logged → Type 0
NoneTaken = Each (λ (t : Logged). (m : Subscribe) → deed_of t ≡ asked m → ⊥)
