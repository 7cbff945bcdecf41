-- `read` meets its contract: a namespace, and what its kind asks for after it. Assumes nothing.
use mathlib.Core.Path.{refl}
use Rattle.common.proofs.Exits.{handed}
use Rattle.layout.specs.Layout.{parameters}
use Rattle.layout.proofs.Steps.{stopping, going}
use Rattle.types.specs.Announces.{named}
use Rattle.announce.specs.AfterNamespace.{rest}
use Rattle.announce.proofs.ByKind.{kind-no, kind-whole}
use Rattle.announce.proofs.reader.read.Goals as goal

pub returns-in_err-namespace : goal.returns-in_err-namespace
unfolding named
returns-in_err-namespace c =
    rw (handed c.from_residual.ensures.1) (kind-no _ _ refl λ name. search (stopping, c.in_err-namespace.ensures) depth 20)

pub returns-in_err-parameters-in-Asked : goal.returns-in_err-parameters-in-Asked
unfolding named rest parameters
returns-in_err-parameters-in-Asked c =
    rw (handed c.from_residual-in_err-parameters-in-Asked.ensures.1) (kind-no _ _ c.in-Asked.is λ name. search (stopping, c.in_ok-namespace.ensures, c.in_err-parameters-in-Asked.ensures) depth 20)

pub returns-in_err-failure-in-Refused : goal.returns-in_err-failure-in-Refused
unfolding named rest
returns-in_err-failure-in-Refused c =
    rw (handed c.from_residual-in_err-failure-in-Refused.ensures.1) (kind-no _ _ c.in-Refused.is λ name. search (stopping, c.in_ok-namespace.ensures, c.in_err-failure-in-Refused.ensures) depth 20)

pub returns-in-Named : goal.returns-in-Named
unfolding named rest
returns-in-Named c = kind-whole _ _ c.in-Named.is (λ name. search (going, c.in_ok-namespace.ensures) depth 20) refl

pub returns-in_ok-parameters-in-Asked : goal.returns-in_ok-parameters-in-Asked
unfolding named rest parameters
returns-in_ok-parameters-in-Asked c =
    kind-whole _ _ c.in-Asked.is (λ name. search (going, c.in_ok-namespace.ensures, c.in_ok-parameters-in-Asked.ensures) depth 20) refl

pub returns-in_ok-failure-in-Refused : goal.returns-in_ok-failure-in-Refused
unfolding named rest
returns-in_ok-failure-in-Refused c =
    kind-whole _ _ c.in-Refused.is (λ name. search (going, c.in_ok-namespace.ensures, c.in_ok-failure-in-Refused.ensures) depth 20) refl
