use Rattle.std.proofs.Common.{◌≡◌, ◌∙◌, subst, IfOk, List}
use Rattle.ndc_reapply.specs.declared.stray.Stray.{Stray}
use Rattle.ndc_reapply.proofs.StrayLemmas.{strays_of-alike}
use Rattle.ndc_reapply.proofs.order.strays.Goals as goal

-- the set is asked as the settled origins are
pub returns : goal.returns
returns c =
    subst (λ (signals : List Stray). IfOk c.into_vec.result (λ list. list.items ≡ signals))
    (c.in_ok-found.ensures ∙ strays_of-alike c.args.signals.now c.in_ok-settled.settled.keys c.args.settled.now c.in_ok-settled.ensures) c.into_vec.ensures
