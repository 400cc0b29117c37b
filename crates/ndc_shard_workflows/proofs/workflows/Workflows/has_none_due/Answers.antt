use Rattle.std.proofs.Common.{◌≡◌, ◌==◌, List, [], ◌∷◌, length, IsTrue, refl, subst, arith}
use Rattle.std.proofs.lemmas.Bool.{eqb-true}
use Rattle.ndc_event.specs.declared.name.Name.{Name}
use Rattle.ndc_shard_workflows.specs.Due.{HoldDue}
use Rattle.ndc_shard_workflows.proofs.ByDomainLemmas.{sorted-none}
use Rattle.ndc_shard_workflows.proofs.workflows.Workflows.has_none_due.Goals as goal

-- a list of no length is empty
none-in : (list : List (Name × Name)) → IsTrue (length list == 0) → list ≡ []
none-in [] is = refl
none-in (names ∷ list) is = absurd (omega (arith, eqb-true (length (names ∷ list)) 0 is))

pub returns-clause-none : goal.returns-clause-none
returns-clause-none c is = record {
  ordered = sorted-none;
  each = subst (HoldDue []) c.self.view_is
      (subst (λ (list : List (Name × Name)). HoldDue list c.self.inside.domains) (none-in c.self.inside.due (subst IsTrue c.is_empty.ensures is)) c.self.invariant.0);
}
