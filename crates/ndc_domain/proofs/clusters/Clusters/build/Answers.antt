use Rattle.std.proofs.Common.{◌≡◌, [], None, ap, sym, ◌∙◌, arith}
use Rattle.ndc_domain.specs.Clusters.{fault_from}
use Rattle.ndc_domain.proofs.Faults.{sound_without_fault}
use Rattle.ndc_domain.proofs.clusters.Clusters.build.Goals as goal

-- no member has a fault
pub invariant_of-result : goal.invariant_of-result
invariant_of-result c =
    let none : fault_from c.args.increment [] c.args.members.items ≡ None =
    ap (fault_from c.args.increment []) (sym c.as_slice.ensures.value) ∙ sym c.members_fault.ensures ∙ c.in-None.is in
    sound_without_fault c.args.increment c.args.members.items (omega arith) (omega arith) (grind arith) none

pub returns-in-None-clause-sound : goal.returns-in-None-clause-sound
returns-in-None-clause-sound c = invariant_of-result c
