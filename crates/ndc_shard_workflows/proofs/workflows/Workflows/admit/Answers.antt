use Rattle.std.proofs.Common.{sym, ◌∙◌}
use Rattle.ndc_admission.proofs.FaultLemmas.{faultless_made}
use Rattle.ndc_admission.proofs.MadeLemmas.{made_message, made_small}
use Rattle.ndc_shard_workflows.proofs.workflows.Workflows.admit.Goals as goal

pub admit_in-requires-clause-message : goal.admit_in-requires-clause-message
admit_in-requires-clause-message g c = made_message c.args.message _ (faultless_made c.args.message _ (sym c.first_fault.ensures ∙ c.in_default.is))

pub admit_in-requires-clause-second : goal.admit_in-requires-clause-second
admit_in-requires-clause-second g c = (faultless_made c.args.message _ (sym c.first_fault.ensures ∙ c.in_default.is)).own

pub admit_in-requires-clause-ids : goal.admit_in-requires-clause-ids
admit_in-requires-clause-ids g c = made_small c.args.message _ (faultless_made c.args.message _ (sym c.first_fault.ensures ∙ c.in_default.is))
