use Rattle.std.proofs.Common.{[], None, ◌∙◌, ap, if◌then◌else◌}
use Rattle.ndc_model_sets.specs.Branches.{same_run}
use Rattle.ndc_shard.specs.Histories.{histories_at}
use Rattle.ndc_shard.proofs.BranchLemmas.{Entries, histories-changed}
use Rattle.ndc_shard.proofs.histories.Histories.take.Goals as goal

pub returns-clause-others : goal.returns-clause-others
returns-clause-others c one =
    histories-changed c.args.run None c.self.inside.map.entries c.remove.new.self.entries c.remove.ensures.updates.0 one
    ∙ ap (λ (l : Entries). if same_run c.args.run one then [] else histories_at one l) c.self.view_is
