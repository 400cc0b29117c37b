use Rattle.std.proofs.Common.{Some, ◌∙◌, ap, if◌then◌else◌}
use Rattle.ndc_model_sets.specs.Branches.{same_run}
use Rattle.ndc_shard.specs.Histories.{histories_at}
use Rattle.ndc_shard.proofs.BranchLemmas.{Entries, histories-changed, histories-more}
use Rattle.ndc_shard.proofs.histories.Histories.add.Goals as goal

pub returns : goal.returns
returns c =
    histories-more c.args.run c.take-list.result c.push.new.self c.args.history c.args.self.now c.take-list.new.self c.insert.new.self.entries c.take-list.ensures.taken c.in_ok-push.ensures.items
    c.take-list.ensures.others
    (λ one. histories-changed c.args.run (Some c.push.new.self) c.self.inside.map.entries c.insert.new.self.entries c.in_ok-insert.ensures.updates.0 one
    ∙ ap (λ (l : Entries). if same_run c.args.run one then c.push.new.self.items else histories_at one l) c.self.view_is)
