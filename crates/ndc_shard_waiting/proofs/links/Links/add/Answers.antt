use Rattle.std.proofs.Common.{◌∙◌, ◌||◌, ap}
use Rattle.ndc_shard_waiting.specs.Linking.{is_link, is_linked}
use Rattle.ndc_shard_waiting.proofs.LinkLemmas.{link_cmp-by, linked-more}
use Rattle.ndc_shard_waiting.proofs.links.Links.add.Goals as goal

pub returns-clause-ok : goal.returns-clause-ok
returns-clause-ok c before one =
    linked-more _ link_cmp-by c.args.earlier c.args.own c.self.inside.set.keys c.insert.new.self.keys c.in_ok-insert.ensures.updates.0 before one
    ∙ ap (λ l. is_link before one c.args.earlier c.args.own || is_linked before one l) c.self.view_is
