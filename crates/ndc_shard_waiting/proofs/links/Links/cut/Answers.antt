use Rattle.std.proofs.Common.{◌∙◌, ◌&&◌, not, ap}
use Rattle.ndc_shard_waiting.specs.Linking.{is_link, is_linked}
use Rattle.ndc_shard_waiting.proofs.LinkLemmas.{link_cmp-by, linked-less}
use Rattle.ndc_shard_waiting.proofs.links.Links.cut.Goals as goal

pub returns : goal.returns
returns c before one =
    linked-less _ link_cmp-by c.args.earlier c.args.own c.self.inside.set.keys c.remove.new.self.keys c.remove.ensures.updates.0 before one
    ∙ ap (λ l. not (is_link before one c.args.earlier c.args.own) && is_linked before one l) c.self.view_is
