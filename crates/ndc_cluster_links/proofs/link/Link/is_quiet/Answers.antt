use Rattle.std.proofs.Common.{subst}
use Rattle.ndc_cluster_links.proofs.QuietLemmas.{AreQuiet, quiet_link}
use Rattle.ndc_model.specs.World.{Link}
use Rattle.ndc_cluster_links.proofs.link.Link.is_quiet.Goals as goal

pub returns : goal.returns
returns c = λ is. quiet_link c.args.self.now (subst (λ (link : Link). AreQuiet link.lanes) c.self.view_is (c.self.invariant.quiet is))
