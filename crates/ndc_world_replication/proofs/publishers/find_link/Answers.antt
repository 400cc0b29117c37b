use Rattle.ndc_model.specs.World.{is_link}
use Rattle.ndc_world_replication.proofs.FindLemmas.{found, nowhere}
use Rattle.ndc_world_replication.proofs.publishers.find_link.Goals as goal

pub returns-in_default : goal.returns-in_default
returns-in_default c = nowhere (is_link c.args.reader c.args.source) c.args.links.now c.in_default.ensures

pub returns : goal.returns
returns c = found (is_link c.args.reader c.args.source) c.args.links.now c.in-Some.place c.index-links-place.result c.in-Some.ensures c.index-links-place.is
