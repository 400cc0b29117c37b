use Rattle.std.proofs.Common.{refl}
use Rattle.ndc_world_replication.proofs.GrowLemmas.{firsts_new}
use Rattle.ndc_world_replication.proofs.publisher.Publisher.new.Goals as goal

pub returns : goal.returns
returns g c = rw (c.in_ok-cluster.ensures, c.in_ok-queues.ensures, c.new-3.ensures, firsts_new) refl
