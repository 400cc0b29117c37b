-- What the laws say of arrivals.
use Rattle.std.proofs.Common.{ℕ, ◌<◌}
use Rattle.ndc_script_types.specs.WellFormed.{AreTwoClusters, IsCluster}
use Rattle.ndc_script_types.specs.declared.script.Header.{Header}
use Rattle.ndc_domain.specs.declared.clusters.ClusterNo.{ClusterNo}
use Rattle.ndc_model.specs.Facts.{IsReached}
use Rattle.ndc_model.specs.Letters.{damage_step, letters_merged, purge_step}
use Rattle.ndc_model.specs.Moves.{Trace, bootstrapped, by_link, due, due_arrived, flights_arrived, in_flight, jobs_done, resent, sent_again, without_flights_to}
use Rattle.ndc_model.specs.World.{World}
use Rattle.ndc_laws_reached.proofs.LaneLemmas.{emptied-to, renewed-all}
use Rattle.ndc_laws_reached.proofs.BootstrapLemmas.{bootstrap-kept}
use Rattle.ndc_laws_reached.proofs.BringLemmas.{MayArrive}
use Rattle.ndc_laws_reached.proofs.LetterLemmas.{damaged-kept, letters-merged, purged-kept}
use Rattle.ndc_laws_reached.proofs.ManyLemmas.{by-shard, due-may, flights-may}
use Rattle.ndc_laws_reached.proofs.MessageLemmas.{again-may}
use Rattle.ndc_model.proofs.ListLemmas.{all-weaker}

-- all that is in flight to a reader arrives
pub flights_kept : (header : Header) (lines : ℕ) (reader : ClusterNo) (w : World) → IsCluster header reader → IsReached header lines w → IsReached header lines (flights_arrived header reader w).world
unfolding flights_arrived jobs_done
flights_kept header lines reader w known is =
    (by-shard header lines reader known (by_link reader in_flight w.links) (without_flights_to reader w) (emptied-to header lines w is reader)
    (λ shard below. all-weaker (MayArrive header reader shard w) (MayArrive header reader shard (without_flights_to reader w)) (λ sent may. record { is_true = may.is_true; named = may.named })
    (by_link reader in_flight w.links shard) (flights-may header lines w is reader shard below))).0.kept.reached

-- all that is due to a reader arrives
pub due_kept : (header : Header) (lines : ℕ) (reader : ClusterNo) (t : Trace) → IsCluster header reader → IsReached header lines t.world → IsReached header lines (due_arrived header t reader).world
unfolding due_arrived jobs_done
due_kept header lines reader t known is =
    (by-shard header lines reader known (by_link reader (due t.world) t.world.links) t.world is (due-may header lines t.world is reader)).0.kept.reached

-- what is missing is sent again
pub resent_kept : (header : Header) (lines : ℕ) (reader : ClusterNo) (w : World) → IsCluster header reader → IsReached header lines w → IsReached header lines (resent header reader w).world
unfolding resent jobs_done
resent_kept header lines reader w known is =
    renewed-all header lines _
    (by-shard header lines reader known (sent_again header reader w) w is (λ shard below. again-may header lines w is shard below reader known)).0.kept.reached reader

-- a member that is late is brought what it lacks
pub bootstrapped_kept : (header : Header) (lines : ℕ) (reader source : ClusterNo) (t : Trace) → AreTwoClusters header reader source → IsReached header lines t.world → IsReached header lines (bootstrapped header reader t source).world
unfolding bootstrapped jobs_done
bootstrapped_kept header lines reader source t two is = bootstrap-kept header lines reader source two t.world is

pub damaged_kept : (header : Header) (lines : ℕ) (reader source : ClusterNo) (shard place cut : ℕ) (w : World) → AreTwoClusters header reader source → shard < header.shards → IsReached header lines w
    → IsReached header lines (damage_step reader source shard place cut w).world
damaged_kept header lines reader source shard place cut w two below is = damaged-kept header lines reader source two shard below w is place cut

pub merged_kept : (header : Header) (lines : ℕ) (reader : ClusterNo) (w : World) → IsCluster header reader → 0 < header.shards → IsReached header lines w → IsReached header lines (letters_merged header reader w).world
merged_kept header lines reader w known some is = letters-merged header lines reader known some w is

pub purged_kept : (header : Header) (lines : ℕ) (reader : ClusterNo) (w : World) → IsCluster header reader → IsReached header lines w → IsReached header lines (purge_step reader w).world
purged_kept header lines reader w known is = purged-kept header lines reader w is known
