-- What messages are answered that arrive in a world.
use Rattle.std.specs.Prelude.{◌≡◌, ◌↔◌, ℕ, ◌<◌, true, false}
use Rattle.ndc_script_types.specs.WellFormed.{IsCluster}
use Rattle.ndc_script_types.specs.declared.script.Header.{Header}
use Rattle.ndc_model_cells.specs.Arrival.{arrival_of, arrived_at, has_arrived}
use Rattle.ndc_model_cells.specs.Cells.{arrived_of}
use Rattle.ndc_model_cells.specs.declared.job.Arrived.TheVariants.{Known, PutOff}
use Rattle.ndc_model_cells.specs.declared.message.Message.{Message}
use Rattle.ndc_domain.specs.declared.clusters.ClusterNo.{ClusterNo}
use Rattle.ndc_event.specs.declared.key.BatchKey.{BatchKey}
use Rattle.ndc_laws.specs.Promised.{FirstMissing, LacksAncestor}
use Rattle.ndc_model.specs.Fair.{IsMessageTrue, is_named}
use Rattle.ndc_model.specs.World.{World, cell_at}

-- a message of what was written may come to a cluster's cell: some record of its domain names the cluster
pub record MayCome (header : Header) (w : World) (cluster : ClusterNo) (shard : ℕ) (sent : Message) : Type 0 where
  pub known : IsCluster header cluster
  pub below : shard < header.shards
  pub written : IsMessageTrue header shard w sent
  pub named : is_named header cluster w sent.batch.domain ≡ true

-- what such a message is answered: it is known exactly where its batch has arrived before; it is put off exactly where its batch is new and, once it
-- has arrived, lacks an ancestor; and what is told then is the first key on the way up from the batch that has not arrived
pub record IsAnswered (header : Header) (w : World) (cluster : ClusterNo) (shard : ℕ) (sent : Message) : Type 0 where
  pub known : (arrival_of sent (cell_at cluster shard w) ≡ Known) ↔ (has_arrived sent.batch (cell_at cluster shard w) ≡ true)
  pub put_off : ((key : BatchKey) × (arrival_of sent (cell_at cluster shard w) ≡ PutOff key))
      ↔ ((has_arrived sent.batch (cell_at cluster shard w) ≡ false) × LacksAncestor header (arrived_at sent (cell_at cluster shard w)) sent.batch w)
  pub missing : (key : BatchKey) → arrival_of sent (cell_at cluster shard w) ≡ PutOff key → FirstMissing (arrived_of sent.batch.domain sent.batch.workflow (arrived_at sent (cell_at cluster shard w))) key sent.batch

-- any message is known exactly where its batch has arrived before; one that may come is answered so
pub record AnswersArrivals (header : Header) (w : World) : Type 0 where
  pub known : (cluster : ClusterNo) (shard : ℕ) (sent : Message) → (arrival_of sent (cell_at cluster shard w) ≡ Known) ↔ (has_arrived sent.batch (cell_at cluster shard w) ≡ true)
  pub written : (cluster : ClusterNo) (shard : ℕ) (sent : Message) → MayCome header w cluster shard sent → IsAnswered header w cluster shard sent
