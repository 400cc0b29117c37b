-- The event that an origin names.
use Rattle.std.proofs.Common.{◌≡◌, List, Some, sym, ◌∙◌, ap}
use Rattle.ndc_event.specs.declared.batch.Batch.{Batch}
use Rattle.ndc_event.specs.declared.batch.Event.{Event}
use Rattle.ndc_event.specs.declared.key.Origin.{Origin}
use Rattle.ndc_model_sets.specs.Sets.{Has}
use Rattle.ndc_model_sets.specs.Sound.{IsSound, Names}
use Rattle.ndc_model_sets.proofs.BranchLemmas.{among-has, has-among}
use Rattle.ndc_model_sets.proofs.Lists.{Among}
use Rattle.ndc_tree.specs.Events.{event_at}
use Rattle.ndc_tree.proofs.RiseLemmas.{event-found, found, ids-rise}
use Rattle.ndc_shard_runs.specs.Copies.{event_of}
use Rattle.ndc_shard_runs.specs.RunMap.{part_of}
use Rattle.ndc_shard_runs.proofs.PartLemmas.{has-part, part-has, part-set}
use Rattle.ndc_shard_runs.proofs.TreeLemmas.{part-is-tree}

module _ (batches : List Batch) (sound : IsSound batches) where
  -- an event that is named is found
  pub named-found : (origin : Origin) (b : Batch) (event : Event) → Has batches b → Among event b.events → Names origin b.run event → event_of origin batches ≡ Some event
  named-found origin b event has among names =
      ap (λ v. event_at v origin.event (part_of origin.run batches)) names.version_is
      ∙ ap (λ i. event_at event.version i (part_of origin.run batches)) names.event_is
      ∙ found (part_of origin.run batches) b event (ids-rise origin.run (part_of origin.run batches) (part-is-tree batches sound origin.run))
      (has-among (part_of origin.run batches) b (has-part batches sound origin.run b has (sym names.run_is))) among

  -- and what is found is named
  pub record IsNamed (origin : Origin) (event : Event) : Type 0 where
    pub batch : Batch
    pub has : Has batches batch
    pub among : Among event batch.events
    pub named : Names origin batch.run event

  pub found-named : (origin : Origin) (event : Event) → event_of origin batches ≡ Some event → IsNamed origin event
  found-named origin event at =
      let f = event-found (part_of origin.run batches) origin.version origin.event event at in
      let p = part-has batches sound origin.run f.batch (among-has (part_of origin.run batches) f.batch (part-set batches sound origin.run).ordered f.there) in
      record { batch = f.batch; has = p.0; among = f.among; named = record { run_is = sym p.1; event_is = sym f.id_is; version_is = sym f.version_is } }
