-- A batch that comes next, by what was asked.
use Rattle.std.proofs.Common.{◌≡◌, true, false, List, Option, Some, None, refl, sym, ◌∙◌, ap}
use Rattle.std.specs.Prelude.{is_some}
use Rattle.ndc_event.specs.Batch.{fault_of}
use Rattle.ndc_event.specs.declared.batch.Batch.{Batch}
use Rattle.ndc_event.specs.declared.key.BatchKey.{BatchKey}
use Rattle.ndc_model_sets.specs.Learned.{has_key}
use Rattle.ndc_model_sets.specs.Sets.{earlier_of, batch_at}
use Rattle.ndc_shard_runs.specs.Fitting.{ComesNext}

pub none-of : {X : Type 0} (o : Option X) → is_some o ≡ false → o ≡ None
none-of None e = refl
none-of (Some x) e = absurd (cc)

pub comes-next : (batches : List Batch) (b : Batch) → fault_of b ≡ None → b.carrier ≡ None → is_some (batch_at b.key batches) ≡ false → has_key b.parent batches ≡ true → ComesNext batches b
comes-next batches b faultless lone fresh reached = record {
  fresh = none-of (batch_at b.key batches) fresh;
  faultless = faultless;
  reached = ap (λ o. has_key (earlier_of b.parent o) batches) lone ∙ by b.parent reached;
}
  where
    by : (o : Option BatchKey) → has_key o batches ≡ true → has_key (earlier_of o None) batches ≡ true
    by None h = h
    by (Some key) h = h
