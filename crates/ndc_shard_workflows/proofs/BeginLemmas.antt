-- A batch without a parent, with which the set is sound, is the first of its run.
use Rattle.std.proofs.Common.{◌≡◌, ◌+◌, ◌*◌, ◌<◌, ◌^◌, true, ◌==◌, List, [], ◌∷◌, inl, Option, Some, None, refl, sym, ◌∙◌, subst, ap, arith}
use Rattle.std.proofs.lemmas.Bool.{and_parts, eqb-true}
use Rattle.ndc_model_cells.specs.Writing.{greatest_task}
use Rattle.ndc_event.specs.Batch.{fault_of, is_first_fit}
use Rattle.ndc_event.specs.Key.{run_of}
use Rattle.ndc_event.specs.declared.batch.Batch.{Batch}
use Rattle.ndc_event.specs.declared.key.BatchKey.{BatchKey}
use Rattle.ndc_event.specs.declared.key.RunId.{RunId}
use Rattle.ndc_shard_runs.specs.RunMap.{part_of}
use Rattle.ndc_shard_runs.proofs.ArrivedLemmas.{greatest-arrived}
use Rattle.ndc_shard_runs.proofs.PartLemmas.{part-has}
use Rattle.ndc_shard_runs.proofs.ReadLemmas.{new-faultless}
use Rattle.ndc_shard_runs.proofs.TakenLemmas.{task-up-to, one-key}
use Rattle.ndc_model_sets.specs.Branches.{same_run}
use Rattle.ndc_model_sets.specs.Paths.{path_to}
use Rattle.ndc_model_sets.specs.Sets.{batch_at, Has, arrived}
use Rattle.ndc_model_sets.specs.Sound.{IsSound}
use Rattle.ndc_model_sets.proofs.BranchLemmas.{has-among, among-has, Rise-filter}
use Rattle.ndc_model_sets.proofs.CurrentLemmas.{path-begins}
use Rattle.ndc_model_sets.proofs.FaultLemmas.{passes}
use Rattle.ndc_model_sets.proofs.KeyLemmas.{key-parts}
use Rattle.ndc_model_sets.proofs.Lists.{Among}
use Rattle.ndc_model_sets.proofs.PathLemmas.{path_is}
use Rattle.ndc_model_sets.proofs.SetLemmas.{has-found}

number : (b : Batch) → fault_of b ≡ None → b.parent ≡ None → b.run.value ≡ b.key.version * 2 ^ 64 + b.key.task
number b f g =
    let fit : is_first_fit b (passes b f).event.id None ≡ true = subst (λ (o : Option BatchKey). is_first_fit b (passes b f).event.id o ≡ true) g (passes b f).first in
    eqb-true b.run.value (run_of b.key).value (and_parts ((passes b f).event.id == 1) (b.run.value == (run_of b.key).value) fit).1

module _ (batches : List Batch) (b : Batch) (sound : IsSound batches) (after : IsSound (arrived b batches)) (none : batch_at b.key batches ≡ None) (parent : b.parent ≡ None)
    (most : greatest_task batches < 2 ^ 64) (own : b.key.task < 2 ^ 64) where
  none-of-run : (x : Batch) → Has batches x → x.run ≡ b.run → ⊥
  none-of-run x has same =
      let s = path-begins batches x (path_to x.key batches) sound.parents (path_is batches x sound.set sound.closed has) in
      let runs : s.0.run.value ≡ b.run.value = ap (λ (r : RunId). r.value) (s.3 ∙ same) in
      let small : s.0.key.task < 2 ^ 64 = omega (arith, task-up-to batches s.0 (has-among batches s.0 s.1), most) in
      let k = one-key s.0.key.version s.0.key.task b.key.version b.key.task small own
      (sym (number s.0 (sound.faultless s.0 s.1) s.2) ∙ runs ∙ number b (new-faultless b batches sound after none) parent) in
      let found : batch_at b.key batches ≡ Some s.0 = has-found batches b.key s.0 (key-parts s.0.key b.key k.0 k.1) s.1 in cc

  pub begins-run : part_of b.run batches ≡ []
  begins-run = by (part_of b.run batches) refl
    where
      by : (l : List Batch) → part_of b.run batches ≡ l → part_of b.run batches ≡ []
      by [] e = e
      by (x ∷ l) e =
          let has = part-has batches sound b.run x (among-has (part_of b.run batches) x (Rise-filter (λ y. same_run y.run b.run) batches sound.set.ordered) (subst (Among x) (sym e) (inl refl))) in
          absurd (none-of-run x has.0 has.1)

-- the same after one more batch
pub begins-behind : (known : List Batch) (b second : Batch) → batch_at b.key known ≡ None → IsSound (arrived b known) → IsSound (arrived second (arrived b known))
    → batch_at second.key (arrived b known) ≡ None → second.parent ≡ None → greatest_task known < 2 ^ 64 → b.key.task < 2 ^ 64 → second.key.task < 2 ^ 64
    → part_of second.run (arrived b known) ≡ []
begins-behind known b second fresh sound after none parent most first own =
    begins-run (arrived b known) second sound after none parent (subst (λ n. n < 2 ^ 64) (sym (greatest-arrived b known fresh)) (omega (arith, most, first))) own
