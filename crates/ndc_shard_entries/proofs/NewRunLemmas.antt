-- A run whose first batch would have a new key is new.
use Rattle.std.proofs.Common.{◌≡◌, ◌<◌, ◌+◌, ◌*◌, ◌^◌, ◌==◌, true, List, [], ◌∷◌, inl, Option, Some, None, refl, sym, ◌∙◌, subst, ap, arith}
use Rattle.std.proofs.lemmas.Bool.{and_parts, eqb-true}
use Rattle.ndc_event.specs.Batch.{is_first_fit}
use Rattle.ndc_event.specs.Key.{run_of}
use Rattle.ndc_event.specs.declared.batch.Batch.{Batch}
use Rattle.ndc_event.specs.declared.key.BatchKey.{BatchKey}
use Rattle.ndc_event.specs.declared.key.RunId.{RunId}
use Rattle.ndc_shard_runs.specs.RunMap.{part_of}
use Rattle.ndc_model_sets.specs.Branches.{same_run}
use Rattle.ndc_model_sets.specs.Paths.{path_to}
use Rattle.ndc_model_sets.specs.Sets.{Has, batch_at}
use Rattle.ndc_model_sets.specs.Sound.{IsSound}
use Rattle.ndc_model_sets.proofs.BranchLemmas.{among-has, run-same}
use Rattle.ndc_model_sets.proofs.CurrentLemmas.{path-begins}
use Rattle.ndc_model_sets.proofs.FaultLemmas.{passes}
use Rattle.ndc_model_sets.proofs.KeyLemmas.{key-parts}
use Rattle.ndc_model_sets.proofs.Lists.{Among, filter-among}
use Rattle.ndc_model_sets.proofs.PathLemmas.{path_is}
use Rattle.ndc_model_sets.proofs.SetLemmas.{has-found}

module _ (batches : List Batch) (sound : IsSound batches) (small : (b : Batch) → Has batches b → b.key.task < 2 ^ 64) (key : BatchKey) (own : key.task < 2 ^ 64) (fresh : batch_at key batches ≡ None) where
  number : (first : Batch) → Has batches first → first.parent ≡ None → first.run.value ≡ first.key.version * 2 ^ 64 + first.key.task
  number first has e =
      let p = passes first (sound.faultless first has) in
      let fit : is_first_fit first p.event.id None ≡ true = subst (λ (o : Option BatchKey). is_first_fit first p.event.id o ≡ true) e p.first in
      eqb-true first.run.value (run_of first.key).value (and_parts (p.event.id == 1) (first.run.value == (run_of first.key).value) fit).1

  never : (b : Batch) → Has batches b → b.run ≡ run_of key → ⊥
  never b has same =
      let s = path-begins batches b (path_to b.key batches) sound.parents (path_is batches b sound.set sound.closed has) in
      let n : s.0.run.value ≡ key.version * 2 ^ 64 + key.task = ap (λ (r : RunId). r.value) (s.3 ∙ same) in
      let m = number s.0 s.1 s.2 in
      let t = small s.0 s.1 in
      let found : batch_at key batches ≡ Some s.0 = has-found batches key s.0 (key-parts s.0.key key (omega (arith, n, m, t, own)) (omega (arith, n, m, t, own))) s.1 in
      cc

  pub no-part : part_of (run_of key) batches ≡ []
  no-part = by (part_of (run_of key) batches) refl
    where
      by : (l : List Batch) → part_of (run_of key) batches ≡ l → l ≡ []
      by [] e = refl
      by (b ∷ l) e =
          let q = filter-among (λ (x : Batch). same_run x.run (run_of key)) batches b (subst (Among b) (sym e) (inl refl)) in
          absurd (never b (among-has batches b sound.set.ordered q.1) (run-same b.run (run_of key) q.0))
