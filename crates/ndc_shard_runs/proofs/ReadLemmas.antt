-- What is read of the runs is what is read of the workflow's batches.
use Rattle.std.proofs.Common.{◌≡◌, ℕ, true, max, List, [], ◌∷◌, ◌⊎◌, inl, inr, Option, Some, None, refl, sym, ◌∙◌, subst, ap, arith}
use Rattle.std.specs.Option.{option_map, option_or}
use Rattle.ndc_event.specs.Batch.{fault_of}
use Rattle.ndc_event.specs.Key.{key_lt}
use Rattle.ndc_event.specs.declared.batch.Batch.{Batch}
use Rattle.ndc_event.specs.declared.key.BatchKey.{BatchKey}
use Rattle.ndc_event.specs.declared.key.RunId.{RunId}
use Rattle.ndc_model_cells.specs.Writing.{greatest_version}
use Rattle.ndc_model_sets.specs.Branches.{current_tip, workflow_tip}
use Rattle.ndc_model_sets.specs.Current.{current_state, state_at, state_to}
use Rattle.ndc_model_sets.specs.Sets.{Rise, batch_at, Has, arrived}
use Rattle.ndc_model_sets.specs.Sound.{IsSound}
use Rattle.ndc_model_sets.proofs.ArrivalLemmas.{is_there}
use Rattle.ndc_model_sets.proofs.BranchLemmas.{has-among, among-has, greatest-of}
use Rattle.ndc_model_sets.proofs.CurrentLaws.{workflow_is_greatest}
use Rattle.ndc_model_sets.proofs.CurrentLemmas.{current-greatest}
use Rattle.ndc_model_sets.proofs.KeyLemmas.{IsBefore, before-parts}
use Rattle.ndc_model_sets.proofs.Lists.{Among, all-among}
use Rattle.ndc_model_sets.proofs.SetLemmas.{found-has}
use Rattle.ndc_tree.proofs.LastLemmas.{last-among, none-last}
use Rattle.ndc_model_sets.specs.Last.{last_batch}
use Rattle.ndc_tree.specs.Tree.{TreeValue}
use Rattle.ndc_shard_runs.specs.Places.{places_of, place_at}
use Rattle.ndc_shard_runs.specs.RunMap.{part_of, run_in, run_at, batches_of}
use Rattle.ndc_shard_runs.proofs.LearnLemmas.{found-run}
use Rattle.ndc_shard_runs.proofs.PartLemmas.{has-part, found-part, part-state, part-tip}
use Rattle.ndc_shard_runs.proofs.PlaceLemmas.{place-batch}

pub last-above : (batches : List Batch) (m : Batch) → Rise batches → last_batch batches ≡ Some m → (x : Batch) → Among x batches → (x ≡ m) ⊎ (key_lt x.key m.key ≡ true)
last-above [] m rise h x among = absurd among
last-above (b ∷ batches) m rise h x among = by (last_batch batches) refl h among (last-above batches m rise.1) (last-among batches m)
  where
    nothing : last_batch batches ≡ None → Among x batches → ⊥
    nothing e k = subst (λ (l : List Batch). Among x l) (none-last batches e) k

    by : (o : Option Batch) → last_batch batches ≡ o → option_or o (Some b) ≡ Some m → (x ≡ b) ⊎ Among x batches
        → (last_batch batches ≡ Some m → (y : Batch) → Among y batches → (y ≡ m) ⊎ (key_lt y.key m.key ≡ true)) → (last_batch batches ≡ Some m → Among m batches)
        → (x ≡ m) ⊎ (key_lt x.key m.key ≡ true)
    by None e h (inl same) rest there = let one : b ≡ m = cc in inl (same ∙ one)
    by None e h (inr k) rest there = absurd (nothing e k)
    by (Some y) e h (inl same) rest there =
        inr (subst (λ (z : Batch). key_lt z.key m.key ≡ true) (sym same) (all-among (λ z. key_lt b.key z.key ≡ true) batches m rise.0 (there (e ∙ h))))
    by (Some y) e h (inr k) rest there = rest (e ∙ h) x k

-- the greatest version is that of the last batch
abbrev pub version_of : Option Batch → ℕ
version_of None = 0
version_of (Some b) = b.key.version

tree : RunId → List Batch → TreeValue
tree run batches = record { run = run; batches = batches }

joined : (i j : RunId) (xs ys : List Batch) → i ≡ j → xs ≡ ys → tree i xs ≡ tree j ys
joined i j xs ys p q = cc

joined-run : (r : TreeValue) (run : RunId) (batches : List Batch) → r.run ≡ run → r.batches ≡ batches → r ≡ tree run batches
unfolding tree
joined-run r run batches p q = joined r.run run r.batches batches p q

run-is : (r : TreeValue) (run : RunId) (batches : List Batch) → r.run ≡ run → r.batches ≡ part_of run batches → r ≡ run_in batches run
unfolding tree
run-is r run batches p q = joined-run r run (part_of run batches) p q

module _ (batches : List Batch) (sound : IsSound batches) where
  -- the tip of the workflow is its last batch
  pub tip-is-last : workflow_tip batches ≡ last_batch batches
  tip-is-last = by (last_batch batches) refl
    where
      by : (o : Option Batch) → last_batch batches ≡ o → workflow_tip batches ≡ last_batch batches
      by None e = ap workflow_tip (none-last batches e) ∙ sym (ap last_batch (none-last batches e))
      by (Some m) e =
          workflow_is_greatest batches sound.set sound.closed sound.parents sound.chains
          ∙ greatest-of batches m (last-among batches m e) (last-above batches m sound.set.ordered e) ∙ sym e

  pub last-has : (m : Batch) → last_batch batches ≡ Some m → Has batches m
  last-has m e = among-has batches m sound.set.ordered (last-among batches m e)

  -- it is the tip of its run
  pub last-current : (m : Batch) → last_batch batches ≡ Some m → current_tip m.run batches ≡ Some m
  last-current m e = current-greatest batches sound.set sound.closed sound.parents sound.chains m.run m
      (record { has = last-has m e; mine = refl; top = λ x has own. last-above batches m sound.set.ordered e x (has-among batches x has) })

  -- the state of its run's part is the workflow's
  pub last-state : (m : Batch) → last_batch batches ≡ Some m → current_state m.run (part_of m.run batches) ≡ state_to m.run m.key batches
  last-state m e = ap (λ o. state_at m.run o (part_of m.run batches)) (part-tip batches sound m.run ∙ last-current m e) ∙ part-state batches sound m.run m (last-has m e) refl

  -- the run of a batch has its part
  pub run-there : (runs : List TreeValue) → ((run : RunId) → batches_of (run_at run runs) ≡ part_of run batches) → (b : Batch) → Has batches b → run_at b.run runs ≡ Some (run_in batches b.run)
  run-there runs parts b has = by (run_at b.run runs) refl
    where
      mine : Has (part_of b.run batches) b
      mine = has-part batches sound b.run b has refl

      by : (o : Option TreeValue) → run_at b.run runs ≡ o → run_at b.run runs ≡ Some (run_in batches b.run)
      by None e =
          let empty : part_of b.run batches ≡ [] = sym (parts b.run) ∙ ap batches_of e in
          let no : Has [] b = subst (λ (l : List Batch). Has l b) empty mine in absurd (cc)
      by (Some r) e =
          let own : r.run ≡ b.run = found-run b.run runs r e in
          let all : r.batches ≡ part_of b.run batches = sym (ap batches_of e) ∙ parts b.run in
          e ∙ ap Some (run-is r b.run batches own all)

  -- where the runs are the parts: what the place of a key gives
  pub place-run : (runs : List TreeValue) → ((run : RunId) → batches_of (run_at run runs) ≡ part_of run batches) → (key : BatchKey) (run : RunId) → place_at key (places_of batches) ≡ Some run
      → run_at run runs ≡ option_map (λ b. run_in batches b.run) (batch_at key batches)
  place-run runs parts key run h = by (batch_at key batches) refl (sym (place-batch key batches) ∙ h)
    where
      by : (o : Option Batch) → batch_at key batches ≡ o → option_map (λ b. b.run) o ≡ Some run → run_at run runs ≡ option_map (λ b. run_in batches b.run) (batch_at key batches)
      by None at e = absurd (cc)
      by (Some b) at e =
          let own : b.run ≡ run = cc in
          ap (λ i. run_at i runs) (sym own) ∙ run-there runs parts b (found-has batches key b at) ∙ sym (ap (option_map (λ x. run_in batches x.run)) at)

-- the batch of a key in the run that has it
pub at-part : (batches : List Batch) → IsSound batches → (key : BatchKey) (b : Batch) → batch_at key batches ≡ Some b → batch_at key (part_of b.run batches) ≡ Some b
at-part batches sound key b at = found-part batches sound b.run key b at refl

-- the greatest version is that of the last batch
version-up : (batches : List Batch) → Rise batches → greatest_version batches ≡ version_of (last_batch batches)
version-up [] rise = refl
version-up (b ∷ batches) rise = by (last_batch batches) refl (version-up batches rise.1)
  where
    by : (o : Option Batch) → last_batch batches ≡ o → greatest_version batches ≡ version_of (last_batch batches) → max b.key.version (greatest_version batches) ≡ version_of (option_or o (Some b))
    by None e h = ap (max b.key.version) (h ∙ ap version_of e) ∙ bottom b.key.version
      where
        bottom : (n : ℕ) → max n 0 ≡ n
        bottom n = omega arith
    by (Some m) e h =
        ap (max b.key.version) (h ∙ ap version_of e) ∙ over (before-parts b.key m.key (all-among (λ z. key_lt b.key z.key ≡ true) batches m rise.0 (last-among batches m e)))
      where
        over : IsBefore b.key m.key → max b.key.version m.key.version ≡ m.key.version
        over (inl l) = omega (arith, l)
        over (inr p) = omega (arith, p.0)

pub version-of-last : (batches : List Batch) (m : Batch) → Rise batches → last_batch batches ≡ Some m → greatest_version batches ≡ m.key.version
version-of-last batches m rise e = version-up batches rise ∙ ap version_of e

pub no-version : (batches : List Batch) → last_batch batches ≡ None → greatest_version batches ≡ 0
no-version batches e = ap greatest_version (none-last batches e)

-- a batch that was not there and leaves a sound set has no fault
pub new-faultless : (b : Batch) (batches : List Batch) → IsSound batches → IsSound (arrived b batches) → batch_at b.key batches ≡ None → fault_of b ≡ None
new-faultless b batches before after none = after.faultless b (is_there b batches before.set.ordered none)
