-- A batch that comes next leaves a sound set exactly where it fits.
use Rattle.std.proofs.Common.{◌≡◌, ◌<◌, ◌^◌, List, ◌⊎◌, inl, inr, Some, None, Result, Ok, Err, IsOk, refl, sym, ◌∙◌, subst, ap}
use Rattle.ndc_event.specs.Outcome.{◌>>=◌}
use Rattle.ndc_event.specs.declared.batch.Batch.{Batch}
use Rattle.ndc_event.specs.declared.key.BatchKey.{BatchKey}
use Rattle.ndc_model_cells.specs.Writing.{greatest_task}
use Rattle.ndc_model_sets.specs.Branches.{current_tip}
use Rattle.ndc_model_sets.specs.Learned.{has_key, IsPart}
use Rattle.ndc_model_sets.specs.Origins.{origins_in}
use Rattle.ndc_model_sets.specs.Paths.{events_to, path_to}
use Rattle.ndc_model_sets.specs.Sets.{arrived, batch_at, Has}
use Rattle.ndc_model_sets.specs.Sound.{IsParentFit, IsSound, VersionsAreChains}
use Rattle.ndc_model_sets.specs.Writing.{CopiesFitWith}
use Rattle.ndc_model_sets.proofs.ArrivalLemmas.{is_there, stays, was_or_new}
use Rattle.ndc_model_sets.proofs.PathLemmas.{one-path, path_is, path-more}
use Rattle.ndc_model_sets.proofs.SetLemmas.{found-has, found-key, has-found}
use Rattle.ndc_model_sets.proofs.SoundLemmas.{all-carriers, all-copies, all-faultless, all-origins, all-parents, all-replay, new-closed, new-set, new-there, old-path, which}
use Rattle.ndc_model_sets.proofs.ViewLaws.{replay-signals}
use Rattle.ndc_run.specs.Learning.{learned, of_state_error, of_tree_error, or_error, passes_by}
use Rattle.ndc_run.specs.declared.answer.Learned.TheVariants.{New}
use Rattle.ndc_run.proofs.LearnLemmas.{taken_by_tree}
use Rattle.ndc_state.specs.Laws.{AreApart}
use Rattle.ndc_state.specs.Replay.{history_of, replay_of}
use Rattle.ndc_state.specs.Value.{StateValue, new_state}
use Rattle.ndc_state.specs.declared.rule.StateError.{StateError}
use Rattle.ndc_state.proofs.LawProofs.{origins_apart}
use Rattle.ndc_tree.specs.Inserting.{inserted}
use Rattle.ndc_tree.specs.Tree.{IsTree, Joins}
use Rattle.ndc_tree.specs.declared.answer.Inserted.{Inserted}
use Rattle.ndc_tree.specs.declared.answer.TreeError.{TreeError}
use Rattle.ndc_tree.proofs.FitLemmas.{taken_joins}
use Rattle.ndc_tree.proofs.GrowLemmas.{grown_is_tree}
use Rattle.ndc_tree.proofs.PathLemmas.{there, versions_are_chains, path_is as tree-path}
use Rattle.ndc_shard_runs.specs.Fitting.{ComesNext, Fits, IsCarrierFit}
use Rattle.ndc_shard_runs.specs.RunMap.{part_of}
use Rattle.ndc_shard_runs.proofs.PartLemmas.{has-part, part-has}
use Rattle.ndc_shard_runs.proofs.TakenLemmas.{taken-small}
use Rattle.ndc_shard_runs.proofs.TreeLemmas.{part-is-tree}

module _ (batches : List Batch) (b : Batch) (sound : IsSound batches) (next : ComesNext batches b) (taken : IsOk (learned b.run (part_of b.run batches) b)) where
  joins : Joins b.run (part_of b.run batches) b
  joins = taken_joins b.run (part_of b.run batches) b (part-is-tree batches sound b.run) next.faultless (taken_by_tree b.run (part_of b.run batches) b taken)

  -- its run with it is a tree
  pub tree : IsTree b.run (arrived b (part_of b.run batches))
  tree = grown_is_tree b.run (part_of b.run batches) b (part-is-tree batches sound b.run) joins

  within : IsPart (arrived b (part_of b.run batches)) (arrived b batches)
  within x has = by (was_or_new b (part_of b.run batches) x (part-is-tree batches sound b.run).set.ordered has)
    where
      by : (x ≡ b) ⊎ Has (part_of b.run batches) x → Has (arrived b batches) x
      by (inl same) = subst (Has (arrived b batches)) (sym same) (new-there batches b sound next.fresh next.faultless next.reached)
      by (inr h) = stays b batches sound.set.ordered x (part-has batches sound b.run x h).0

  pub itself : Has (arrived b (part_of b.run batches)) b
  itself = is_there b (part_of b.run batches) (part-is-tree batches sound b.run).set.ordered joins.fresh

  pub others : (x : Batch) → Has batches x → x.run ≡ b.run → Has (arrived b (part_of b.run batches)) x
  others x has own = stays b (part_of b.run batches) (part-is-tree batches sound b.run).set.ordered x (has-part batches sound b.run x has own)

  -- and its paths are the set's
  same-path : (x : Batch) → Has (arrived b (part_of b.run batches)) x → path_to x.key (arrived b (part_of b.run batches)) ≡ path_to x.key (arrived b batches)
  same-path x has =
      one-path (arrived b batches) x (path_to x.key (arrived b (part_of b.run batches))) (path_to x.key (arrived b batches))
      (path-more (arrived b (part_of b.run batches)) (arrived b batches) x (path_to x.key (arrived b (part_of b.run batches))) within
      (tree-path b.run (arrived b (part_of b.run batches)) tree x has))
      (path_is (arrived b batches) x (new-set batches b sound next.fresh next.faultless next.reached) (new-closed batches b sound next.fresh next.faultless next.reached) (within x has))

  all-chains : VersionsAreChains (arrived b batches)
  all-chains one two has other run version less =
      by (which batches b sound next.fresh next.faultless next.reached one has) (which batches b sound next.fresh next.faultless next.reached two other)
    where
      in-run : Has (arrived b (part_of b.run batches)) one → Has (arrived b (part_of b.run batches)) two → Has (path_to two.key (arrived b batches)) one
      in-run h k =
          subst (λ (l : List Batch). Has l one) (same-path two k) (versions_are_chains b.run (arrived b (part_of b.run batches)) tree one two h k run version less)

      is-itself : (x : Batch) → x ≡ b → Has (arrived b (part_of b.run batches)) x
      is-itself x same = subst (Has (arrived b (part_of b.run batches))) (sym same) itself

      by : (one ≡ b) ⊎ Has batches one → (two ≡ b) ⊎ Has batches two → Has (path_to two.key (arrived b batches)) one
      by (inl s) (inl t) = in-run (is-itself one s) (is-itself two t)
      by (inl s) (inr k) = in-run (is-itself one s) (others two k (sym run ∙ ap (λ (x : Batch). x.run) s))
      by (inr h) (inl t) = in-run (others one h (run ∙ ap (λ (x : Batch). x.run) t)) (is-itself two t)
      by (inr h) (inr k) =
          subst (λ (l : List Batch). Has l one) (sym (old-path batches b sound next.fresh next.faultless next.reached two k)) (sound.chains one two h k run version less)

  parent-fits : (before : Batch) (key : BatchKey) → b.parent ≡ Some key → batch_at key batches ≡ Some before → IsParentFit before b
  parent-fits before key e at =
      let c = there (batch_at key (part_of b.run batches)) (sym (ap (λ o. has_key o (part_of b.run batches)) e) ∙ joins.reached) in
      let p = part-has batches sound b.run c.0 (found-has (part_of b.run batches) key c.0 c.1) in
      let found : batch_at key batches ≡ Some c.0 = has-found batches key c.0 (found-key (part_of b.run batches) key c.0 c.1) p.0 in
      let same : c.0 ≡ before = cc in
      subst (λ (x : Batch). IsParentFit x b) same (record { run = p.1; ids = joins.ids c.0 key e c.1 })

  replayed : IsOk (replay_of b.run (events_to b.key (arrived b batches)))
  replayed =
      subst (λ (l : List Batch). IsOk (replay_of b.run (history_of l))) (same-path b itself)
      (by (inserted b.run (part_of b.run batches) b) (replay_of b.run (events_to b.key (arrived b (part_of b.run batches)))) taken)
    where
      by : (r : Result Inserted TreeError) (s : Result StateValue StateError)
          → IsOk (or_error of_tree_error r >>= (λ place. or_error of_state_error s >>= (λ after. Ok (New (passes_by b (current_tip b.run (part_of b.run batches))))))) → IsOk s
      by (Ok place) (Ok after) ok = refl
      by (Ok place) (Err e) ok = absurd (cc)
      by (Err e) s ok = absurd (cc)

  origins-apart : AreApart (origins_in b.run (events_to b.key (arrived b batches)))
  origins-apart = by (replay_of b.run (events_to b.key (arrived b batches))) refl replayed
    where
      by : (r : Result StateValue StateError) → replay_of b.run (events_to b.key (arrived b batches)) ≡ r → IsOk r → AreApart (origins_in b.run (events_to b.key (arrived b batches)))
      by (Ok after) e ok =
          let events = events_to b.key (arrived b batches) in
          subst AreApart (replay-signals (new_state b.run) after events e) (origins_apart b.run events after e)
      by (Err error) e ok = absurd (cc)

  pub taken-is-sound : CopiesFitWith batches b → IsCarrierFit batches b → IsSound (arrived b batches)
  taken-is-sound copies carrier = record {
    set = new-set batches b sound next.fresh next.faultless next.reached;
    closed = new-closed batches b sound next.fresh next.faultless next.reached;
    faultless = all-faultless batches b sound next.fresh next.faultless next.reached;
    parents = all-parents batches b sound next.fresh next.faultless next.reached parent-fits;
    chains = all-chains;
    origins = all-origins batches b sound next.fresh next.faultless next.reached origins-apart;
    copies = all-copies batches b sound next.fresh next.faultless next.reached copies;
    replays = all-replay batches b sound next.fresh next.faultless next.reached replayed;
    carriers = all-carriers batches b sound next.fresh next.faultless next.reached carrier;
  }

pub fit-is-sound : (batches : List Batch) (b : Batch) → IsSound batches → ComesNext batches b → Fits batches b → IsSound (arrived b batches)
fit-is-sound batches b sound next fits = taken-is-sound batches b sound next fits.taken fits.copies fits.carrier

-- and what leaves a sound set fits
pub sound-is-fit : (batches : List Batch) (b : Batch) → IsSound batches → IsSound (arrived b batches) → batch_at b.key batches ≡ None → greatest_task batches < 2 ^ 64 → b.key.task < 2 ^ 64 → Fits batches b
sound-is-fit batches b sound after none most own = record {
  taken = taken-small batches b sound after none most own;
  copies = record {
    own = after.copies b b itself-there itself-there;
    others = λ x has. record { mine = after.copies b x itself-there (stay x has); theirs = after.copies x b (stay x has) itself-there };
  };
  carrier = λ carrier key e at.
      after.carriers b carrier key itself-there e
      (has-found (arrived b batches) key carrier (found-key batches key carrier at) (stay carrier (found-has batches key carrier at)));
}
  where
    itself-there : Has (arrived b batches) b
    itself-there = is_there b batches sound.set.ordered none

    stay : (x : Batch) → Has batches x → Has (arrived b batches) x
    stay x has = stays b batches sound.set.ordered x has
