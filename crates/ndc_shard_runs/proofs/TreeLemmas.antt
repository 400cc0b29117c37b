-- The batches of a run among those of a sound set are a tree.
use Rattle.std.proofs.Common.{◌≡◌, ◌<◌, ◌≤◌, true, List, [], ◌∷◌, ◌⊎◌, inl, inr, Option, Some, None, refl, sym, ◌∙◌, subst, ap, arith}
use Rattle.std.specs.Prelude.{is_some}
use Rattle.ndc_event.specs.Key.{key_lt}
use Rattle.ndc_event.specs.declared.batch.Batch.{Batch}
use Rattle.ndc_event.specs.declared.key.BatchKey.{BatchKey}
use Rattle.ndc_event.specs.declared.key.RunId.{RunId}
use Rattle.ndc_model_sets.specs.Learned.{has_key}
use Rattle.ndc_model_sets.specs.Paths.{IsPath, first, below, path_to}
use Rattle.ndc_model_sets.specs.Sets.{earlier_of, PointsBack, IsSet, batch_at, Has}
use Rattle.ndc_model_sets.specs.Sound.{IsSound}
use Rattle.ndc_model_sets.proofs.BranchLemmas.{has-among}
use Rattle.ndc_model_sets.proofs.ForkLemmas.{among-cases}
use Rattle.ndc_model_sets.proofs.KeyLemmas.{IsBefore, before-parts, before-trans}
use Rattle.ndc_model_sets.proofs.Lists.{Among}
use Rattle.ndc_model_sets.proofs.PathLemmas.{parent-back, path_is, path-below, path-first}
use Rattle.ndc_model_sets.proofs.SetLemmas.{found-all, found-has, found-key, has-found}
use Rattle.ndc_tree.specs.Tree.{IsNextOfVersion, IsTree}
use Rattle.ndc_tree.proofs.PathLemmas.{there}
use Rattle.ndc_shard_runs.specs.RunMap.{part_of}
use Rattle.ndc_shard_runs.proofs.PartLemmas.{found-part, part-has, part-set}

-- what stands on a path is its batch, or comes before it
path-up : (batches : List Batch) (m x : Batch) (path : List Batch) → IsSet batches → IsPath batches m path → Among x path → (x ≡ m) ⊎ (key_lt x.key m.key ≡ true)
path-up batches m x path set (first _ has e) (inl same) = inl same
path-up batches m x path set (first _ has e) (inr h) = absurd h
path-up batches m x path set (below _ before key up has e at r) among = by (among-cases x up (m ∷ []) among) (λ h. path-up batches before x up set r h)
  where
    over : key_lt before.key m.key ≡ true
    over = subst (λ (k : BatchKey). key_lt k m.key ≡ true) (sym (found-key batches key before at)) (parent-back m (found-all PointsBack batches m.key m set.back has) key e)

    step : (x ≡ before) ⊎ (key_lt x.key before.key ≡ true) → (x ≡ m) ⊎ (key_lt x.key m.key ≡ true)
    step (inl same) = inr (subst (λ (y : Batch). key_lt y.key m.key ≡ true) (sym same) over)
    step (inr l) = inr (before-trans x.key before.key m.key l over)

    by : Among x up ⊎ Among x (m ∷ []) → (Among x up → (x ≡ before) ⊎ (key_lt x.key before.key ≡ true)) → (x ≡ m) ⊎ (key_lt x.key m.key ≡ true)
    by (inl h) rest = step (rest h)
    by (inr (inl same)) rest = inl same
    by (inr (inr h)) rest = absurd h

module _ (batches : List Batch) (sound : IsSound batches) where
  -- a parent is there, and comes before its child
  pub parent-found : (b : Batch) (key : BatchKey) → Has batches b → b.parent ≡ Some key → (before : Batch) × (batch_at key batches ≡ Some before)
  parent-found b key has e = there (batch_at key batches) (sym (ap (λ o. has_key o batches) (ap (λ p. earlier_of p b.carrier) e)) ∙ sound.closed b has)

  -- of two batches of one version of a run, the one with the greater task hangs below one of that version, and none stands between
  pub next-of-version : (one two : Batch) → Has batches one → Has batches two → one.run ≡ two.run → one.key.version ≡ two.key.version → one.key.task < two.key.task → IsNextOfVersion one two
  next-of-version one two has other run version less = by two.parent refl
    where
      on : Among one (path_to two.key batches)
      on = has-among (path_to two.key batches) one (sound.chains one two has other run version less)

      apart : one ≡ two → ⊥
      apart same = let t = ap (λ (b : Batch). b.key.task) same in omega (arith, t, less)

      behind : (key : BatchKey) → two.parent ≡ Some key → IsBefore key two.key
      behind key e = before-parts key two.key (parent-back two (found-all PointsBack batches two.key two sound.set.back other) key e)

      up-to : (key : BatchKey) → IsBefore key two.key → key.version ≤ two.key.version
      up-to key (inl l) = omega (arith, l)
      up-to key (inr m) = omega (arith, m.0)

      below_it : (key : BatchKey) (p : Batch) → two.parent ≡ Some key → p.key ≡ key → (one ≡ p) ⊎ (key_lt one.key p.key ≡ true) → IsNextOfVersion one two
      below_it key p e own (inl same) =
          let k : one.key ≡ key = ap (λ (b : Batch). b.key) same ∙ own in
          record { parent = key; named = e; version = ap (λ (x : BatchKey). x.version) (sym k) ∙ version; next = let t = ap (λ (x : BatchKey). x.task) k in omega (arith, t) }
      below_it key p e own (inr l) = parts (before-parts one.key key (subst (λ (k : BatchKey). key_lt one.key k ≡ true) own l))
        where
          parts : IsBefore one.key key → IsNextOfVersion one two
          parts (inl v) = absurd (omega (arith, v, version, up-to key (behind key e)))
          parts (inr t) = record { parent = key; named = e; version = sym t.0 ∙ version; next = omega (arith, t.1) }

      from : (key : BatchKey) → two.parent ≡ Some key → Among one (path_to key batches) ⊎ Among one (two ∷ []) → IsNextOfVersion one two
      from key e (inl h) =
          let p = parent-found two key other e in
          let own = found-key batches key p.0 p.1 in
          below_it key p.0 e own
          (path-up batches p.0 one (path_to p.0.key batches) sound.set (path_is batches p.0 sound.set sound.closed (found-has batches key p.0 p.1))
          (subst (λ (k : BatchKey). Among one (path_to k batches)) (sym own) h))
      from key e (inr (inl same)) = absurd (apart same)
      from key e (inr (inr h)) = absurd h

      alone : Among one (two ∷ []) → IsNextOfVersion one two
      alone (inl same) = absurd (apart same)
      alone (inr h) = absurd h

      by : (o : Option BatchKey) → two.parent ≡ o → IsNextOfVersion one two
      by None e = alone (subst (Among one) (path-first batches two sound.set other e) on)
      by (Some key) e = from key e (among-cases one (path_to key batches) (two ∷ []) (subst (Among one) (path-below batches two key sound.set other e) on))

  -- a run's batches are a tree
  pub part-is-tree : (run : RunId) → IsTree run (part_of run batches)
  part-is-tree run = record {
    set = part-set batches sound run;
    faultless = λ b has. sound.faultless b (part-has batches sound run b has).0;
    closed = λ b has. parent-there b (part-has batches sound run b has) b.parent refl;
    runs = λ b has. (part-has batches sound run b has).1;
    parents = λ b before key has e at. sound.parents b before key (part-has batches sound run b has).0 e (whole key before at);
    follow = λ one two has other version less.
        let p = part-has batches sound run one has in
        let q = part-has batches sound run two other in
        next-of-version one two p.0 q.0 (p.1 ∙ sym q.1) version less;
  }
    where
      whole : (key : BatchKey) (b : Batch) → batch_at key (part_of run batches) ≡ Some b → batch_at key batches ≡ Some b
      whole key b at = has-found batches key b (found-key (part_of run batches) key b at) (part-has batches sound run b (found-has (part_of run batches) key b at)).0

      parent-there : (b : Batch) → Has batches b × (b.run ≡ run) → (o : Option BatchKey) → b.parent ≡ o → has_key o (part_of run batches) ≡ true
      parent-there b own None e = refl
      parent-there b own (Some key) e =
          let p = parent-found b key own.0 e in
          ap is_some (found-part batches sound run key p.0 p.1 ((sound.parents b p.0 key own.0 e p.1).run ∙ own.1))
