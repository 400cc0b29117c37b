-- What the version histories of two paths of one run have in common.
use Rattle.std.proofs.Common.{◌≡◌, ℕ, ◌<◌, ◌≤◌, true, ◌==◌, List, [], ◌∷◌, ◌++◌, ◌⊎◌, inl, inr, Option, Some, None, refl, sym, ◌∙◌, subst, ap, arith}
use Rattle.std.proofs.lemmas.Bool.{eq-eqb, cases_lt}
use Rattle.ndc_event.specs.declared.batch.Batch.{Batch}
use Rattle.ndc_event.specs.declared.batch.Event.{Event}
use Rattle.ndc_history.specs.Common.{id_of, common_of}
use Rattle.ndc_state.specs.Replay.{history_of}
use Rattle.ndc_model_sets.specs.Sets.{Rise, Has}
use Rattle.ndc_model_sets.specs.Paths.{IsPath, path_to, events_to, GoApart, versions_of, last_id_of, later_id, last_item_of}
use Rattle.ndc_model_sets.specs.Sound.{IsSound}
use Rattle.ndc_model_sets.proofs.KeyLemmas.{key-parts}
use Rattle.ndc_model_sets.proofs.Lists.{Among}
use Rattle.ndc_model_sets.proofs.PathLemmas.{path_is, one-path}
use Rattle.ndc_model_sets.proofs.BranchLemmas.{has-among, same-batch}
use Rattle.ndc_model_sets.proofs.PathIds.{AreEventsTo, path-events, history-append}
use Rattle.ndc_model_sets.proofs.HistoryLemmas.{versions-rise, versions-ids}
use Rattle.ndc_model_sets.proofs.CommonLemmas.{NotBoth, common-none, common-front}
use Rattle.ndc_model_sets.proofs.ForkLemmas.{comes-to, path-run, path-rises, not-twice, shared-front, apart-once, fork, version-batch, among-left, among-right}

module _ (batches : List Batch) (sound : IsSound batches) (a b : Batch) (one two : List Batch) (to_a : IsPath batches a one) (to_b : IsPath batches b two)
    (runs : a.run ≡ b.run) (front rest other : List Batch) (one_is : one ≡ front ++ rest) (two_is : two ≡ front ++ other) (apart : GoApart rest other) where
  in-one : (c : Batch) → Among c rest → Among c one
  in-one c h = subst (λ (l : List Batch). Among c l) (sym one_is) (among-right c front rest h)

  in-two : (c : Batch) → Among c other → Among c two
  in-two c h = subst (λ (l : List Batch). Among c l) (sym two_is) (among-right c front other h)

  -- a batch on both paths stands in the prefix
  pub on-both : (c : Batch) → Among c one → Among c two → Among c front
  on-both c h k =
      let s = comes-to batches a c one to_a h in
      let t = comes-to batches b c two to_b k in
      let same : s.front ++ c ∷ [] ≡ t.front ++ c ∷ [] = one-path batches c (s.front ++ c ∷ []) (t.front ++ c ∷ []) s.path_is t.path_is in
      let first : front ++ rest ≡ (s.front ++ c ∷ []) ++ s.rest = sym one_is ∙ s.whole in
      let second : front ++ other ≡ (s.front ++ c ∷ []) ++ t.rest = sym two_is ∙ t.whole ∙ ap (λ l. l ++ t.rest) (sym same) in
      let m = shared-front front rest other (s.front ++ c ∷ []) s.rest t.rest first second apart in
      subst (λ (l : List Batch). Among c l) (sym m.1) (among-left c (s.front ++ c ∷ []) m.0 (among-right c s.front (c ∷ []) (inl refl)))

  -- no batch after the prefix stands on both
  one-alone : (c : Batch) → Among c rest → Among c two → ⊥
  one-alone c h k = not-twice front rest c (subst Rise one_is (path-rises batches a one sound.set to_a).0) (on-both c (in-one c h) k) h

  two-alone : (c : Batch) → Among c other → Among c one → ⊥
  two-alone c h k = not-twice front other c (subst Rise two_is (path-rises batches b two sound.set to_b).0) (on-both c k (in-two c h)) h

  -- an ancestor of a batch of a path is on the path
  ancestor-on : (d : Batch) (path : List Batch) (end c : Batch) → IsPath batches end path → Among d path → Has (path_to d.key batches) c → Among c path
  ancestor-on d path end c to h on =
      let t = comes-to batches end d path to h in
      let has : Has batches d = (path-run batches end d path sound.parents to h).0 in
      let same : path_to d.key batches ≡ t.front ++ d ∷ [] = one-path batches d (path_to d.key batches) (t.front ++ d ∷ []) (path_is batches d sound.set sound.closed has) t.path_is in
      subst (λ (l : List Batch). Among c l) (sym t.whole)
      (among-left c (t.front ++ d ∷ []) t.rest (has-among (t.front ++ d ∷ []) c (subst (λ (l : List Batch). Has l c) same on)))

  -- after the prefix the paths share no version
  pub no-version-shared : (version : ℕ) → NotBoth (last_id_of version (history_of rest)) (last_id_of version (history_of other))
  no-version-shared version = by (last_id_of version (history_of rest)) refl (last_id_of version (history_of other)) refl
    where
      clash : (c d : Batch) → Among c rest → c.key.version ≡ version → Among d other → d.key.version ≡ version → ⊥
      clash c d h v k w = order (cases_lt c.key.task d.key.task) (cases_lt d.key.task c.key.task)
        where
          p : Has batches c × (c.run ≡ a.run)
          p = path-run batches a c one sound.parents to_a (in-one c h)

          q : Has batches d × (d.run ≡ b.run)
          q = path-run batches b d two sound.parents to_b (in-two d k)

          same_run : c.run ≡ d.run
          same_run = p.1 ∙ runs ∙ sym q.1

          order : (c.key.task < d.key.task) ⊎ (d.key.task ≤ c.key.task) → (d.key.task < c.key.task) ⊎ (c.key.task ≤ d.key.task) → ⊥
          order (inl l) _ = one-alone c h (ancestor-on d two b c to_b (in-two d k) (sound.chains c d p.0 q.0 same_run (v ∙ sym w) l))
          order _ (inl l) = two-alone d k (ancestor-on c one a d to_a (in-one c h) (sound.chains d c q.0 p.0 (sym same_run) (w ∙ sym v) l))
          order (inr l) (inr m) =
              let task : c.key.task ≡ d.key.task = omega arith in
              let one_batch : c ≡ d = same-batch batches c d p.0 q.0 (key-parts c.key d.key (v ∙ sym w) task) in
              one-alone c h (in-two c (subst (λ (x : Batch). Among x other) (sym one_batch) k))

      by : (o : Option ℕ) → last_id_of version (history_of rest) ≡ o → (p : Option ℕ) → last_id_of version (history_of other) ≡ p
          → NotBoth (last_id_of version (history_of rest)) (last_id_of version (history_of other))
      by None e _ f = inl e
      by (Some i) e None f = inr f
      by (Some i) e (Some j) f =
          let s = version-batch batches rest version i sound.faultless (λ c h. (path-run batches a c one sound.parents to_a (in-one c h)).0) e in
          let t = version-batch batches other version j sound.faultless (λ c h. (path-run batches b c two sound.parents to_b (in-two c h)).0) f in
          absurd (clash s.0 t.0 s.1 s.2 t.1 t.2)

  events-one : AreEventsTo a (history_of front ++ history_of rest)
  events-one = subst (AreEventsTo a) (ap history_of one_is ∙ history-append front rest) (path-events batches a one sound.faultless sound.parents to_a)

  events-two : AreEventsTo b (history_of front ++ history_of other)
  events-two = subst (AreEventsTo b) (ap history_of two_is ∙ history-append front other) (path-events batches b two sound.faultless sound.parents to_b)

  -- the common item is that of the last event of the prefix
  pub common-batches : common_of (versions_of (history_of one)) (versions_of (history_of two)) ≡ last_item_of (history_of front)
  common-batches =
      ap (λ (l : List Event). common_of (versions_of l) (versions_of (history_of two))) (ap history_of one_is ∙ history-append front rest)
      ∙ ap (λ (l : List Event). common_of (versions_of (history_of front ++ history_of rest)) (versions_of l)) (ap history_of two_is ∙ history-append front other)
      ∙ by (history_of front) events-one events-two
    where
      by : (events : List Event) → AreEventsTo a (events ++ history_of rest) → AreEventsTo b (events ++ history_of other)
          → common_of (versions_of (events ++ history_of rest)) (versions_of (events ++ history_of other)) ≡ last_item_of events
      by [] s t =
          common-none (versions_of (history_of rest)) (versions_of (history_of other)) (versions-rise 0 0 (history_of rest) s.follow s.climb).0
          (λ v. none v (no-version-shared v))
        where
          none : (v : ℕ) → NotBoth (last_id_of v (history_of rest)) (last_id_of v (history_of other))
              → (id_of v (versions_of (history_of rest)) ≡ None) ⊎ (id_of v (versions_of (history_of other)) ≡ None)
          none v (inl n) = inl (versions-ids v 0 (history_of rest) s.climb ∙ n)
          none v (inr n) = inr (versions-ids v 0 (history_of other) t.climb ∙ n)
      by (e ∷ es) s t = common-front e es (history_of rest) (history_of other) s.climb t.climb s.follow t.follow no-version-shared

  -- after the prefix the events go apart too
  events-apart : GoApart (history_of rest) (history_of other)
  events-apart = by (history_of rest) (history_of other) no-version-shared
    where
      some-id : (e : Event) (es : List Event) → last_id_of e.version (e ∷ es) ≡ None → ⊥
      some-id e es n = step (last_id_of e.version es) n
        where
          step : (o : Option ℕ) → later_id o (e.version == e.version) e.id ≡ None → ⊥
          step (Some i) n = absurd (cc)
          step None n = let t : (e.version == e.version) ≡ true = eq-eqb e.version e.version refl in
              let k : Some e.id ≡ None = sym (ap (λ b. later_id None b e.id) t) ∙ n in absurd (cc)

      by : (xs ys : List Event) → ((v : ℕ) → NotBoth (last_id_of v xs) (last_id_of v ys)) → GoApart xs ys
      by [] ys n = tt
      by (x ∷ xs) [] n = tt
      by (x ∷ xs) (y ∷ ys) n = λ same. clash (n x.version) same
        where
          clash : NotBoth (last_id_of x.version (x ∷ xs)) (last_id_of x.version (y ∷ ys)) → x ≡ y → ⊥
          clash (inl k) same = some-id x xs k
          clash (inr k) same = some-id y ys (subst (λ (e : Event). last_id_of e.version (y ∷ ys) ≡ None) same k)

-- on two paths of one run the common item is the last event of what both begin with
pub common_is_the_last_shared_event : (batches : List Batch) (a b : Batch) (front rest other : List Event) → IsSound batches → Has batches a → Has batches b → a.run ≡ b.run
    → events_to a.key batches ≡ front ++ rest → events_to b.key batches ≡ front ++ other → GoApart rest other
    → common_of (versions_of (events_to a.key batches)) (versions_of (events_to b.key batches)) ≡ last_item_of front
common_is_the_last_shared_event batches a b front rest other sound has_a has_b runs one two apart =
    let to_a : IsPath batches a (path_to a.key batches) = path_is batches a sound.set sound.closed has_a in
    let to_b : IsPath batches b (path_to b.key batches) = path_is batches b sound.set sound.closed has_b in
    let f = fork batches (path_to a.key batches) (path_to b.key batches)
    (λ c h. (path-run batches a c (path_to a.key batches) sound.parents to_a h).0) (λ c h. (path-run batches b c (path_to b.key batches) sound.parents to_b h).0) in
    let same : history_of f.front ≡ front =
    apart-once (history_of f.front) (history_of f.rest) (history_of f.other) front rest other
    (sym (history-append f.front f.rest) ∙ ap history_of (sym f.one_is) ∙ one)
    (sym (history-append f.front f.other) ∙ ap history_of (sym f.two_is) ∙ two)
    (events-apart batches sound a b (path_to a.key batches) (path_to b.key batches) to_a to_b runs f.front f.rest f.other f.one_is f.two_is f.apart) apart in
    common-batches batches sound a b (path_to a.key batches) (path_to b.key batches) to_a to_b runs f.front f.rest f.other f.one_is f.two_is f.apart ∙ ap last_item_of same
