-- What a batch that follows all others settles.
use Rattle.std.proofs.Common.{◌≡◌, Bool, true, false, not, ◌&&◌, ◌||◌, List, [], ◌∷◌, ◌++◌, ◌⊎◌, inl, inr, Option, Some, None, if◌then◌else◌, cond, refl, sym, ◌∙◌, subst, ap, true≢false}
use Rattle.std.proofs.lemmas.List.{append-nil, append_assoc}
use Rattle.std.specs.Prelude.{map, is_none, is_some}
use Rattle.std.specs.List.{filter, list_any, cons_option}
use Rattle.std.specs.Option.{option_or, option_map}
use Rattle.ndc_event.specs.Batch.{fault_of}
use Rattle.ndc_event.specs.Key.{key_lt}
use Rattle.ndc_event.specs.declared.batch.Batch.{Batch}
use Rattle.ndc_event.specs.declared.batch.Event.{Event}
use Rattle.ndc_event.specs.declared.key.BatchKey.{BatchKey}
use Rattle.ndc_event.specs.declared.key.Origin.{Origin}
use Rattle.ndc_event.specs.declared.key.RunId.{RunId}
use Rattle.ndc_reapply.specs.declared.stray.Stray.{Stray}
use Rattle.ndc_reapply.specs.Strays.{origins_of, strays_of}
use Rattle.ndc_reapply.proofs.StrayLemmas.{strays_of-alike}
use Rattle.ndc_state.specs.Origins.{is_among}
use Rattle.ndc_state.specs.Replay.{history_of}
use Rattle.ndc_state.specs.Value.{StateValue}
use Rattle.ndc_model_sets.specs.Branches.{same_run, is_run_of, is_current_run, runs}
use Rattle.ndc_model_sets.specs.Current.{current_state, state_at, state_to, origins_at, settled_by, settled_by_runs, settled, strays}
use Rattle.ndc_model_sets.specs.Learned.{has_key}
use Rattle.ndc_model_sets.specs.Origins.{signal_of, signals_in, origins_in, signals}
use Rattle.ndc_model_sets.specs.Paths.{path_to, events_to}
use Rattle.ndc_model_sets.specs.Sets.{earlier, batch_at, Has, arrived}
use Rattle.ndc_model_sets.specs.Sound.{IsSound}
use Rattle.ndc_model_sets.proofs.ArrivalLemmas.{is_there, stays, was_or_new}
use Rattle.ndc_model_sets.proofs.BranchLemmas.{has-among, among-has, run-same, same-run}
use Rattle.ndc_model_sets.proofs.CurrentLemmas.{path-begins}
use Rattle.ndc_model_sets.proofs.KeyLemmas.{before-irrefl, before-trans, same-keys}
use Rattle.ndc_model_sets.proofs.Lists.{Among, among-filter, among-map, filter-among, map-among, list_any-one}
use Rattle.ndc_model_sets.proofs.PathIds.{history-push}
use Rattle.ndc_model_sets.proofs.PathLemmas.{parent-back, path_is}
use Rattle.ndc_model_sets.proofs.SetLemmas.{found-key, found-has, has-found}
use Rattle.ndc_model_sets.proofs.SoundLemmas.{faultless-back}
use Rattle.ndc_model_sets.proofs.WritePaths.{path_behind_parent, path_of_beginning}
use Rattle.ndc_tree.proofs.LastLemmas.{none-last}
use Rattle.ndc_model_sets.specs.Last.{last_batch, is_nil}
use Rattle.std.proofs.lemmas.Bool.{and_parts}
use Rattle.ndc_model_sets.specs.Keys.{is_key}
use Rattle.ndc_shard_runs.specs.Kept.{is_unlisted, Follows, below, begins, IsIdle, is_idle, follows_with, follows, AreKnown, after_batch}
use Rattle.ndc_shard_runs.specs.RunMap.{part_of}
use Rattle.ndc_shard_runs.specs.Settled.{settled_with}
use Rattle.ndc_shard_runs.proofs.ArrivedLemmas.{arrived-more, filter-arrived}
use Rattle.ndc_shard_runs.proofs.PartLemmas.{has-part}
use Rattle.ndc_shard_runs.proofs.ReadLemmas.{tip-is-last, last-has, last-current, last-above, new-faultless}
use Rattle.ndc_shard_runs.proofs.StrayLemmas.{part-current, current-origins, settles}
use Rattle.ndc_shard_runs.proofs.UnlistedLemmas.{among-both, fewer-strays, settled-behind}

-- what comes after all goes last
arrived-last : (b : Batch) (batches : List Batch) → ((x : Batch) → Among x batches → key_lt x.key b.key ≡ true) → arrived b batches ≡ batches ++ b ∷ []
arrived-last b [] above = refl
arrived-last b (x ∷ xs) above = arrived-more b x xs (above x (inl refl)) ∙ ap (λ l. x ∷ l) (arrived-last b xs (λ y h. above y (inr h)))

last-of : (batches : List Batch) (b : Batch) → last_batch (batches ++ b ∷ []) ≡ Some b
last-of [] b = refl
last-of (x ∷ xs) b = ap (λ o. option_or o (Some x)) (last-of xs b)

signals-last : (batches : List Batch) (b : Batch) → signals (batches ++ b ∷ []) ≡ signals batches ++ signals_in b.run b.events
signals-last [] b = append-nil (signals_in b.run b.events)
signals-last (x ∷ xs) b = ap (λ l. signals_in x.run x.events ++ l) (signals-last xs b) ∙ sym (append_assoc (signals_in x.run x.events) (signals xs) (signals_in b.run b.events))

origins-more : (run : RunId) (one two : List Event) → origins_in run (one ++ two) ≡ origins_in run one ++ origins_in run two
origins-more run [] two = refl
origins-more run (e ∷ es) two = by (signal_of run e.id e.version e.kind) (origins-more run es two)
  where
    by : (o : Option Stray) → origins_in run (es ++ two) ≡ origins_in run es ++ origins_in run two → origins_of (cons_option o (signals_in run (es ++ two))) ≡ origins_of (cons_option o (signals_in run es)) ++ origins_in run two
    by None rest = rest
    by (Some s) rest = ap (λ l. s.origin ∷ l) rest

-- whether one of some runs settles an origin
any-settles : (o : Origin) (list : List RunId) (batches : List Batch) → is_among o (settled_by_runs list batches) ≡ list_any (λ run. is_among o (settled_by run batches)) list
any-settles o [] batches = refl
any-settles o (run ∷ list) batches = among-both o (settled_by run batches) (settled_by_runs list batches) ∙ ap (λ t. is_among o (settled_by run batches) || t) (any-settles o list batches)

any-alike : {X : Type 0} (f g : X → Bool) (xs : List X) → ((x : X) → Among x xs → f x ≡ g x) → list_any f xs ≡ list_any g xs
any-alike f g [] each = refl
any-alike f g (x ∷ xs) each = ap (λ t. t || list_any f xs) (each x (inl refl)) ∙ ap (λ t. g x || t) (any-alike f g xs (λ y h. each y (inr h)))

any-split : {X : Type 0} (f h : X → Bool) (m : Bool) (xs : List X) → list_any (λ x. f x || (h x && m)) xs ≡ (list_any f xs || (list_any h xs && m))
any-split f h m [] = refl
any-split f h m (x ∷ xs) = ap (λ t. (f x || (h x && m)) || t) (any-split f h m xs) ∙ turn (f x) (h x) m (list_any f xs) (list_any h xs)
  where
    turn : (a b m c d : Bool) → ((a || (b && m)) || (c || (d && m))) ≡ ((a || c) || ((b || d) && m))
    turn true b m c d = refl
    turn false true true true d = refl
    turn false true true false d = refl
    turn false true false true true = refl
    turn false true false true false = refl
    turn false true false false true = refl
    turn false true false false false = refl
    turn false false m c d = refl

any-last : {X : Type 0} (f : X → Bool) (xs : List X) (y : X) → list_any f (xs ++ y ∷ []) ≡ (list_any f xs || f y)
any-last f [] y = or-false (f y)
  where
    or-false : (t : Bool) → (t || false) ≡ t
    or-false true = refl
    or-false false = refl
any-last f (x ∷ xs) y = ap (λ t. f x || t) (any-last f xs y) ∙ or-assoc (f x) (list_any f xs) (f y)
  where
    or-assoc : (a b c : Bool) → (a || (b || c)) ≡ ((a || b) || c)
    or-assoc true b c = refl
    or-assoc false b c = refl

runs-below : (batches : List Batch) (b : Batch) → is_none b.parent ≡ false → runs (batches ++ b ∷ []) ≡ runs batches
runs-below [] b e = ap (λ t. map (λ x. x.run) (cond t (b ∷ []) [])) e
runs-below (x ∷ xs) b e = by (is_none x.parent) (runs-below xs b e)
  where
    by : (t : Bool) → runs (xs ++ b ∷ []) ≡ runs xs → map (λ y. y.run) (cond t (x ∷ filter (λ y. is_none y.parent) (xs ++ b ∷ [])) (filter (λ y. is_none y.parent) (xs ++ b ∷ [])))
        ≡ map (λ y. y.run) (cond t (x ∷ filter (λ y. is_none y.parent) xs) (filter (λ y. is_none y.parent) xs))
    by true rest = ap (λ l. x.run ∷ l) rest
    by false rest = rest

runs-begun : (batches : List Batch) (b : Batch) → is_none b.parent ≡ true → runs (batches ++ b ∷ []) ≡ runs batches ++ b.run ∷ []
runs-begun [] b e = ap (λ t. map (λ x. x.run) (cond t (b ∷ []) [])) e
runs-begun (x ∷ xs) b e = by (is_none x.parent) (runs-begun xs b e)
  where
    by : (t : Bool) → runs (xs ++ b ∷ []) ≡ runs xs ++ b.run ∷ [] → map (λ y. y.run) (cond t (x ∷ filter (λ y. is_none y.parent) (xs ++ b ∷ [])) (filter (λ y. is_none y.parent) (xs ++ b ∷ [])))
        ≡ map (λ y. y.run) (cond t (x ∷ filter (λ y. is_none y.parent) xs) (filter (λ y. is_none y.parent) xs)) ++ b.run ∷ []
    by true rest = ap (λ l. x.run ∷ l) rest
    by false rest = rest

-- the run of a batch is one of the workflow
has-run : (batches : List Batch) (b : Batch) → IsSound batches → Has batches b → Among b.run (runs batches)
has-run batches b sound has =
    let start = path-begins batches b (path_to b.key batches) sound.parents (path_is batches b sound.set sound.closed has) in
    subst (λ (r : RunId). Among r (runs batches)) start.3
    (among-map (λ (x : Batch). x.run) (filter (λ x. is_none x.parent) batches) start.0
    (among-filter (λ x. is_none x.parent) batches start.0 (ap is_none start.2) (has-among batches start.0 start.1)))

-- a run of the workflow has a batch
run-has : (batches : List Batch) (run : RunId) → IsSound batches → Among run (runs batches) → (x : Batch) × Has batches x × (x.run ≡ run)
run-has batches run sound h =
    let m = map-among (λ (x : Batch). x.run) (filter (λ x. is_none x.parent) batches) run h in
    (m.0, among-has batches m.0 sound.set.ordered (filter-among (λ x. is_none x.parent) batches m.0 m.1).1, sym m.2)

pub settled-is : (batches : List Batch) (run : RunId) → IsSound batches → settled_by run batches ≡ settled_with (current_state run batches) (is_current_run run batches)
settled-is batches run sound = sym (settles batches sound run) ∙ ap (λ (s : StateValue). settled_with s (is_current_run run batches)) (part-current batches sound run)

or-turn : (a m : Bool) → (a || m) ≡ (m || a)
or-turn true true = refl
or-turn true false = refl
or-turn false true = refl
or-turn false false = refl

pub and-false : (t : Bool) → (t && false) ≡ false
and-false true = refl
and-false false = refl

-- the current run settles the origins of its current branch
settled-own : (batches : List Batch) (m : Batch) → IsSound batches → last_batch batches ≡ Some m → settled_by m.run batches ≡ origins_in m.run (events_to m.key batches)
settled-own batches m sound e =
    settled-is batches m.run sound
    ∙ ap (settled_with (current_state m.run batches)) (ap (is_run_of m.run) (tip-is-last batches sound ∙ e) ∙ same-run m.run m.run refl)
    ∙ ap (λ t. if t then [] else (current_state m.run batches).origins) (and-false (current_state m.run batches).running)
    ∙ current-origins batches sound m.run ∙ ap (λ o. origins_at m.run o batches) (last-current batches sound m e)

module _ (batches : List Batch) (b : Batch) (sound : IsSound batches) (after : IsSound (arrived b batches)) (none : batch_at b.key batches ≡ None)
    (above : (x : Batch) → Has batches x → key_lt x.key b.key ≡ true) where
  behind-all : arrived b batches ≡ batches ++ b ∷ []
  behind-all = arrived-last b batches (λ x h. above x (among-has batches x sound.set.ordered h))

  last-is : last_batch (arrived b batches) ≡ Some b
  last-is = ap last_batch behind-all ∙ last-of batches b

  there : Has (arrived b batches) b
  there = is_there b batches sound.set.ordered none

  faultless : fault_of b ≡ None
  faultless = new-faultless b batches sound after none

  part-other : (run : RunId) → same_run b.run run ≡ false → part_of run (arrived b batches) ≡ part_of run batches
  part-other run e =
      filter-arrived (λ x. same_run x.run run) b batches sound.set.ordered none ∙ ap (λ t. if t then arrived b (part_of run batches) else part_of run batches) e

  state-other : (run : RunId) → same_run b.run run ≡ false → current_state run (arrived b batches) ≡ current_state run batches
  state-other run e = sym (part-current (arrived b batches) after run) ∙ ap (current_state run) (part-other run e) ∙ part-current batches sound run

  -- another run settles what it did, where it was not the current one or is not open
  settled-other : (run : RunId) → same_run b.run run ≡ false → (is_current_run run batches ≡ true → (current_state run batches).running ≡ false)
      → settled_by run (arrived b batches) ≡ settled_by run batches
  settled-other run e idle =
      settled-is (arrived b batches) run after ∙ ap (λ (s : StateValue). settled_with s (is_current_run run (arrived b batches))) (state-other run e)
      ∙ ap (settled_with (current_state run batches)) (ap (is_run_of run) (tip-is-last (arrived b batches) after ∙ last-is) ∙ e)
      ∙ by (is_current_run run batches) refl ∙ sym (settled-is batches run sound)
    where
      by : (t : Bool) → is_current_run run batches ≡ t → settled_with (current_state run batches) false ≡ settled_with (current_state run batches) (is_current_run run batches)
      by false f = ap (settled_with (current_state run batches)) (sym f)
      by true f =
          ap (λ r. if r && true then [] else (current_state run batches).origins) (idle f)
          ∙ sym (ap (λ r. if r && not (is_current_run run batches) then [] else (current_state run batches).origins) (idle f))

  settled-new : settled_by b.run (arrived b batches) ≡ origins_in b.run (events_to b.key (arrived b batches))
  settled-new = settled-own (arrived b batches) b after last-is

  more : List Origin
  more = origins_in b.run b.events

  -- where the batch's origins are settled besides, the strays are those of others
  strays-are : ((o : Origin) → is_among o (settled (arrived b batches)) ≡ (is_among o (origins_in b.run b.events) || is_among o (settled batches)))
      → strays (arrived b batches) ≡ filter (is_unlisted (origins_in b.run b.events)) (strays batches)
  strays-are told =
      ap (λ l. strays_of l (settled (arrived b batches))) (ap signals behind-all ∙ signals-last batches b)
      ∙ settled-behind (signals batches) (signals_in b.run b.events) (settled (arrived b batches)) (λ o h. told o ∙ ap (λ t. t || is_among o (settled batches)) h)
      ∙ strays_of-alike (signals batches) (settled (arrived b batches)) (origins_in b.run b.events ++ settled batches) (λ o. told o ∙ sym (among-both o (origins_in b.run b.events) (settled batches)))
      ∙ fewer-strays (signals batches) (origins_in b.run b.events) (settled batches)

  -- an earlier key that the batch has is one of the others'
  reached : has_key (earlier b) batches ≡ true
  reached = by (earlier b) refl (after.closed b there)
    where
      by : (o : Option BatchKey) → earlier b ≡ o → has_key o (arrived b batches) ≡ true → has_key o batches ≡ true
      by None e h = refl
      by (Some key) e h = found (batch_at key (arrived b batches)) refl h
        where
          before : key_lt key b.key ≡ true
          before = faultless-back b faultless key e

          found : (o : Option Batch) → batch_at key (arrived b batches) ≡ o → is_some o ≡ true → is_some (batch_at key batches) ≡ true
          found None f g = absurd (cc)
          found (Some c) f g = which (was_or_new b batches c sound.set.ordered (found-has (arrived b batches) key c f))
            where
              which : (c ≡ b) ⊎ Has batches c → is_some (batch_at key batches) ≡ true
              which (inl same) =
                  let own : b.key ≡ key = ap (λ (x : Batch). x.key) (sym same) ∙ found-key (arrived b batches) key c f in
                  absurd (before-irrefl b.key (subst (λ (k : BatchKey). key_lt k b.key ≡ true) (sym own) before))
              which (inr has) = ap is_some (has-found batches key c (found-key (arrived b batches) key c f) has)

  -- it goes on from the tip of the workflow
  module _ (tip : Batch) (e : last_batch batches ≡ Some tip) (p : b.parent ≡ Some tip.key) where
    tip-there : Has batches tip
    tip-there = last-has batches sound tip e

    same : tip.run ≡ b.run
    same = (after.parents b tip tip.key there p (stays b batches sound.set.ordered tip tip-there)).run

    events : events_to b.key (arrived b batches) ≡ events_to tip.key batches ++ b.events
    events = ap history_of (path_behind_parent batches b tip sound none faultless reached tip-there p) ∙ history-push (path_to tip.key batches) b

    grown : settled_by b.run (arrived b batches) ≡ settled_by b.run batches ++ origins_in b.run b.events
    grown =
        settled-new ∙ ap (origins_in b.run) events ∙ origins-more b.run (events_to tip.key batches) b.events
        ∙ ap (λ l. l ++ origins_in b.run b.events) (sym (subst (λ (r : RunId). settled_by r batches ≡ origins_in r (events_to tip.key batches)) same (settled-own batches tip sound e)))

    each : (o : Origin) (run : RunId) → Among run (runs batches)
        → is_among o (settled_by run (arrived b batches)) ≡ (is_among o (settled_by run batches) || (same_run b.run run && is_among o (origins_in b.run b.events)))
    each o run h = by (same_run b.run run) refl
      where
        or-false : (t : Bool) → t ≡ (t || false)
        or-false true = refl
        or-false false = refl

        by : (t : Bool) → same_run b.run run ≡ t
            → is_among o (settled_by run (arrived b batches)) ≡ (is_among o (settled_by run batches) || (same_run b.run run && is_among o (origins_in b.run b.events)))
        by true f =
            subst (λ (r : RunId). is_among o (settled_by r (arrived b batches)) ≡ (is_among o (settled_by r batches) || is_among o (origins_in b.run b.events))) (run-same b.run run f)
            (ap (is_among o) grown ∙ among-both o (settled_by b.run batches) (origins_in b.run b.events))
            ∙ ap (λ u. is_among o (settled_by run batches) || (u && is_among o (origins_in b.run b.events))) (sym f)
        by false f =
            ap (is_among o) (settled-other run f (λ c. absurd (true≢false (sym c ∙ ap (is_run_of run) (tip-is-last batches sound ∙ e) ∙ ap (λ (r : RunId). same_run r run) same ∙ f))))
            ∙ or-false (is_among o (settled_by run batches))
            ∙ ap (λ u. is_among o (settled_by run batches) || (u && is_among o (origins_in b.run b.events))) (sym f)

    mine : list_any (λ run. same_run b.run run) (runs batches) ≡ true
    mine = list_any-one (λ run. same_run b.run run) (runs batches) tip.run (has-run batches tip sound tip-there) (same-run b.run tip.run (sym same))

    told-below : (o : Origin) → is_among o (settled (arrived b batches)) ≡ (is_among o (origins_in b.run b.events) || is_among o (settled batches))
    told-below o =
        any-settles o (runs (arrived b batches)) (arrived b batches)
        ∙ ap (list_any (λ run. is_among o (settled_by run (arrived b batches)))) (ap runs behind-all ∙ runs-below batches b (ap is_none p))
        ∙ any-alike (λ run. is_among o (settled_by run (arrived b batches))) (λ run. is_among o (settled_by run batches) || (same_run b.run run && is_among o (origins_in b.run b.events))) (runs batches) (each o)
        ∙ any-split (λ run. is_among o (settled_by run batches)) (λ run. same_run b.run run) (is_among o (origins_in b.run b.events)) (runs batches)
        ∙ ap (λ t. list_any (λ run. is_among o (settled_by run batches)) (runs batches) || (t && is_among o (origins_in b.run b.events))) mine
        ∙ or-turn (list_any (λ run. is_among o (settled_by run batches)) (runs batches)) (is_among o (origins_in b.run b.events))
        ∙ ap (λ t. is_among o (origins_in b.run b.events) || t) (sym (any-settles o (runs batches) batches))

    pub follows-below : strays (arrived b batches) ≡ filter (is_unlisted (origins_in b.run b.events)) (strays batches)
    follows-below = strays-are told-below

  -- it begins a run, and the current one is not open
  module _ (p : b.parent ≡ None) (alone : part_of b.run batches ≡ []) (idle : (tip : Batch) → last_batch batches ≡ Some tip → IsIdle batches tip b.key) where
    begun : settled_by b.run (arrived b batches) ≡ origins_in b.run b.events
    begun =
        settled-new ∙ ap (λ (path : List Batch). origins_in b.run (history_of path)) (path_of_beginning batches b sound none faultless reached p)
        ∙ ap (origins_in b.run) (append-nil b.events)

    other : (run : RunId) → Among run (runs batches) → same_run b.run run ≡ false
    other run h = by (same_run b.run run) refl
      where
        by : (t : Bool) → same_run b.run run ≡ t → same_run b.run run ≡ false
        by false f = f
        by true f =
            let x = run-has batches run sound h in
            let mine : Has (part_of b.run batches) x.0 = has-part batches sound b.run x.0 x.1 (x.2 ∙ sym (run-same b.run run f)) in
            let no : Has [] x.0 = subst (λ (l : List Batch). Has l x.0) alone mine in absurd (cc)

    closed : (run : RunId) → is_current_run run batches ≡ true → (current_state run batches).running ≡ false
    closed run c = by (last_batch batches) refl
      where
        by : (o : Option Batch) → last_batch batches ≡ o → (current_state run batches).running ≡ false
        by None e = absurd (true≢false (sym c ∙ ap (is_run_of run) (tip-is-last batches sound ∙ e)))
        by (Some tip) e =
            let own : tip.run ≡ run = run-same tip.run run (sym (ap (is_run_of run) (tip-is-last batches sound ∙ e)) ∙ c) in
            subst (λ (r : RunId). (current_state r batches).running ≡ false) own
            (ap (λ o. (state_at tip.run o batches).running) (last-current batches sound tip e) ∙ (idle tip e).closed)

    told-begun : (o : Origin) → is_among o (settled (arrived b batches)) ≡ (is_among o (origins_in b.run b.events) || is_among o (settled batches))
    told-begun o =
        any-settles o (runs (arrived b batches)) (arrived b batches)
        ∙ ap (list_any (λ run. is_among o (settled_by run (arrived b batches)))) (ap runs behind-all ∙ runs-begun batches b (ap is_none p))
        ∙ any-last (λ run. is_among o (settled_by run (arrived b batches))) (runs batches) b.run
        ∙ ap (λ t. t || is_among o (settled_by b.run (arrived b batches)))
        (any-alike (λ run. is_among o (settled_by run (arrived b batches))) (λ run. is_among o (settled_by run batches)) (runs batches) (λ run h. ap (is_among o) (settled-other run (other run h) (closed run))))
        ∙ ap (λ l. list_any (λ run. is_among o (settled_by run batches)) (runs batches) || is_among o l) begun
        ∙ or-turn (list_any (λ run. is_among o (settled_by run batches)) (runs batches)) (is_among o (origins_in b.run b.events))
        ∙ ap (λ t. is_among o (origins_in b.run b.events) || t) (sym (any-settles o (runs batches) batches))

    pub follows-begun : strays (arrived b batches) ≡ filter (is_unlisted (origins_in b.run b.events)) (strays batches)
    follows-begun = strays-are told-begun

-- a batch that follows all that is learned comes after each of it
pub above-all : (batches : List Batch) (b : Batch) → IsSound batches → IsSound (arrived b batches) → batch_at b.key batches ≡ None → Follows batches b
    → (x : Batch) → Has batches x → key_lt x.key b.key ≡ true
above-all batches b sound after none (below tip e p) x has = upwards (last-above batches tip sound.set.ordered e x (has-among batches x has))
  where
    before : key_lt tip.key b.key ≡ true
    before = parent-back b (faultless-back b (new-faultless b batches sound after none)) tip.key p

    upwards : (x ≡ tip) ⊎ (key_lt x.key tip.key ≡ true) → key_lt x.key b.key ≡ true
    upwards (inl same) = subst (λ (y : Batch). key_lt y.key b.key ≡ true) (sym same) before
    upwards (inr l) = before-trans x.key tip.key b.key l before
above-all batches b sound after none (begins p alone idle) x has = by (last_batch batches) refl
  where
    by : (o : Option Batch) → last_batch batches ≡ o → key_lt x.key b.key ≡ true
    by None e = let no : Has [] x = subst (λ (l : List Batch). Has l x) (none-last batches e) has in absurd (cc)
    by (Some tip) e = upwards (last-above batches tip sound.set.ordered e x (has-among batches x has))
      where
        upwards : (x ≡ tip) ⊎ (key_lt x.key tip.key ≡ true) → key_lt x.key b.key ≡ true
        upwards (inl same) = subst (λ (y : Batch). key_lt y.key b.key ≡ true) (sym same) (idle tip e).before
        upwards (inr l) = before-trans x.key tip.key b.key l (idle tip e).before

-- and is the last then
pub follows-last : (batches : List Batch) (b : Batch) → IsSound batches → IsSound (arrived b batches) → batch_at b.key batches ≡ None → Follows batches b → last_batch (arrived b batches) ≡ Some b
follows-last batches b sound after none f = last-is batches b sound after none (above-all batches b sound after none f)

-- after a batch that follows all that is learned, the strays are those whose origins it does not settle
pub strays-behind : (batches : List Batch) (b : Batch) → IsSound batches → IsSound (arrived b batches) → batch_at b.key batches ≡ None → Follows batches b
    → strays (arrived b batches) ≡ filter (is_unlisted (origins_in b.run b.events)) (strays batches)
strays-behind batches b sound after none (below tip e p) = follows-below batches b sound after none (above-all batches b sound after none (below tip e p)) tip e p
strays-behind batches b sound after none (begins p alone idle) = follows-begun batches b sound after none (above-all batches b sound after none (begins p alone idle)) p alone idle

-- the test tells that a batch follows
pub follows-is : (batches : List Batch) (b : Batch) → follows batches b ≡ true → Follows batches b
follows-is batches b h = by b.parent refl h
  where
    by : (o : Option BatchKey) → b.parent ≡ o → follows_with o batches b ≡ true → Follows batches b
    by (Some parent) p e = tip (last_batch batches) refl e
      where
        tip : (o : Option Batch) → last_batch batches ≡ o → is_key parent (option_map (λ t. t.key) o) ≡ true → Follows batches b
        tip None f g = absurd (true≢false (sym g))
        tip (Some t) f g = below t f (p ∙ ap Some (same-keys parent t.key g))
    by None p e =
        let q = and_parts (is_nil (part_of b.run batches)) (is_idle (last_batch batches) b.key batches) e in
        begins p (empty (part_of b.run batches) q.0) (λ t f. idle t (subst (λ (o : Option Batch). is_idle o b.key batches ≡ true) f q.1))
      where
        empty : (l : List Batch) → is_nil l ≡ true → l ≡ []
        empty [] g = refl
        empty (x ∷ l) g = absurd (true≢false (sym g))

        idle : (t : Batch) → is_idle (Some t) b.key batches ≡ true → IsIdle batches t b.key
        idle t g =
            let r = and_parts (key_lt t.key b.key) (not (state_to t.run t.key batches).running) g in
            record { before = r.0; closed = fails (state_to t.run t.key batches).running r.1 }
          where
            fails : (u : Bool) → not u ≡ true → u ≡ false
            fails true k = absurd (true≢false (sym k))
            fails false k = refl

-- what is known of the strays stays so, where the batch follows
pub known-when : (batches : List Batch) (b : Batch) (kept : Option (List Stray)) (t : Bool) → IsSound batches → IsSound (arrived b batches) → batch_at b.key batches ≡ None
    → (t ≡ true → Follows batches b) → AreKnown batches kept → AreKnown (arrived b batches) (after_batch b t kept)
known-when batches b kept false sound after none e known = tt
known-when batches b None true sound after none e known = tt
known-when batches b (Some list) true sound after none e known =
    ap (filter (is_unlisted (origins_in b.run b.events))) known ∙ sym (strays-behind batches b sound after none (e refl))

pub known-with : (batches : List Batch) (b : Batch) (kept : Option (List Stray)) (t : Bool) → IsSound batches → IsSound (arrived b batches) → batch_at b.key batches ≡ None
    → t ≡ follows batches b → AreKnown batches kept → AreKnown (arrived b batches) (after_batch b t kept)
known-with batches b kept t sound after none e known = known-when batches b kept t sound after none (λ h. follows-is batches b (sym e ∙ h)) known

-- a batch that begins a run after one that followed all others and left its run closed, follows all others
pub follows-both : (batches : List Batch) (b second : Batch) → IsSound batches → IsSound (arrived b batches) → batch_at b.key batches ≡ None → Follows batches b
    → second.parent ≡ None → part_of second.run (arrived b batches) ≡ [] → key_lt b.key second.key ≡ true
    → (current_state b.run (arrived b batches)).running ≡ false → Follows (arrived b batches) second
follows-both batches b second sound after none f first empty before closed =
    begins first empty (λ tip e. idle tip (same (sym (follows-last batches b sound after none f) ∙ e)))
  where
    same : {X : Type 0} {x y : X} → Some x ≡ Some y → x ≡ y
    same e = cc

    last : last_batch (arrived b batches) ≡ Some b
    last = follows-last batches b sound after none f

    idle : (tip : Batch) → b ≡ tip → IsIdle (arrived b batches) tip second.key
    idle tip e = subst (λ (t : Batch). IsIdle (arrived b batches) t second.key) e
        (record { before = before; closed = ap (λ o. (state_at b.run o (arrived b batches)).running) (sym (last-current (arrived b batches) after b last)) ∙ closed })
