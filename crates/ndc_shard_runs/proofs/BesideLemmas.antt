-- A batch that lies beside what is current leaves the strays.
use Rattle.std.proofs.Common.{◌≡◌, Bool, true, false, ◌&&◌, List, [], ◌∷◌, ◌++◌, ◌⊎◌, inl, inr, Option, Some, None, if◌then◌else◌, refl, sym, ◌∙◌, subst, ap, true≢false}
use Rattle.std.specs.Prelude.{map, is_none, is_some}
use Rattle.std.specs.List.{filter}
use Rattle.std.specs.Option.{option_map, option_or}
use Rattle.std.proofs.lemmas.Bool.{and_parts}
use Rattle.ndc_event.specs.Key.{key_lt}
use Rattle.ndc_event.specs.declared.batch.Batch.{Batch}
use Rattle.ndc_event.specs.declared.key.BatchKey.{BatchKey}
use Rattle.ndc_event.specs.declared.key.RunId.{RunId}
use Rattle.ndc_reapply.specs.Strays.{strays_of}
use Rattle.ndc_reapply.specs.declared.stray.Stray.{Stray}
use Rattle.ndc_model_sets.specs.Branches.{same_run, current_tip, is_run_of, is_current_run, runs}
use Rattle.ndc_model_sets.specs.Current.{replayed_or_new, current_state, state_at, state_to, settled_by, settled_by_runs, settled, strays}
use Rattle.ndc_model_sets.specs.Origins.{signals_in, signals}
use Rattle.ndc_model_sets.specs.Sets.{batch_at, Has, arrived}
use Rattle.ndc_model_sets.specs.Sound.{IsSound}
use Rattle.ndc_model_sets.proofs.ArrivalLemmas.{stays}
use Rattle.ndc_model_sets.proofs.BranchLemmas.{has-among, among-has, Rise-filter, run-same, same-run}
use Rattle.ndc_model_sets.proofs.CurrentLaws.{current-has}
use Rattle.ndc_model_sets.proofs.CurrentLemmas.{current-greatest}
use Rattle.ndc_model_sets.proofs.KeyLemmas.{before-irrefl, before-trans}
use Rattle.ndc_model_sets.proofs.Lists.{Among, among-filter}
use Rattle.ndc_model_sets.proofs.PathLemmas.{part-path}
use Rattle.ndc_state.specs.Replay.{history_of, replay_of}
use Rattle.ndc_state.specs.Value.{StateValue}
use Rattle.ndc_tree.proofs.LastLemmas.{last-among, none-last}
use Rattle.ndc_model_sets.specs.Last.{last_batch}
use Rattle.ndc_model_sets.specs.Reading.{current_key}
use Rattle.ndc_shard_runs.specs.Kept.{is_empty, is_ahead, lies_beside, follows, after_any, AreKnown}
use Rattle.ndc_shard_runs.specs.RunMap.{part_of}
use Rattle.ndc_shard_runs.specs.Settled.{settled_with}
use Rattle.ndc_shard_runs.proofs.ArrivedLemmas.{Compared, less, same, more, compared, arrived-less, arrived-same, arrived-more, filter-arrived}
use Rattle.ndc_shard_runs.proofs.FollowLemmas.{settled-is, known-with}
use Rattle.ndc_shard_runs.proofs.PartLemmas.{part-has, part-tip}
use Rattle.ndc_shard_runs.proofs.ReadLemmas.{tip-is-last, last-above}

last-some : (x : Batch) (xs : List Batch) (b : Batch) → option_or (last_batch (x ∷ xs)) (Some b) ≡ last_batch (x ∷ xs)
last-some x xs b = by (last_batch xs)
  where
    by : (o : Option Batch) → option_or (option_or o (Some x)) (Some b) ≡ option_or o (Some x)
    by None = refl
    by (Some y) = refl

-- the last of batches stays where one comes before another of them
pub last-arrived : (b x : Batch) (batches : List Batch) → Among x batches → key_lt b.key x.key ≡ true → last_batch (arrived b batches) ≡ last_batch batches
last-arrived b x [] h l = absurd h
last-arrived b x (y ∷ ys) h l = by (compared b.key y.key) h (λ k. last-arrived b x ys k l)
  where
    by : Compared b.key y.key → (x ≡ y) ⊎ Among x ys → (Among x ys → last_batch (arrived b ys) ≡ last_batch ys) → last_batch (arrived b (y ∷ ys)) ≡ last_batch (y ∷ ys)
    by (less m) k rest = ap last_batch (arrived-less b y ys m) ∙ last-some y ys b
    by (same e) k rest = ap last_batch (arrived-same b y ys e)
    by (more m) (inl e) rest = absurd (before-irrefl b.key (before-trans b.key y.key b.key (subst (λ (z : Batch). key_lt b.key z.key ≡ true) e l) m))
    by (more m) (inr k) rest = ap last_batch (arrived-more b y ys m) ∙ ap (λ o. option_or o (Some y)) (rest k)

-- a batch without a signal adds none
signals-arrived : (b : Batch) (batches : List Batch) → signals_in b.run b.events ≡ [] → signals (arrived b batches) ≡ signals batches
signals-arrived b [] e = ap (λ l. l ++ []) e
signals-arrived b (y ∷ ys) e = by (compared b.key y.key) (signals-arrived b ys e)
  where
    by : Compared b.key y.key → signals (arrived b ys) ≡ signals ys → signals (arrived b (y ∷ ys)) ≡ signals (y ∷ ys)
    by (less m) rest = ap signals (arrived-less b y ys m) ∙ ap (λ l. l ++ signals (y ∷ ys)) e
    by (same f) rest = ap signals (arrived-same b y ys f)
    by (more m) rest = ap signals (arrived-more b y ys m) ∙ ap (λ l. signals_in y.run y.events ++ l) rest

-- the tip of a run is the last of its batches
tip-of-part : (batches : List Batch) (run : RunId) → IsSound batches → current_tip run batches ≡ last_batch (part_of run batches)
tip-of-part batches run sound = by (last_batch (part_of run batches)) refl
  where
    by : (o : Option Batch) → last_batch (part_of run batches) ≡ o → current_tip run batches ≡ last_batch (part_of run batches)
    by None e = sym (part-tip batches sound run) ∙ ap (current_tip run) (none-last (part_of run batches) e) ∙ sym e
    by (Some m) e =
        let p = part-has batches sound run m (among-has (part_of run batches) m (Rise-filter (λ y. same_run y.run run) batches sound.set.ordered) (last-among (part_of run batches) m e)) in
        current-greatest batches sound.set sound.closed sound.parents sound.chains run m
        (record {
          has = p.0;
          mine = p.1;
          top = λ x has own. last-above (part_of run batches) m (Rise-filter (λ y. same_run y.run run) batches sound.set.ordered) e x (among-filter (λ y. same_run y.run run) batches x (same-run x.run run own) (has-among batches x has));
        })
        ∙ sym e

settled-alike : (one two : List Batch) (list : List RunId) → ((run : RunId) → settled_by run one ≡ settled_by run two) → settled_by_runs list one ≡ settled_by_runs list two
settled-alike one two [] each = refl
settled-alike one two (run ∷ list) each = ap (λ l. l ++ settled_by_runs list one) (each run) ∙ ap (λ l. settled_by run two ++ l) (settled-alike one two list each)

module _ (batches : List Batch) (b x : Batch) (sound : IsSound batches) (after : IsSound (arrived b batches)) (none : batch_at b.key batches ≡ None)
    (has : Has batches x) (own : x.run ≡ b.run) (l : key_lt b.key x.key ≡ true) where
  old-state : (run : RunId) (m : Batch) → Has batches m → state_to run m.key (arrived b batches) ≡ state_to run m.key batches
  old-state run m h =
      ap (λ (p : List Batch). replayed_or_new run (replay_of run (history_of p))) (sym (part-path batches (arrived b batches) m sound.set sound.closed after.set after.closed (stays b batches sound.set.ordered) h))

  part-last : (run : RunId) → last_batch (part_of run (arrived b batches)) ≡ last_batch (part_of run batches)
  part-last run = ap last_batch (filter-arrived (λ y. same_run y.run run) b batches sound.set.ordered none) ∙ by (same_run b.run run) refl
    where
      by : (t : Bool) → same_run b.run run ≡ t → last_batch (if same_run b.run run then arrived b (part_of run batches) else part_of run batches) ≡ last_batch (part_of run batches)
      by true e =
          ap (λ t. last_batch (if t then arrived b (part_of run batches) else part_of run batches)) e
          ∙ last-arrived b x (part_of run batches) (among-filter (λ y. same_run y.run run) batches x (same-run x.run run (own ∙ run-same b.run run e)) (has-among batches x has)) l
      by false e = ap (λ t. last_batch (if t then arrived b (part_of run batches) else part_of run batches)) e

  tip-same : (run : RunId) → current_tip run (arrived b batches) ≡ current_tip run batches
  tip-same run = tip-of-part (arrived b batches) run after ∙ part-last run ∙ sym (tip-of-part batches run sound)

  state-same : (run : RunId) → current_state run (arrived b batches) ≡ current_state run batches
  state-same run = ap (λ o. state_at run o (arrived b batches)) (tip-same run) ∙ by (current_tip run batches) refl
    where
      by : (o : Option Batch) → current_tip run batches ≡ o → state_at run o (arrived b batches) ≡ state_at run o batches
      by None e = refl
      by (Some m) e = old-state run m (current-has batches run m sound.set e).0

  current-same : (run : RunId) → is_current_run run (arrived b batches) ≡ is_current_run run batches
  current-same run = ap (is_run_of run) (tip-is-last (arrived b batches) after ∙ last-arrived b x batches (has-among batches x has) l ∙ sym (tip-is-last batches sound))

  settled-same : (run : RunId) → settled_by run (arrived b batches) ≡ settled_by run batches
  settled-same run =
      settled-is (arrived b batches) run after ∙ ap (λ (s : StateValue). settled_with s (is_current_run run (arrived b batches))) (state-same run)
      ∙ ap (settled_with (current_state run batches)) (current-same run) ∙ sym (settled-is batches run sound)

  runs-same : is_none b.parent ≡ false → runs (arrived b batches) ≡ runs batches
  runs-same e =
      ap (map (λ y. y.run)) (filter-arrived (λ y. is_none y.parent) b batches sound.set.ordered none
      ∙ ap (λ t. if t then arrived b (filter (λ y. is_none y.parent) batches) else filter (λ y. is_none y.parent) batches) e)

  strays-same : is_none b.parent ≡ false → signals_in b.run b.events ≡ [] → strays (arrived b batches) ≡ strays batches
  strays-same e f =
      ap (λ s. strays_of s (settled (arrived b batches))) (signals-arrived b batches f)
      ∙ ap (strays_of (signals batches)) (ap (λ r. settled_by_runs r (arrived b batches)) (runs-same e) ∙ settled-alike (arrived b batches) batches (runs batches) settled-same)

-- what is known of the strays stays so
pub known-beside : (batches : List Batch) (b : Batch) (kept : Option (List Stray)) → IsSound batches → IsSound (arrived b batches) → batch_at b.key batches ≡ None
    → lies_beside batches b ≡ true → AreKnown batches kept → AreKnown (arrived b batches) kept
known-beside batches b None sound after none h known = tt
known-beside batches b (Some list) sound after none h known =
    known ∙ sym (by (current_tip b.run batches) refl q.1)
  where
    q : ((is_some b.parent && is_empty (signals_in b.run b.events)) ≡ true) × (is_ahead b.key (current_key b.run batches) ≡ true)
    q = and_parts (is_some b.parent && is_empty (signals_in b.run b.events)) (is_ahead b.key (current_key b.run batches)) h

    p : (is_some b.parent ≡ true) × (is_empty (signals_in b.run b.events) ≡ true)
    p = and_parts (is_some b.parent) (is_empty (signals_in b.run b.events)) q.0

    parent : (o : Option BatchKey) → is_some o ≡ true → is_none o ≡ false
    parent None e = absurd (cc)
    parent (Some k) e = refl

    empty : (l : List Stray) → is_empty l ≡ true → l ≡ []
    empty [] e = refl
    empty (s ∷ l) e = absurd (true≢false (sym e))

    by : (o : Option Batch) → current_tip b.run batches ≡ o → is_ahead b.key (option_map (λ tip. tip.key) o) ≡ true → strays (arrived b batches) ≡ strays batches
    by None e g = absurd (true≢false (sym g))
    by (Some x) e g =
        let c = current-has batches b.run x sound.set e in
        strays-same batches b x sound after none c.0 c.1 g (parent b.parent p.0) (empty (signals_in b.run b.events) p.1)

pub known-any : (batches : List Batch) (b : Batch) (kept : Option (List Stray)) (s t : Bool) → IsSound batches → IsSound (arrived b batches) → batch_at b.key batches ≡ None
    → s ≡ lies_beside batches b → t ≡ follows batches b → AreKnown batches kept → AreKnown (arrived b batches) (after_any b s t kept)
known-any batches b kept true t sound after none e f known = known-beside batches b kept sound after none (sym e) known
known-any batches b kept false t sound after none e f known = known-with batches b kept t sound after none f known
