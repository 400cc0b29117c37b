-- What runs settle, read of their parts.
use Rattle.std.proofs.Common.{◌≡◌, ◌+◌, Bool, true, false, not, ◌&&◌, ◌||◌, List, [], ◌∷◌, ◌++◌, inl, inr, Option, Some, None, cond, if◌then◌else◌, refl, sym, ◌∙◌, subst, ap, ℕ, zero, suc, ◌<◌, length, get_or, arith}
use Rattle.std.specs.Prelude.{map, is_none, is_some}
use Rattle.std.specs.List.{filter, filter_map, flat_map, cons_option, position, position_from}
use Rattle.std.specs.Option.{option_map}
use Rattle.std.proofs.lemmas.List.{append_assoc}
use Rattle.std.proofs.lemmas.List.Elements.{filter-append}
use Rattle.std.proofs.lemmas.List.Folds.{list_any-append}
use Rattle.std.proofs.lemmas.Iterator.Adapters.{position_from-zero}
use Rattle.ndc_event.specs.declared.batch.Batch.{Batch}
use Rattle.ndc_event.specs.declared.batch.Event.{Event}
use Rattle.ndc_event.specs.declared.key.BatchKey.{BatchKey}
use Rattle.ndc_event.specs.declared.key.Origin.{Origin}
use Rattle.ndc_event.specs.declared.key.RunId.{RunId}
use Rattle.ndc_model_sets.specs.Branches.{current_tip, is_current_run, runs}
use Rattle.ndc_model_sets.specs.Current.{current_state, state_at, state_to, status_of, is_zombie, run_status, origins_at, settled_by, settled_by_runs, settled, strays}
use Rattle.ndc_reapply.specs.Strays.{strays_of, with_stray}
use Rattle.ndc_reapply.specs.declared.stray.Stray.{Stray}
use Rattle.ndc_model_sets.specs.Origins.{signal_of, signals, signals_in}
use Rattle.ndc_model_sets.specs.Paths.{events_to, path_to, versions_of}
use Rattle.ndc_model_sets.specs.Sets.{Rise, batch_at, Has}
use Rattle.ndc_model_sets.specs.Sound.{IsSound}
use Rattle.ndc_model_sets.proofs.BranchLemmas.{among-has}
use Rattle.ndc_model_sets.proofs.CurrentLaws.{current-has}
use Rattle.ndc_model_sets.proofs.Lists.{Among}
use Rattle.ndc_model_sets.proofs.SetLemmas.{found-key, found-has}
use Rattle.ndc_model_sets.proofs.ViewLaws.{origins_of_the_path}
use Rattle.ndc_state.specs.Origins.{is_among, same_origin}
use Rattle.ndc_state.specs.Value.{StateValue}
use Rattle.ndc_model_sets.specs.Reading.{history_at, path_at}
use Rattle.ndc_tree.specs.Tree.{TreeValue}
use Rattle.ndc_shard_runs.specs.Places.{places_of}
use Rattle.ndc_shard_runs.specs.RunMap.{part_of, run_in}
use Rattle.ndc_shard_runs.specs.Kept.{is_unlisted}
use Rattle.ndc_shard_runs.specs.Settled.{origins_seen, settled_with, settled_from, unsettled, unsettled_in}
use Rattle.ndc_shard_runs.proofs.PartLemmas.{part-state, part-tip, part-path, part-events}
use Rattle.ndc_shard_runs.proofs.ReadLemmas.{at-part}
use Rattle.ndc_shard_runs.proofs.TipLemmas.{some-map}

pub keys-of : (batches : List Batch) → map (λ p. p.0) (places_of batches) ≡ map (λ b. b.key) batches
keys-of [] = refl
keys-of (b ∷ batches) = ap (λ l. b.key ∷ l) (keys-of batches)

-- all batches are found by their keys
pub all-found : (all batches : List Batch) → ((b : Batch) → Among b batches → Has all b) → filter_map (λ key. batch_at key all) (map (λ b. b.key) batches) ≡ batches
all-found all [] each = refl
all-found all (b ∷ batches) each =
    ap (λ o. cons_option o (filter_map (λ key. batch_at key all) (map (λ x. x.key) batches))) (each b (inl refl)) ∙ ap (λ l. b ∷ l) (all-found all batches (λ x h. each x (inr h)))

pub found-whole : (batches : List Batch) → Rise batches → filter_map (λ key. batch_at key batches) (map (λ b. b.key) batches) ≡ batches
found-whole batches rise = all-found batches batches (λ b h. among-has batches b rise h)

-- the origins that runs settle, by their first batches
pub settled-from : (all batches : List Batch) → flat_map (settled_from all) batches ≡ settled_by_runs (runs batches) all
settled-from all [] = refl
settled-from all (b ∷ batches) = by (is_none b.parent) refl (settled-from all batches)
  where
    by : (t : Bool) → is_none b.parent ≡ t → flat_map (settled_from all) batches ≡ settled_by_runs (runs batches) all
        → flat_map (settled_from all) (b ∷ batches) ≡ settled_by_runs (runs (b ∷ batches)) all
    by true e rest = rw e (ap (λ l. settled_by b.run all ++ l) rest)
    by false e rest = rw e rest

-- the tip of a run is one of its batches
module _ (batches : List Batch) (sound : IsSound batches) (run : RunId) where
  -- the state of a run's part is that of the run
  pub part-current : current_state run (part_of run batches) ≡ current_state run batches
  part-current = ap (λ o. state_at run o (part_of run batches)) (part-tip batches sound run) ∙ by (current_tip run batches) refl
    where
      by : (o : Option Batch) → current_tip run batches ≡ o → state_at run o (part_of run batches) ≡ state_at run o batches
      by None e = refl
      by (Some tip) e = let h = current-has batches run tip sound.set e in part-state batches sound run tip h.0 h.1

  -- its origins are those of its current branch
  pub current-origins : (current_state run batches).origins ≡ origins_at run (current_tip run batches) batches
  current-origins = by (current_tip run batches) refl
    where
      by : (o : Option Batch) → current_tip run batches ≡ o → (state_at run o batches).origins ≡ origins_at run o batches
      by None e = refl
      by (Some tip) e =
          let h = current-has batches run tip sound.set e in
          subst (λ (r : RunId). (state_to r tip.key batches).origins ≡ origins_at r (Some tip) batches) h.1 (origins_of_the_path batches tip sound h.0)

  zombie : (r c : Bool) → is_zombie (status_of r c) ≡ (r && not c)
  zombie true true = refl
  zombie true false = refl
  zombie false c = refl

  -- what a run settles is told by its state
  pub settles : settled_with (current_state run (part_of run batches)) (is_current_run run batches) ≡ settled_by run batches
  settles =
      ap (λ (s : StateValue). settled_with s (is_current_run run batches)) part-current
      ∙ ap (λ t. if t then [] else (current_state run batches).origins) (sym (zombie (current_state run batches).running (is_current_run run batches)))
      ∙ ap (λ (l : List Origin). if is_zombie (run_status run batches) then [] else l) current-origins

module _ (batches : List Batch) (sound : IsSound batches) (b : Batch) (has : Has batches b) (none : is_some b.parent ≡ false) (r : TreeValue) (e : Some r ≡ option_map (λ x. run_in batches x.run) (batch_at b.key batches)) where
  pub settles-from : settled_with (current_state r.run r.batches) (is_current_run b.run batches) ≡ settled_from batches b
  settles-from =
      let one : r ≡ run_in batches b.run = same (e ∙ ap (option_map (λ x. run_in batches x.run)) has) in
      ap (λ (v : TreeValue). settled_with (current_state v.run v.batches) (is_current_run b.run batches)) one ∙ settles batches sound b.run
      ∙ ap (λ t. if t then settled_by b.run batches else []) (sym (nothing b.parent none))
    where
      same : {X : Type 0} {x y : X} → Some x ≡ Some y → x ≡ y
      same e = cc

      nothing : (o : Option BatchKey) → is_some o ≡ false → is_none o ≡ true
      nothing None e = refl
      nothing (Some k) e = absurd (cc)

module _ (batches : List Batch) (sound : IsSound batches) (key : BatchKey) (r : TreeValue) (e : Some r ≡ option_map (λ x. run_in batches x.run) (batch_at key batches)) where
  found : (b : Batch) × (batch_at key batches ≡ Some b) × (run_in batches b.run ≡ r)
  found = some-map (λ x. run_in batches x.run) (batch_at key batches) r e

  same-at : batch_at key (part_of found.0.run batches) ≡ batch_at key batches
  same-at = at-part batches sound key found.0 found.1 ∙ sym found.1

  path-same : path_to key (part_of found.0.run batches) ≡ path_to key batches
  path-same = subst (λ (k : BatchKey). path_to k (part_of found.0.run batches) ≡ path_to k batches) (found-key batches key found.0 found.1)
      (part-path batches sound found.0.run found.0 (found-has batches key found.0 found.1) refl)

  events-same : events_to key (part_of found.0.run batches) ≡ events_to key batches
  events-same = subst (λ (k : BatchKey). events_to k (part_of found.0.run batches) ≡ events_to k batches) (found-key batches key found.0 found.1)
      (part-events batches sound found.0.run found.0 (found-has batches key found.0 found.1) refl)

  pub history-part : history_at key r.batches ≡ history_at key batches
  history-part =
      ap (λ (v : TreeValue). history_at key v.batches) (sym found.2) ∙ ap (λ (o : Option Batch). option_map (λ _. versions_of (events_to key (part_of found.0.run batches))) o) same-at
      ∙ ap (λ events. option_map (λ _. versions_of events) (batch_at key batches)) events-same

  pub path-part : path_at key r.batches ≡ path_at key batches
  path-part =
      ap (λ (v : TreeValue). path_at key v.batches) (sym found.2) ∙ ap (λ (o : Option Batch). option_map (λ _. path_to key (part_of found.0.run batches)) o) same-at
      ∙ ap (λ (path : List Batch). option_map (λ _. path) (batch_at key batches)) path-same

-- an item of a list that rises is one of its batches
pub item-has : {R : Type 0} (f : R → Batch) (items : List R) (i : ℕ) (x : R) → Rise (map f items) → i < length items → x ≡ get_or items i x → Has (map f items) (f x)
item-has f items i x rise l e = among-has (map f items) (f x) rise (among f items i x l e)
  where
    among : {R : Type 0} (f : R → Batch) (items : List R) (i : ℕ) (x : R) → i < length items → x ≡ get_or items i x → Among (f x) (map f items)
    among f [] i x l e = absurd (omega (arith, l))
    among f (y ∷ ys) zero x l e = inl (ap f e)
    among f (y ∷ ys) (suc i) x l e = inr (among f ys i x (omega (arith, l)) e)

-- the signals that are not settled, event by event and batch by batch
unsettled-in : (origins : List Origin) (run : RunId) (events : List Event) → unsettled_in origins run events ≡ filter (is_unlisted origins) (signals_in run events)
unsettled-in origins run [] = refl
unsettled-in origins run (e ∷ events) = by (signal_of run e.id e.version e.kind) (unsettled-in origins run events)
  where
    by : (o : Option Stray) → unsettled_in origins run events ≡ filter (is_unlisted origins) (signals_in run events)
        → filter (is_unlisted origins) (cons_option o []) ++ unsettled_in origins run events ≡ filter (is_unlisted origins) (cons_option o (signals_in run events))
    by None rest = rest
    by (Some stray) rest = ap (λ l. filter (is_unlisted origins) (stray ∷ []) ++ l) rest ∙ sym (filter-append (is_unlisted origins) (stray ∷ []) (signals_in run events))

unsettled-is : (origins : List Origin) (batches : List Batch) → unsettled origins batches ≡ filter (is_unlisted origins) (signals batches)
unsettled-is origins [] = refl
unsettled-is origins (b ∷ batches) =
    ap (λ l. l ++ unsettled origins batches) (unsettled-in origins b.run b.events) ∙ ap (λ l. filter (is_unlisted origins) (signals_in b.run b.events) ++ l) (unsettled-is origins batches)
    ∙ sym (filter-append (is_unlisted origins) (signals_in b.run b.events) (signals batches))

-- signals that are not settled are strays, whatever else is settled
strays-left : (origins : List Origin) (list : List Stray) → strays_of (filter (is_unlisted origins) list) [] ≡ strays_of list origins
strays-left origins [] = refl
strays-left origins (stray ∷ list) = by (is_among stray.origin origins) (strays-left origins list)
  where
    by : (t : Bool) → strays_of (filter (is_unlisted origins) list) [] ≡ strays_of list origins
        → strays_of (cond (not t) (stray ∷ filter (is_unlisted origins) list) (filter (is_unlisted origins) list)) [] ≡ (if t then strays_of list origins else with_stray stray (strays_of list origins))
    by true rest = rest
    by false rest = ap (with_stray stray) rest

-- the strays, by what the runs of all batches settle
pub strays-by : (batches all : List Batch) (origins : List Origin) → all ≡ batches → origins ≡ flat_map (settled_from batches) all → strays_of (unsettled origins all) [] ≡ strays batches
strays-by batches all origins are e =
    ap (λ l. strays_of l []) (unsettled-is origins all) ∙ strays-left origins (signals all)
    ∙ ap (strays_of (signals all)) (e ∙ ap (flat_map (settled_from batches)) are ∙ settled-from batches batches) ∙ ap (λ l. strays_of (signals l) (settled batches)) are

-- what states have seen, with one state more
pub seen-more : {R : Type 0} (f : R → StateValue) (items : List R) (x : R) → origins_seen (map f (items ++ x ∷ [])) ≡ origins_seen (map f items) ++ (f x).origins
seen-more f [] x = nothing (f x).origins
  where
    nothing : (l : List Origin) → l ++ [] ≡ l
    nothing [] = refl
    nothing (o ∷ l) = ap (λ m. o ∷ m) (nothing l)
seen-more f (y ∷ items) x = ap (λ l. (f y).origins ++ l) (seen-more f items x) ∙ sym (append_assoc (f y).origins (origins_seen (map f items)) (f x).origins)

-- an origin that one of the states has seen
pub seen-at : {R : Type 0} (f : R → StateValue) (items : List R) (o : Origin) (i : ℕ) (x : R) → i < length items → x ≡ get_or items i x → is_among o (f x).origins ≡ true → is_among o (origins_seen (map f items)) ≡ true
seen-at f [] o i x l at e = absurd (omega (arith, l))
seen-at {R = R} f (y ∷ items) o zero x l at e =
    list_any-append (same_origin o) (f y).origins (origins_seen (map f items)) ∙ ap (λ t. t || is_among o (origins_seen (map f items))) (ap (λ (z : R). is_among o (f z).origins) (sym at) ∙ e)
seen-at f (y ∷ items) o (suc i) x l at e =
    list_any-append (same_origin o) (f y).origins (origins_seen (map f items)) ∙ ap (λ t. is_among o (f y).origins || t) (seen-at f items o i x (omega (arith, l)) at e) ∙ or-true (is_among o (f y).origins)
  where
    or-true : (t : Bool) → (t || true) ≡ true
    or-true true = refl
    or-true false = refl

any-seen : {R : Type 0} (f : R → StateValue) (items : List R) (o : Origin) (i : ℕ) → is_some (position_from (λ x. is_among o (f x).origins) i items) ≡ is_among o (origins_seen (map f items))
any-seen f [] o i = refl
any-seen f (y ∷ items) o i =
    by (is_among o (f y).origins) (any-seen f items o (i + 1)) ∙ sym (list_any-append (same_origin o) (f y).origins (origins_seen (map f items)))
  where
    by : (t : Bool) → is_some (position_from (λ x. is_among o (f x).origins) (i + 1) items) ≡ is_among o (origins_seen (map f items))
        → is_some (cond t (Some i) (position_from (λ x. is_among o (f x).origins) (i + 1) items)) ≡ (t || is_among o (origins_seen (map f items)))
    by true rest = refl
    by false rest = rest

pub seen-first : {R : Type 0} (f : R → StateValue) (items : List R) (o : Origin) → is_some (position (λ x. is_among o (f x).origins) items) ≡ is_among o (origins_seen (map f items))
seen-first f items o = ap is_some (position_from-zero (λ x. is_among o (f x).origins) items) ∙ any-seen f items o 0
