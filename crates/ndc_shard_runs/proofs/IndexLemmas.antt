-- Batches found by key, in one run and in several.
use Rattle.std.proofs.Common.{◌≡◌, Bool, true, false, nat_lt, Result, Ok, Err, OnOk, List, [], ◌∷◌, ◌++◌, Option, Some, None, slice_get, if◌then◌else◌, refl, sym, ◌∙◌, ap}
use Rattle.std.specs.Prelude.{is_some}
use Rattle.std.specs.List.{AllByRecursion}
use Rattle.std.specs.Option.{option_map}
use Rattle.std.proofs.lemmas.List.{append_assoc}
use Rattle.ndc_event.specs.Key.{key_lt}
use Rattle.ndc_event.specs.declared.batch.Batch.{Batch}
use Rattle.ndc_event.specs.declared.key.BatchKey.{BatchKey}
use Rattle.ndc_event.specs.declared.key.RunId.{RunId}
use Rattle.ndc_model_sets.specs.Branches.{same_run}
use Rattle.ndc_model_sets.specs.Last.{last_batch}
use Rattle.ndc_model_sets.specs.Reading.{current_key}
use Rattle.ndc_model_sets.specs.Sets.{ComeAfter, Rise, batch_at, arrived}
use Rattle.ndc_model_sets.specs.Sound.{IsSound}
use Rattle.ndc_model_sets.proofs.BranchLemmas.{same-run}
use Rattle.ndc_model_sets.proofs.Lists.{all-join}
use Rattle.ndc_model_sets.proofs.SetLemmas.{found-has}
use Rattle.ndc_tree.specs.Tree.{TreeValue, IsTree}
use Rattle.ndc_tree.proofs.LastLemmas.{current_is_last}
use Rattle.ndc_shard_runs.specs.Index.{AreOne, AreIndexed, left, run_named, run_with}
use Rattle.ndc_shard_runs.specs.Places.{places_of, place_at, with_place, without_place, all_placed, last_place}
use Rattle.ndc_shard_runs.specs.RunMap.{AreParts, all_of, all_arrived, batches_of, run_at, run_in, begun, grown, with_run, with_grown, with_batch}
use Rattle.ndc_shard_runs.proofs.AllLemmas.{all-with, none-arrived}
use Rattle.ndc_shard_runs.proofs.ArrivedLemmas.{arrived-less}
use Rattle.ndc_shard_runs.proofs.PlaceLemmas.{place, place-batch, last-batch, with-arrived, without-with, placed-behind}
use Rattle.ndc_shard_runs.proofs.ReadLemmas.{run-there, place-run}
use Rattle.ndc_shard_runs.proofs.TipLemmas.{none-map, some-map, got}

-- there was one run at most, where there is with a batch more
pub one-before : (b : Batch) (runs : List TreeValue) → AreOne (with_batch b runs) → AreOne runs
one-before b [] one = tt
one-before b (x ∷ []) one = tt
one-before b (x ∷ y ∷ runs) one = by (is_some (run_at b.run (x ∷ y ∷ runs))) (same_run x.run b.run) (same_run y.run b.run) (nat_lt b.run.value x.run.value) (nat_lt b.run.value y.run.value) one
  where
    by : (t s o l m : Bool)
        → AreOne (if t then (if s then grown b x ∷ y ∷ runs else x ∷ (if o then grown b y ∷ runs else y ∷ with_grown b runs))
        else (if l then begun b ∷ x ∷ y ∷ runs else if s then begun b ∷ y ∷ runs else x ∷ (if m then begun b ∷ y ∷ runs else if o then begun b ∷ runs else y ∷ with_run (begun b) runs))) → ⊥
    by true true o l m h = h
    by true false true l m h = h
    by true false false l m h = h
    by false s o true m h = h
    by false true o false m h = h
    by false false o false true h = h
    by false false true false false h = h
    by false false false false false h = h

module _ (b : Batch) (runs : List TreeValue) (none : batch_at b.key (all_of runs) ≡ None) where
  with-places : with_place b.key b.run (places_of (all_of runs)) ≡ places_of (all_of (with_batch b runs))
  with-places = with-arrived b (all_of runs) none ∙ ap places_of (sym (all-with b runs none))

  -- the places with a batch more
  pub indexed-with : (places after : List (BatchKey × RunId)) → places ≡ places_of (all_of runs) → after ≡ with_place b.key b.run places → after ≡ places_of (all_of (with_batch b runs))
  indexed-with places after e f = f ∙ ap (with_place b.key b.run) e ∙ with-places

  pub indexed-ok : {Y Z : Type 0} (r : Result Y Z) (places after : List (BatchKey × RunId)) → places ≡ places_of (all_of runs) → OnOk r (after ≡ with_place b.key b.run places) → OnOk r (after ≡ places_of (all_of (with_batch b runs)))
  indexed-ok (Ok y) places after e f = indexed-with places after e f
  indexed-ok (Err z) places after e f = tt

  -- and without it
  pub indexed-left : (places : Option (List (BatchKey × RunId))) → AreIndexed (with_batch b runs) places → AreIndexed runs (left b.key places)
  indexed-left None h = one-before b runs h
  indexed-left (Some places) h =
      ap (without_place b.key) (h ∙ sym with-places)
      ∙ without-with b.key b.run (places_of (all_of runs)) (place-batch b.key (all_of runs) ∙ ap (option_map (λ x. x.run)) none)

-- a key that is new is new in its run
pub none-in-run : (key : BatchKey) (run : RunId) (runs : List TreeValue) → batch_at key (all_of runs) ≡ None → batch_at key (batches_of (run_at run runs)) ≡ None
none-in-run key run [] none = refl
none-in-run key run (x ∷ runs) none = by (same_run x.run run) (none-arrived x.batches (all_of runs) key none) (none-in-run key run runs)
  where
    by : (t : Bool) → (batch_at key x.batches ≡ None) × (batch_at key (all_of runs) ≡ None) → (batch_at key (all_of runs) ≡ None → batch_at key (batches_of (run_at run runs)) ≡ None)
        → batch_at key (batches_of (if t then Some x else run_at run runs)) ≡ None
    by true p rest = p.0
    by false p rest = rest p.1

-- the only run
pub one-none : (runs : List TreeValue) → None ≡ slice_get runs 0 → runs ≡ []
one-none [] e = refl
one-none (x ∷ runs) e = absurd (cc)

pub one-some : (runs : List TreeValue) (t : TreeValue) → AreOne runs → Some t ≡ slice_get runs 0 → runs ≡ t ∷ []
one-some [] t one e = absurd (cc)
one-some (x ∷ []) t one e = let is : x ≡ t = cc in ap (λ (r : TreeValue). r ∷ []) is
one-some (x ∷ y ∷ runs) t one e = absurd one

arrived-first : (b : Batch) (batches : List Batch) → ComeAfter b.key batches → arrived b batches ≡ b ∷ batches
arrived-first b [] after = refl
arrived-first b (x ∷ batches) after = arrived-less b x batches after.0

arrived-alone : (batches : List Batch) → Rise batches → all_arrived batches [] ≡ batches
arrived-alone [] rise = refl
arrived-alone (b ∷ batches) rise = ap (arrived b) (arrived-alone batches rise.1) ∙ arrived-first b batches rise.0

module _ (runs : List TreeValue) (one : AreOne runs) where
  pub one-all : (t : TreeValue) → Some t ≡ slice_get runs 0 → Rise t.batches → all_of runs ≡ t.batches
  one-all t e rise = ap all_of (one-some runs t one e) ∙ arrived-alone t.batches rise

  -- the run of a key is the only one, where it has the key
  pub one-with : (t : TreeValue) (key : BatchKey) (b : Batch) → Some t ≡ slice_get runs 0 → all_of runs ≡ t.batches → IsTree t.run t.batches → Some b ≡ batch_at key t.batches → slice_get runs 0 ≡ run_with key runs
  one-with t key b e all tree at =
      sym e ∙ sym (ap (λ (l : List TreeValue). run_with key l) is ∙ ap (λ (l : List Batch). run_named (batch_at key l) (t ∷ [])) (sym (ap all_of is) ∙ all) ∙ ap (λ (o : Option Batch). run_named o (t ∷ [])) (sym at) ∙ found)
    where
      is : runs ≡ t ∷ []
      is = one-some runs t one e

      found : run_at b.run (t ∷ []) ≡ Some t
      found = ap (λ s. if s then Some t else None) (same-run t.run b.run (sym (tree.runs b (found-has t.batches key b (sym at)))))

-- a key that is not there has no run
pub none-with : (key : BatchKey) (runs : List TreeValue) → batch_at key (all_of runs) ≡ None → None ≡ run_with key runs
none-with key runs none = sym (ap (λ (o : Option Batch). run_named o runs) none)

-- what the place of a key gives
module _ (runs : List TreeValue) (places : List (BatchKey × RunId)) (key : BatchKey) (are : places ≡ places_of (all_of runs)) where
  place-is : place_at key places ≡ option_map (λ b. b.run) (batch_at key (all_of runs))
  place-is = ap (place_at key) are ∙ place-batch key (all_of runs)

  pub unplaced : None ≡ place_at key places → batch_at key (all_of runs) ≡ None
  unplaced e = none-map (λ b. b.run) (batch_at key (all_of runs)) (e ∙ place-is)

  pub placed-run : (run : RunId) → Some run ≡ place_at key places → run_at run runs ≡ run_with key runs
  placed-run run e =
      let p = some-map (λ b. b.run) (batch_at key (all_of runs)) run (e ∙ place-is) in
      ap (λ i. run_at i runs) (sym p.2) ∙ sym (ap (λ (o : Option Batch). run_named o runs) p.1)

  module _ (sound : IsSound (all_of runs)) (parts : AreParts runs) (run : RunId) (e : Some run ≡ place_at key places) where
    run-is : run_at run runs ≡ option_map (λ b. run_in (all_of runs) b.run) (batch_at key (all_of runs))
    run-is = place-run (all_of runs) sound runs parts key run (sym (e ∙ ap (place_at key) are))

    pub unheld : None ≡ run_at run runs → batch_at key (all_of runs) ≡ None
    unheld h = none-map (λ b. run_in (all_of runs) b.run) (batch_at key (all_of runs)) (h ∙ run-is)

    pub held : (r : TreeValue) → Some r ≡ run_at run runs → batch_at key r.batches ≡ batch_at key (all_of runs)
    held r h = got (all_of runs) sound key r (h ∙ run-is)

-- the last key
pub last-placed : (runs : List TreeValue) (places : List (BatchKey × RunId)) → places ≡ places_of (all_of runs) → option_map (λ (p : BatchKey × RunId). p.0) (last_place places) ≡ option_map (λ b. b.key) (last_batch (all_of runs))
last-placed runs places are = ap (λ l. option_map (λ (p : BatchKey × RunId). p.0) (last_place l)) are ∙ ap (option_map (λ (p : BatchKey × RunId). p.0)) (last-batch (all_of runs)) ∙ by (last_batch (all_of runs))
  where
    by : (o : Option Batch) → option_map (λ (p : BatchKey × RunId). p.0) (option_map (λ (b : Batch). place b) o) ≡ option_map (λ b. b.key) o
    by None = refl
    by (Some b) = refl

pub last-of-one : (runs : List TreeValue) (t : TreeValue) → all_of runs ≡ t.batches → IsTree t.run t.batches → current_key t.run t.batches ≡ option_map (λ b. b.key) (last_batch (all_of runs))
last-of-one runs t all tree = ap (option_map (λ (b : Batch). b.key)) (current_is_last t.run t.batches tree) ∙ ap (λ (l : List Batch). option_map (λ b. b.key) (last_batch l)) (sym all)

-- the run of a key among those of the workflow
pub run-with-is : (runs : List TreeValue) → IsSound (all_of runs) → AreParts runs → (key : BatchKey) → run_with key runs ≡ option_map (λ b. run_in (all_of runs) b.run) (batch_at key (all_of runs))
run-with-is runs sound parts key = by (batch_at key (all_of runs)) refl
  where
    by : (o : Option Batch) → batch_at key (all_of runs) ≡ o → run_named o runs ≡ option_map (λ b. run_in (all_of runs) b.run) o
    by None e = refl
    by (Some b) e = run-there (all_of runs) sound runs parts b (found-has (all_of runs) key b e)

-- the places of batches that are put one after the other
pub all-placed : (front batches : List Batch) → AllByRecursion (λ (b : Batch). AllByRecursion (λ (x : Batch). key_lt x.key b.key ≡ true) front) batches → Rise batches → all_placed (places_of front) batches ≡ places_of (front ++ batches)
all-placed front [] before rise = ap places_of (sym (nothing front))
  where
    nothing : (l : List Batch) → l ++ [] ≡ l
    nothing [] = refl
    nothing (x ∷ l) = ap (λ m. x ∷ m) (nothing l)
all-placed front (b ∷ batches) before rise =
    ap (λ l. all_placed l batches) (placed-behind b front before.0)
    ∙ all-placed (front ++ b ∷ []) batches (each batches before.1 rise.0) rise.1
    ∙ ap places_of (append_assoc front (b ∷ []) batches)
  where
    each : (l : List Batch) → AllByRecursion (λ (c : Batch). AllByRecursion (λ (x : Batch). key_lt x.key c.key ≡ true) front) l → ComeAfter b.key l
        → AllByRecursion (λ (c : Batch). AllByRecursion (λ (x : Batch). key_lt x.key c.key ≡ true) (front ++ b ∷ [])) l
    each [] all after = tt
    each (c ∷ l) all after = (all-join (λ (x : Batch). key_lt x.key c.key ≡ true) front (b ∷ []) all.0 (after.0, tt), each l all.1 after.1)

-- nothing stands before the first
pub before-all : (batches : List Batch) → AllByRecursion (λ (b : Batch). AllByRecursion (λ (x : Batch). key_lt x.key b.key ≡ true) []) batches
before-all [] = tt
before-all (b ∷ batches) = (tt, before-all batches)
