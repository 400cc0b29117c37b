-- What is shown of runs, read of their parts.
use Rattle.std.proofs.Common.{◌≡◌, Bool, true, false, not, ◌&&◌, List, [], ◌∷◌, inl, inr, Option, Some, None, if◌then◌else◌, refl, sym, ◌∙◌, subst, ap, true≢false, ℕ, zero, suc, ◌<◌, ◌||◌, length, get_or, arith}
use Rattle.std.specs.Prelude.{map, is_some}
use Rattle.std.specs.List.{AllByRecursion}
use Rattle.std.proofs.lemmas.Bool.{and_parts}
use Rattle.std.specs.Option.{option_map}
use Rattle.ndc_event.specs.declared.batch.Batch.{Batch}
use Rattle.ndc_event.specs.declared.key.BatchKey.{BatchKey}
use Rattle.ndc_event.specs.declared.key.RunId.{RunId}
use Rattle.ndc_history.specs.declared.item.Item.{Item}
use Rattle.ndc_model_sets.specs.Keys.{is_key, is_key_among}
use Rattle.ndc_model_sets.specs.declared.view.BranchView.{BranchView}
use Rattle.ndc_event.specs.Key.{key_eq}
use Rattle.ndc_run.proofs.LearnLemmas.{tip-there}
use Rattle.ndc_model_sets.proofs.KeyLemmas.{key_eq-self}
use Rattle.ndc_model_sets.specs.declared.view.RunView.{RunView}
use Rattle.ndc_model_sets.specs.declared.view.View.{View}
use Rattle.ndc_model_sets.specs.Last.{is_nil}
use Rattle.ndc_model_sets.specs.Branches.{same_run, has_child, current_tip, is_current_run, runs, tips}
use Rattle.ndc_model_sets.specs.Current.{current_state, state_to, status_of}
use Rattle.ndc_model_sets.specs.Paths.{events_to, versions_of}
use Rattle.ndc_model_sets.specs.Sets.{batch_at, Has}
use Rattle.ndc_model_sets.specs.Sound.{IsSound}
use Rattle.ndc_model_sets.specs.View.{branch_view, is_tip_of, run_view, view_of}
use Rattle.ndc_model_sets.proofs.BranchLemmas.{among-has, run-same}
use Rattle.ndc_model_sets.proofs.Lists.{Among, filter-among}
use Rattle.ndc_state.specs.Value.{StateValue}
use Rattle.ndc_model_sets.specs.Reading.{history_at}
use Rattle.ndc_tree.specs.Tips.{tip_keys}
use Rattle.ndc_tree.specs.Tree.{IsTree, TreeValue}
use Rattle.ndc_shard_runs.specs.RunMap.{part_of, run_in}
use Rattle.ndc_shard_runs.specs.View.{branch_with, run_with, view_at}
use Rattle.ndc_shard_runs.proofs.PartLemmas.{part-state, part-tip, part-tips, part-events}
use Rattle.ndc_shard_runs.proofs.StrayLemmas.{part-current}
use Rattle.ndc_shard_runs.proofs.TipLemmas.{none-map}

-- whether a key is that of the current tip
pub is-tip : (key : BatchKey) (o : Option Batch) → is_key key (option_map (λ tip. tip.key) o) ≡ is_tip_of key o
is-tip key None = refl
is-tip key (Some tip) = refl

branch : BatchKey → List Item → Bool → StateValue → BranchView
branch key history is_current state = record { tip = key; history = history; is_current = is_current; state = state }

branches-are : (key : BatchKey) (h i : List Item) (c d : Bool) (s t : StateValue) → h ≡ i → c ≡ d → s ≡ t → branch key h c s ≡ branch key i d t
branches-are key h i c d s t p q r = cc

map-alike : {X Y Z : Type 0} (f : Y → Z) (g : X → Y) (h : X → Z) (xs : List X) → ((x : X) → Among x xs → f (g x) ≡ h x) → map f (map g xs) ≡ map h xs
map-alike f g h [] each = refl
map-alike f g h (x ∷ xs) each = ap (λ y. y ∷ map f (map g xs)) (each x (inl refl)) ∙ ap (λ l. h x ∷ l) (map-alike f g h xs (λ y k. each y (inr k)))

module _ (batches : List Batch) (sound : IsSound batches) (run : RunId) where
  one-branch : (tip : Batch) → Has batches tip → tip.run ≡ run → branch_with (run_in batches run) tip.key ≡ branch_view run batches tip
  unfolding branch
  one-branch tip has own =
      branches-are tip.key (versions_of (events_to tip.key (part_of run batches))) (versions_of (events_to tip.key batches))
      (is_tip_of tip.key (current_tip run (part_of run batches))) (is_tip_of tip.key (current_tip run batches)) (state_to run tip.key (part_of run batches)) (state_to run tip.key batches)
      (ap (λ l. versions_of l) (part-events batches sound run tip has own)) (ap (is_tip_of tip.key) (part-tip batches sound run)) (part-state batches sound run tip has own)

  branches-same : map (branch_with (run_in batches run)) (tip_keys run (part_of run batches)) ≡ map (branch_view run batches) (tips run batches)
  branches-same =
      ap (λ (l : List Batch). map (branch_with (run_in batches run)) (map (λ b. b.key) l)) (part-tips batches sound run)
      ∙ map-alike (branch_with (run_in batches run)) (λ b. b.key) (branch_view run batches) (tips run batches)
      (λ tip h. let k = filter-among (λ b. same_run b.run run && not (has_child b batches)) batches tip h in
      one-branch tip (among-has batches tip sound.set.ordered k.1) (run-same tip.run run (and_parts (same_run tip.run run) (not (has_child tip batches)) k.0).0))

  pub shown-run : run_with (run_in batches run) (is_current_run run batches) ≡ run_view batches run
  shown-run =
      ap (λ (s : StateValue). shown s (map (branch_with (run_in batches run)) (tip_keys run (part_of run batches)))) (part-current batches sound run)
      ∙ ap (shown (current_state run batches)) branches-same
    where
      shown : StateValue → List BranchView → RunView
      shown s branches = record { run = run; status = status_of s.running (is_current_run run batches); close = s.close; is_current = is_current_run run batches; branches = branches }

-- runs that have their parts of the batches are shown as all runs are
pub shown-runs : (batches : List Batch) (sound : IsSound batches) (list : List TreeValue) → AllByRecursion (λ (r : TreeValue). r ≡ run_in batches r.run) list
    → map (λ (r : TreeValue). run_with r (is_current_run r.run batches)) list ≡ map (run_view batches) (map (λ (r : TreeValue). r.run) list)
shown-runs batches sound [] own = refl
shown-runs batches sound (r ∷ list) own =
    let here : run_with r (is_current_run r.run batches) ≡ run_view batches r.run = ap (λ (v : TreeValue). run_with v (is_current_run r.run batches)) own.0 ∙ shown-run batches sound r.run in
    let rest : map (λ (v : TreeValue). run_with v (is_current_run v.run batches)) list ≡ map (run_view batches) (map (λ (v : TreeValue). v.run) list) = shown-runs batches sound list own.1 in
    λ i. here i ∷ rest i

-- a tip has a version history
pub tip-history : (run : RunId) (batches : List Batch) (key : BatchKey) → IsTree run batches → is_key_among key (tip_keys run batches) ≡ true → None ≡ history_at key batches → ⊥
tip-history run batches key tree among e =
    let some : is_some (batch_at key batches) ≡ true = tip-there run batches key tree among in
    let none : batch_at key batches ≡ None = none-map (λ _. versions_of (events_to key batches)) (batch_at key batches) e in
    absurd (true≢false (sym some ∙ ap is_some none))

-- a key of a list is among them
pub key-among : (keys : List BatchKey) (i : ℕ) (key : BatchKey) → i < length keys → key ≡ get_or keys i key → is_key_among key keys ≡ true
key-among [] i key l e = absurd (omega (arith, l))
key-among (k ∷ keys) zero key l e = let one : key_eq k key ≡ true = subst (λ (x : BatchKey). key_eq k x ≡ true) (sym e) (key_eq-self k) in rw one refl
key-among (k ∷ keys) (suc i) key l e = or_right (key_eq k key) (key-among keys i key (omega (arith, l)) e)
  where
    or_right : {t : Bool} (s : Bool) → t ≡ true → (s || t) ≡ true
    or_right true h = refl
    or_right false h = h

view : List Batch → List RunView → View
view batches runs = record { batches = batches; runs = runs }

views-are : (bs cs : List Batch) (rs ss : List RunView) → bs ≡ cs → rs ≡ ss → view bs rs ≡ view cs ss
views-are bs cs rs ss p q = cc

pub view-is : (batches bs : List Batch) (rs : List RunView) → is_nil batches ≡ false → bs ≡ batches → rs ≡ (view_of batches).runs → Some (record { batches = bs; runs = rs }) ≡ view_at batches
unfolding view
view-is batches bs rs some p q = ap Some (views-are bs batches rs (map (run_view batches) (runs batches)) p q) ∙ ap (λ t. if t then None else Some (view_of batches)) (sym some)
