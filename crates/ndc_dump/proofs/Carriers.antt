-- A set with other carriers shows the same runs.
use Rattle.std.proofs.Common.{◌≡◌, Bool, true, false, not, ◌&&◌, ◌||◌, nat_lt, List, [], ◌∷◌, ◌++◌, map, find, Option, Some, None, if◌then◌else◌, cond, refl, ap, ◌∙◌}
use Rattle.std.specs.Prelude.{is_none}
use Rattle.std.specs.List.{cons_option, filter, filter_map, list_all, list_any}
use Rattle.std.specs.Option.{option_map}
use Rattle.ndc_event.specs.Key.{key_lt, key_eq}
use Rattle.ndc_event.specs.declared.batch.Batch.{Batch}
use Rattle.ndc_event.specs.declared.batch.Event.{Event}
use Rattle.ndc_event.specs.declared.key.BatchKey.{BatchKey}
use Rattle.ndc_event.specs.declared.key.RunId.{RunId}
use Rattle.ndc_model_sets.specs.Branches.{current_tip, current_tips, greatest_key, has_child, is_current_run, is_run_of, later, leads, runs, same_run, tips, workflow_tip}
use Rattle.ndc_model_sets.specs.Current.{current_state, replayed_or_new, state_at, state_to, status_of}
use Rattle.ndc_model_sets.specs.Paths.{Walk, events_to, is_wanted, path_to, versions_of, walk_down, walk_over}
use Rattle.ndc_model_sets.specs.View.{branch_view, is_tip_of, run_view, view_of}
use Rattle.ndc_model_sets.specs.declared.view.BranchView.{BranchView}
use Rattle.ndc_model_sets.specs.declared.view.RunView.{RunView}
use Rattle.ndc_model_sets.proofs.PathLemmas.{from}
use Rattle.ndc_state.specs.declared.rule.CloseKind.{CloseKind}
use Rattle.ndc_state.specs.Replay.{history_of, replay_of}
use Rattle.ndc_text.specs.declared.form.TextForm.{TextForm}
use Rattle.ndc_text.specs.declared.form.TextForm.TheVariants.{One, Two}
use Rattle.ndc_dump.specs.Migrated.{is_carried, key_before, standing_for, with_carrier_in}

-- ---- lists

filter-map-of : (f : Batch → Batch) (p q : Batch → Bool) → ((b : Batch) → p (f b) ≡ q b) → (xs : List Batch) → filter p (map f xs) ≡ map f (filter q xs)
filter-map-of f p q same [] = refl
filter-map-of f p q same (x ∷ xs) = rw (same x) (by (q x) (filter-map-of f p q same xs))
  where
    by : (t : Bool) → filter p (map f xs) ≡ map f (filter q xs) → cond t (f x ∷ filter p (map f xs)) (filter p (map f xs)) ≡ map f (cond t (x ∷ filter q xs) (filter q xs))
    by true rest = ap (λ l. f x ∷ l) rest
    by false rest = rest

pub find-map-of : (f : Batch → Batch) (p q : Batch → Bool) → ((b : Batch) → p (f b) ≡ q b) → (xs : List Batch) → find p (map f xs) ≡ option_map f (find q xs)
find-map-of f p q same [] = refl
find-map-of f p q same (x ∷ xs) = rw (same x) (by (q x) (find-map-of f p q same xs))
  where
    by : (t : Bool) → find p (map f xs) ≡ option_map f (find q xs) → cond t (Some (f x)) (find p (map f xs)) ≡ option_map f (cond t (Some x) (find q xs))
    by true rest = refl
    by false rest = rest

any-map-of : (f : Batch → Batch) (p q : Batch → Bool) → ((b : Batch) → p (f b) ≡ q b) → (xs : List Batch) → list_any p (map f xs) ≡ list_any q xs
any-map-of f p q same [] = refl
any-map-of f p q same (x ∷ xs) = rw (same x, any-map-of f p q same xs) refl

all-map-of : (f : Batch → Batch) (p q : Batch → Bool) → ((b : Batch) → p (f b) ≡ q b) → (xs : List Batch) → list_all p (map f xs) ≡ list_all q xs
all-map-of f p q same [] = refl
all-map-of f p q same (x ∷ xs) = rw (same x, all-map-of f p q same xs) refl

-- what keeps a batch's place and events
pub record Keeps (f : Batch → Batch) : Type 0 where
  pub key : (b : Batch) → (f b).key ≡ b.key
  pub parent : (b : Batch) → (f b).parent ≡ b.parent
  pub run : (b : Batch) → (f b).run ≡ b.run
  pub events : (b : Batch) → (f b).events ≡ b.events

module _ (f : Batch → Batch) (keeps : Keeps f) where
  wanted-of : (o : Option BatchKey) (b : Batch) → is_wanted o (f b) ≡ is_wanted o b
  wanted-of None b = refl
  wanted-of (Some key) b = ap (λ k. key_eq k key) (keeps.key b)

  of-walk : Walk → Walk
  of-walk w = record { wanted = w.wanted; path = map f w.path }

  pub walk-of : (batches : List Batch) (o : Option BatchKey) → ((walk_down (map f batches) (from o)).wanted ≡ (walk_down batches (from o)).wanted) × ((walk_down (map f batches) (from o)).path ≡ map f (walk_down batches (from o)).path)
  walk-of [] o = (refl, refl)
  walk-of (b ∷ bs) o = by (is_wanted (walk_down bs (from o)).wanted b) refl (walk-of bs o)
    where
      by : (t : Bool) → is_wanted (walk_down bs (from o)).wanted b ≡ t
          → ((walk_down (map f bs) (from o)).wanted ≡ (walk_down bs (from o)).wanted) × ((walk_down (map f bs) (from o)).path ≡ map f (walk_down bs (from o)).path)
          → ((walk_over (f b) (walk_down (map f bs) (from o))).wanted ≡ (walk_over b (walk_down bs (from o))).wanted) × ((walk_over (f b) (walk_down (map f bs) (from o))).path ≡ map f (walk_over b (walk_down bs (from o))).path)
      by true e rest =
          let g : is_wanted (walk_down (map f bs) (from o)).wanted (f b) ≡ true = ap (λ w. is_wanted w (f b)) rest.0 ∙ wanted-of (walk_down bs (from o)).wanted b ∙ e in
          (rw (e, g) (keeps.parent b), rw (e, g) (ap (λ l. f b ∷ l) rest.1))
      by false e rest =
          let g : is_wanted (walk_down (map f bs) (from o)).wanted (f b) ≡ false = ap (λ w. is_wanted w (f b)) rest.0 ∙ wanted-of (walk_down bs (from o)).wanted b ∙ e in
          (rw (e, g) rest.0, rw (e, g) rest.1)

  history-of : (path : List Batch) → history_of (map f path) ≡ history_of path
  history-of [] = refl
  history-of (b ∷ path) = ap (λ (l : List Event). l ++ history_of (map f path)) (keeps.events b) ∙ ap (λ (l : List Event). b.events ++ l) (history-of path)

  pub events-of : (batches : List Batch) (key : BatchKey) → events_to key (map f batches) ≡ events_to key batches
  events-of batches key = ap history_of (walk-of batches (Some key)).1 ∙ history-of (path_to key batches)

  child-of : (batches : List Batch) (b : Batch) → has_child (f b) (map f batches) ≡ has_child b batches
  child-of batches b = any-map-of f (λ child. is_wanted child.parent (f b)) (λ child. is_wanted child.parent b) (λ child. ap (λ o. is_wanted o (f b)) (keeps.parent child) ∙ wanted-of child.parent b) batches

  tips-of : (batches : List Batch) (run : RunId) → tips run (map f batches) ≡ map f (tips run batches)
  tips-of batches run =
      filter-map-of f (λ b. same_run b.run run && not (has_child b (map f batches))) (λ b. same_run b.run run && not (has_child b batches))
      (λ b. ap (λ r. same_run r run && not (has_child (f b) (map f batches))) (keeps.run b) ∙ ap (λ t. same_run b.run run && not t) (child-of batches b)) batches

  leads-of : (ts : List Batch) (t : Batch) → leads (map f ts) (f t) ≡ leads ts t
  leads-of ts t =
      all-map-of f (λ other. key_eq other.key (f t).key || nat_lt other.key.version (f t).key.version) (λ other. key_eq other.key t.key || nat_lt other.key.version t.key.version)
      (λ other. ap (λ k. key_eq k (f t).key || nat_lt k.version (f t).key.version) (keeps.key other) ∙ ap (λ k. key_eq other.key k || nat_lt other.key.version k.version) (keeps.key t)) ts

  current-of : (batches : List Batch) (run : RunId) → current_tip run (map f batches) ≡ option_map f (current_tip run batches)
  current-of batches run =
      ap (λ ts. find (leads ts) ts) (tips-of batches run)
      ∙ find-map-of f (leads (map f (tips run batches))) (leads (tips run batches)) (leads-of (tips run batches)) (tips run batches)

  runs-in : (xs : List Batch) → map (λ b. b.run) (map f xs) ≡ map (λ b. b.run) xs
  runs-in [] = refl
  runs-in (x ∷ xs) = ap (λ r. r ∷ map (λ b. b.run) (map f xs)) (keeps.run x) ∙ ap (λ l. x.run ∷ l) (runs-in xs)

  pub runs-of : (batches : List Batch) → runs (map f batches) ≡ runs batches
  runs-of batches =
      ap (map (λ b. b.run)) (filter-map-of f (λ b. is_none b.parent) (λ b. is_none b.parent) (λ b. ap is_none (keeps.parent b)) batches) ∙ runs-in (filter (λ b. is_none b.parent) batches)

  option-cons : (o : Option Batch) (xs : List Batch) → cons_option (option_map f o) (map f xs) ≡ map f (cons_option o xs)
  option-cons None xs = refl
  option-cons (Some b) xs = refl

  tips-in : (batches : List Batch) (rs : List RunId) → filter_map (λ run. current_tip run (map f batches)) rs ≡ map f (filter_map (λ run. current_tip run batches) rs)
  tips-in batches [] = refl
  tips-in batches (r ∷ rs) =
      ap (λ o. cons_option o (filter_map (λ run. current_tip run (map f batches)) rs)) (current-of batches r)
      ∙ ap (cons_option (option_map f (current_tip r batches))) (tips-in batches rs) ∙ option-cons (current_tip r batches) (filter_map (λ run. current_tip run batches) rs)

  later-of : (b : Batch) (o : Option Batch) → later (f b) (option_map f o) ≡ option_map f (later b o)
  later-of b None = refl
  later-of b (Some x) = rw (ap (λ k. key_lt k (f x).key) (keeps.key b) ∙ ap (key_lt b.key) (keeps.key x)) (by (key_lt b.key x.key))
    where
      by : (t : Bool) → (if t then Some (f x) else Some (f b)) ≡ option_map f (if t then Some x else Some b)
      by true = refl
      by false = refl

  greatest-of : (xs : List Batch) → greatest_key (map f xs) ≡ option_map f (greatest_key xs)
  greatest-of [] = refl
  greatest-of (x ∷ xs) = ap (later (f x)) (greatest-of xs) ∙ later-of x (greatest_key xs)

  workflow-of : (batches : List Batch) → workflow_tip (map f batches) ≡ option_map f (workflow_tip batches)
  workflow-of batches =
      ap greatest_key (ap (filter_map (λ run. current_tip run (map f batches))) (runs-of batches) ∙ tips-in batches (runs batches)) ∙ greatest-of (current_tips batches)

  run-in : (run : RunId) (o : Option Batch) → is_run_of run (option_map f o) ≡ is_run_of run o
  run-in run None = refl
  run-in run (Some b) = ap (λ r. same_run r run) (keeps.run b)

  tip-in : (key : BatchKey) (o : Option Batch) → is_tip_of key (option_map f o) ≡ is_tip_of key o
  tip-in key None = refl
  tip-in key (Some b) = ap (key_eq key) (keeps.key b)

  state-of : (batches : List Batch) (run : RunId) (key : BatchKey) → state_to run key (map f batches) ≡ state_to run key batches
  state-of batches run key = ap (λ es. replayed_or_new run (replay_of run es)) (events-of batches key)

  state-in : (batches : List Batch) (run : RunId) (o : Option Batch) → state_at run (option_map f o) (map f batches) ≡ state_at run o batches
  state-in batches run None = refl
  state-in batches run (Some b) = ap (λ k. state_to run k (map f batches)) (keeps.key b) ∙ state-of batches run b.key

  branch_with : BatchKey → List Event → Bool → RunId → BranchView
  branch_with key events current run = record { tip = key; history = versions_of events; is_current = current; state = replayed_or_new run (replay_of run events) }

  branch-of : (batches : List Batch) (run : RunId) (t : Batch) → branch_view run (map f batches) (f t) ≡ branch_view run batches t
  unfolding branch_with
  branch-of batches run t =
      ap (λ k. branch_with k (events_to k (map f batches)) (is_tip_of k (current_tip run (map f batches))) run) (keeps.key t)
      ∙ ap (λ es. branch_with t.key es (is_tip_of t.key (current_tip run (map f batches))) run) (events-of batches t.key)
      ∙ ap (λ c. branch_with t.key (events_to t.key batches) c run) (ap (is_tip_of t.key) (current-of batches run) ∙ tip-in t.key (current_tip run batches))

  branches-of : (batches : List Batch) (run : RunId) (ts : List Batch) → map (branch_view run (map f batches)) (map f ts) ≡ map (branch_view run batches) ts
  branches-of batches run [] = refl
  branches-of batches run (t ∷ ts) = ap (λ b. b ∷ map (branch_view run (map f batches)) (map f ts)) (branch-of batches run t) ∙ ap (λ l. branch_view run batches t ∷ l) (branches-of batches run ts)

  run_as : RunId → Bool → Option CloseKind → Bool → List BranchView → RunView
  run_as run running close current branches = record { run = run; status = status_of running current; close = close; is_current = current; branches = branches }

  run-of : (batches : List Batch) (run : RunId) → run_view (map f batches) run ≡ run_view batches run
  unfolding run_as
  run-of batches run =
      let state : current_state run (map f batches) ≡ current_state run batches = ap (λ o. state_at run o (map f batches)) (current-of batches run) ∙ state-in batches run (current_tip run batches) in
      ap (λ s. run_as run s.running s.close (is_current_run run (map f batches)) (map (branch_view run (map f batches)) (tips run (map f batches)))) state
      ∙ ap (λ c. run_as run (current_state run batches).running (current_state run batches).close c (map (branch_view run (map f batches)) (tips run (map f batches))))
      (ap (is_run_of run) (workflow-of batches) ∙ run-in run (workflow_tip batches))
      ∙ ap (λ l. run_as run (current_state run batches).running (current_state run batches).close (is_current_run run batches) l)
      (ap (map (branch_view run (map f batches))) (tips-of batches run) ∙ branches-of batches run (tips run batches))

  pub view-of : (batches : List Batch) → (view_of (map f batches)).runs ≡ (view_of batches).runs
  view-of batches = ap (map (run_view (map f batches))) (runs-of batches) ∙ ap (λ (g : RunId → RunView). map g (runs batches)) (λ i run. run-of batches run i)

-- ---- carriers

pub carrier-keeps : (batches : List Batch) → Keeps (with_carrier_in batches)
carrier-keeps batches = record {
  key = λ b. elim (is_carried batches b) as (λ (t : Bool). (if t then record b { carrier = Some (key_before b.key) } else b).key ≡ b.key) [ true ↦ refl | false ↦ refl ];
  parent = λ b. elim (is_carried batches b) as (λ (t : Bool). (if t then record b { carrier = Some (key_before b.key) } else b).parent ≡ b.parent) [ true ↦ refl | false ↦ refl ];
  run = λ b. elim (is_carried batches b) as (λ (t : Bool). (if t then record b { carrier = Some (key_before b.key) } else b).run ≡ b.run) [ true ↦ refl | false ↦ refl ];
  events = λ b. elim (is_carried batches b) as (λ (t : Bool). (if t then record b { carrier = Some (key_before b.key) } else b).events ≡ b.events) [ true ↦ refl | false ↦ refl ];
}

-- the set that batches represent shows the runs that they show
pub standing-runs : (form : TextForm) (batches : List Batch) → (view_of (standing_for form batches)).runs ≡ (view_of batches).runs
standing-runs One batches = view-of (with_carrier_in batches) (carrier-keeps batches) batches
standing-runs Two batches = refl
