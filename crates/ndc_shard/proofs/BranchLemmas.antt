-- The version histories of learned branches, gathered by run.
use Rattle.std.proofs.Common.{◌≡◌, ℕ, ◌==◌, Bool, true, false, not, ◌&&◌, ◌||◌, List, [], ◌∷◌, ◌++◌, Option, Some, cond, map, refl, sym, ◌∙◌, ap, arith}
use Rattle.std.specs.Prelude.{option_to_list, if◌then◌else◌}
use Rattle.std.specs.BTreeMap.{is_at}
use Rattle.std.specs.Global.{Vec}
use Rattle.std.specs.List.{AllByRecursion, filter, flat_map, list_any}
use Rattle.std.specs.Map.{lookup}
use Rattle.std.specs.Option.{option_map}
use Rattle.std.specs.Ordering.{is_eq, nat_cmp}
use Rattle.std.specs.declared.cmp.Ordering.{Ordering}
use Rattle.std.proofs.lemmas.Bool.Decides.{nat_tests}
use Rattle.std.proofs.lemmas.List.Concat.{flat_map-cons}
use Rattle.ndc_event.specs.Key.{key_eq}
use Rattle.ndc_event.specs.declared.batch.Batch.{Batch}
use Rattle.ndc_event.specs.declared.key.BatchKey.{BatchKey}
use Rattle.ndc_event.specs.declared.key.RunId.{RunId}
use Rattle.ndc_history.specs.declared.item.Item.{Item}
use Rattle.ndc_model_sets.specs.Branches.{has_child, histories, same_run}
use Rattle.ndc_model_sets.specs.Keys.{is_key_among}
use Rattle.ndc_model_sets.specs.Paths.{events_to, is_wanted, path_to, versions_of}
use Rattle.ndc_model_sets.specs.Reading.{history_at}
use Rattle.ndc_model_sets.specs.Sets.{IsSet, batch_at}
use Rattle.ndc_model_sets.proofs.BranchLemmas.{among-has, run-same}
use Rattle.ndc_model_sets.proofs.KeyOrder.{key_cmp, key_cmp-same}
use Rattle.ndc_model_sets.proofs.KeySets.{any-at}
use Rattle.ndc_model_sets.proofs.Lists.{all-from}
use Rattle.ndc_state.specs.Replay.{history_of}
use Rattle.ndc_shard.specs.Histories.{branch_ending, histories_at, listed}

abbrev pub Entries : Type 0
Entries = List (ℕ × Vec (List Item))

nat-same : (a b : ℕ) → is_eq (nat_cmp a b) ≡ (b == a)
nat-same a b = grind (arith, nat_tests)

nat-turn : (a b : ℕ) → (b == a) ≡ (a == b)
nat-turn a b = grind (arith, nat_tests)

-- the histories of a run are what stands under its number
pub histories-found : (run : RunId) (entries : Entries) → listed (lookup (is_at (nat_cmp run.value)) entries) ≡ histories_at run entries
histories-found run entries = ap (λ t. listed (lookup t entries)) (λ i value. nat-same run.value value i)

-- where what stands under the number of a run was changed
pub histories-changed : (run : RunId) (o : Option (Vec (List Item))) (before after : Entries)
    → ((q : ℕ) → lookup (is_at (nat_cmp q)) after ≡ cond (is_at (nat_cmp run.value) q) o (lookup (is_at (nat_cmp q)) before))
    → (one : RunId) → histories_at one after ≡ (if same_run run one then listed o else histories_at one before)
histories-changed run o before after e one =
    sym (histories-found one after) ∙ ap listed (e one.value ∙ ap (λ t. cond t o (lookup (is_at (nat_cmp one.value)) before)) (nat-same run.value one.value ∙ nat-turn run.value one.value))
    ∙ by (same_run run one) ∙ ap (λ l. if same_run run one then listed o else l) (histories-found one before)
  where
    by : (t : Bool) → listed (cond t o (lookup (is_at (nat_cmp one.value)) before)) ≡ (if t then listed o else listed (lookup (is_at (nat_cmp one.value)) before))
    by true = refl
    by false = refl

-- those of a run were taken out, and are put back with one more
pub histories-more : (run : RunId) (taken list : Vec (List Item)) (new : List Item) (before between after : Entries) → taken.items ≡ histories_at run before → list.items ≡ taken.items ++ new ∷ []
    → ((one : RunId) → histories_at one between ≡ (if same_run run one then [] else histories_at one before))
    → ((one : RunId) → histories_at one after ≡ (if same_run run one then list.items else histories_at one between))
    → (one : RunId) → histories_at one after ≡ (if same_run run one then histories_at one before ++ new ∷ [] else histories_at one before)
histories-more run taken list new before between after e f out put one = put one ∙ by (same_run run one) refl
  where
    by : (t : Bool) → same_run run one ≡ t → (if t then list.items else histories_at one between) ≡ (if t then histories_at one before ++ new ∷ [] else histories_at one before)
    by true h = f ∙ ap (λ l. l ++ new ∷ []) (e ∙ ap (λ (r : RunId). histories_at r before) (run-same run one h))
    by false h = out one ∙ ap (λ t. if t then [] else histories_at one before) h

-- the branches of all batches are those of the run
module _ (run : RunId) (parents : List BatchKey) (all : List Batch) (are : (b : Batch) → is_key_among b.key parents ≡ has_child b all) where
  each-branch : (bs : List Batch) → AllByRecursion (λ b. batch_at b.key all ≡ Some b) bs
      → flat_map (branch_ending run parents all) bs ≡ map (λ path. versions_of (history_of path)) (map (λ tip. path_to tip.key all) (filter (λ b. same_run b.run run && not (has_child b all)) bs))
  each-branch [] has = refl
  each-branch (x ∷ xs) has =
      flat_map-cons (branch_ending run parents all) x xs
      ∙ ap (λ t. (if same_run x.run run && not t then option_to_list (history_at x.key all) else []) ++ flat_map (branch_ending run parents all) xs) (are x)
      ∙ ap (λ o. (if same_run x.run run && not (has_child x all) then option_to_list (option_map (λ _. versions_of (events_to x.key all)) o) else []) ++ flat_map (branch_ending run parents all) xs) has.0
      ∙ by (same_run x.run run && not (has_child x all)) (each-branch xs has.1)
    where
      by : (t : Bool)
          → flat_map (branch_ending run parents all) xs ≡ map (λ path. versions_of (history_of path)) (map (λ tip. path_to tip.key all) (filter (λ b. same_run b.run run && not (has_child b all)) xs))
          → (if t then versions_of (events_to x.key all) ∷ [] else []) ++ flat_map (branch_ending run parents all) xs
          ≡ map (λ path. versions_of (history_of path)) (map (λ tip. path_to tip.key all) (cond t (x ∷ filter (λ b. same_run b.run run && not (has_child b all)) xs) (filter (λ b. same_run b.run run && not (has_child b all)) xs)))
      by true rest = ap (λ l. versions_of (events_to x.key all) ∷ l) rest
      by false rest = rest

-- before the first batch is gone over
pub branches-start : (run : RunId) (parents : List BatchKey) (all one two : List Batch) (entries : Entries) → IsSet all → entries ≡ [] → one ≡ all → two ≡ all
    → ((b : Batch) → is_key_among b.key parents ≡ has_child b one) → histories_at run entries ++ flat_map (branch_ending run parents all) two ≡ histories run all
branches-start run parents all one two entries set none first second are =
    ap (λ (es : Entries). histories_at run es ++ flat_map (branch_ending run parents all) two) none ∙ ap (flat_map (branch_ending run parents all)) second
    ∙ each-branch run parents all (λ b. are b ∙ ap (has_child b) first) all (all-from (λ b. batch_at b.key all ≡ Some b) all (λ b among. among-has all b set.ordered among))

-- the keys of parents
module _ (cmp : BatchKey → BatchKey → Ordering) (law : (a b : BatchKey) → cmp a b ≡ key_cmp a b) where
  pub parent-added : (parent : BatchKey) (before after : List BatchKey)
      → ((q : BatchKey) → list_any (is_at (cmp q)) after ≡ cond (is_at (cmp parent) q) true (list_any (is_at (cmp q)) before))
      → (b : Batch) → is_key_among b.key after ≡ (is_key_among b.key before || is_wanted (Some parent) b)
  parent-added parent before after e b =
      sym (any-at cmp law b.key after) ∙ e b.key ∙ ap (λ t. cond t true (list_any (is_at (cmp b.key)) before)) (ap is_eq (law parent b.key) ∙ key_cmp-same parent b.key)
      ∙ ap (λ t. cond (key_eq b.key parent) true t) (any-at cmp law b.key before) ∙ by (key_eq b.key parent) (is_key_among b.key before)
    where
      by : (s t : Bool) → cond s true t ≡ (t || s)
      by true true = refl
      by true false = refl
      by false true = refl
      by false false = refl
