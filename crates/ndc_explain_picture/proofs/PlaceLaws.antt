-- Each block has a place.
use Rattle.std.proofs.Common.{◌≡◌, ℕ, Bool, true, false, nat_eq, List, [], ◌∷◌, length, Option, Some, None, is_some, if◌then◌else◌, refl, ap, ◌∙◌}
use Rattle.std.specs.List.{list_all}
use Rattle.std.specs.Map.{lookup}
use Rattle.std.proofs.lemmas.Bool.{and_from}
use Rattle.indexmap.specs.IndexMap.{insert_entry}
use Rattle.ndc_event.specs.Key.{key_eq}
use Rattle.ndc_event.specs.declared.batch.Batch.{Batch}
use Rattle.ndc_event.specs.declared.batch.Event.{Event}
use Rattle.ndc_event.specs.declared.key.BatchKey.{BatchKey}
use Rattle.ndc_event.specs.declared.key.Origin.{Origin}
use Rattle.ndc_event.specs.declared.key.RunId.{RunId}
use Rattle.ndc_event.specs.declared.kind.EventKind.{EventKind}
use Rattle.ndc_event.specs.declared.kind.EventKind.TheVariants.{WorkflowExecutionSignaled}
use Rattle.ndc_model_sets.proofs.KeyLemmas.{key_eq-self}
use Rattle.ndc_model_sets.specs.Sets.{earlier_of}
use Rattle.ndc_state.specs.Origins.{origin_of}
use Rattle.ndc_explain_picture.specs.Blocks.{blocks_of, kinds_of, summary_of}
use Rattle.ndc_explain_picture.specs.Layout.{Layouted, height_for, in_lane, is_placed, lane_number, lane_of, layout_of, no_lane, place_for, with_block, with_blocks}
use Rattle.ndc_explain_picture.specs.Places.{Placed, with_batches, with_events, with_key, with_kind, with_own}
use Rattle.ndc_domain.specs.Clusters.{ClusterList}
use Rattle.ndc_explain_picture.specs.declared.layout.Lane.{Lane}
use Rattle.ndc_explain_picture.specs.declared.places.Place.{Place}
use Rattle.ndc_explain.specs.declared.summary.Summary.{Summary}

-- whether a batch of this key has a place
abbrev has : BatchKey → List (BatchKey × Place) → Bool
has key places = is_some (lookup (key_eq key) places)

put-there : (key : BatchKey) (place : Place) (places : List (BatchKey × Place)) → has key (insert_entry key_eq places key place) ≡ true
put-there key place [] = ap (λ (t : Bool). is_some (if t then Some place else None)) (key_eq-self key)
put-there key place (e ∷ es) = by (key_eq key e.0) refl (put-there key place es)
  where
    by : (t : Bool) → key_eq key e.0 ≡ t → has key (insert_entry key_eq es key place) ≡ true → has key (if t then (e.0, place) ∷ es else e ∷ insert_entry key_eq es key place) ≡ true
    by true f rest = ap (λ (t : Bool). is_some (if t then Some place else lookup (key_eq key) es)) f
    by false f rest = ap (λ (t : Bool). is_some (if t then Some e.1 else lookup (key_eq key) (insert_entry key_eq es key place))) f ∙ rest

put-more : (key other : BatchKey) (place : Place) (places : List (BatchKey × Place)) → has key places ≡ true → has key (insert_entry key_eq places other place) ≡ true
put-more key other place [] h = absurd (cc)
put-more key other place (e ∷ es) h = by (key_eq other e.0) (put-more key other place es)
  where
    at-first : (s : Bool) → is_some (if s then Some e.1 else lookup (key_eq key) es) ≡ true → is_some (if s then Some place else lookup (key_eq key) es) ≡ true
    at-first true g = refl
    at-first false g = g

    later : (s : Bool) → (has key es ≡ true → has key (insert_entry key_eq es other place) ≡ true) → is_some (if s then Some e.1 else lookup (key_eq key) es) ≡ true
        → is_some (if s then Some e.1 else lookup (key_eq key) (insert_entry key_eq es other place)) ≡ true
    later true rest g = refl
    later false rest g = rest g

    by : (t : Bool) → (has key es ≡ true → has key (insert_entry key_eq es other place) ≡ true) → has key (if t then (e.0, place) ∷ es else e ∷ insert_entry key_eq es other place) ≡ true
    by true rest = at-first (key_eq key e.0) h
    by false rest = later (key_eq key e.0) rest h

-- events give no batch a place
own-keys : (place : Place) (origin : Origin) (copied : Option Origin) (places : Placed) → (with_own place origin copied places).keys ≡ places.keys
own-keys place origin None places = refl
own-keys place origin (Some from) places = refl

kind-keys : (place : Place) (run : RunId) (id version : ℕ) (kind : EventKind) (places : Placed) → (with_kind place run id version kind places).keys ≡ places.keys
kind-keys place run id version (WorkflowExecutionSignaled name input from) places = own-keys place (origin_of run id version None) from places
kind-keys place run id version _ places = refl

events-keys : (place : Place) (run : RunId) (events : List Event) (places : Placed) → (with_events place run events places).keys ≡ places.keys
events-keys place run [] places = refl
events-keys place run (e ∷ events) places = events-keys place run events (with_kind place run e.id e.version e.kind places) ∙ kind-keys place run e.id e.version e.kind places

-- what has a place keeps one
batches-more : (place : Place) (batches : List Batch) (places : Placed) (key : BatchKey) → has key places.keys ≡ true → has key (with_batches place batches places).keys ≡ true
batches-more place [] places key h = h
batches-more place (b ∷ batches) places key h =
    batches-more place batches (with_events place b.run b.events (with_key place b.key places)) key
    (ap (has key) (events-keys place b.run b.events (with_key place b.key places)) ∙ put-more key b.key place places.keys h)

-- the first of batches has a place
batches-first : (place : Place) (b : Batch) (batches : List Batch) (places : Placed) → has b.key (with_batches place (b ∷ batches) places).keys ≡ true
batches-first place b batches places =
    batches-more place batches (with_events place b.run b.events (with_key place b.key places)) b.key
    (ap (has b.key) (events-keys place b.run b.events (with_key place b.key places)) ∙ put-there b.key place places.keys)

-- a lane gives no place
lane-places : (clusters : Option ClusterList) (version : ℕ) (now : Layouted) → (lane_of clusters version now).places ≡ now.places
lane-places clusters version now = by (lookup (nat_eq (lane_number clusters version)) now.lanes)
  where
    by : (lane : Option Lane) → (in_lane (lane_number clusters version) version lane now).places ≡ now.places
    by None = refl
    by (Some lane) = refl

module _ (clusters : Option ClusterList) where
  block-more : (block : List Batch) (summary : Option Summary) (now : Layouted) (key : BatchKey) → has key now.places.keys ≡ true → has key (with_block clusters block summary now).places.keys ≡ true
  block-more block None now key h = h
  block-more block (Some summary) now key h =
      let lane = lane_of clusters summary.first.version now in
      batches-more (place_for (earlier_of summary.parent summary.carrier) (height_for (length (kinds_of block))) lane) block lane.places key
      (ap (λ (places : Placed). has key places.keys) (lane-places clusters summary.first.version now) ∙ h)

  block-first : (b : Batch) (block : List Batch) (now : Layouted) → has b.key (with_block clusters (b ∷ block) (summary_of (b ∷ block)) now).places.keys ≡ true
  block-first b block now =
      let lane = lane_of clusters b.key.version now in
      batches-first (place_for (earlier_of b.parent b.carrier) (height_for (length (kinds_of (b ∷ block)))) lane) b block lane.places

  blocks-more : (blocks : List (List Batch)) (now : Layouted) (key : BatchKey) → has key now.places.keys ≡ true → has key (with_blocks clusters blocks now).places.keys ≡ true
  blocks-more [] now key h = h
  blocks-more (block ∷ blocks) now key h =
      blocks-more blocks (with_block clusters block (summary_of block) now) key (block-more block (summary_of block) now key h)

  all-placed : (blocks : List (List Batch)) (now : Layouted) → list_all (is_placed (with_blocks clusters blocks now).places) blocks ≡ true
  all-placed [] now = refl
  all-placed (block ∷ blocks) now =
      and_from (is_placed (with_blocks clusters (block ∷ blocks) now).places block) (list_all (is_placed (with_blocks clusters (block ∷ blocks) now).places) blocks) (own block)
      (all-placed blocks (with_block clusters block (summary_of block) now))
    where
      own : (x : List Batch) → is_placed (with_blocks clusters blocks (with_block clusters x (summary_of x) now)).places x ≡ true
      own [] = refl
      own (b ∷ bs) = blocks-more blocks (with_block clusters (b ∷ bs) (summary_of (b ∷ bs)) now) b.key (block-first b bs now)

  -- each block has a place
  pub blocks_are_placed : (batches : List Batch) → list_all (is_placed (layout_of clusters (blocks_of batches)).places) (blocks_of batches) ≡ true
  blocks_are_placed batches = all-placed (blocks_of batches) no_lane
