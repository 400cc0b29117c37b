-- Strays that are kept.
use Rattle.std.specs.Prelude.{◌≡◌, Bool, true, false, not, ◌&&◌, ◌||◌, List, [], ◌∷◌, Option, Some, None, is_some, if◌then◌else◌}
use Rattle.std.specs.List.{filter}
use Rattle.std.specs.Option.{option_map}
use Rattle.ndc_event.specs.declared.key.Origin.{Origin}
use Rattle.ndc_reapply.specs.declared.stray.Stray.{Stray}
use Rattle.ndc_event.specs.Key.{key_lt}
use Rattle.ndc_event.specs.declared.batch.Batch.{Batch}
use Rattle.ndc_event.specs.declared.key.BatchKey.{BatchKey}
use Rattle.ndc_model_cells.specs.Writing.{state_under}
use Rattle.ndc_model_sets.specs.Branches.{workflow_tip}
use Rattle.ndc_model_sets.specs.Current.{state_to, strays}
use Rattle.ndc_model_sets.specs.Origins.{origins_in, signals_in}
use Rattle.ndc_model_sets.specs.Sets.{arrived, batch_at}
use Rattle.ndc_model_sets.specs.Sound.{IsSound}
use Rattle.ndc_state.specs.Origins.{is_among}
use Rattle.ndc_state.specs.Value.{StateValue}
use Rattle.ndc_model_sets.specs.Keys.{is_key}
use Rattle.ndc_model_sets.specs.Reading.{current_key}
use Rattle.ndc_model_sets.specs.Last.{is_nil, last_batch}
use Rattle.ndc_shard_runs.specs.RunMap.{part_of}

-- whether the origin of a stray is none of these
abbrev pub is_unlisted : List Origin → Stray → Bool
is_unlisted origins stray = not (is_among stray.origin origins)

-- this tip comes before the key, and its state is not open
pub record IsIdle (batches : List Batch) (tip : Batch) (key : BatchKey) : Type 0 where
  pub before : key_lt tip.key key ≡ true
  pub closed : (state_to tip.run tip.key batches).running ≡ false

-- a batch follows all that is learned: it goes on from the current branch of the current run, or it begins a run
-- after all others, of which the current one is not open
pub data Follows (batches : List Batch) (b : Batch) : Type 0 where
  below : (tip : Batch) → last_batch batches ≡ Some tip → b.parent ≡ Some tip.key → Follows batches b
  begins : b.parent ≡ None → part_of b.run batches ≡ [] → ((tip : Batch) → last_batch batches ≡ Some tip → IsIdle batches tip b.key) → Follows batches b

-- whether there is none
abbrev pub is_empty : List Stray → Bool
is_empty [] = true
is_empty (stray ∷ list) = false

-- whether there may be strays: not where they are known to be none
abbrev pub may_have : Option (List Stray) → Bool
may_have None = true
may_have (Some list) = not (is_empty list)

-- what is known of the strays once a batch is learned that follows all others, or does not
abbrev pub after_batch : Batch → Bool → Option (List Stray) → Option (List Stray)
after_batch b follows kept = if follows then option_map (filter (is_unlisted (origins_in b.run b.events))) kept else None

-- the same, where the batch may also lie beside what is current, without a signal
abbrev pub after_any : Batch → Bool → Bool → Option (List Stray) → Option (List Stray)
after_any b beside follows kept = if beside then kept else after_batch b follows kept

-- whether the key, where there is one, comes after this one
abbrev pub is_ahead : BatchKey → Option BatchKey → Bool
is_ahead key None = false
is_ahead key (Some tip) = key_lt key tip

-- whether a batch lies beside what is current: it has a parent and no signal, and comes before the tip of its run
abbrev pub lies_beside : List Batch → Batch → Bool
lies_beside batches b = (is_some b.parent && is_empty (signals_in b.run b.events)) && is_ahead b.key (current_key b.run batches)

-- what is known of the strays is so
abbrev pub AreKnown : List Batch → Option (List Stray) → Type 0
AreKnown batches None = Unit {0}
AreKnown batches (Some list) = list ≡ strays batches

-- whether this tip, where there is one, comes before the key, and its state is not open
abbrev pub is_idle : Option Batch → BatchKey → List Batch → Bool
is_idle None key batches = true
is_idle (Some tip) key batches = key_lt tip.key key && not (state_to tip.run tip.key batches).running

-- whether a batch with this parent goes on from the current branch of the current run, or begins a run after all
-- others, of which the current one is not open
abbrev pub follows_with : Option BatchKey → List Batch → Batch → Bool
follows_with None batches b = is_nil (part_of b.run batches) && is_idle (last_batch batches) b.key batches
follows_with (Some parent) batches b = is_key parent (option_map (λ tip. tip.key) (last_batch batches))

-- whether a batch follows all that is learned
abbrev pub follows : List Batch → Batch → Bool
follows batches b = follows_with b.parent batches b

-- whether a state, where there is one, is open
abbrev pub is_open : Option StateValue → Bool
is_open None = false
is_open (Some state) = state.running

-- whether reapplication is due: there are strays, and the current run is open
abbrev pub is_due : List Batch → Bool
is_due batches = not (is_empty (strays batches)) && is_open (state_under (workflow_tip batches) batches)

-- whether strays that are known are none, and stay none with a batch that lies beside what is current, or follows all others
abbrev pub stays_empty : Bool → Bool → Option (List Stray) → Bool
stays_empty beside follows kept = not (may_have kept) && (beside || follows)

-- with this batch there is no stray
abbrev pub StaysSettled : Batch → List Batch → Type 0
StaysSettled b batches = IsSound (arrived b batches) → batch_at b.key batches ≡ None → strays (arrived b batches) ≡ []
