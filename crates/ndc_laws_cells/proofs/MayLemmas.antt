-- What a writer that may add knows of its tip, and the batches that it adds.
use Rattle.std.proofs.Common.{◌≡◌, ◌≢◌, ◌<◌, ◌≤◌, ◌+◌, ◌^◌, ◌==◌, not, ℕ, Bool, true, false, List, [], ◌∷◌, ◌++◌, length, ◌⊎◌, inl, inr, Option, Some, None, Result, Ok, Err, IsOk, refl, sym, ◌∙◌, subst, ap, arith}
use Rattle.std.specs.Prelude.{if◌then◌else◌, nat_lt}
use Rattle.std.specs.List.{AllByRecursion}
use Rattle.std.proofs.Math.Nat.{le-max_left, le-max_right}
use Rattle.std.proofs.lemmas.Bool.Decides.{nat_tests}
use Rattle.std.proofs.lemmas.Bool.{and_from, and_parts, eq-eqb, eqb-true}
use Rattle.ndc_event.specs.Batch.{are_consecutive, are_of_version, fault_at, fault_of, follow_from, is_carrier_fit, is_first_fit, is_parent_fit}
use Rattle.ndc_event.specs.Key.{key_lt, run_of}
use Rattle.ndc_event.specs.declared.batch.Batch.{Batch}
use Rattle.ndc_event.specs.declared.batch.BatchFault.{BatchFault}
use Rattle.ndc_event.specs.declared.batch.Event.{Event}
use Rattle.ndc_event.specs.declared.key.BatchKey.{BatchKey}
use Rattle.ndc_event.specs.declared.key.RunId.{RunId}
use Rattle.ndc_event.specs.declared.kind.EventKind.{EventKind}
use Rattle.ndc_event.specs.declared.name.Name.{Name}
use Rattle.ndc_state.specs.declared.rule.StateError.{StateError}
use Rattle.ndc_state.specs.Replay.{history_of, replay_of, replay_on}
use Rattle.ndc_state.specs.Value.{StateValue, new_state}
use Rattle.ndc_state.specs.Written.{events_from, replay_kinds}
use Rattle.ndc_state.proofs.LawProofs.{in_parts}
use Rattle.ndc_state.proofs.ReplayLemmas.{follow-replay, run-replay}
use Rattle.ndc_model_sets.specs.Branches.{greatest_key, workflow_tip}
use Rattle.ndc_model_sets.specs.Current.{replayed_or_new, state_to}
use Rattle.ndc_model_sets.specs.Paths.{events_to, last_event, last_id, path_to}
use Rattle.ndc_model_sets.specs.Sets.{Has, batch_at}
use Rattle.ndc_model_sets.specs.Sound.{ContinuesAs, CopiesNamed, IsSound, NamesOriginal}
use Rattle.ndc_model_sets.specs.Writing.{Begins, GoesBelow}
use Rattle.ndc_model_sets.proofs.BranchLemmas.{among-has, greatest-among, has-among}
use Rattle.ndc_model_sets.proofs.CurrentLaws.{workflow_is_greatest}
use Rattle.ndc_model_sets.proofs.CurrentLemmas.{path-begins}
use Rattle.ndc_model_sets.proofs.FaultLemmas.{passes}
use Rattle.ndc_model_sets.proofs.KeyLemmas.{before-from, before-irrefl, key-parts}
use Rattle.ndc_model_sets.proofs.Lists.{Among}
use Rattle.ndc_model_sets.proofs.PathIds.{AreEventsTo, ends}
use Rattle.ndc_model_sets.proofs.PathLaws.{events-to}
use Rattle.ndc_model_sets.proofs.PathLemmas.{part-path, path_is}
use Rattle.ndc_model_sets.proofs.SetLemmas.{found-has, found-key}
use Rattle.ndc_model_sets.proofs.SoundLemmas.{part_is_sound}
use Rattle.ndc_model_cells.specs.Writing.{batch_below, first_batch, greatest_task, greatest_version, next_key}
use Rattle.ndc_laws_cells.specs.Adding.{Added, IsNewest, MayAdd}
use Rattle.ndc_laws_cells.proofs.AddLemmas.{add-below, add-first}
use Rattle.ndc_laws_cells.proofs.NamedLemmas.{either-way}

-- no batch has a later task than the greatest
pub task-most : (batches : List Batch) (b : Batch) → Among b batches → b.key.task ≤ greatest_task batches
task-most [] b h = absurd h
task-most (x ∷ xs) b (inl same) = subst (λ (y : Batch). y.key.task ≤ greatest_task (x ∷ xs)) (sym same) (le-max_left x.key.task (greatest_task xs))
task-most (x ∷ xs) b (inr h) = let l = task-most xs b h in let m = le-max_right x.key.task (greatest_task xs) in omega (arith, l, m)

-- nor a greater version
pub version-most : (batches : List Batch) (b : Batch) → Among b batches → b.key.version ≤ greatest_version batches
version-most [] b h = absurd h
version-most (x ∷ xs) b (inl same) = subst (λ (y : Batch). y.key.version ≤ greatest_version (x ∷ xs)) (sym same) (le-max_left x.key.version (greatest_version xs))
version-most (x ∷ xs) b (inr h) = let l = version-most xs b h in let m = le-max_right x.key.version (greatest_version xs) in omega (arith, l, m)

-- what holds of all kinds holds of the kinds of the events that they become
pub written-all : (P : EventKind → Type 0) (id version : ℕ) (kinds : List EventKind) → AllByRecursion P kinds → AllByRecursion (λ (event : Event). P event.kind) (events_from id version kinds)
written-all P id version [] all = tt
written-all P id version (kind ∷ kinds) all = (all.0, written-all P (id + 1) version kinds all.1)

-- events that are written follow each other, and have their version
pub written-follow : (id version : ℕ) (kinds : List EventKind) → follow_from id (events_from (id + 1) version kinds) ≡ true
written-follow id version [] = refl
written-follow id version (kind ∷ kinds) = and_from (id + 1 == id + 1) _ (eq-eqb (id + 1) (id + 1) refl) (written-follow (id + 1) version kinds)

pub written-version : (id version : ℕ) (kinds : List EventKind) → are_of_version version (events_from id version kinds) ≡ true
written-version id version [] = refl
written-version id version (kind ∷ kinds) = and_from (version == version) _ (eq-eqb version version refl) (written-version (id + 1) version kinds)

no-fault : (t : Bool) (fault : BatchFault) (rest : Option BatchFault) → t ≡ true → rest ≡ None → (if not t then Some fault else rest) ≡ None
no-fault t fault rest e f = ap (λ u. if not u then Some fault else rest) e ∙ f

-- a batch of events that are written has no fault where it fits its place
pub written-faultless : (b : Batch) (id : ℕ) (kind : EventKind) (kinds : List EventKind) → b.events ≡ events_from id b.key.version (kind ∷ kinds)
    → is_first_fit b id b.parent ≡ true → is_parent_fit b.key b.parent ≡ true → is_carrier_fit b.key b.parent b.carrier ≡ true → fault_of b ≡ None
written-faultless b id kind kinds e first parent carrier =
    ap (fault_at b) e
    ∙ no-fault _ _ _ (ap are_consecutive e ∙ written-follow id b.key.version kinds)
    (no-fault _ _ _ (ap (are_of_version b.key.version) e ∙ written-version id b.key.version (kind ∷ kinds))
    (no-fault _ _ _ first (no-fault _ _ _ parent (no-fault _ _ _ carrier refl))))

-- a key that comes after all of its version is new
pub newest-fresh : (all : List Batch) (key : BatchKey) → IsNewest all key → batch_at key all ≡ None
newest-fresh all key newest = by (batch_at key all) refl
  where
    by : (o : Option Batch) → batch_at key all ≡ o → o ≡ None
    by None e = refl
    by (Some b) e =
        let same : b.key ≡ key = found-key all key b e in
        absurd (before-irrefl key (subst (λ (k : BatchKey). key_lt k key ≡ true) same (newest b (found-has all key b e) (ap (λ (k : BatchKey). k.version) same))))

ends-count : (id : ℕ) (events : List Event) → follow_from id events ≡ true → ends id events ≡ id + length events
ends-count id [] e = omega (arith)
ends-count id (x ∷ xs) e =
    let p = and_parts (x.id == id + 1) (follow_from x.id xs) e in
    let n = eqb-true x.id (id + 1) p.0 in
    let rest = ends-count x.id xs p.1 in
    rest ∙ omega (arith, n)

module _ (all part : List Batch) (version : ℕ) (may : MayAdd all part version) where
  pub new-above : (b : Batch) → Has part b → key_lt b.key (next_key version part) ≡ true
  new-above b has = before-from b.key (next_key version part) (by (either-way b.key.version version))
    where
      least : b.key.version ≤ version
      least = may.top b has

      tasks : b.key.task ≤ greatest_task part
      tasks = task-most part b (has-among part b has)

      by : (b.key.version < version) ⊎ ((b.key.version ≡ version) ⊎ (version < b.key.version)) → (b.key.version < version) ⊎ ((b.key.version ≡ version) × (b.key.task < greatest_task part + 1))
      by (inl l) = inl l
      by (inr (inl e)) = inr (e, omega (arith, tasks))
      by (inr (inr l)) = absurd (omega (arith, l, least))

  pub next-newest : IsNewest all (next_key version part)
  next-newest b has same = new-above b (may.own b has same)

  pub part-sound : IsSound part
  part-sound = part_is_sound all part may.sound may.part_set may.part_closed may.within

  module _ (tip : Batch) (is_tip : workflow_tip part ≡ Some tip) where
    pub tip-greatest : greatest_key part ≡ Some tip
    tip-greatest = sym (workflow_is_greatest part may.part_set may.part_closed part-sound.parents part-sound.chains) ∙ is_tip

    pub tip-part : Has part tip
    tip-part = among-has part tip may.part_set.ordered (greatest-among part tip tip-greatest)

    pub tip-all : Has all tip
    tip-all = may.within tip tip-part

    abbrev state : StateValue
    state = state_to tip.run tip.key part

    pub tip-state : replay_of tip.run (events_to tip.key part) ≡ Ok state
    tip-state = by (replay_of tip.run (events_to tip.key part)) refl (part-sound.replays tip tip-part)
      where
        by : (r : Result StateValue StateError) → replay_of tip.run (events_to tip.key part) ≡ r → IsOk r → r ≡ Ok (replayed_or_new tip.run r)
        by (Ok s) e ok = refl
        by (Err error) e ok = absurd (cc)

    pub events-same : events_to tip.key part ≡ events_to tip.key all
    events-same = ap history_of (part-path part all tip may.part_set may.part_closed may.sound.set may.sound.closed may.within tip-part)

    pub tip-events : AreEventsTo tip (events_to tip.key part)
    tip-events = events-to part tip may.part_set may.part_closed part-sound.faultless part-sound.parents tip-part

    pub next-counts : state.next ≡ length (events_to tip.key part) + 1
    next-counts = (follow-replay (new_state tip.run) state 0 (events_to tip.key part) tip-state refl).1

    pub next-is : last_id tip.events + 1 ≡ state.next
    next-is = let e = ends-count 0 (events_to tip.key part) tip-events.follow in let f = tip-events.end in let c = next-counts in omega (arith, e, f, c)

    pub next-many : 1 < state.next
    next-many = let c = next-counts in let l = some (events_to tip.key part) refl in omega (arith, c, l)
      where
        some : (events : List Event) → events_to tip.key part ≡ events → 0 < length (events_to tip.key part)
        some [] e =
            let p = passes tip (part-sound.faultless tip tip-part) in
            let none : None ≡ last_event tip.events = sym (ap last_event e) ∙ tip-events.last in
            let more : None ≡ last_event (p.event ∷ p.events) = none ∙ ap last_event p.are in
            absurd (cc)
        some (x ∷ xs) e = subst (λ (l : List Event). 0 < length l) (sym e) (omega (arith))

    pub state-run : state.run ≡ tip.run
    state-run = run-replay (new_state tip.run) state (events_to tip.key part) tip-state

    -- a batch below the tip whose kinds replay and whose copies name originals is added
    pub below-added : (domain workflow : Name) (kind : EventKind) (kinds : List EventKind) (t : StateValue) → replay_kinds state version (kind ∷ kinds) ≡ Ok t
        → AllByRecursion (NamesOriginal all) (kind ∷ kinds) → Added all (batch_below domain workflow (next_key version part) tip state (kind ∷ kinds))
    below-added domain workflow kind kinds t replays names =
        add-below all part tip new t may.sound may.named goes (written-all (NamesOriginal all) state.next version (kind ∷ kinds) names)
        (ap (λ events. replay_of tip.run (events ++ new.events)) (sym events-same)
        ∙ in_parts (new_state tip.run) (events_to tip.key part) new.events
        ∙ ap (λ r. replay_on r new.events) tip-state ∙ replays)
      where
        new : Batch
        new = batch_below domain workflow (next_key version part) tip state (kind ∷ kinds)

        later : nat_lt 1 state.next ≡ true
        later = let m = next-many in grind (arith, nat_tests)

        parent : is_parent_fit (next_key version part) (Some tip.key) ≡ true
        parent =
            let v : tip.key.version ≤ version = may.top tip tip-part in
            let t : tip.key.task ≤ greatest_task part = task-most part tip (has-among part tip tip-part) in
            let one : nat_lt version tip.key.version ≡ false = grind (arith, nat_tests) in
            let two : nat_lt tip.key.task (greatest_task part + 1) ≡ true = grind (arith, nat_tests) in
            and_from (not (nat_lt version tip.key.version)) (nat_lt tip.key.task (greatest_task part + 1)) (ap not one) two

        goes : GoesBelow all part tip new
        goes = record {
          part_set = may.part_set;
          part_closed = may.part_closed;
          within = may.within;
          greatest = tip-greatest;
          above = new-above;
          own = may.own;
          fresh = newest-fresh all (next_key version part) next-newest;
          faultless = written-faultless new state.next kind kinds refl later parent refl;
          parent = refl;
          run = refl;
          ids = next-is;
        }

-- run ids of keys with small tasks name their keys
pub run-key : (one two : BatchKey) → one.task < 2 ^ 64 → two.task < 2 ^ 64 → (run_of one).value ≡ (run_of two).value → one ≡ two
run-key one two small other same = key-parts one two (omega (arith, small, other, same)) (omega (arith, small, other, same))

-- a run is that of the key of one of its batches
pub run-begins : (all : List Batch) (b : Batch) → IsSound all → Has all b → (start : Batch) × Has all start × ((run_of start.key).value ≡ b.run.value)
run-begins all b sound has =
    let s = path-begins all b (path_to b.key all) sound.parents (path_is all b sound.set sound.closed has) in
    let p = passes s.0 (sound.faultless s.0 s.1) in
    let f : is_first_fit s.0 p.event.id None ≡ true = subst (λ (o : Option BatchKey). is_first_fit s.0 p.event.id o ≡ true) s.2 p.first in
    let v = and_parts (p.event.id == 1) (s.0.run.value == (run_of s.0.key).value) f in
    (s.0, s.1, sym (eqb-true s.0.run.value (run_of s.0.key).value v.1) ∙ ap (λ (r : RunId). r.value) s.3)

-- a first batch with the newest key of its version, whose kinds replay and whose copies name originals, is added
module _ (all : List Batch) (key : BatchKey) (sound : IsSound all) (named : CopiesNamed all) (newest : IsNewest all key)
    (small : (b : Batch) → Has all b → b.key.task < 2 ^ 64) (key_small : key.task < 2 ^ 64) where
  pub new-run : (b : Batch) → Has all b → b.run ≢ run_of key
  new-run b has same =
      let s = run-begins all b sound has in
      let k : s.0.key ≡ key = run-key s.0.key key (small s.0 s.1) key_small (s.2 ∙ ap (λ (r : RunId). r.value) same) in
      before-irrefl key (subst (λ (x : BatchKey). key_lt x key ≡ true) k (newest s.0 s.1 (ap (λ (x : BatchKey). x.version) k)))

  pub first-added : (domain workflow : Name) (carrier : Option BatchKey) (kind : EventKind) (kinds : List EventKind) (t : StateValue) → is_carrier_fit key None carrier ≡ true
      → ((at : BatchKey) → carrier ≡ Some at → (b : Batch) × (batch_at at all ≡ Some b) × ContinuesAs (run_of key) b.events)
      → replay_kinds (new_state (run_of key)) key.version (kind ∷ kinds) ≡ Ok t → AllByRecursion (NamesOriginal all) (kind ∷ kinds)
      → Added all (first_batch domain workflow key carrier (kind ∷ kinds))
  first-added domain workflow carrier kind kinds t fit carried replays names =
      add-first all new t sound named begins (written-all (NamesOriginal all) 1 key.version (kind ∷ kinds) names) replays
    where
      new : Batch
      new = first_batch domain workflow key carrier (kind ∷ kinds)

      begins : Begins all new
      begins = record {
        fresh = newest-fresh all key newest;
        faultless = written-faultless new 1 kind kinds refl (and_from true _ refl (eq-eqb (run_of key).value (run_of key).value refl)) refl fit;
        parent = refl;
        alone = new-run;
        carrier = carried;
      }
