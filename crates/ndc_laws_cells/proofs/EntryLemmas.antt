-- Entries that may be written: kinds below a tip, and the first batch of a run.
use Rattle.std.proofs.Common.{◌≡◌, ◌≤◌, ◌+◌, ◌^◌, ◌==◌, ℕ, true, is_some, count_by, List, [], ◌∷◌, length, map, ◌⊎◌, inl, inr, Option, Some, None, Ok, refl, sym, ◌∙◌, subst, ap, arith, IfSome, ◌<◌}
use Rattle.std.specs.List.{AllByRecursion}
use Rattle.std.proofs.Math.Nat.{max-le}
use Rattle.std.proofs.lemmas.Bool.{and_from, eq-eqb}
use Rattle.ndc_model_cells.specs.Writing.{Entry, alone, batch_below, carried_by, entry_below, first_batch, goes_on_as, greatest_task, key_behind, next_key}
use Rattle.ndc_command.specs.Plan.{beginning}
use Rattle.ndc_event.specs.Batch.{is_carrier_fit}
use Rattle.ndc_event.specs.Key.{run_of}
use Rattle.ndc_event.specs.declared.batch.Batch.{Batch}
use Rattle.ndc_event.specs.declared.batch.Event.{Event}
use Rattle.ndc_event.specs.declared.key.BatchKey.{BatchKey}
use Rattle.ndc_event.specs.declared.key.RunId.{RunId}
use Rattle.ndc_event.specs.declared.kind.EventKind.{EventKind}
use Rattle.ndc_event.specs.declared.name.Name.{Name}
use Rattle.ndc_index.specs.Texts.{is_original}
use Rattle.ndc_model_sets.specs.Branches.{workflow_tip}
use Rattle.ndc_model_sets.specs.Current.{state_to}
use Rattle.ndc_model_sets.specs.Sets.{Has, arrived, batch_at}
use Rattle.ndc_model_sets.specs.Sound.{CopiesNamed, ContinuesAs, IsSound, NamesOriginal}
use Rattle.ndc_model_sets.proofs.ArrivalLemmas.{is_there, was_or_new}
use Rattle.ndc_model_sets.proofs.BranchLemmas.{among-has}
use Rattle.ndc_model_sets.proofs.Lists.{Among}
use Rattle.ndc_state.specs.Value.{StateValue, new_state}
use Rattle.ndc_state.specs.Written.{events_from, replay_kinds}
use Rattle.ndc_text.specs.Ranges.{IsName, OptionKeyFits}
use Rattle.ndc_laws_cells.specs.Adding.{Added, IsNewest, MayAdd}
use Rattle.ndc_laws_cells.specs.Entries.{AreFew, IsCarriedIn, IsEntryOf, IsSecond, IsSmall, IsWrite}
use Rattle.ndc_laws_cells.proofs.KindLemmas.{plain-all}
use Rattle.ndc_laws_cells.proofs.MayLemmas.{below-added, first-added, next-many, next-newest, tip-all, tip-part}
use Rattle.ndc_laws_cells.proofs.RangeLemmas.{IsKeySmall, KindsFit, below-ranges, first-ranges, key-fits}
use Rattle.ndc_laws_cells.proofs.WriteLemmas.{beginning-replays, behind-newest, count-written, kinds-of, length-written}
use Rattle.ndc_model_cells.specs.Keeping.{HaveTasksUpTo}

-- a greatest task is no greater than what none is above
pub greatest-least : (n : ℕ) (batches : List Batch) → ((b : Batch) → Among b batches → b.key.task ≤ n) → greatest_task batches ≤ n
greatest-least n [] most = omega arith
greatest-least n (b ∷ bs) most = max-le (most b (inl refl)) (greatest-least n bs (λ x h. most x (inr h)))

-- a batch of these kinds goes on exactly where the last kind says so
pub goes-by : (id version : ℕ) (kinds : List EventKind) → is_some (goes_on_as (map (λ (event : Event). event.kind) (events_from id version kinds))) ≡ is_some (goes_on_as kinds)
goes-by id version kinds = ap (λ l. is_some (goes_on_as l)) (kinds-of id version kinds)

-- kinds that begin a run: there are some, they replay, and their copies name originals
pub record IsBeginning (all : List Batch) (key : BatchKey) (kinds : List EventKind) : Type 0 where
  pub first : EventKind
  pub rest : List EventKind
  pub are : kinds ≡ first ∷ rest
  pub after : StateValue
  pub replays : replay_kinds (new_state (run_of key)) key.version kinds ≡ Ok after
  pub names : AllByRecursion (NamesOriginal all) kinds

-- kinds that are few, and in range
pub record AreShort (originals : ℕ) (kinds : List EventKind) : Type 0 where
  pub originals_most : count_by is_original kinds ≤ originals
  pub length_most : length kinds ≤ 204803
  pub fit : KindsFit kinds

-- the first batch of a run, with the newest key of its version
module _ (all : List Batch) (sound : IsSound all) (named : CopiesNamed all) (key : BatchKey) (newest : IsNewest all key) (tasks : (b : Batch) → Has all b → b.key.task < 2 ^ 64) (most : key.task < 2 ^ 64)
    (domain workflow : Name) where
  pub first-is-added : (carrier : Option BatchKey) → ((at : BatchKey) → carrier ≡ Some at → (b : Batch) × (batch_at at all ≡ Some b) × ContinuesAs (run_of key) b.events)
      → (kinds : List EventKind) → IsBeginning all key kinds → is_carrier_fit key None carrier ≡ true → Added all (first_batch domain workflow key carrier kinds)
  first-is-added carrier carried kinds p fit =
      subst (λ l. Added all (first_batch domain workflow key carrier l)) (sym p.are)
      (first-added all key sound named newest tasks most domain workflow carrier p.first p.rest p.after fit carried
      (ap (replay_kinds (new_state (run_of key)) key.version) (sym p.are) ∙ p.replays) (subst (AllByRecursion (NamesOriginal all)) p.are p.names))

  pub first-entry : (part : List Batch) (kinds : List EventKind) → IsBeginning all key kinds → goes_on_as kinds ≡ None → IsEntryOf all part domain workflow key.version (alone (first_batch domain workflow key None kinds))
  first-entry part kinds p stays = record {
    domain_is = refl;
    workflow_is = refl;
    version_is = refl;
    carrier = refl;
    reached = refl;
    added = first-is-added None (λ at e. absurd (cc)) kinds p refl;
    goes = goes-by 1 key.version kinds ∙ ap is_some stays;
    second = tt;
  }

-- such a batch of few kinds is small
pub first-is-small : (domain workflow : Name) → IsName domain → IsName workflow → (key : BatchKey) → IsKeySmall key → (carrier : Option BatchKey) → OptionKeyFits carrier
    → (originals n : ℕ) (kinds : List EventKind) → AreShort originals kinds → key.task ≤ n → IsSmall originals n (first_batch domain workflow key carrier kinds)
first-is-small domain workflow d w key k carrier carrier_fits originals n kinds p t =
    let count = count-written is_original 1 key.version kinds in
    let len = length-written 1 key.version kinds in
    record {
      originals_most = let m = p.originals_most in omega (arith, count, m);
      events_most = let m = p.length_most in omega (arith, len, m);
      task_most = t;
      range = first-ranges domain workflow key carrier kinds carrier_fits d w k (let m = p.length_most in omega (arith, m)) p.fit;
    }

-- what begins a run is a beginning, and short
pub begins : (all : List Batch) (key : BatchKey) (workflow_type : Name) → IsBeginning all key (beginning workflow_type)
begins all key workflow_type = record {
  first = _;
  rest = _;
  are = refl;
  after = _;
  replays = beginning-replays (run_of key) key.version workflow_type;
  names = plain-all all (run_of key) (beginning workflow_type) (tt, (tt, tt));
}

pub begins-short : (originals : ℕ) (workflow_type : Name) → IsName workflow_type → AreShort originals (beginning workflow_type)
begins-short originals workflow_type name = record { originals_most = omega arith; length_most = omega arith; fit = (name, (tt, tt)) }

-- an entry of small batches
pub as-write : (all part : List Batch) (domain workflow : Name) (version originals : ℕ) (entry : Entry) → IsEntryOf all part domain workflow version entry
    → IsSmall originals (length all + 1) entry.batch → IfSome entry.second (IsSmall 0 (length all + 2)) → IsWrite all part domain workflow version originals entry
as-write all part domain workflow version originals entry e small seconds = record {
  domain_is = e.domain_is;
  workflow_is = e.workflow_is;
  version_is = e.version_is;
  carrier = e.carrier;
  reached = e.reached;
  added = e.added;
  small = small;
  goes = e.goes;
  second = by entry.second e.second seconds;
}
  where
    by : (o : Option Batch) → IfSome o (IsCarriedIn all entry.batch) → IfSome o (IsSmall 0 (length all + 2)) → IfSome o (IsSecond all entry.batch)
    by None c s = tt
    by (Some second) c s = record {
      added = c.added;
      domain_is = c.domain_is;
      workflow_is = c.workflow_is;
      version_is = c.version_is;
      carrier = c.carrier;
      parent = c.parent;
      stays = c.stays;
      small = s;
    }

-- kinds that go below a tip: they replay, their copies name originals, and where they end by going on, it is as the run of the next key
pub record IsBelow (all : List Batch) (s : StateValue) (version : ℕ) (next : RunId) (kinds : List EventKind) : Type 0 where
  pub first : EventKind
  pub rest : List EventKind
  pub are : kinds ≡ first ∷ rest
  pub after : StateValue
  pub replays : replay_kinds s version kinds ≡ Ok after
  pub names : AllByRecursion (NamesOriginal all) kinds
  pub going : (workflow_type : Name) → goes_on_as kinds ≡ Some workflow_type → ContinuesAs next (events_from s.next version kinds)

-- with one more batch tasks are greater by one at most
pub tasks-behind : (all : List Batch) (new : Batch) (n : ℕ) → IsSound all → HaveTasksUpTo n all → new.key.task ≤ n + 1 → HaveTasksUpTo (n + 1) (arrived new all)
tasks-behind all new n sound tasks most b has = by (was_or_new new all b sound.set.ordered has)
  where
    by : (b ≡ new) ⊎ Has all b → b.key.task ≤ n + 1
    by (inl same) = let e = ap (λ (x : Batch). x.key.task) same in omega (arith, e, most)
    by (inr old) = let t = tasks b old in omega (arith, t)

-- a writer that may add
module _ (all part : List Batch) (version : ℕ) (may : MayAdd all part version) where
  abbrev key : BatchKey
  key = next_key version part

  pub next-most : (n : ℕ) → HaveTasksUpTo n all → greatest_task part ≤ n
  next-most n most = greatest-least n part (λ b h. most b (may.within b (among-has part b may.part_set.ordered h)))

  module _ (tasks : HaveTasksUpTo (10 ^ 11) all) (domain workflow : Name) (tip : Batch) (is_tip : workflow_tip part ≡ Some tip)
      (kinds : List EventKind) (p : IsBelow all (state_to tip.run tip.key part) version (run_of (key_behind key)) kinds) where
    abbrev state : StateValue
    state = state_to tip.run tip.key part

    abbrev new : Batch
    new = batch_below domain workflow key tip state kinds

    pub new-added : Added all new
    new-added =
        subst (λ l. Added all (batch_below domain workflow key tip state l)) (sym p.are)
        (below-added all part version may tip is_tip domain workflow p.first p.rest p.after (ap (replay_kinds state version) (sym p.are) ∙ p.replays) (subst (AllByRecursion (NamesOriginal all)) p.are p.names))

    -- the batch that it carries, where it goes on
    carried-is : (workflow_type : Name) → goes_on_as kinds ≡ Some workflow_type → IsCarriedIn all new (first_batch domain workflow (key_behind key) (Some key) (beginning workflow_type))
    carried-is workflow_type e = record {
      added = first-is-added more new-added.sound new-added.named (key_behind key) (behind-newest all new may.sound (next-newest all part version may))
          (λ b has. let t = tasks-behind all new (10 ^ 11) may.sound tasks (omega (arith, most)) b has in omega (arith, t)) (omega (arith, most)) domain workflow (Some key) carried
          (beginning workflow_type) (begins more (key_behind key) workflow_type) (and_from (version == version) _ (eq-eqb version version refl) (eq-eqb (key.task + 1) (key.task + 1) refl));
      domain_is = refl;
      workflow_is = refl;
      version_is = refl;
      carrier = refl;
      parent = refl;
      stays = refl;
    }
      where
        more : List Batch
        more = arrived new all

        most : greatest_task part ≤ 10 ^ 11
        most = next-most (10 ^ 11) tasks

        carried : (at : BatchKey) → Some key ≡ Some at → (b : Batch) × (batch_at at more ≡ Some b) × ContinuesAs (run_of (key_behind key)) b.events
        carried at same =
            let one : key ≡ at = cc in
            (new, subst (λ (x : BatchKey). batch_at x more ≡ Some new) one (is_there new all may.sound.set.ordered new-added.fresh), p.going workflow_type e)

    second-is : (o : Option Name) → goes_on_as kinds ≡ o → IfSome (carried_by domain workflow key o) (IsCarriedIn all new)
    second-is None e = tt
    second-is (Some workflow_type) e = carried-is workflow_type e

    some-carried : (o : Option Name) → is_some o ≡ is_some (carried_by domain workflow key o)
    some-carried None = refl
    some-carried (Some workflow_type) = refl

    pub below-entry : IsEntryOf all part domain workflow version (entry_below domain workflow key (Some tip) part kinds)
    below-entry = record {
      domain_is = refl;
      workflow_is = refl;
      version_is = refl;
      carrier = refl;
      reached = ap is_some (tip-part all part version may tip is_tip);
      added = new-added;
      goes = goes-by state.next version kinds ∙ some-carried (goes_on_as kinds);
      second = second-is (goes_on_as kinds) refl;
    }

-- kinds below a tip that are short: they end below the greatest id, and where they go on it is with a name
pub record IsBelowShort (s : StateValue) (originals : ℕ) (kinds : List EventKind) : Type 0 where
  pub short : AreShort originals kinds
  pub ids_most : s.next + length kinds ≤ 10 ^ 12
  pub named : (workflow_type : Name) → goes_on_as kinds ≡ Some workflow_type → IsName workflow_type

-- a writer of few batches
module _ (all part : List Batch) (version : ℕ) (may : MayAdd all part version) (few : AreFew all version) where
  abbrev few_key : BatchKey
  few_key = next_key version part

  pub next-task : greatest_task part ≤ length all
  next-task = next-most all part version may (length all) few.tasks

  pub key-small : IsKeySmall few_key
  key-small = record {
    version_most = few.version_most;
    task_least = omega arith;
    task_most = let t = next-task in let m = few.batches_most in omega (arith, t, m);
  }

  pub behind-small : IsKeySmall (key_behind few_key)
  behind-small = record {
    version_most = few.version_most;
    task_least = omega arith;
    task_most = let t = next-task in let m = few.batches_most in omega (arith, t, m);
  }

  pub few-tasks : HaveTasksUpTo (10 ^ 11) all
  few-tasks b has = let t = few.tasks b has in let m = few.batches_most in omega (arith, t, m)

  module _ (domain workflow : Name) (d : IsName domain) (w : IsName workflow) (tip : Batch) (is_tip : workflow_tip part ≡ Some tip) (originals : ℕ) (kinds : List EventKind)
      (p : IsBelow all (state_to tip.run tip.key part) version (run_of (key_behind few_key)) kinds) (s : IsBelowShort (state_to tip.run tip.key part) originals kinds) where
    abbrev state_few : StateValue
    state_few = state_to tip.run tip.key part

    new-small : IsSmall originals (length all + 1) (batch_below domain workflow few_key tip state_few kinds)
    new-small =
        let count = count-written is_original state_few.next version kinds in
        let len = length-written state_few.next version kinds in
        let many = next-many all part version may tip is_tip in
        record {
          originals_most = let m = s.short.originals_most in omega (arith, count, m);
          events_most = let m = s.short.length_most in omega (arith, len, m);
          task_most = let t = next-task in omega (arith, t);
          range = below-ranges domain workflow few_key tip state_few kinds (few.range tip (tip-all all part version may tip is_tip)) d w key-small (omega (arith, many)) s.ids_most s.short.fit;
        }

    second-small : (o : Option Name) → goes_on_as kinds ≡ o → IfSome (carried_by domain workflow few_key o) (IsSmall 0 (length all + 2))
    second-small None e = tt
    second-small (Some workflow_type) e =
        first-is-small domain workflow d w (key_behind few_key) behind-small (Some few_key) (key-fits few_key key-small) 0 (length all + 2) (beginning workflow_type) (begins-short 0 workflow_type (s.named workflow_type e))
        (let t = next-task in omega (arith, t))

    pub below-write : IsWrite all part domain workflow version originals (entry_below domain workflow few_key (Some tip) part kinds)
    below-write =
        as-write all part domain workflow version originals (entry_below domain workflow few_key (Some tip) part kinds)
        (below-entry all part version may few-tasks domain workflow tip is_tip kinds p) new-small (second-small (goes_on_as kinds) refl)
