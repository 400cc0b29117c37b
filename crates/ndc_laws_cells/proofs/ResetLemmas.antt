-- What a reset adds.
use Rattle.std.proofs.Common.{◌≡◌, ◌≤◌, ◌+◌, ◌-◌, ◌&&◌, not, nat_lt, ℕ, Bool, true, false, codes, List, [], ◌∷◌, ◌++◌, length, ◌⊎◌, inl, inr, Option, Some, None, Result, Ok, Err, IsOkAnd, IsTrue, refl, sym, ◌∙◌, subst, ap, arith, ◌^◌}
use Rattle.std.specs.List.{AllByRecursion}
use Rattle.std.specs.Prelude.{if◌then◌else◌}
use Rattle.std.proofs.lemmas.Bool.{and_parts}
use Rattle.std.proofs.lemmas.Bool.Decides.{nat_tests}
use Rattle.ndc_model_cells.specs.Writing.{Entry, alone, batch_below, carried_by, entry_below, first_batch, goes_on_as, greatest_task, is_close_full, key_behind, next_key, reset_below, reset_close, reset_entries, reset_refused}
use Rattle.ndc_command.specs.declared.command.Command.TheVariants.{Terminate}
use Rattle.ndc_command.specs.declared.refusal.CommandError.TheVariants.{Refused}
use Rattle.ndc_command.specs.declared.refusal.Refusal.TheVariants.{HistoryFull}
use Rattle.ndc_command.specs.Plan.{plan_below, plan_of, within, written}
use Rattle.ndc_command.specs.Stage.{refuse}
use Rattle.ndc_event.specs.Key.{run_of}
use Rattle.ndc_event.specs.Outcome.{◌>>=◌}
use Rattle.ndc_event.specs.declared.batch.Batch.{Batch}
use Rattle.ndc_event.specs.declared.batch.Event.{Event}
use Rattle.ndc_event.specs.declared.key.BatchKey.{BatchKey}
use Rattle.ndc_event.specs.declared.key.Origin.{Origin}
use Rattle.ndc_event.specs.declared.key.RunId.{RunId}
use Rattle.ndc_event.specs.declared.kind.EventKind.{EventKind}
use Rattle.ndc_event.specs.declared.kind.EventKind.TheVariants as kind
use Rattle.ndc_event.specs.declared.name.Name.{Name}
use Rattle.ndc_reset.specs.declared.plan.ResetError.{ResetError}
use Rattle.ndc_reset.specs.declared.plan.ResetError.TheVariants as reset
use Rattle.ndc_reset.specs.Laws.{GoesOn}
use Rattle.ndc_reset.specs.Reset.{events_before, is_point, is_signal, repeated, repeated_kinds, reset_kinds, reset_of, signals_onward}
use Rattle.ndc_reset.proofs.LawProofs.{reset_goes_on}
use Rattle.ndc_model_sets.specs.Branches.{workflow_tip}
use Rattle.ndc_model_sets.specs.Current.{state_to}
use Rattle.ndc_model_sets.specs.Learned.{IsPart}
use Rattle.ndc_model_sets.specs.Paths.{events_to, path_to}
use Rattle.ndc_model_sets.specs.Sets.{Has, arrived}
use Rattle.ndc_model_sets.specs.Sound.{CopiesNamed, HasOriginal, NamesOriginal}
use Rattle.ndc_model_sets.proofs.ArrivalLemmas.{stays}
use Rattle.ndc_model_sets.proofs.ForkLemmas.{path-run}
use Rattle.ndc_model_sets.proofs.Lists.{Among, all-join, filter-among}
use Rattle.ndc_model_sets.proofs.PathLemmas.{path_is}
use Rattle.ndc_state.specs.Origins.{origin_of}
use Rattle.ndc_state.specs.Value.{StateValue, new_state}
use Rattle.ndc_state.specs.Written.{failover_close, replay_kinds}
use Rattle.ndc_state.specs.declared.rule.StateError.{StateError}
use Rattle.ndc_text.specs.Ranges.{IsName, KindFits, OriginFits, is_id, is_run, is_version}
use Rattle.ndc_laws_cells.specs.Adding.{MayAdd}
use Rattle.ndc_laws_cells.specs.Entries.{AddsOne, AddsTwo, AreFew, IsEntryOf, IsWrite, WritesAlone, WritesBehind}
use Rattle.ndc_laws_cells.proofs.AddLemmas.{more-originals}
use Rattle.ndc_laws_cells.proofs.CommandLemmas.{HasFirst, planned-goes-below, planned-short}
use Rattle.ndc_laws_cells.proofs.CountLemmas.{arrived-length}
use Rattle.ndc_laws_cells.proofs.EntryLemmas.{AreShort, IsBeginning, IsBelow, as-write, behind-small, below-entry, below-write, few-tasks, first-entry, first-is-small, key-small, next-most, next-task, tasks-behind}
use Rattle.ndc_laws_cells.proofs.FreshLemmas.{among-history}
use Rattle.ndc_laws_cells.proofs.KindLemmas.{IsQuiet, plain-names, quiet-none}
use Rattle.ndc_laws_cells.proofs.MayLemmas.{next-newest, part-sound, tip-part, tip-state}
use Rattle.ndc_laws_cells.proofs.RangeLemmas.{KindsFit, event-in}
use Rattle.ndc_laws_cells.proofs.StrayLemmas.{origin-named}
use Rattle.ndc_laws_cells.proofs.WriteLemmas.{Stays, all-stay, behind-newest, goes-step}
use Rattle.ndc_model_cells.specs.Keeping.{HaveTasksUpTo}

-- what holds of the kinds of events as another run repeats them
module _ (P : EventKind → Type 0) (run : RunId) where
  repeated-each : (events : List Event) → ((e : Event) → Among e events → P (repeated run e.id e.version e.kind)) → AllByRecursion P (repeated_kinds run events)
  repeated-each [] each = tt
  repeated-each (e ∷ es) each = (each e (inl refl), repeated-each es (λ x h. each x (inr h)))

  -- holds of all that a reset writes, where it holds of a failed decision and of scheduling
  pub reset-each : P (kind.DecisionTaskFailed (codes "reset")) → P kind.DecisionTaskScheduled → (point : ℕ) (history : List Event)
      → ((e : Event) → Among e history → P (repeated run e.id e.version e.kind)) → AllByRecursion P (reset_kinds run point history)
  unfolding reset_kinds
  reset-each failed scheduled point history each =
      all-join P (repeated_kinds run (events_before point history)) (kind.DecisionTaskFailed (codes "reset") ∷ kind.DecisionTaskScheduled ∷ repeated_kinds run (signals_onward point history))
      (repeated-each (events_before point history) (λ e h. each e (filter-among _ history e h).1))
      (failed, (scheduled, repeated-each (signals_onward point history) (λ e h. each e (filter-among _ history e h).1)))

-- a repeated kind is not an original signal
repeated-quiet : (run : RunId) (id version : ℕ) (k : EventKind) → IsQuiet (repeated run id version k)
repeated-quiet run id version (kind.WorkflowExecutionSignaled _ _ _) = refl
repeated-quiet run id version _ = refl

-- by a repeated signal no run goes on
signal-stays : (run : RunId) (id version : ℕ) (k : EventKind) → is_signal k ≡ true → Stays (repeated run id version k)
signal-stays run id version (kind.WorkflowExecutionSignaled _ _ _) is = refl
signal-stays run id version _ is = absurd (cc)

-- the last kinds decide
goes-behind : (front : List EventKind) (k : EventKind) (ks : List EventKind) → goes_on_as (front ++ k ∷ ks) ≡ goes_on_as (k ∷ ks)
goes-behind [] k ks = refl
goes-behind (x ∷ []) k ks = goes-step x k ks
goes-behind (x ∷ y ∷ front) k ks = goes-step x y (front ++ k ∷ ks) ∙ goes-behind (y ∷ front) k ks

pub reset-stays : (run : RunId) (point : ℕ) (history : List Event) → goes_on_as (reset_kinds run point history) ≡ None
unfolding reset_kinds
reset-stays run point history =
    goes-behind (repeated_kinds run (events_before point history)) (kind.DecisionTaskFailed (codes "reset")) (kind.DecisionTaskScheduled ∷ repeated_kinds run (signals_onward point history))
    ∙ all-stay (kind.DecisionTaskFailed (codes "reset") ∷ kind.DecisionTaskScheduled ∷ repeated_kinds run (signals_onward point history)) (
      refl,
      (
        refl,
        repeated-each Stays run (signals_onward point history)
            (λ e h. signal-stays run e.id e.version e.kind (and_parts (not (nat_lt e.id point)) (is_signal e.kind) (filter-among (λ event. not (nat_lt event.id point) && is_signal event.kind) history e h).0).1),
      ),
    )

reset-some : (run : RunId) (point : ℕ) (history : List Event) → HasFirst (reset_kinds run point history)
unfolding reset_kinds
reset-some run point history = by (repeated_kinds run (events_before point history))
  where
    by : (front : List EventKind) → HasFirst (front ++ kind.DecisionTaskFailed (codes "reset") ∷ kind.DecisionTaskScheduled ∷ repeated_kinds run (signals_onward point history))
    by [] = record { first = _; rest = _; are = refl }
    by (k ∷ ks) = record { first = _; rest = _; are = refl }

-- what a reset gives
pub record IsReset (history : List Event) (run : RunId) (point limit : ℕ) (kinds : List EventKind) : Type 0 where
  pub are : reset_kinds run point history ≡ kinds
  pub point_is : is_point point history ≡ true
  pub length_most : length kinds ≤ limit

pub reset-is : (history : List Event) (run : RunId) (point limit : ℕ) (kinds : List EventKind) → reset_of history run point limit ≡ Ok kinds → IsReset history run point limit kinds
unfolding reset_of
reset-is history run point limit kinds e = by (is_point point history) refl (nat_lt limit (length (reset_kinds run point history))) refl e
  where
    all : List EventKind
    all = reset_kinds run point history

    answer : (found full : Bool) → Result (List EventKind) ResetError
    answer found full = if not found then Err reset.NoSuchPoint else if full then Err reset.HistoryFull else Ok all

    by : (found : Bool) → is_point point history ≡ found → (full : Bool) → nat_lt limit (length all) ≡ full → answer found full ≡ Ok kinds → IsReset history run point limit kinds
    by true p true f h = absurd (cc)
    by true p false f h =
        let same : all ≡ kinds = cc in
        let few : length all ≤ limit = grind (arith, nat_tests) in
        record { are = same; point_is = p; length_most = subst (λ l. length l ≤ limit) same few }
    by false p full f h = absurd (cc)

-- a repeated event of one of the batches names an original, and is in range
repeated-names : (all : List Batch) → CopiesNamed all → (b : Batch) (e : Event) → Has all b → Among e b.events → (k : EventKind) → e.kind ≡ k → NamesOriginal all (repeated b.run e.id e.version k)
repeated-names all named b e has h (kind.WorkflowExecutionSignaled name input from) is n i origin same =
    let o = origin-named all named b e name input from has h is in
    let one : name ≡ n = cc in
    let two : input ≡ i = cc in
    let three : origin_of b.run e.id e.version from ≡ origin = cc in
    subst (λ x. HasOriginal all origin x i) one (subst (λ x. HasOriginal all origin name x) two (subst (λ x. HasOriginal all x name input) three o))
repeated-names all named b e has h _ is n i origin same = absurd (cc)

origin-fits : (run : RunId) (id version : ℕ) (from : Option Origin) → IsTrue (is_run run.value) → IsTrue (is_id id) → IsTrue (is_version version) → OriginFits from → OriginFits (Some (origin_of run id version from))
origin-fits run id version None r i v fit = (i, r, v)
origin-fits run id version (Some origin) r i v fit = fit

repeated-fits : (run : RunId) (id version : ℕ) (k : EventKind) → IsTrue (is_run run.value) → IsTrue (is_id id) → IsTrue (is_version version) → KindFits k → KindFits (repeated run id version k)
repeated-fits run id version (kind.WorkflowExecutionSignaled name input from) r i v fit = (fit.0, fit.1, origin-fits run id version from r i v fit.2)
repeated-fits run id version _ r i v fit = fit

-- what closes an open run before a reset is what its termination plans
pub close-planned : (s : StateValue) (version limit : ℕ) (run : RunId) → s.running ≡ true → is_close_full limit s version ≡ false → plan_of (Some s) (Terminate (codes "reset")) version limit run ≡ Ok (reset_close s version)
unfolding plan_of plan_below within written refuse
close-planned s version limit run running full = by s.running refl running full
  where
    by : (going : Bool) → s.running ≡ going → going ≡ true → (if going then nat_lt limit (s.next - 1 + length (reset_close s version)) else false) ≡ false
        → plan_of (Some s) (Terminate (codes "reset")) version limit run ≡ Ok (reset_close s version)
    by true is _ few = rw (is, few) refl
    by false is other _ = absurd (cc)

close-stays : (s : StateValue) (version : ℕ) → goes_on_as (reset_close s version) ≡ None
close-stays s version = goes-behind (failover_close s version) (kind.WorkflowExecutionTerminated (codes "reset")) []

-- what a reset gives: the first batch of a new run, or that after one that closes the old run
module _ (part : List Batch) (version : ℕ) (domain workflow : Name) (limit : ℕ) where
  abbrev key : BatchKey
  key = next_key version part

  -- the first batch of the new run, with this key
  abbrev pub first_of : BatchKey → List EventKind → Entry
  first_of at kinds = alone (first_batch domain workflow at None kinds)

  -- the batch that closes the run of a tip
  abbrev pub closing_of : Batch → Entry
  closing_of tip = alone (batch_below domain workflow key tip (state_to tip.run tip.key part) (reset_close (state_to tip.run tip.key part) version))

  module _ (A : List Entry → Type 0)
      (one : (tip : Batch) → workflow_tip part ≡ Some tip → (point : ℕ) (kinds : List EventKind) → IsReset (events_to tip.key part) tip.run point limit kinds → A (first_of key kinds ∷ []))
      (two : (tip : Batch) → workflow_tip part ≡ Some tip → (point : ℕ) (kinds : List EventKind) → IsReset (events_to tip.key part) tip.run point limit kinds
      → (state_to tip.run tip.key part).running ≡ true → is_close_full limit (state_to tip.run tip.key part) version ≡ false → A (closing_of tip ∷ first_of (key_behind key) kinds ∷ [])) where
    pub reset-gives : (event : ℕ) (entries : List Entry) → reset_below domain workflow event limit version (workflow_tip part) part ≡ Ok entries → A entries
    reset-gives event entries e = by (workflow_tip part) refl e
      where
        given : (tip : Batch) → workflow_tip part ≡ Some tip → (kinds : List EventKind) → IsReset (events_to tip.key part) tip.run event limit kinds
            → (running : Bool) → (state_to tip.run tip.key part).running ≡ running → (full : Bool) → is_close_full limit (state_to tip.run tip.key part) version ≡ full
            → (if full then Err (Refused HistoryFull)
            else Ok ((if running then closing_of tip ∷ [] else []) ++ first_of (if running then key_behind key else key) kinds ∷ [])) ≡ Ok entries → A entries
        given tip at kinds is running r true f h = absurd (cc)
        given tip at kinds is true r false f h = let same : closing_of tip ∷ first_of (key_behind key) kinds ∷ [] ≡ entries = cc in subst A same (two tip at event kinds is r f)
        given tip at kinds is false r false f h = let same : first_of key kinds ∷ [] ≡ entries = cc in subst A same (one tip at event kinds is)

        planned : (tip : Batch) → workflow_tip part ≡ Some tip → (r : Result (List EventKind) ResetError) → reset_of (events_to tip.key part) tip.run event limit ≡ r
            → (reset_refused r >>= λ kinds. reset_entries domain workflow limit key tip (state_to tip.run tip.key part) kinds) ≡ Ok entries → A entries
        planned tip at (Ok kinds) r h = given tip at kinds (reset-is (events_to tip.key part) tip.run event limit kinds r) (state_to tip.run tip.key part).running refl (is_close_full limit (state_to tip.run tip.key part) version) refl h
        planned tip at (Err reset.NoSuchPoint) r h = absurd (cc)
        planned tip at (Err reset.HistoryFull) r h = absurd (cc)
        planned tip at (Err reset.Memory) r h = absurd (cc)

        by : (o : Option Batch) → workflow_tip part ≡ o → reset_below domain workflow event limit version o part ≡ Ok entries → A entries
        by None at h = absurd (cc)
        by (Some tip) at h = planned tip at (reset_of (events_to tip.key part) tip.run event limit) refl h

-- what a reset adds
module _ (all part : List Batch) (version : ℕ) (may : MayAdd all part version) (tip : Batch) (is_tip : workflow_tip part ≡ Some tip) where
  -- an event of the tip's path is one of a batch of its run
  pub of-batch : (e : Event) → Among e (events_to tip.key part) → (b : Batch) × Has all b × (b.run ≡ tip.run) × Among e b.events
  of-batch e h =
      let at = among-history (path_to tip.key part) e h in
      let there = path-run part tip at.0 (path_to tip.key part) (part-sound all part version may).parents (path_is part tip may.part_set may.part_closed (tip-part all part version may tip is_tip)) at.1 in
      (at.0, may.within at.0 there.0, there.1, at.2)

  names-one : (e : Event) → Among e (events_to tip.key part) → NamesOriginal all (repeated tip.run e.id e.version e.kind)
  names-one e h =
      let b = of-batch e h in
      subst (λ (run : RunId). NamesOriginal all (repeated run e.id e.version e.kind)) b.2 (repeated-names all may.named b.0 e b.1 b.3 e.kind refl)

  ok-some : (new : RunId) (r : Result StateValue StateError) → IsOkAnd r (GoesOn (state_to tip.run tip.key part) new) → (t : StateValue) × (r ≡ Ok t)
  ok-some new (Ok t) h = (t, refl)
  ok-some new (Err error) h = absurd h

  module _ (limit point : ℕ) (kinds : List EventKind) (is : IsReset (events_to tip.key part) tip.run point limit kinds) where
    -- the kinds of the reset begin a run, in all that was written and in more
    reset-begins : (more : List Batch) (at : BatchKey) → at.version ≡ version → IsPart all more → IsBeginning more at kinds
    reset-begins more at same within =
        let some = subst HasFirst is.are (reset-some tip.run point (events_to tip.key part)) in
        let ok = ok-some (run_of at) _ (reset_goes_on tip.run (run_of at) at.version point (events_to tip.key part) (state_to tip.run tip.key part) (tip-state all part version may tip is_tip) is.point_is) in
        record {
          first = some.first;
          rest = some.rest;
          are = some.are;
          after = ok.0;
          replays = ap (replay_kinds (new_state (run_of at)) at.version) (sym is.are) ∙ ok.1;
          names = subst (AllByRecursion (NamesOriginal more)) is.are
              (reset-each (NamesOriginal more) tip.run (plain-names more tip.run (kind.DecisionTaskFailed (codes "reset")) tt) (plain-names more tip.run kind.DecisionTaskScheduled tt) point (events_to tip.key part)
              (λ e h. more-originals all more within (repeated tip.run e.id e.version e.kind) (names-one e h)));
        }

    stays-on : goes_on_as kinds ≡ None
    stays-on = ap goes_on_as (sym is.are) ∙ reset-stays tip.run point (events_to tip.key part)

    module _ (tasks : HaveTasksUpTo (10 ^ 11) all) (domain workflow : Name) where
      -- the new run alone
      pub one-entry : IsEntryOf all part domain workflow version (first_of part version domain workflow limit (next_key version part) kinds)
      one-entry =
          first-entry all may.sound may.named (next_key version part) (next-newest all part version may) (λ b has. let t = tasks b has in omega (arith, t))
          (let t = next-most all part version may (10 ^ 11) tasks in omega (arith, t)) domain workflow part kinds (reset-begins all (next_key version part) refl (λ b has. has)) stays-on

      -- the new run after the batch that closes the old one
      pub behind-entry : (other : List Batch) → IsEntryOf all part domain workflow version (closing_of part version domain workflow limit tip)
          → IsEntryOf (arrived (closing_of part version domain workflow limit tip).batch all) other domain workflow version (first_of part version domain workflow limit (key_behind (next_key version part)) kinds)
      behind-entry other close =
          first-entry (arrived closing all) close.added.sound close.added.named (key_behind (next_key version part)) (behind-newest all closing may.sound (next-newest all part version may))
          (λ b has. let t = tasks-behind all closing (10 ^ 11) may.sound tasks (omega (arith, most)) b has in omega (arith, t)) (omega (arith, most)) domain workflow other kinds
          (reset-begins (arrived closing all) (key_behind (next_key version part)) refl (stays closing all may.sound.set.ordered)) stays-on
        where
          closing : Batch
          closing = (closing_of part version domain workflow limit tip).batch

          most : greatest_task part ≤ 10 ^ 11
          most = next-most all part version may (10 ^ 11) tasks

-- the batch that closes a run is what its termination plans
module _ (all part : List Batch) (version : ℕ) (may : MayAdd all part version) (tasks : HaveTasksUpTo (10 ^ 11) all) (domain workflow : Name) (limit : ℕ) (tip : Batch) (is_tip : workflow_tip part ≡ Some tip)
    (running : (state_to tip.run tip.key part).running ≡ true) (full : is_close_full limit (state_to tip.run tip.key part) version ≡ false) where
  pub close-below : IsBelow all (state_to tip.run tip.key part) version (run_of (key_behind (next_key version part))) (reset_close (state_to tip.run tip.key part) version)
  close-below =
      planned-goes-below all part version may tasks domain workflow limit tip (Terminate (codes "reset")) (reset_close (state_to tip.run tip.key part) version) is_tip refl
      (close-planned (state_to tip.run tip.key part) version limit (run_of (key_behind (next_key version part))) running full)

  -- a batch below the tip carries none
  pub closing-alone : (P : Entry → Type 0) → P (entry_below domain workflow (next_key version part) (Some tip) part (reset_close (state_to tip.run tip.key part) version)) → P (closing_of part version domain workflow limit tip)
  closing-alone P p =
      subst (λ (second : Option Batch). P (record { batch = (closing_of part version domain workflow limit tip).batch; second = second })) (ap (carried_by domain workflow (next_key version part)) (close-stays (state_to tip.run tip.key part) version)) p

  pub close-entry : IsEntryOf all part domain workflow version (closing_of part version domain workflow limit tip)
  close-entry =
      closing-alone (IsEntryOf all part domain workflow version) (below-entry all part version may tasks domain workflow tip is_tip (reset_close (state_to tip.run tip.key part) version) close-below)

pub reset-adds : (all part : List Batch) (version : ℕ) → MayAdd all part version → HaveTasksUpTo (10 ^ 11) all → (domain workflow : Name) (limit event : ℕ) (entries : List Entry)
    → reset_below domain workflow event limit version (workflow_tip part) part ≡ Ok entries → AddsOne all part domain workflow version entries ⊎ AddsTwo all part domain workflow version entries
reset-adds all part version may tasks domain workflow limit event entries e =
    reset-gives part version domain workflow limit (λ l. AddsOne all part domain workflow version l ⊎ AddsTwo all part domain workflow version l)
    (λ tip at point kinds is. inl (record { entry = _; are = refl; may_be = one-entry all part version may tip at limit point kinds is tasks domain workflow }))
    (λ tip at point kinds is running full.
    let close = close-entry all part version may tasks domain workflow limit tip at running full in
    inr (record { closing = _; entry = _; are = refl; lone_closing = refl; lone = refl; may_close = close; may_be = λ other. behind-entry all part version may tip at limit point kinds is tasks domain workflow other close }))
    event entries e

-- how much a reset writes
module _ (all part : List Batch) (version : ℕ) (may : MayAdd all part version) (few : AreFew all version) (domain workflow : Name) (d : IsName domain) (w : IsName workflow)
    (limit : ℕ) (limit_most : limit ≤ 204800) where
  module _ (tip : Batch) (is_tip : workflow_tip part ≡ Some tip) (point : ℕ) (kinds : List EventKind) (is : IsReset (events_to tip.key part) tip.run point limit kinds) where
    fits-one : (e : Event) → Among e (events_to tip.key part) → KindFits (repeated tip.run e.id e.version e.kind)
    fits-one e h =
        let b = of-batch all part version may tip is_tip e h in
        let f = event-in b.0.events e (few.range b.0 b.1).events b.3 in
        repeated-fits tip.run e.id e.version e.kind (few.range tip (may.within tip (tip-part all part version may tip is_tip))).run f.0 f.1 f.2

    reset-short : AreShort 0 kinds
    reset-short = record {
      originals_most = (
          let none = quiet-none kinds (subst (AllByRecursion IsQuiet) is.are (reset-each IsQuiet tip.run refl refl point (events_to tip.key part) (λ e h. repeated-quiet tip.run e.id e.version e.kind))) in
          omega (arith, none));
      length_most = (let l = is.length_most in omega (arith, l, limit_most));
      fit = subst KindsFit is.are (reset-each KindFits tip.run refl tt point (events_to tip.key part) fits-one);
    }

    -- the new run alone
    pub one-write : IsWrite all part domain workflow version 0 (first_of part version domain workflow limit (next_key version part) kinds)
    one-write =
        as-write all part domain workflow version 0 (first_of part version domain workflow limit (next_key version part) kinds)
        (one-entry all part version may tip is_tip limit point kinds is (few-tasks all part version may few) domain workflow)
        (first-is-small domain workflow d w (next_key version part) (key-small all part version may few) None tt 0 (length all + 1) kinds reset-short (let t = next-task all part version may few in omega (arith, t))) tt

    -- the new run after the batch that closes the old one
    pub behind-write : (other : List Batch) → IsEntryOf all part domain workflow version (closing_of part version domain workflow limit tip)
        → IsWrite (arrived (closing_of part version domain workflow limit tip).batch all) other domain workflow version 0 (first_of part version domain workflow limit (key_behind (next_key version part)) kinds)
    behind-write other close =
        as-write (arrived closing all) other domain workflow version 0 (first_of part version domain workflow limit (key_behind (next_key version part)) kinds)
        (behind-entry all part version may tip is_tip limit point kinds is (few-tasks all part version may few) domain workflow other close)
        (first-is-small domain workflow d w (key_behind (next_key version part)) (behind-small all part version may few) None tt 0 (length (arrived closing all) + 1) kinds reset-short
        (let t = next-task all part version may few in let l = arrived-length closing all close.added.fresh in omega (arith, t, l))) tt
      where
        closing : Batch
        closing = (closing_of part version domain workflow limit tip).batch

  -- the batch that closes the old run
  pub close-write : (tip : Batch) → workflow_tip part ≡ Some tip → (state_to tip.run tip.key part).running ≡ true → is_close_full limit (state_to tip.run tip.key part) version ≡ false
      → IsWrite all part domain workflow version 1 (closing_of part version domain workflow limit tip)
  close-write tip at running full =
      closing-alone all part version may tasks domain workflow limit tip at running full (IsWrite all part domain workflow version 1)
      (below-write all part version may few domain workflow d w tip at 1 (reset_close (state_to tip.run tip.key part) version)
      (close-below all part version may tasks domain workflow limit tip at running full)
      (planned-short all part version may few domain workflow d w limit limit_most tip (Terminate (codes "reset")) (reset_close (state_to tip.run tip.key part) version) at refl refl
      (close-planned (state_to tip.run tip.key part) version limit (run_of (key_behind (next_key version part))) running full)))
    where
      tasks : HaveTasksUpTo (10 ^ 11) all
      tasks = few-tasks all part version may few

  -- what a reset writes
  pub reset-writes : (event : ℕ) (entries : List Entry) → reset_below domain workflow event limit version (workflow_tip part) part ≡ Ok entries → WritesAlone all part domain workflow version entries ⊎ WritesBehind all part domain workflow version entries
  reset-writes event entries e =
      reset-gives part version domain workflow limit (λ l. WritesAlone all part domain workflow version l ⊎ WritesBehind all part domain workflow version l)
      (λ tip at point kinds is. inl (record { entry = _; are = refl; lone = refl; may_be = one-write tip at point kinds is }))
      (λ tip at point kinds is running full. inr (record {
        closing = _;
        entry = _;
        are = refl;
        lone_closing = refl;
        lone = refl;
        may_close = close-write tip at running full;
        may_be = λ other. behind-write tip at point kinds is other (close-entry all part version may (few-tasks all part version may few) domain workflow limit tip at running full);
      })) event entries e
