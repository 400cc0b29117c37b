-- What reapplication adds.
use Rattle.std.proofs.Common.{◌≡◌, ◌≤◌, ◌+◌, ℕ, Bool, true, false, codes, is_some, List, [], ◌∷◌, ◌++◌, length, map, ◌⊎◌, inl, inr, Option, Some, None, Result, Ok, Err, IsOkAnd, IsTrue, refl, sym, ◌∙◌, subst, ap, arith, ◌^◌}
use Rattle.std.specs.List.{AllByRecursion}
use Rattle.std.specs.Prelude.{if◌then◌else◌}
use Rattle.std.proofs.lemmas.Bool.{or_left, or_right}
use Rattle.std.proofs.lemmas.List.Folds.{list_any-append}
use Rattle.std.proofs.lemmas.List.{length-append, length-map}
use Rattle.ndc_model_cells.specs.Writing.{Entry, alone, batch_below, carried_by, entry_below, goes_on_as, key_behind, next_key, reapplication_below}
use Rattle.ndc_event.specs.Key.{run_of}
use Rattle.ndc_event.specs.declared.batch.Batch.{Batch}
use Rattle.ndc_event.specs.declared.key.Origin.{Origin}
use Rattle.ndc_event.specs.declared.key.RunId.{RunId}
use Rattle.ndc_event.specs.declared.kind.EventKind.{EventKind}
use Rattle.ndc_event.specs.declared.kind.EventKind.TheVariants as kind
use Rattle.ndc_event.specs.declared.name.Name.{Name}
use Rattle.ndc_laws_cells.proofs.Lists.{is-among}
use Rattle.ndc_reapply.specs.Reapplied.{copy_of, reapplied}
use Rattle.ndc_reapply.specs.Laws.{AreAmong, IsReapplied}
use Rattle.ndc_reapply.specs.declared.stray.Stray.{Stray}
use Rattle.ndc_reapply.proofs.LawProofs.{strays_replay}
use Rattle.ndc_model_sets.specs.Branches.{current_tip, current_tips, is_current_run, is_run_of, runs, workflow_tip}
use Rattle.ndc_model_sets.specs.Current.{is_zombie, origins_at, settled, settled_by, settled_by_runs, state_at, state_to, status_of, strays}
use Rattle.ndc_model_sets.specs.Origins.{origins_in, signals}
use Rattle.ndc_model_sets.specs.Paths.{events_to}
use Rattle.ndc_model_sets.specs.Sets.{Has}
use Rattle.ndc_model_sets.specs.Sound.{HasOriginal, NamesOriginal}
use Rattle.ndc_model_sets.proofs.BranchLemmas.{among-has, greatest-among, has-among, same-run}
use Rattle.ndc_model_sets.proofs.CurrentLaws.{current-has}
use Rattle.ndc_model_sets.proofs.Lists.{Among, all-join, filter_map-among}
use Rattle.ndc_model_sets.proofs.ViewLaws.{origins_of_the_path}
use Rattle.ndc_state.specs.Origins.{is_among, same_origin}
use Rattle.ndc_state.specs.declared.rule.StateError.{StateError}
use Rattle.ndc_state.specs.Value.{StateValue}
use Rattle.ndc_state.specs.Written.{failover_close, is_failover_close_due, replay_kinds, wake}
use Rattle.ndc_text.specs.Ranges.{InRange, IsName, KindFits, is_id, is_run, is_version}
use Rattle.ndc_laws_cells.specs.Adding.{MayAdd}
use Rattle.ndc_laws_cells.specs.Entries.{AddsOne, AreFew, IsEntryOf, IsWrite}
use Rattle.ndc_laws_cells.proofs.CountLemmas.{events-most}
use Rattle.ndc_laws_cells.proofs.CommandLemmas.{HasFirst}
use Rattle.ndc_laws_cells.proofs.EntryLemmas.{IsBelow, IsBelowShort, below-entry, below-write}
use Rattle.ndc_laws_cells.proofs.KindLemmas.{IsQuiet, plain-names, quiet-none}
use Rattle.ndc_laws_cells.proofs.MayLemmas.{events-same, next-counts, next-many, part-sound, tip-part}
use Rattle.ndc_laws_cells.proofs.PlanLemmas.{close-each, wake-each}
use Rattle.ndc_laws_cells.proofs.RangeLemmas.{event-in}
use Rattle.ndc_laws_cells.proofs.StrayLemmas.{stray-original, strays-few}
use Rattle.ndc_laws_cells.proofs.WriteLemmas.{Stays, all-stay}
use Rattle.ndc_model_cells.specs.Keeping.{HaveTasksUpTo}

-- what holds of the failover close, of copies of these strays and of scheduling holds of all that is written for them
module _ (P : EventKind → Type 0) (scheduled : P kind.DecisionTaskScheduled) (closed : P (kind.DecisionTaskFailed (codes "failoverClose"))) where
  copies-each : (list : List Stray) → ((s : Stray) → Among s list → P (copy_of s)) → AllByRecursion P (map copy_of list)
  copies-each [] copy = tt
  copies-each (s ∷ list) copy = (copy s (inl refl), copies-each list (λ x h. copy x (inr h)))

  pub reapplied-each : (s : StateValue) (version : ℕ) (list : List Stray) → ((x : Stray) → Among x list → P (copy_of x)) → AllByRecursion P (reapplied s version list)
  unfolding reapplied
  reapplied-each s version list copy =
      all-join P (failover_close s version ++ map copy_of list) (wake s)
      (all-join P (failover_close s version) (map copy_of list) (close-each P scheduled closed s version) (copies-each list copy)) (wake-each P scheduled s)

pub reapplied-length : (s : StateValue) (version : ℕ) (list : List Stray) → length (reapplied s version list) ≤ length list + 3
unfolding reapplied
reapplied-length s version list =
    let one = length-append (failover_close s version ++ map copy_of list) (wake s) in
    let two = length-append (failover_close s version) (map copy_of list) in
    let three = length-map list copy_of in
    let four = close (is_failover_close_due s version) in
    let five = woken (is_some s.decision) in
    omega (arith, one, two, three, four, five)
  where
    close : (due : Bool) → length (if due then kind.DecisionTaskFailed (codes "failoverClose") ∷ kind.DecisionTaskScheduled ∷ [] else []) ≤ 2
    close true = omega arith
    close false = omega arith

    woken : (some : Bool) → length (if some then [] else kind.DecisionTaskScheduled ∷ []) ≤ 1
    woken true = omega arith
    woken false = omega arith

reapplied-some : (s : StateValue) (version : ℕ) (x : Stray) (list : List Stray) → HasFirst (reapplied s version (x ∷ list))
unfolding reapplied
reapplied-some s version x list = by (failover_close s version)
  where
    by : (front : List EventKind) → HasFirst (front ++ map copy_of (x ∷ list) ++ wake s)
    by [] = record { first = _; rest = _; are = refl }
    by (k ∷ ks) = record { first = _; rest = _; are = refl }

-- a copy that names an original names it
copy-names : (all : List Batch) (s : Stray) → HasOriginal all s.origin s.name s.input → NamesOriginal all (copy_of s)
copy-names all s o name input origin e =
    let one : s.name ≡ name = cc in
    let two : s.input ≡ input = cc in
    let three : s.origin ≡ origin = cc in
    subst (λ n. HasOriginal all origin n input) one (subst (λ i. HasOriginal all origin s.name i) two (subst (λ x. HasOriginal all x s.name s.input) three o))

module _ (all part : List Batch) (version : ℕ) (may : MayAdd all part version) (tip : Batch) (is_tip : workflow_tip part ≡ Some tip) where
  abbrev state : StateValue
  state = state_to tip.run tip.key part

  -- the tip is the current one of its run, which is one of the runs
  tip-current : (run : RunId) × Among run (runs part) × (current_tip run part ≡ Some tip) × (tip.run ≡ run)
  tip-current =
      let m = filter_map-among (λ run. current_tip run part) (runs part) tip (greatest-among (current_tips part) tip is_tip) in
      (m.0, m.1, m.2, (current-has part m.0 tip may.part_set m.2).1)

  -- the origins of an open run that is current are settled
  pub settled-origins : state.running ≡ true → AreAmong state.origins (settled part)
  settled-origins running origin listed = in-runs (runs part) t.1
    where
      t : (run : RunId) × Among run (runs part) × (current_tip run part ≡ Some tip) × (tip.run ≡ run)
      t = tip-current

      current : is_current_run t.0 part ≡ true
      current = ap (is_run_of t.0) is_tip ∙ same-run tip.run t.0 t.3

      same-state : state_at t.0 (Some tip) part ≡ state
      same-state = ap (λ run. state_to run tip.key part) (sym t.3)

      is-open : (state_at t.0 (current_tip t.0 part) part).running ≡ true
      is-open = ap (λ o. (state_at t.0 o part).running) t.2 ∙ ap (λ (s : StateValue). s.running) same-state ∙ running

      mine : settled_by t.0 part ≡ origins_in tip.run (events_to tip.key part)
      mine =
          ap (λ r. if is_zombie (status_of r (is_current_run t.0 part)) then [] else origins_at t.0 (current_tip t.0 part) part) is-open
          ∙ ap (λ c. if is_zombie (status_of true c) then [] else origins_at t.0 (current_tip t.0 part) part) current
          ∙ ap (λ o. origins_at t.0 o part) t.2
          ∙ ap (λ run. origins_in run (events_to tip.key part)) (sym t.3)

      here : is_among origin (settled_by t.0 part) ≡ true
      here = ap (is_among origin) (mine ∙ sym (origins_of_the_path part tip (part-sound all part version may) (tip-part all part version may tip is_tip))) ∙ listed

      either : (xs ys : List Origin) → (is_among origin xs ≡ true) ⊎ (is_among origin ys ≡ true) → is_among origin (xs ++ ys) ≡ true
      either xs ys (inl a) = list_any-append (same_origin origin) xs ys ∙ or_left (is_among origin xs) (is_among origin ys) a
      either xs ys (inr b) = list_any-append (same_origin origin) xs ys ∙ or_right (is_among origin xs) (is_among origin ys) b

      in-runs : (list : List RunId) → Among t.0 list → is_among origin (settled_by_runs list part) ≡ true
      in-runs [] h = absurd h
      in-runs (run ∷ list) (inl same) = either (settled_by run part) (settled_by_runs list part) (inl (subst (λ r. is_among origin (settled_by r part) ≡ true) same here))
      in-runs (run ∷ list) (inr h) = either (settled_by run part) (settled_by_runs list part) (inr (in-runs list h))

-- a copy of an original signal in range is in range
copy-fits : (all : List Batch) → ((b : Batch) → Has all b → InRange b) → (s : Stray) → HasOriginal all s.origin s.name s.input → KindFits (copy_of s)
copy-fits all range s o =
    let r = range o.batch o.has in
    let e = event-in o.batch.events o.event r.events (is-among o.batch.events o.event o.among) in
    let k : KindFits (kind.WorkflowExecutionSignaled s.name s.input None) = subst KindFits o.kind e.2 in
    (k.0, k.1, (subst (λ n. IsTrue (is_id n)) (sym o.named.event_is) e.0, subst (λ (run : RunId). IsTrue (is_run run.value)) (sym o.named.run_is) r.run, subst (λ v. IsTrue (is_version v)) (sym o.named.version_is) e.1))

-- what reapplication gives: nothing, or one batch below an open tip, which carries none
module _ (part : List Batch) (version : ℕ) (domain workflow : Name) where
  abbrev at_tip : Batch → StateValue
  at_tip tip = state_to tip.run tip.key part

  -- one entry without a second batch, of which this holds
  pub record GivesLone (P : Entry → Type 0) (entry : Entry) (more : List Entry) : Type 0 where
    pub none : more ≡ []
    pub lone : entry.second ≡ None
    pub holds : P entry

  module _ (P : Entry → Type 0) (goes : (tip : Batch) → workflow_tip part ≡ Some tip → (x : Stray) (list : List Stray) → strays part ≡ x ∷ list → (at_tip tip).running ≡ true
      → P (entry_below domain workflow (next_key version part) (Some tip) part (reapplied (at_tip tip) version (strays part)))) where
    pub reapplication-gives : (o : Option Batch) → workflow_tip part ≡ o → (list : List Stray) → strays part ≡ list → (entry : Entry) (more : List Entry)
        → reapplication_below domain workflow version o part list ≡ entry ∷ more → GivesLone P entry more
    reapplication-gives None at list e entry more wrote = absurd (cc)
    reapplication-gives (Some tip) at [] e entry more wrote = absurd (cc)
    reapplication-gives (Some tip) at (x ∷ list) e entry more wrote = by (at_tip tip).running refl wrote
      where
        new : Batch
        new = batch_below domain workflow (next_key version part) tip (at_tip tip) (reapplied (at_tip tip) version (x ∷ list))

        stays : (s : StateValue) (l : List Stray) → goes_on_as (reapplied s version l) ≡ None
        stays s l = all-stay (reapplied s version l) (reapplied-each Stays refl refl s version l (λ s h. refl))

        may-be : (at_tip tip).running ≡ true → P (alone new)
        may-be running =
            subst (λ (second : Option Batch). P (record { batch = new; second = second })) (ap (carried_by domain workflow (next_key version part)) (stays (at_tip tip) (x ∷ list)))
            (subst (λ l. P (entry_below domain workflow (next_key version part) (Some tip) part (reapplied (at_tip tip) version l))) e (goes tip at x list e running))

        by : (running : Bool) → (at_tip tip).running ≡ running → (if running then alone new ∷ [] else []) ≡ entry ∷ more → GivesLone P entry more
        by true running same =
            let one : alone new ≡ entry = cc in
            let none : [] ≡ more = cc in
            record { none = sym none; lone = ap (λ (x : Entry). x.second) (sym one); holds = subst P one (may-be running) }
        by false running same = absurd (cc)

-- what reapplication adds
module _ (all part : List Batch) (version : ℕ) (may : MayAdd all part version) where
  pub original : (s : Stray) → Among s (strays part) → HasOriginal all s.origin s.name s.input
  original s h = stray-original all part may.named (λ b k. may.within b (among-has part b may.part_set.ordered k)) s h

  -- what is written for the strays may go below an open tip
  pub reapplied-below : (tip : Batch) → workflow_tip part ≡ Some tip → (x : Stray) (list : List Stray) → strays part ≡ x ∷ list → (state_to tip.run tip.key part).running ≡ true
      → IsBelow all (state_to tip.run tip.key part) version (run_of (key_behind (next_key version part))) (reapplied (state_to tip.run tip.key part) version (strays part))
  reapplied-below tip is_tip x list e running =
      let some = subst (λ l. HasFirst (reapplied at version l)) (sym e) (reapplied-some at version x list) in
      let ok = ok-some (replay_kinds at version (reapplied at version (strays part)))
      (strays_replay at version (signals part) (settled part) (next-many all part version may tip is_tip, running) (settled-origins all part version may tip is_tip running)) in
      record {
        first = some.first;
        rest = some.rest;
        are = some.are;
        after = ok.0;
        replays = ok.1;
        names = reapplied-each (NamesOriginal all) (plain-names all tip.run kind.DecisionTaskScheduled tt) (plain-names all tip.run (kind.DecisionTaskFailed (codes "failoverClose")) tt) at version (strays part)
            (λ s h. copy-names all s (original s h));
        going = λ workflow_type goes. absurd (never workflow_type goes);
      }
    where
      at : StateValue
      at = state_to tip.run tip.key part

      ok-some : (r : Result StateValue StateError) → IsOkAnd r (IsReapplied at version (strays part)) → (t : StateValue) × (r ≡ Ok t)
      ok-some (Ok t) h = (t, refl)
      ok-some (Err error) h = absurd h

      never : (workflow_type : Name) → goes_on_as (reapplied at version (strays part)) ≡ Some workflow_type → ⊥
      never workflow_type goes =
          let none : None ≡ Some workflow_type = sym (all-stay (reapplied at version (strays part)) (reapplied-each Stays refl refl at version (strays part) (λ s h. refl))) ∙ goes in
          absurd (cc)

  pub reapplication-adds : (tasks : HaveTasksUpTo (10 ^ 11) all) (domain workflow : Name) (o : Option Batch) → workflow_tip part ≡ o → (list : List Stray) → strays part ≡ list → (entry : Entry) (more : List Entry)
      → reapplication_below domain workflow version o part list ≡ entry ∷ more → AddsOne all part domain workflow version (entry ∷ more)
  reapplication-adds tasks domain workflow o found list e entry more wrote =
      let one = reapplication-gives part version domain workflow (IsEntryOf all part domain workflow version)
      (λ tip at x xs f running. below-entry all part version may tasks domain workflow tip at (reapplied (state_to tip.run tip.key part) version (strays part)) (reapplied-below tip at x xs f running)) o found list e entry more wrote in
      record { entry = entry; are = ap (λ l. entry ∷ l) one.none; may_be = one.holds }

-- how much reapplication writes
module _ (all part : List Batch) (version : ℕ) (may : MayAdd all part version) (few : AreFew all version) (domain workflow : Name) (d : IsName domain) (w : IsName workflow) where
  few-strays : length (strays part) ≤ 100000
  few-strays =
      let l = strays-few all part may.named (λ b h. may.within b (among-has part b may.part_set.ordered h)) (λ b has. has-among all b has) in let m = few.originals_most in omega (arith, l, m)

  reapplied-short : (tip : Batch) → workflow_tip part ≡ Some tip → IsBelowShort (state_to tip.run tip.key part) 0 (reapplied (state_to tip.run tip.key part) version (strays part))
  reapplied-short tip is_tip = record {
    short = record {
      originals_most = (let none = quiet-none (reapplied at version (strays part)) (reapplied-each IsQuiet refl refl at version (strays part) (λ s h. refl)) in omega (arith, none));
      length_most = (let l = reapplied-length at version (strays part) in let m = few-strays in omega (arith, l, m));
      fit = reapplied-each KindFits tt refl at version (strays part) (λ s h. copy-fits all few.range s (original all part version may s h));
    };
    ids_most = (
        let l = reapplied-length at version (strays part) in let m = few-strays in let n = next-counts all part version may tip is_tip in
        let p = events-most tip.key all few.events_most in let q = ap length (events-same all part version may tip is_tip) in let r = few.batches_most in
        omega (arith, l, m, n, p, q, r));
    named = λ workflow_type goes.
        let none : None ≡ Some workflow_type = sym (all-stay (reapplied at version (strays part)) (reapplied-each Stays refl refl at version (strays part) (λ s h. refl))) ∙ goes in
        absurd (cc);
  }
    where
      at : StateValue
      at = state_to tip.run tip.key part

  -- what reapplication writes: nothing, or one entry
  pub reapplication-writes : (o : Option Batch) → workflow_tip part ≡ o → (list : List Stray) → strays part ≡ list → (entry : Entry) (more : List Entry)
      → reapplication_below domain workflow version o part list ≡ entry ∷ more → (more ≡ []) × (entry.second ≡ None) × IsWrite all part domain workflow version 0 entry
  reapplication-writes o found list e entry more wrote =
      let one = reapplication-gives part version domain workflow (IsWrite all part domain workflow version 0)
      (λ tip at x xs f running. below-write all part version may few domain workflow d w tip at 0 (reapplied (state_to tip.run tip.key part) version (strays part))
      (reapplied-below all part version may tip at x xs f running) (reapplied-short tip at)) o found list e entry more wrote in
      (one.none, one.lone, one.holds)
