-- What a command adds.
use Rattle.std.proofs.Common.{◌≡◌, ◌<◌, ◌≤◌, ◌+◌, ◌-◌, ℕ, Bool, true, false, nat_lt, List, [], ◌∷◌, ◌++◌, length, Option, Some, None, Result, Ok, Err, refl, sym, ◌∙◌, subst, ap, arith, ◌^◌}
use Rattle.std.specs.List.{AllByRecursion}
use Rattle.ndc_script_types.specs.WellFormed.{IsWellFormedCommand}
use Rattle.ndc_model_cells.specs.Writing.{Entry, alone, command_entries, entry_below, entry_of, first_batch, goes_on_as, key_behind, next_key, state_under}
use Rattle.ndc_command.specs.declared.command.Command.{Command}
use Rattle.ndc_command.specs.declared.command.Command.TheVariants.{Start, Signal, Cancel, Terminate, Decide, Respond, FailDecision, TimeoutDecision, ActivityStart, ActivityDone, ActivityFail, ActivityTimeout, Fire, ChildStart, ChildDone, ChildFail}
use Rattle.ndc_command.specs.declared.refusal.CommandError.{CommandError}
use Rattle.ndc_command.specs.Actions.{after_kinds}
use Rattle.ndc_command.specs.Laws.{begins_run, last_id}
use Rattle.ndc_command.specs.Plan.{beginning, has_open_run, judged_at, plan_of, start_of, within, written}
use Rattle.ndc_command.specs.Stage.{refuse}
use Rattle.ndc_command.specs.declared.refusal.Refusal.TheVariants.{AlreadyRunning, HistoryFull}
use Rattle.ndc_command.proofs.JoinLemmas.{allowed_then}
use Rattle.ndc_command.proofs.LawProofs.{fits, replays}
use Rattle.ndc_command.proofs.WrittenLemmas.{behind-Ok}
use Rattle.ndc_event.specs.Key.{run_of}
use Rattle.ndc_event.specs.Outcome.{◌>>=◌}
use Rattle.ndc_event.specs.declared.batch.Batch.{Batch}
use Rattle.ndc_event.specs.declared.key.BatchKey.{BatchKey}
use Rattle.ndc_event.specs.declared.key.RunId.{RunId}
use Rattle.ndc_event.specs.declared.kind.EventKind.{EventKind}
use Rattle.ndc_event.specs.declared.kind.EventKind.TheVariants as kind
use Rattle.ndc_event.specs.declared.name.Name.{Name}
use Rattle.ndc_model_sets.specs.Branches.{workflow_tip}
use Rattle.ndc_model_sets.specs.Current.{state_to}
use Rattle.ndc_model_sets.specs.Sound.{ContinuesAs}
use Rattle.ndc_state.specs.Value.{StateValue}
use Rattle.ndc_state.specs.Written.{events_from, failover_close}
use Rattle.ndc_text.specs.Ranges.{IsName, KindFits}
use Rattle.ndc_laws_cells.specs.Adding.{MayAdd}
use Rattle.ndc_laws_cells.specs.Entries.{AddsOne, AreFew, IsEntryOf, IsPlain, IsWrite, WritesOne}
use Rattle.ndc_laws_cells.proofs.EntryLemmas.{IsBelow, IsBelowShort, as-write, behind-small, begins, begins-short, below-entry, below-write, few-tasks, first-entry, first-is-small, key-small, next-most, next-task}
use Rattle.ndc_laws_cells.proofs.FreshLemmas.{state-fresh}
use Rattle.ndc_laws_cells.proofs.KindLemmas.{plain-all, planned-few, planned-fit, planned-plain}
use Rattle.ndc_laws_cells.proofs.MayLemmas.{next-many, next-newest}
use Rattle.ndc_laws_cells.proofs.PlanLemmas.{answered, planned-below}
use Rattle.ndc_laws_cells.proofs.RangeLemmas.{run-fits}
use Rattle.ndc_laws_cells.proofs.WriteLemmas.{ends-by}
use Rattle.ndc_model_cells.specs.Keeping.{HaveTasksUpTo}

-- a list that has a first item
pub record HasFirst {X : Type 0} (xs : List X) : Type 0 where
  pub first : X
  pub rest : List X
  pub are : xs ≡ first ∷ rest

these-some : (one : EventKind) (more kinds : List EventKind) → answered (one ∷ more) ≡ Ok kinds → HasFirst kinds
these-some one more kinds e = record { first = one; rest = more; are = (let same : one ∷ more ≡ kinds = cc in sym same) }

-- the row of each command writes something
row-some : (version : ℕ) (run : RunId) (s : StateValue) (command : Command) (kinds : List EventKind) → written version run s command ≡ Ok kinds → HasFirst kinds
unfolding written
row-some version run s (Start _) kinds w = these-some _ _ kinds w
row-some version run s (Signal _ _) kinds w = these-some _ _ kinds w
row-some version run s Cancel kinds w = these-some _ _ kinds w
row-some version run s (Terminate _) kinds w = these-some _ _ kinds w
row-some version run s Decide kinds w = these-some _ _ kinds (allowed_then _ _ kinds w).1
row-some version run s (Respond actions) kinds w =
    let rest = behind-Ok (kind.DecisionTaskCompleted ∷ []) kinds _ (allowed_then _ _ kinds w).1 in
    record { first = kind.DecisionTaskCompleted; rest = rest.0; are = sym rest.1.1 }
row-some version run s (FailDecision _) kinds w = these-some _ _ kinds (allowed_then _ _ kinds w).1
row-some version run s TimeoutDecision kinds w = these-some _ _ kinds (allowed_then _ _ kinds w).1
row-some version run s (ActivityStart _) kinds w = these-some _ _ kinds (allowed_then _ _ kinds w).1
row-some version run s (ActivityDone _ _) kinds w = these-some _ _ kinds (allowed_then _ _ kinds w).1
row-some version run s (ActivityFail _ _) kinds w = these-some _ _ kinds (allowed_then _ _ kinds w).1
row-some version run s (ActivityTimeout _) kinds w = these-some _ _ kinds (allowed_then _ _ kinds w).1
row-some version run s (Fire _) kinds w = these-some _ _ kinds (allowed_then _ _ kinds w).1
row-some version run s (ChildStart _) kinds w = these-some _ _ kinds (allowed_then _ _ kinds w).1
row-some version run s (ChildDone _ _) kinds w = these-some _ _ kinds (allowed_then _ _ kinds w).1
row-some version run s (ChildFail _ _) kinds w = these-some _ _ kinds (allowed_then _ _ kinds w).1

behind-some : (front own : List EventKind) → HasFirst own → HasFirst (front ++ own)
behind-some [] own h = h
behind-some (k ∷ ks) own h = record { first = k; rest = ks ++ own; are = refl }

pub planned-some : (s : StateValue) (command : Command) (version limit : ℕ) (run : RunId) (kinds : List EventKind) → begins_run command ≡ false
    → plan_of (Some s) command version limit run ≡ Ok kinds → HasFirst kinds
planned-some s command version limit run kinds other h =
    let p = planned-below s command version limit run kinds other h in
    subst HasFirst p.whole (behind-some (failover_close s version) p.own (row-some version run (judged_at s version) command p.own p.from))

-- entries as what is written
abbrev answer : List Entry → Result (List Entry) CommandError
answer entries = Ok entries

-- what the command of a cell gives: one entry, the first batch of a run or what goes below the tip
module _ (part : List Batch) (version : ℕ) (domain workflow : Name) (limit : ℕ) where
  abbrev key : BatchKey
  key = next_key version part

  abbrev next : RunId
  next = run_of (key_behind key)

  started : (state : Option StateValue) (workflow_type : Name) (kinds : List EventKind) → plan_of state (Start workflow_type) version limit next ≡ Ok kinds → beginning workflow_type ≡ kinds
  unfolding plan_of start_of within
  started state workflow_type kinds h =
      let first = allowed_then (refuse (has_open_run state) AlreadyRunning) _ kinds h in
      let second = allowed_then (refuse (nat_lt limit (0 + length (beginning workflow_type))) HistoryFull) (Ok (beginning workflow_type)) kinds first.1 in
      let same : beginning workflow_type ≡ kinds = cc in
      same

  planned-none : (command : Command) (kinds : List EventKind) → begins_run command ≡ false → plan_of None command version limit next ≡ Ok kinds → ⊥
  unfolding plan_of
  planned-none (Start _) kinds same h = absurd (cc)
  planned-none _ kinds same h = absurd (cc)

  -- one entry of which this holds
  pub record GivesOne (P : Entry → Type 0) (entries : List Entry) : Type 0 where
    pub entry : Entry
    pub are : entries ≡ entry ∷ []
    pub holds : P entry

  module _ (P : Entry → Type 0) (command : Command)
      (starts : (workflow_type : Name) → command ≡ Start workflow_type → P (alone (first_batch domain workflow key None (beginning workflow_type))))
      (goes : (tip : Batch) → workflow_tip part ≡ Some tip → (kinds : List EventKind) → begins_run command ≡ false
      → plan_of (Some (state_to tip.run tip.key part)) command version limit next ≡ Ok kinds → P (entry_below domain workflow key (Some tip) part kinds)) where
    pub command-gives : (entries : List Entry) → command_entries domain workflow command limit version part ≡ Ok entries → GivesOne P entries
    command-gives entries e = by (workflow_tip part) refl (plan_of (state_under (workflow_tip part) part) command version limit next) refl e
      where
        gave : (entry : Entry) → answer (entry ∷ []) ≡ Ok entries → P entry → GivesOne P entries
        gave entry same holds = record { entry = entry; are = (let one : entry ∷ [] ≡ entries = cc in sym one); holds = holds }

        begun : (o : Option Batch) (kinds : List EventKind) (one : Command) → command ≡ one → plan_of (state_under o part) one version limit next ≡ Ok kinds → begins_run one ≡ true
            → P (alone (first_batch domain workflow key None kinds))
        begun o kinds (Start workflow_type) is h begins = subst (λ l. P (alone (first_batch domain workflow key None l))) (started (state_under o part) workflow_type kinds h) (starts workflow_type is)
        begun o kinds _ is h begins = absurd (cc)

        below : (o : Option Batch) → workflow_tip part ≡ o → (kinds : List EventKind) → plan_of (state_under o part) command version limit next ≡ Ok kinds → begins_run command ≡ false
            → P (entry_below domain workflow key o part kinds)
        below None at kinds h other = absurd (planned-none command kinds other h)
        below (Some tip) at kinds h other = goes tip at kinds other h

        choose : (o : Option Batch) → workflow_tip part ≡ o → (kinds : List EventKind) → plan_of (state_under o part) command version limit next ≡ Ok kinds → (begins : Bool) → begins_run command ≡ begins
            → P (entry_of domain workflow begins key o part kinds)
        choose o at kinds h true b = begun o kinds command refl h b
        choose o at kinds h false b = below o at kinds h b

        by : (o : Option Batch) → workflow_tip part ≡ o → (r : Result (List EventKind) CommandError) → plan_of (state_under o part) command version limit next ≡ r
            → (r >>= λ kinds. Ok (entry_of domain workflow (begins_run command) key o part kinds ∷ [])) ≡ Ok entries → GivesOne P entries
        by o at (Ok kinds) h same = gave (entry_of domain workflow (begins_run command) key o part kinds) same (choose o at kinds h (begins_run command) refl)
        by o at (Err error) h same = absurd (cc)

-- what a command adds
module _ (all part : List Batch) (version : ℕ) (may : MayAdd all part version) (tasks : HaveTasksUpTo (10 ^ 11) all) (domain workflow : Name) (limit : ℕ) where
  -- what a command plans may go below the tip
  pub planned-goes-below : (tip : Batch) (command : Command) (kinds : List EventKind) → workflow_tip part ≡ Some tip → begins_run command ≡ false
      → plan_of (Some (state_to tip.run tip.key part)) command version limit (run_of (key_behind (next_key version part))) ≡ Ok kinds
      → IsBelow all (state_to tip.run tip.key part) version (run_of (key_behind (next_key version part))) kinds
  planned-goes-below tip command kinds is_tip other h =
      record {
        first = some.first;
        rest = some.rest;
        are = some.are;
        after = after_kinds version state kinds;
        replays = replays state command version limit behind kinds (next-many all part version may tip is_tip) (state-fresh all part version may tip is_tip) other h;
        names = plain-all all behind kinds plain;
        going = going;
      }
    where
      behind : RunId
      behind = run_of (key_behind (next_key version part))

      state : StateValue
      state = state_to tip.run tip.key part

      some : HasFirst kinds
      some = planned-some state command version limit behind kinds other h

      plain : AllByRecursion (IsPlain behind) kinds
      plain = planned-plain state command version limit behind kinds other h

      going : (workflow_type : Name) → goes_on_as kinds ≡ Some workflow_type → ContinuesAs behind (events_from state.next version kinds)
      going workflow_type e =
          let g = ends-by (IsPlain behind) state.next version kinds workflow_type plain e in
          record { event = g.event; last = g.last; workflow_type = workflow_type; kind = g.kind_is ∙ ap (λ r. kind.WorkflowExecutionContinuedAsNew r workflow_type) g.holds }

  -- the first batch of a run
  pub start-entry : (workflow_type : Name) → IsEntryOf all part domain workflow version (alone (first_batch domain workflow (next_key version part) None (beginning workflow_type)))
  start-entry workflow_type =
      first-entry all may.sound may.named (next_key version part) (next-newest all part version may) (λ b has. let t = tasks b has in omega (arith, t))
      (let t = next-most all part version may (10 ^ 11) tasks in omega (arith, t)) domain workflow part (beginning workflow_type) (begins all (next_key version part) workflow_type) refl

  pub command-adds : (command : Command) (entries : List Entry) → command_entries domain workflow command limit version part ≡ Ok entries → AddsOne all part domain workflow version entries
  command-adds command entries e =
      let one = command-gives part version domain workflow limit (IsEntryOf all part domain workflow version) command (λ workflow_type is. start-entry workflow_type)
      (λ tip at kinds other h. below-entry all part version may tasks domain workflow tip at kinds (planned-goes-below tip command kinds at other h)) entries e in
      record { entry = one.entry; are = one.are; may_be = one.holds }

-- how much a command writes
module _ (all part : List Batch) (version : ℕ) (may : MayAdd all part version) (few : AreFew all version) (domain workflow : Name) (d : IsName domain) (w : IsName workflow)
    (limit : ℕ) (limit_most : limit ≤ 204800) where
  -- what a command plans below the tip is short
  pub planned-short : (tip : Batch) (command : Command) (kinds : List EventKind) → workflow_tip part ≡ Some tip → IsWellFormedCommand command → begins_run command ≡ false
      → plan_of (Some (state_to tip.run tip.key part)) command version limit (run_of (key_behind (next_key version part))) ≡ Ok kinds → IsBelowShort (state_to tip.run tip.key part) 1 kinds
  planned-short tip command kinds is_tip well other h =
      record {
        short = record { originals_most = planned-few state command version limit behind kinds other h; length_most = let l = least in omega (arith, l, limit_most); fit = fit };
        ids_most = let l = least in omega (arith, l, limit_most, many);
        named = λ workflow_type e. (ends-by KindFits state.next version kinds workflow_type fit e).holds.1;
      }
    where
      behind : RunId
      behind = run_of (key_behind (next_key version part))

      state : StateValue
      state = state_to tip.run tip.key part

      many : 1 < state.next
      many = next-many all part version may tip is_tip

      fit : AllByRecursion KindFits kinds
      fit = planned-fit state command version limit behind kinds (run-fits (key_behind (next_key version part)) (behind-small all part version may few)) well other h

      below-last : (one : Command) → begins_run one ≡ false → last_id (Some state) one + length kinds ≤ limit → (state.next - 1) + length kinds ≤ limit
      below-last (Start _) same l = absurd (cc)
      below-last _ same l = l

      least : (state.next - 1) + length kinds ≤ limit
      least = below-last command other (fits (Some state) command version limit behind kinds h)

  -- the kinds of a start begin a run
  pub start-write : (workflow_type : Name) → IsName workflow_type → IsWrite all part domain workflow version 1 (alone (first_batch domain workflow (next_key version part) None (beginning workflow_type)))
  start-write workflow_type name =
      as-write all part domain workflow version 1 (alone (first_batch domain workflow (next_key version part) None (beginning workflow_type)))
      (start-entry all part version may (few-tasks all part version may few) domain workflow limit workflow_type)
      (first-is-small domain workflow d w (next_key version part) (key-small all part version may few) None tt 1 (length all + 1) (beginning workflow_type) (begins-short 1 workflow_type name)
      (let t = next-task all part version may few in omega (arith, t))) tt

  -- what a command writes
  pub command-writes : (command : Command) (entries : List Entry) → IsWellFormedCommand command → command_entries domain workflow command limit version part ≡ Ok entries → WritesOne all part domain workflow version 1 entries
  command-writes command entries well e =
      let one = command-gives part version domain workflow limit (IsWrite all part domain workflow version 1) command (λ workflow_type is. start-write workflow_type (subst IsWellFormedCommand is well))
      (λ tip at kinds other h. below-write all part version may few domain workflow d w tip at 1 kinds
      (planned-goes-below all part version may (few-tasks all part version may few) domain workflow limit tip command kinds at other h) (planned-short tip command kinds at well other h)) entries e in
      record { entry = one.entry; are = one.are; may_be = one.holds }
