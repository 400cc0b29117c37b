-- How much a command adds.
use Rattle.std.proofs.Common.{◌≡◌, ◌≤◌, ◌+◌, ◌^◌, ℕ, false, List, [], ◌∷◌, length, Option, Some, None, Result, Ok, Err, IfSome, ◌⊎◌, inl, inr, refl, sym, ◌∙◌, subst, ap, arith}
use Rattle.std.specs.List.{flat_map}
use Rattle.std.proofs.lemmas.List.{length-append}
use Rattle.ndc_command.specs.declared.command.Command.{Command}
use Rattle.ndc_command.specs.Laws.{begins_run}
use Rattle.ndc_command.specs.Plan.{beginning, plan_of}
use Rattle.ndc_command.proofs.LawProofs.{fits}
use Rattle.ndc_command.specs.declared.refusal.CommandError.{CommandError}
use Rattle.ndc_event.specs.Key.{run_of}
use Rattle.ndc_event.specs.declared.batch.Batch.{Batch}
use Rattle.ndc_event.specs.declared.kind.EventKind.{EventKind}
use Rattle.ndc_event.specs.declared.name.Name.{Name}
use Rattle.ndc_model_cells.specs.Laws.{arrived_second}
use Rattle.ndc_model_cells.specs.Cells.{Cell, learned_of}
use Rattle.ndc_model_cells.specs.Writing.{Desk, Entry, alone, carried_by, command_entries, command_of, entry_below, first_batch, goes_on_as, greatest_task, key_behind, next_key}
use Rattle.ndc_model_sets.specs.Current.{state_to}
use Rattle.ndc_model_sets.specs.Sets.{Has, arrived, batch_at}
use Rattle.ndc_laws_cells.specs.Adding.{MayAdd}
use Rattle.ndc_laws_cells.specs.Entries.{IsCarriedIn, IsEntryOf}
use Rattle.ndc_model_cells.specs.Keeping.{IsAuthor, set_behind, HaveTasksUpTo}
use Rattle.ndc_laws_cells.proofs.AskLemmas.{IsFine, author-adds, then-which}
use Rattle.ndc_laws_cells.proofs.CommandLemmas.{command-gives, planned-goes-below, start-entry}
use Rattle.ndc_laws_cells.proofs.CountLemmas.{arrived-cases}
use Rattle.ndc_laws_cells.proofs.EntryLemmas.{below-entry, next-most}
use Rattle.ndc_laws_cells.proofs.KeptLemmas.{some-if}
use Rattle.ndc_laws_cells.proofs.VersionLemmas.{may-have}
use Rattle.ndc_laws_cells.proofs.WriteLemmas.{length-written}
use Rattle.ndc_example_cell.specs.Shared.{IsSmallSet}

abbrev events_of : List Batch → ℕ
events_of bs = length (flat_map (λ (b : Batch). b.events) bs)

events-cons : (b : Batch) (bs : List Batch) → events_of (b ∷ bs) ≡ length b.events + events_of bs
events-cons b bs = length-append b.events (flat_map (λ (x : Batch). x.events) bs)

-- events of a set with one batch more
arrived-events : (new : Batch) (bs : List Batch) → batch_at new.key bs ≡ None → events_of (arrived new bs) ≡ events_of bs + length new.events
arrived-events new [] fresh = events-cons new [] ∙ omega arith
arrived-events new (b ∷ bs) fresh =
    arrived-cases (λ l. events_of l ≡ events_of (b ∷ bs) + length new.events) new b bs fresh
    (let e = events-cons new (b ∷ bs) in omega (arith, e))
    (λ rest. let e = arrived-events new bs rest in let one = events-cons b (arrived new bs) in let two = events-cons b bs in omega (arith, e, one, two))

-- an entry of a few events, with the next tasks after what is learned
record IsLittle (limit task : ℕ) (entry : Entry) : Type 0 where
  events_most : length entry.batch.events ≤ limit + 2
  task_most : entry.batch.key.task ≤ task + 1
  second_events : IfSome entry.second (λ s. length s.events ≤ 2)
  second_task : IfSome entry.second (λ s. s.key.task ≤ task + 2)

-- a command gives such an entry
module _ (all part : List Batch) (version : ℕ) (may : MayAdd all part version) (tasks : HaveTasksUpTo (10 ^ 11) all) (domain workflow : Name) (limit : ℕ) where
  record Both (entry : Entry) : Type 0 where
    of : IsEntryOf all part domain workflow version entry
    little : IsLittle limit (greatest_task part) entry

  first-little : (workflow_type : Name) → IsLittle limit (greatest_task part) (alone (first_batch domain workflow (next_key version part) None (beginning workflow_type)))
  first-little workflow_type = record {
    events_most = (let l = length-written 1 version (beginning workflow_type) in omega (arith, l));
    task_most = omega arith;
    second_events = tt;
    second_task = tt;
  }

  below-little : (tip : Batch) (kinds : List EventKind) → length kinds ≤ limit → IsLittle limit (greatest_task part) (entry_below domain workflow (next_key version part) (Some tip) part kinds)
  below-little tip kinds few = record {
    events_most = (let l = length-written (state_to tip.run tip.key part).next version kinds in omega (arith, l, few));
    task_most = omega arith;
    second_events = events (goes_on_as kinds);
    second_task = task (goes_on_as kinds);
  }
    where
      events : (o : Option Name) → IfSome (carried_by domain workflow (next_key version part) o) (λ s. length s.events ≤ 2)
      events None = tt
      events (Some workflow_type) = let l = length-written 1 version (beginning workflow_type) in omega (arith, l)

      task : (o : Option Name) → IfSome (carried_by domain workflow (next_key version part) o) (λ s. s.key.task ≤ greatest_task part + 2)
      task None = tt
      task (Some workflow_type) = omega arith

  few-kinds : (tip : Batch) (command : Command) (kinds : List EventKind) → begins_run command ≡ false
      → plan_of (Some (state_to tip.run tip.key part)) command version limit (run_of (key_behind (next_key version part))) ≡ Ok kinds → length kinds ≤ limit
  few-kinds tip command kinds other h = let f = fits (Some (state_to tip.run tip.key part)) command version limit (run_of (key_behind (next_key version part))) kinds h in omega (arith, f)

  -- what a command gives: an entry of the set, which is little
  record OneLittle (entries : List Entry) : Type 0 where
    entry : Entry
    are : entries ≡ entry ∷ []
    of : IsEntryOf all part domain workflow version entry
    little : IsLittle limit (greatest_task part) entry

  one-little : (command : Command) (entries : List Entry) → command_entries domain workflow command limit version part ≡ Ok entries → OneLittle entries
  one-little command entries e =
      let one = command-gives part version domain workflow limit Both command
      (λ workflow_type is. record { of = start-entry all part version may tasks domain workflow limit workflow_type; little = first-little workflow_type })
      (λ tip at kinds other h. record {
        of = below-entry all part version may tasks domain workflow tip at kinds (planned-goes-below all part version may tasks domain workflow limit tip command kinds at other h);
        little = below-little tip kinds (few-kinds tip command kinds other h);
      }) entries e in
      record { entry = one.entry; are = one.are; of = one.holds.of; little = one.holds.little }

-- the set after a command is small still
pub command-small : (home : Desk) (all : List Batch) (domain workflow : Name) (cell : Cell) (fine : IsFine all domain workflow cell) → IsAuthor home all domain workflow cell → (most : ℕ) → most ≤ 10 ^ 11 → home.limit ≤ 100
    → IsSmallSet most all → (command : Command) → IsSmallSet (most + 104) (set_behind (command_of home domain workflow command cell) all)
unfolding command_of
command-small home all domain workflow cell fine author most within limit small command = by (command_of home domain workflow command cell) refl
  where
    part : List Batch
    part = learned_of domain workflow cell

    tasks : HaveTasksUpTo (10 ^ 11) all
    tasks b has = let t = small.tasks_most b has in omega (arith, t, within)

    step : (version : ℕ) (may : MayAdd all part version) (entries : List Entry) → OneLittle all part version may tasks domain workflow home.limit entries → IsSmallSet (most + 104) (set_behind (Ok entries) all)
    step version may entries one =
        subst (λ l. IsSmallSet (most + 104) (set_behind (Ok l) all)) (sym one.are) (record { events_most = events one.entry.second refl; tasks_most = λ b has. tasks-then b (then-which all domain workflow cell fine version one.entry one.of b has) })
      where
        greatest : greatest_task part ≤ most
        greatest = next-most all part version may most small.tasks_most

        first : events_of (arrived one.entry.batch all) ≡ events_of all + length one.entry.batch.events
        first = arrived-events one.entry.batch all one.of.added.fresh

        events : (o : Option Batch) → one.entry.second ≡ o → events_of (arrived_second o (arrived one.entry.batch all)) ≤ most + 104
        events None e = let f = first in let l = one.little.events_most in let m = small.events_most in omega (arith, f, l, m, limit)
        events (Some s) e =
            let c = some-if (IsCarriedIn all one.entry.batch) one.entry.second s one.of.second e in
            let g = arrived-events s (arrived one.entry.batch all) c.added.fresh in
            let k = some-if (λ (x : Batch). length x.events ≤ 2) one.entry.second s one.little.second_events e in
            let f = first in let l = one.little.events_most in let m = small.events_most in omega (arith, f, g, k, l, m, limit)

        tasks-then : (b : Batch) → (b ≡ one.entry.batch) ⊎ ((one.entry.second ≡ Some b) ⊎ Has all b) → b.key.task ≤ most + 104
        tasks-then b (inl same) = let e = ap (λ (x : Batch). x.key.task) same in let l = one.little.task_most in let g = greatest in omega (arith, e, l, g)
        tasks-then b (inr (inl e)) = let l = some-if (λ (x : Batch). x.key.task ≤ greatest_task part + 2) one.entry.second b one.little.second_task e in let g = greatest in omega (arith, l, g)
        tasks-then b (inr (inr old)) = let t = small.tasks_most b old in omega (arith, t)

    by : (r : Result (List Entry) CommandError) → command_of home domain workflow command cell ≡ r → IsSmallSet (most + 104) (set_behind r all)
    by (Ok entries) e =
        let m = may-have home domain workflow cell (λ version. command_entries domain workflow command home.limit version part) entries e in
        let may = author-adds all domain workflow cell fine home author m.version m.with in
        step m.version may entries (one-little all part m.version may tasks domain workflow home.limit command entries m.wrote)
    by (Err why) e = record { events_most = (let l = small.events_most in omega (arith, l)); tasks_most = λ b has. let t = small.tasks_most b has in omega (arith, t) }
