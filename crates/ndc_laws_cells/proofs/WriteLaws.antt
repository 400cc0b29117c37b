-- What the laws say of writes.
use Rattle.std.proofs.Common.{◌≡◌, ◌≤◌, ℕ, List, ◌∷◌, ◌++◌, length, ◌⊎◌, Some, Ok, false, count_by, IsTrue, refl, ap}
use Rattle.std.specs.List.{AllByRecursion}
use Rattle.ndc_script_types.specs.WellFormed.{IsWellFormedCommand}
use Rattle.ndc_model_cells.specs.Writing.{Entry, command_entries, reapplication_below, reset_below}
use Rattle.ndc_command.specs.declared.command.Command.{Command}
use Rattle.ndc_command.specs.Laws.{begins_run}
use Rattle.ndc_command.specs.Plan.{plan_of}
use Rattle.ndc_event.specs.declared.batch.Batch.{Batch}
use Rattle.ndc_event.specs.declared.batch.Event.{Event}
use Rattle.ndc_event.specs.declared.key.RunId.{RunId}
use Rattle.ndc_event.specs.declared.kind.EventKind.{EventKind}
use Rattle.ndc_event.specs.declared.name.Name.{Name}
use Rattle.ndc_index.specs.Texts.{is_original}
use Rattle.ndc_laws_cells.specs.Entries.{originals_in}
use Rattle.ndc_model_sets.specs.Branches.{workflow_tip}
use Rattle.ndc_model_sets.specs.Current.{strays}
use Rattle.ndc_model_sets.specs.Paths.{events_to}
use Rattle.ndc_model_sets.specs.Sound.{CopiesNamed, IsSound, NamesOriginal}
use Rattle.ndc_model_sets.specs.Writing.{Begins, GoesBelow}
use Rattle.ndc_model_sets.proofs.BranchLemmas.{among-has, has-among}
use Rattle.ndc_state.specs.Replay.{replay_of}
use Rattle.ndc_state.specs.Value.{StateValue}
use Rattle.ndc_text.specs.Ranges.{IsName, KindFits, is_run}
use Rattle.ndc_laws_cells.specs.Adding.{Added, MayAdd}
use Rattle.ndc_laws_cells.specs.Entries.{AreFew, IsPlain, WritesAlone, WritesBehind, WritesOne}
use Rattle.ndc_laws_cells.proofs.AddLemmas.{add-below, add-first}
use Rattle.ndc_laws_cells.proofs.CommandLemmas.{command-writes}
use Rattle.ndc_laws_cells.proofs.KindLemmas.{planned-few, planned-fit, planned-plain}
use Rattle.ndc_laws_cells.proofs.ReapplyLemmas.{reapplication-writes}
use Rattle.ndc_laws_cells.proofs.ResetLemmas.{reset-writes}
use Rattle.ndc_laws_cells.proofs.StrayLemmas.{strays-few}

pub below_is_added : (all part : List Batch) (tip new : Batch) (s : StateValue) → IsSound all → CopiesNamed all → GoesBelow all part tip new → AllByRecursion (λ (event : Event). NamesOriginal all event.kind) new.events
    → replay_of new.run (events_to tip.key all ++ new.events) ≡ Ok s → Added all new
below_is_added all part tip new s sound named goes names replays = add-below all part tip new s sound named goes names replays

pub first_is_added : (all : List Batch) (new : Batch) (s : StateValue) → IsSound all → CopiesNamed all → Begins all new → AllByRecursion (λ (event : Event). NamesOriginal all event.kind) new.events
    → replay_of new.run new.events ≡ Ok s → Added all new
first_is_added all new s sound named begins names replays = add-first all new s sound named begins names replays

pub commands_write : (all part : List Batch) (version limit : ℕ) (domain workflow : Name) (command : Command) (entries : List Entry) → MayAdd all part version → AreFew all version → IsName domain → IsName workflow
    → limit ≤ 204800 → IsWellFormedCommand command → command_entries domain workflow command limit version part ≡ Ok entries → WritesOne all part domain workflow version 1 entries
commands_write all part version limit domain workflow command entries may few d w most well e = command-writes all part version may few domain workflow d w limit most command entries well e

pub resets_write : (all part : List Batch) (version limit event : ℕ) (domain workflow : Name) (entries : List Entry) → MayAdd all part version → AreFew all version → IsName domain → IsName workflow
    → limit ≤ 204800 → reset_below domain workflow event limit version (workflow_tip part) part ≡ Ok entries → WritesAlone all part domain workflow version entries ⊎ WritesBehind all part domain workflow version entries
resets_write all part version limit event domain workflow entries may few d w most e = reset-writes all part version may few domain workflow d w limit most event entries e

pub reapplication_writes : (all part : List Batch) (version : ℕ) (domain workflow : Name) (entry : Entry) (more : List Entry) → MayAdd all part version → AreFew all version → IsName domain → IsName workflow
    → reapplication_below domain workflow version (workflow_tip part) part (strays part) ≡ entry ∷ more → WritesAlone all part domain workflow version (entry ∷ more)
reapplication_writes all part version domain workflow entry more may few d w e =
    let r = reapplication-writes all part version may few domain workflow d w (workflow_tip part) refl (strays part) refl entry more e in
    record { entry = entry; are = ap (λ l. entry ∷ l) r.0; lone = r.1; may_be = r.2 }

pub strays_few : (all part : List Batch) (version : ℕ) → MayAdd all part version → length (strays part) ≤ originals_in all
strays_few all part version may = strays-few all part may.named (λ b h. may.within b (among-has part b may.part_set.ordered h)) (λ b has. has-among all b has)

pub plans_plain : (s : StateValue) (command : Command) (version limit : ℕ) (run : RunId) (kinds : List EventKind) → begins_run command ≡ false
    → plan_of (Some s) command version limit run ≡ Ok kinds → AllByRecursion (IsPlain run) kinds
plans_plain s command version limit run kinds other h = planned-plain s command version limit run kinds other h

pub plans_few : (s : StateValue) (command : Command) (version limit : ℕ) (run : RunId) (kinds : List EventKind) → begins_run command ≡ false
    → plan_of (Some s) command version limit run ≡ Ok kinds → count_by is_original kinds ≤ 1
plans_few s command version limit run kinds other h = planned-few s command version limit run kinds other h

pub plans_fit : (s : StateValue) (command : Command) (version limit : ℕ) (run : RunId) (kinds : List EventKind) → IsTrue (is_run run.value) → IsWellFormedCommand command → begins_run command ≡ false
    → plan_of (Some s) command version limit run ≡ Ok kinds → AllByRecursion KindFits kinds
plans_fit s command version limit run kinds fit well other h = planned-fit s command version limit run kinds fit well other h
