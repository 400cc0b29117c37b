-- No batch that a command, a reset or a reapplication writes is carried by another, but for what its entry carries; a reset writes one
-- entry, or two of which the second goes right after the first.
use Rattle.std.proofs.Common.{◌≡◌, ◌<◌, ◌++◌, ◌∙◌, ℕ, Bool, true, false, List, [], ◌∷◌, length, Option, Some, None, Result, Ok, Err, IfOk, if◌then◌else◌, refl, sym, subst, ap, arith}
use Rattle.std.specs.Prelude.{option_to_list}
use Rattle.ndc_command.specs.Laws.{begins_run}
use Rattle.ndc_command.specs.Plan.{plan_of}
use Rattle.ndc_command.specs.declared.command.Command.{Command}
use Rattle.ndc_command.specs.declared.refusal.CommandError.{CommandError}
use Rattle.ndc_command.specs.declared.refusal.CommandError.TheVariants.{Refused}
use Rattle.ndc_command.specs.declared.refusal.Refusal.{Refusal}
use Rattle.ndc_command.specs.declared.refusal.Refusal.TheVariants as refusal
use Rattle.ndc_domain.specs.Records.{record_of}
use Rattle.ndc_event.specs.Key.{run_of}
use Rattle.ndc_event.specs.Outcome.{◌>>=◌}
use Rattle.ndc_event.specs.declared.batch.Batch.{Batch}
use Rattle.ndc_event.specs.declared.key.BatchKey.{BatchKey}
use Rattle.ndc_event.specs.declared.kind.EventKind.{EventKind}
use Rattle.ndc_event.specs.declared.name.Name.{Name}
use Rattle.ndc_model_cells.proofs.NameLemmas.{own-names}
use Rattle.ndc_model_cells.specs.Cells.{Cell, learned_of}
use Rattle.ndc_model_cells.specs.Jobs.{all_batches}
use Rattle.ndc_model_cells.specs.Writing.{Desk, Entry, alone, as_command_error, batch_below, command_entries, command_of, entry_of, first_batch, is_close_full, key_behind, may_write, may_write_by, next_key, reapplication_below, reapplication_by, reapplication_of, reset_at, reset_below, reset_close, reset_entries, reset_refused}
use Rattle.ndc_model_sets.specs.Branches.{workflow_tip}
use Rattle.ndc_model_sets.specs.Current.{state_to, strays}
use Rattle.ndc_model_sets.specs.Paths.{events_to}
use Rattle.ndc_reapply.specs.Reapplied.{reapplied}
use Rattle.ndc_reapply.specs.declared.stray.Stray.{Stray}
use Rattle.ndc_reset.specs.Reset.{reset_of}
use Rattle.ndc_shard.specs.Shards.{AreLone, AreOneOrTwo}
use Rattle.ndc_shard_entries.proofs.LawProofs.{after-ok}
use Rattle.ndc_state.specs.Value.{StateValue}

module _ (batches : List Batch) (domain workflow : Name) (version : ℕ) where
  abbrev key : BatchKey
  key = next_key version batches

  entry-lone : (begins : Bool) (tip : Option Batch) (kinds : List EventKind) → AreLone (entry_of domain workflow begins key tip batches kinds ∷ [])
  entry-lone true tip kinds = (refl, tt)
  entry-lone false None kinds = (refl, tt)
  entry-lone false (Some tip) kinds = (refl, tt)

  command-alone : (limit : ℕ) (command : Command) → IfOk (command_entries domain workflow command limit version batches) AreLone
  command-alone limit command =
      after-ok AreLone (plan_of _ command version limit (run_of (key_behind key))) _ (λ kinds e. entry-lone (begins_run command) (workflow_tip batches) kinds)

  abbrev AreFine : List Entry → Type 0
  AreFine entries = AreLone entries × AreOneOrTwo entries

  closed-alone : (limit : ℕ) (tip : Batch) (s : StateValue) (kinds : List EventKind) → IfOk (reset_entries domain workflow limit key tip s kinds) AreFine
  closed-alone limit tip s kinds = by (is_close_full limit s version) s.running
    where
      by : (full running : Bool) → IfOk (if full then Err (Refused refusal.HistoryFull) else Ok ((if running then alone (batch_below domain workflow key tip s (reset_close s version)) ∷ [] else []) ++ alone (first_batch domain workflow (if running then key_behind key else key) None kinds) ∷ [])) AreFine
      by true running = tt
      by false true = (
        (refl, (refl, tt)),
        record {
          first_alone = refl;
          second_alone = refl;
          behind = record { key = refl; parent = refl; carrier = tt };
          own = own-names (first_batch domain workflow (key_behind key) None kinds);
        },
      )
      by false false = ((refl, tt), tt)

  reset-alone : (event limit : ℕ) (tip : Option Batch) → IfOk (reset_below domain workflow event limit version tip batches) AreFine
  reset-alone event limit None = tt
  reset-alone event limit (Some tip) =
      after-ok AreFine (reset_refused (reset_of (events_to tip.key batches) tip.run event limit)) _ (λ kinds f. closed-alone limit tip (state_to tip.run tip.key batches) kinds)

  again-alone : (tip : Option Batch) (list : List Stray) → AreLone (reapplication_below domain workflow version tip batches list)
  again-alone None list = tt
  again-alone (Some tip) [] = tt
  again-alone (Some tip) (stray ∷ list) = by (state_to tip.run tip.key batches).running
    where
      by : (running : Bool)
          → AreLone (if running then alone (batch_below domain workflow key tip (state_to tip.run tip.key batches) (reapplied (state_to tip.run tip.key batches) version (stray ∷ list))) ∷ [] else [])
      by true = (refl, tt)
      by false = tt

-- what is written with the version of the cell, where it may write
written-alone : (P : List Entry → Type 0) (r : Result ℕ Refusal) (entries_with : ℕ → Result (List Entry) CommandError) → ((version : ℕ) → IfOk (entries_with version) P) → (entries : List Entry)
    → (as_command_error r >>= entries_with) ≡ Ok entries → P entries
written-alone P (Err why) entries_with each entries e = absurd (cc)
written-alone P (Ok version) entries_with each entries e = subst (λ r. IfOk r P) e (each version)

pub command_lone : (desk : Desk) (domain workflow : Name) (command : Command) (cell : Cell) (entries : List Entry) → command_of desk domain workflow command cell ≡ Ok entries → AreLone entries
unfolding command_of may_write
command_lone desk domain workflow command cell entries =
    written-alone AreLone (may_write_by desk (record_of desk.table domain) (learned_of domain workflow cell)) (λ version. command_entries domain workflow command desk.limit version (learned_of domain workflow cell))
    (λ version. command-alone (learned_of domain workflow cell) domain workflow version desk.limit command) entries

pub reset_lone : (desk : Desk) (domain workflow : Name) (event : ℕ) (cell : Cell) (entries : List Entry) → reset_at desk domain workflow event cell ≡ Ok entries
    → AreLone entries × AreOneOrTwo entries
unfolding reset_at may_write
reset_lone desk domain workflow event cell entries =
    written-alone (λ list. AreLone list × AreOneOrTwo list) (may_write_by desk (record_of desk.table domain) (learned_of domain workflow cell))
    (λ version. reset_below domain workflow event desk.limit version (workflow_tip (learned_of domain workflow cell)) (learned_of domain workflow cell))
    (λ version. reset-alone (learned_of domain workflow cell) domain workflow version event desk.limit (workflow_tip (learned_of domain workflow cell))) entries

again-all : (desk : Desk) (domain workflow : Name) (cell : Cell) → AreLone (reapplication_of desk domain workflow cell)
unfolding reapplication_of may_write
again-all desk domain workflow cell = by (may_write_by desk (record_of desk.table domain) (learned_of domain workflow cell))
  where
    by : (r : Result ℕ Refusal) → AreLone (reapplication_by domain workflow r (learned_of domain workflow cell))
    by (Err why) = tt
    by (Ok version) = again-alone (learned_of domain workflow cell) domain workflow version (workflow_tip (learned_of domain workflow cell)) (strays (learned_of domain workflow cell))

pub again_lone : (desk : Desk) (domain workflow : Name) (cell : Cell) (o : Option Entry) (entry : Entry) → o ≡ Some entry → option_to_list o ≡ reapplication_of desk domain workflow cell → entry.batch.carrier ≡ None
again_lone desk domain workflow cell None entry e f = absurd (cc)
again_lone desk domain workflow cell (Some other) entry e f =
    let same : other ≡ entry = cc in
    let all : AreLone (other ∷ []) = subst AreLone (sym f) (again-all desk domain workflow cell) in
    subst (λ (x : Entry). x.batch.carrier ≡ None) same all.0

-- one entry or two have a batch
pub some-written : (entries : List Entry) → AreOneOrTwo entries → (batches : List Batch) (slice : List Entry) → slice ≡ entries → batches ≡ all_batches slice → 0 < length batches
some-written [] some batches slice e f = absurd some
some-written (entry ∷ entries) some batches slice e f =
    subst (λ (l : List Batch). 0 < length l) (sym (f ∙ ap all_batches e)) (omega arith)
