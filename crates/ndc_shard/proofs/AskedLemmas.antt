-- What a command, a reset or a reapplication writes may be written, where the cell may be asked for it.
use Rattle.std.proofs.Common.{◌≡◌, ◌≤◌, ◌++◌, ◌^◌, ℕ, Bool, true, false, List, [], ◌∷◌, Option, Some, None, Result, Ok, Err, IfOk, if◌then◌else◌, refl, sym, ◌∙◌, subst, ap, arith, All}
use Rattle.std.specs.Prelude.{is_some}
use Rattle.std.specs.List.{AllByRecursion}
use Rattle.std.proofs.lemmas.List.Elements.{All-weaker}
use Rattle.ndc_model_cells.specs.Cells.{Cell, learned_of}
use Rattle.ndc_model_cells.specs.Writing.{Entry, Desk, alone, as_command_error, batch_below, batches_in, command_entries, command_of, entry_of, first_batch, greatest_version, is_close_full, key_behind, may_write, may_write_by, next_key, reset_at, reset_below, reset_close, reset_entries, reset_refused}
use Rattle.ndc_command.specs.Laws.{begins_run}
use Rattle.ndc_command.specs.Plan.{plan_of}
use Rattle.ndc_command.specs.declared.command.Command.{Command}
use Rattle.ndc_command.specs.declared.refusal.CommandError.{CommandError}
use Rattle.ndc_command.specs.declared.refusal.CommandError.TheVariants.{Refused}
use Rattle.ndc_command.specs.declared.refusal.Refusal.{Refusal}
use Rattle.ndc_command.specs.declared.refusal.Refusal.TheVariants as refusal
use Rattle.ndc_domain.specs.Records.{record_of}
use Rattle.ndc_shard_entries.specs.Written.{AreWrittenTo, HasIdsUpTo}
use Rattle.ndc_shard_entries.proofs.IdLemmas.{command-ids, resets-ids}
use Rattle.ndc_shard_entries.proofs.LawProofs.{after-ok, command-behind, reset-behind, tip-has, writes_ahead}
use Rattle.ndc_event.specs.Key.{run_of}
use Rattle.ndc_event.specs.Outcome.{◌>>=◌}
use Rattle.ndc_event.specs.declared.batch.Batch.{Batch}
use Rattle.ndc_event.specs.declared.batch.Event.{Event}
use Rattle.ndc_event.specs.declared.key.BatchKey.{BatchKey}
use Rattle.ndc_event.specs.declared.kind.EventKind.{EventKind}
use Rattle.ndc_event.specs.declared.name.Name.{Name}
use Rattle.ndc_reset.specs.Reset.{reset_of}
use Rattle.ndc_model_sets.specs.Branches.{workflow_tip}
use Rattle.ndc_model_sets.specs.Current.{state_to}
use Rattle.ndc_model_sets.specs.Learned.{has_key}
use Rattle.ndc_model_sets.specs.Paths.{events_to}
use Rattle.ndc_model_sets.specs.Sound.{IsSound}
use Rattle.ndc_state.specs.Value.{StateValue}
use Rattle.ndc_shard_waiting.proofs.OrderLemmas.{all-more}
use Rattle.ndc_model_cells.specs.Allowed.{MayBeAsked, MayTake}
use Rattle.ndc_shard.specs.Shards.{AreWritable, IsFit}
use Rattle.ndc_shard.proofs.MayLemmas.{AreReached, all-may}

-- what is written has no earlier key, or that of the tip
module _ (batches : List Batch) (sound : IsSound batches) (domain workflow : Name) (version : ℕ) where
  abbrev key : BatchKey
  key = next_key version batches

  tip-there : (tip : Batch) → workflow_tip batches ≡ Some tip → has_key (Some tip.key) batches ≡ true
  tip-there tip e = ap is_some (tip-has batches sound tip e)

  entry-reached : (begins : Bool) (tip : Option Batch) → workflow_tip batches ≡ tip → (kinds : List EventKind) → AreReached batches (entry_of domain workflow begins key tip batches kinds ∷ [])
  entry-reached true tip e kinds = (refl, tt)
  entry-reached false None e kinds = (refl, tt)
  entry-reached false (Some tip) e kinds = (tip-there tip e, tt)

  pub command-reached : (limit : ℕ) (command : Command) → IfOk (command_entries domain workflow command limit version batches) (AreReached batches)
  command-reached limit command =
      after-ok (AreReached batches) (plan_of _ command version limit (run_of (key_behind key))) _
      (λ kinds e. entry-reached (begins_run command) (workflow_tip batches) refl kinds)

  closed-reached : (limit : ℕ) (tip : Batch) → workflow_tip batches ≡ Some tip → (s : StateValue) (kinds : List EventKind) → IfOk (reset_entries domain workflow limit key tip s kinds) (AreReached batches)
  closed-reached limit tip e s kinds = by (is_close_full limit s version) s.running
    where
      by : (full running : Bool) → IfOk (if full then Err (Refused refusal.HistoryFull) else Ok ((if running then alone (batch_below domain workflow key tip s (reset_close s version)) ∷ [] else []) ++ alone (first_batch domain workflow (if running then key_behind key else key) None kinds) ∷ [])) (AreReached batches)
      by true running = tt
      by false true = (tip-there tip e, (refl, tt))
      by false false = (refl, tt)

  pub reset-reached : (event limit : ℕ) (tip : Option Batch) → workflow_tip batches ≡ tip → IfOk (reset_below domain workflow event limit version tip batches) (AreReached batches)
  reset-reached event limit None e = tt
  reset-reached event limit (Some tip) e =
      after-ok (AreReached batches) (reset_refused (reset_of (events_to tip.key batches) tip.run event limit)) _
      (λ kinds f. closed-reached limit tip e (state_to tip.run tip.key batches) kinds)

-- ids up to a limit are up to a higher one
ids-weaker : (least most : ℕ) → least ≤ most → (entries : List Entry) → AllByRecursion (HasIdsUpTo least) entries → AllByRecursion (HasIdsUpTo most) entries
ids-weaker least most l entries small =
    all-more (HasIdsUpTo least) (HasIdsUpTo most)
    (λ entry all. all-more (λ (b : Batch). All (λ (event : Event). event.id ≤ least) b.events) (λ (b : Batch). All (λ (event : Event). event.id ≤ most) b.events)
    (λ b up. All-weaker (λ (event : Event). event.id ≤ least) (λ (event : Event). event.id ≤ most) (λ event h. omega (arith, h, l)) b.events up) (batches_in entry) all) entries small

-- what is asked for with the version of the cell
module _ (home : Desk) (domain workflow : Name) (cell : Cell) (fit : IsFit domain workflow cell) (written : Result (List Entry) CommandError) (may : MayBeAsked home domain workflow written cell)
    (entries_with : ℕ → Result (List Entry) CommandError) (is : written ≡ (as_command_error (may_write_by home (record_of home.table domain) (learned_of domain workflow cell)) >>= entries_with))
    (behind : (version : ℕ) → greatest_version (learned_of domain workflow cell) ≤ version → IfOk (entries_with version) (AreWrittenTo (learned_of domain workflow cell) domain workflow))
    (reached : (version : ℕ) → IfOk (entries_with version) (AreReached (learned_of domain workflow cell)))
    (small : (version : ℕ) → IfOk (entries_with version) (AllByRecursion (HasIdsUpTo 204800))) where
  asked-writable : (entries : List Entry) → written ≡ Ok entries → AreWritable entries cell
  asked-writable entries e = by (may_write_by home (record_of home.table domain) (learned_of domain workflow cell)) (writes_ahead home (record_of home.table domain) (learned_of domain workflow cell)) (sym is ∙ e)
    where
      by : (r : Result ℕ Refusal) → IfOk r (λ version. greatest_version (learned_of domain workflow cell) ≤ version) → (as_command_error r >>= entries_with) ≡ Ok entries → AreWritable entries cell
      by (Err why) ahead f = absurd (cc)
      by (Ok version) ahead f =
          all-may domain workflow entries cell fit (subst (λ r. IfOk r (AreWrittenTo (learned_of domain workflow cell) domain workflow)) f (behind version ahead))
          (subst (λ r. IfOk r (AreReached (learned_of domain workflow cell))) f (reached version))
          (ids-weaker 204800 (10 ^ 12) (omega arith) entries (subst (λ r. IfOk r (AllByRecursion (HasIdsUpTo 204800))) f (small version)))
          (subst (λ r. MayTake domain workflow r cell) e may.takes)

pub command-writable : (home : Desk) (domain workflow : Name) (command : Command) (cell : Cell) (entries : List Entry) → IsFit domain workflow cell
    → MayBeAsked home domain workflow (command_of home domain workflow command cell) cell → command_of home domain workflow command cell ≡ Ok entries → AreWritable entries cell
unfolding command_of may_write
command-writable home domain workflow command cell entries fit may =
    asked-writable home domain workflow cell fit (command_of home domain workflow command cell) may (λ version. command_entries domain workflow command home.limit version (learned_of domain workflow cell)) refl
    (λ version ahead. command-behind (learned_of domain workflow cell) version domain workflow fit.sound ahead home.limit command)
    (λ version. command-reached (learned_of domain workflow cell) fit.sound domain workflow version home.limit command)
    (λ version. command-ids (learned_of domain workflow cell) version domain workflow home.limit 204800 command may.limit (omega arith)) entries

pub reset-writable : (home : Desk) (domain workflow : Name) (event : ℕ) (cell : Cell) (entries : List Entry) → IsFit domain workflow cell
    → MayBeAsked home domain workflow (reset_at home domain workflow event cell) cell → reset_at home domain workflow event cell ≡ Ok entries → AreWritable entries cell
unfolding reset_at may_write
reset-writable home domain workflow event cell entries fit may =
    asked-writable home domain workflow cell fit (reset_at home domain workflow event cell) may
    (λ version. reset_below domain workflow event home.limit version (workflow_tip (learned_of domain workflow cell)) (learned_of domain workflow cell)) refl
    (λ version ahead. reset-behind (learned_of domain workflow cell) version domain workflow fit.sound ahead event home.limit (workflow_tip (learned_of domain workflow cell)) refl)
    (λ version. reset-reached (learned_of domain workflow cell) fit.sound domain workflow version event home.limit (workflow_tip (learned_of domain workflow cell)) refl)
    (λ version. weaker (reset_below domain workflow event home.limit version (workflow_tip (learned_of domain workflow cell)) (learned_of domain workflow cell))
    (resets-ids (learned_of domain workflow cell) version domain workflow event home.limit (workflow_tip (learned_of domain workflow cell)))) entries
  where
    weaker : (r : Result (List Entry) CommandError) → IfOk r (AllByRecursion (HasIdsUpTo home.limit)) → IfOk r (AllByRecursion (HasIdsUpTo 204800))
    weaker (Ok all) small = ids-weaker home.limit 204800 may.limit all small
    weaker (Err why) small = tt
