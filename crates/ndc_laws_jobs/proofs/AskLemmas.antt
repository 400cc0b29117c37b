-- Commands and resets may be asked of the cells of a world that is as it should be.
use Rattle.std.proofs.Common.{◌≡◌, ℕ, ◌<◌, ◌+◌, List, [], ◌∷◌, ◌⊎◌, inl, inr, None, Result, Ok, Err, refl, sym, ◌∙◌, subst, ap, arith}
use Rattle.ndc_script_types.specs.WellFormed.{IsWellFormedCommand, IsWellFormedHeader, IsWorkflowAt}
use Rattle.ndc_script_types.specs.declared.script.Header.{Header}
use Rattle.ndc_model_cells.specs.declared.job.Job.TheVariants as job
use Rattle.ndc_model_cells.specs.Cells.{Cell, learned_of}
use Rattle.ndc_model_cells.specs.Shards.{shard_of}
use Rattle.ndc_model_cells.specs.Writing.{Entry, Desk, command_entries, command_of, reset_at, reset_below, with_written}
use Rattle.ndc_command.specs.declared.command.Command.{Command}
use Rattle.ndc_command.specs.declared.refusal.CommandError.{CommandError}
use Rattle.ndc_domain.specs.Records.{record_of}
use Rattle.ndc_domain.specs.declared.clusters.ClusterNo.{ClusterNo}
use Rattle.ndc_event.specs.declared.batch.Batch.{Batch}
use Rattle.ndc_event.specs.declared.name.Name.{Name}
use Rattle.ndc_laws_reached.proofs.LetterLemmas.{shard-below}
use Rattle.ndc_laws_reached.specs.Writing.{with_cell}
use Rattle.ndc_laws_reached.proofs.LineLemmas.{more-lines}
use Rattle.ndc_laws_reached.proofs.LandLemmas.{cell-here}
use Rattle.ndc_laws_reached.proofs.MoveLemmas.{Leaves, entry-leaves, news-few}
use Rattle.ndc_laws_cells.proofs.PairLemmas.{joined}
use Rattle.ndc_laws_reached.proofs.WriterLemmas.{IsWriter, WritesWith, are-few, may-add}
use Rattle.ndc_model.specs.Facts.{IsReached}
use Rattle.ndc_model.specs.Fair.{written_of}
use Rattle.ndc_model.specs.World.{World, cell_at, home_at}
use Rattle.ndc_model_sets.specs.Branches.{workflow_tip}
use Rattle.ndc_model_sets.specs.Sets.{arrived}
use Rattle.ndc_model_cells.specs.Allowed.{IsAllowed, MayTake, MayWrite, MayWriteAll}
use Rattle.ndc_laws_cells.specs.Entries.{IsWrite, WritesAlone, WritesBehind}
use Rattle.ndc_laws_cells.proofs.CommandLemmas.{command-writes}
use Rattle.ndc_laws_reached.proofs.MoveLemmas.{may-have}
use Rattle.ndc_laws_cells.proofs.ResetLemmas.{reset-writes}
use Rattle.ndc_laws_jobs.proofs.EntryLemmas.{entry-may}
use Rattle.ndc_laws_jobs.proofs.RoomLemmas.{has-room}

module _ (header : Header) (well : IsWellFormedHeader header) (lines : ℕ) (w : World) (is : IsReached header lines w) (cluster : ClusterNo) (domain workflow : Name) (names : IsWorkflowAt header cluster domain workflow) where
  abbrev place : ℕ
  place = shard_of domain workflow header.shards

  abbrev here : Cell
  here = cell_at cluster place w

  abbrev home : Desk
  home = home_at header cluster w

  abbrev part : List Batch
  part = learned_of domain workflow here

  abbrev before : List Batch
  before = written_of header domain workflow w

  there : place < header.shards
  there = shard-below domain workflow header.shards (let l = well.shards_least in omega (arith, l))

  pub command-allowed : (command : Command) → IsWellFormedCommand command → IsAllowed (home_at header cluster w) (job.Command domain workflow command) (cell_at cluster (shard_of domain workflow header.shards) w)
  unfolding command_of
  command-allowed command fit = record {
    limit = well.limit_most;
    room = has-room header lines w is cluster names.known domain workflow there;
    takes = by (command_of home domain workflow command here) refl;
  }
    where
      by : (r : Result (List Entry) CommandError) → command_of home domain workflow command here ≡ r → MayTake domain workflow r here
      by (Err error) e = tt
      by (Ok entries) e =
          let m = may-have home domain workflow here (λ version. command_entries domain workflow command header.limit version part) entries e in
          let one = command-writes before part m.version (may-add header lines w is cluster names.known domain workflow there m.version m.with) (are-few header lines w is cluster names.known domain workflow there m.version m.with)
          domain workflow names.domain_name names.workflow_name header.limit well.limit_most command entries fit m.wrote in
          subst (λ (l : List Entry). MayWriteAll domain workflow l here) (sym one.are)
          (entry-may header lines w is cluster names.known domain workflow there m.version 1 one.entry m.with.by_record one.may_be, tt)

  -- a batch that closes a run, and the first one of a new run after it
  module _ (few : lines < 100000) (version : ℕ) (writer : IsWriter home domain version) (closing entry : Entry) (lone_closing : closing.second ≡ None)
      (close : IsWrite before part domain workflow version 1 closing) (write : (other : List Batch) → IsWrite (arrived closing.batch before) other domain workflow version 0 entry) where
    -- the same world after one line more
    later : IsReached header (lines + 1) w
    later = more-lines header lines w few is

    abbrev middle : World
    middle = with_cell cluster place (with_written closing here) w

    closed : Leaves header (lines + 1) w later cluster names.known domain workflow there closing domain workflow middle
    closed =
        entry-leaves header (lines + 1) w later cluster names.known domain workflow there version 1 closing writer close
        (let n = is.fair.numbers.written domain workflow in let m = n.batches_most in let l = news-few closing.batch closing.second in omega (arith, m, l))
        (let n = is.fair.numbers.written domain workflow in let m = n.originals_most in omega (arith, m))

    written-then : written_of header domain workflow middle ≡ arrived closing.batch before
    written-then = closed.own ∙ ap (λ o. joined closing.batch o before) lone_closing

    still-writer : IsWriter (home_at header cluster middle) domain version
    still-writer = record { found = writer.found; has = ap (λ t. record_of t domain) closed.table ∙ writer.has; version_is = writer.version_is; writer = writer.writer }

    second-may : MayWrite domain workflow entry (with_written closing here)
    second-may =
        subst (MayWrite domain workflow entry) (cell-here header w is.shaped cluster names.known place there (with_written closing here))
        (entry-may header (lines + 1) middle closed.reached cluster names.known domain workflow there version 0 entry still-writer
        (subst (λ l. IsWrite l (learned_of domain workflow (cell_at cluster place middle)) domain workflow version 0 entry) (sym written-then) (write (learned_of domain workflow (cell_at cluster place middle)))))

    two-may : MayWriteAll domain workflow (closing ∷ entry ∷ []) here
    two-may = (entry-may header lines w is cluster names.known domain workflow there version 1 closing writer close, (second-may, tt))

  pub reset-allowed : lines < 100000 → (event : ℕ) → IsAllowed (home_at header cluster w) (job.Reset domain workflow event) (cell_at cluster (shard_of domain workflow header.shards) w)
  unfolding reset_at
  reset-allowed few event = record {
    limit = well.limit_most;
    room = has-room header lines w is cluster names.known domain workflow there;
    takes = by (reset_at home domain workflow event here) refl;
  }
    where
      entries-may : (version : ℕ) → WritesWith home domain part version → (entries : List Entry)
          → WritesAlone before part domain workflow version entries ⊎ WritesBehind before part domain workflow version entries → MayWriteAll domain workflow entries here
      entries-may version with entries (inl one) =
          subst (λ (l : List Entry). MayWriteAll domain workflow l here) (sym one.are) (entry-may header lines w is cluster names.known domain workflow there version 0 one.entry with.by_record one.may_be, tt)
      entries-may version with entries (inr two) =
          subst (λ (l : List Entry). MayWriteAll domain workflow l here) (sym two.are) (two-may few version with.by_record two.closing two.entry two.lone_closing two.may_close two.may_be)

      by : (r : Result (List Entry) CommandError) → reset_at home domain workflow event here ≡ r → MayTake domain workflow r here
      by (Err error) e = tt
      by (Ok entries) e =
          let m = may-have home domain workflow here (λ version. reset_below domain workflow event header.limit version (workflow_tip part) part) entries e in
          entries-may m.version m.with entries
          (reset-writes before part m.version (may-add header lines w is cluster names.known domain workflow there m.version m.with) (are-few header lines w is cluster names.known domain workflow there m.version m.with)
          domain workflow names.domain_name names.workflow_name header.limit well.limit_most event entries m.wrote)
