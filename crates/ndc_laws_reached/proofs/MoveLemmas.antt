-- Commands, resets and reapplication keep worlds as they should be.
pub use Rattle.ndc_laws_cells.proofs.VersionLemmas.{may-have}
use Rattle.std.proofs.Common.{◌≡◌, ◌<◌, ◌≤◌, ◌+◌, ◌*◌, ℕ, false, List, length, slice_set, ◌⊎◌, inl, inr, Option, Some, None, Result, Ok, Err, refl, sym, ◌∙◌, subst, ap, arith}
use Rattle.ndc_script_types.specs.WellFormed.{IsCluster, IsWellFormedCommand, IsWellFormedHeader, IsWorkflowAt}
use Rattle.ndc_script_types.specs.declared.script.Header.{Header}
use Rattle.ndc_model_cells.specs.Cells.{Cell, empty_cell, learned_of}
use Rattle.ndc_model_cells.specs.Jobs.{after_job, cells_after, written_at}
use Rattle.ndc_model_cells.specs.Places.{is_of}
use Rattle.ndc_model_cells.specs.Shards.{shard_of}
use Rattle.ndc_model_cells.specs.Writing.{Entry, command_entries, command_of, reset_at, reset_below, with_all_written, with_written}
use Rattle.ndc_command.specs.declared.command.Command.{Command}
use Rattle.ndc_command.specs.declared.refusal.CommandError.{CommandError}
use Rattle.ndc_domain.specs.Records.{record_of}
use Rattle.ndc_domain.specs.declared.clusters.ClusterNo.{ClusterNo}
use Rattle.ndc_event.specs.declared.batch.Batch.{Batch}
use Rattle.ndc_event.specs.declared.name.Name.{Name}
use Rattle.ndc_model.proofs.ListLemmas.{set-twice, set-there}
use Rattle.ndc_model.specs.Facts.{IsReached}
use Rattle.ndc_model.specs.Fair.{written_of}
use Rattle.ndc_model.specs.Moves.{jobs_done}
use Rattle.ndc_model.specs.Steps.{command_step, reset_step}
use Rattle.ndc_model.specs.World.{Cluster, World, cell_at, cluster_at, home_at, new_cluster, with_cells}
use Rattle.ndc_model.proofs.WorldLemmas.{same-cells, set-same}
use Rattle.ndc_model_sets.specs.Branches.{workflow_tip}
use Rattle.ndc_model_sets.specs.Sets.{arrived}
use Rattle.ndc_laws_reached.specs.Writing.{with_cell}
use Rattle.ndc_laws_reached.proofs.LetterLemmas.{shard-below}
use Rattle.ndc_laws_reached.proofs.PutLemmas.{lines_pass}
use Rattle.ndc_laws_reached.proofs.HeldLemmas.{table-same}
use Rattle.ndc_laws_reached.proofs.LandLemmas.{Write, cell-here, written-other, written-own}
use Rattle.ndc_laws_cells.proofs.PairLemmas.{joined, news}
use Rattle.ndc_laws_reached.proofs.RestLemmas.{entry-kept}
use Rattle.ndc_laws_reached.proofs.WriterLemmas.{IsWriter, WritesWith, are-few, may-add, writable}
use Rattle.ndc_laws_cells.specs.Adding.{MayAdd}
use Rattle.ndc_laws_cells.specs.Entries.{AreFew, IsWrite, WritesAlone, WritesBehind, originals_in}
use Rattle.ndc_laws_cells.proofs.CommandLemmas.{command-writes}
use Rattle.ndc_laws_cells.proofs.CountLemmas.{arrived-length, arrived-originals}
use Rattle.ndc_laws_cells.proofs.ResetLemmas.{reset-writes}

-- there are two batches in an entry at most
pub news-few : (b : Batch) (second : Option Batch) → length (news b second) ≤ 2
news-few b None = omega arith
news-few b (Some s) = omega arith

-- an entry that is written to a workflow keeps a world as it should be, and leaves this of what was written
module _ (header : Header) (lines : ℕ) (w : World) (is : IsReached header lines w) (cluster : ClusterNo) (known : IsCluster header cluster) (domain workflow : Name)
    (below : shard_of domain workflow header.shards < header.shards) where
  abbrev at : ℕ
  at = shard_of domain workflow header.shards

  abbrev cell : Cell
  cell = cell_at cluster at w

  abbrev all : List Batch
  all = written_of header domain workflow w

  abbrev part : List Batch
  part = learned_of domain workflow cell

  -- what an entry leaves
  pub record Leaves (entry : Entry) (d u : Name) (v : World) : Type 0 where
    pub reached : IsReached header lines v
    pub own : written_of header d u v ≡ joined entry.batch entry.second (written_of header d u w)
    pub others : (domain workflow : Name) → is_of domain workflow entry.batch ≡ false → written_of header domain workflow v ≡ written_of header domain workflow w
    pub table : (cluster_at cluster v).table ≡ (cluster_at cluster w).table

  pub entry-leaves : (version originals : ℕ) (entry : Entry) → IsWriter (home_at header cluster w) domain version → IsWrite all part domain workflow version originals entry
      → length all + length (news entry.batch entry.second) ≤ 2 * lines → originals_in all + originals ≤ lines → Leaves entry domain workflow (with_cell cluster at (with_written entry cell) w)
  entry-leaves version originals entry with write room signals =
      subst (λ d. Leaves entry d workflow (with_cell cluster (shard_of d workflow header.shards) (with_written entry (cell_at cluster (shard_of d workflow header.shards) w)) w)) write.domain_is
      (subst (λ u. Leaves entry entry.batch.domain u (with_cell cluster (shard_of entry.batch.domain u header.shards) (with_written entry (cell_at cluster (shard_of entry.batch.domain u header.shards) w)) w)) write.workflow_is
      (record {
        reached = entry-kept it
            (subst (λ d. length (written_of header d entry.batch.workflow w) + length (news entry.batch entry.second) ≤ 2 * lines) (sym write.domain_is)
            (subst (λ u. length (written_of header domain u w) + length (news entry.batch entry.second) ≤ 2 * lines) (sym write.workflow_is) room))
            (subst (λ d. originals_in (written_of header d entry.batch.workflow w) + originals ≤ lines) (sym write.domain_is)
            (subst (λ u. originals_in (written_of header domain u w) + originals ≤ lines) (sym write.workflow_is) signals));
        own = written-own it;
        others = written-other it;
        table = table-same it cluster;
      }))
    where
      there : shard_of entry.batch.domain entry.batch.workflow header.shards < header.shards
      there = subst (λ d. shard_of d entry.batch.workflow header.shards < header.shards) (sym write.domain_is) (subst (λ u. shard_of domain u header.shards < header.shards) (sym write.workflow_is) below)

      it : Write
      it = record {
        header = header;
        lines = lines;
        w = w;
        is = is;
        cluster = cluster;
        known = known;
        b = entry.batch;
        second = entry.second;
        originals = originals;
        below = there;
        may = writable header lines w is cluster known domain workflow below version originals entry with write;
      }

  -- nothing is written
  pub same-world : with_cell cluster at cell w ≡ w
  same-world = ap (λ (cells : List Cell). with_cells cluster cells w) (set-same (cluster_at cluster w).cells at empty_cell) ∙ same-cells cluster w

-- a cell that takes the place of one that took another's
pub with-twice : (header : Header) (w : World) (cluster : ClusterNo) (shard : ℕ) (one two : Cell) → cluster.number < length w.clusters → with_cell cluster shard two (with_cell cluster shard one w) ≡ with_cell cluster shard two w
with-twice header w cluster shard one two less =
    ap (λ (c : Cluster). record w { clusters = slice_set (slice_set w.clusters cluster.number first) cluster.number (record c { cells = slice_set c.cells shard two }) }) (set-there w.clusters cluster.number first (new_cluster 0) less)
    ∙ ap (λ (cells : List Cell). record w { clusters = slice_set (slice_set w.clusters cluster.number first) cluster.number (record (cluster_at cluster w) { cells = cells }) }) (set-twice (cluster_at cluster w).cells shard one two)
    ∙ ap (λ (clusters : List Cluster). record w { clusters = clusters }) (set-twice w.clusters cluster.number first (record (cluster_at cluster w) { cells = slice_set (cluster_at cluster w).cells shard two }))
  where
    first : Cluster
    first = record (cluster_at cluster w) { cells = slice_set (cluster_at cluster w).cells shard one }

-- what a command leaves
command-world : (header : Header) (cluster : ClusterNo) (domain workflow : Name) (command : Command) (w : World)
    → (command_step header cluster domain workflow command w).world
    ≡ with_cell cluster (shard_of domain workflow header.shards) (written_at (command_of (home_at header cluster w) domain workflow command (cell_at cluster (shard_of domain workflow header.shards) w)) (cell_at cluster (shard_of domain workflow header.shards) w)) w
unfolding command_step jobs_done cells_after after_job
command-world header cluster domain workflow command w = refl

reset-world : (header : Header) (cluster : ClusterNo) (domain workflow : Name) (event : ℕ) (w : World)
    → (reset_step header cluster domain workflow event w).world
    ≡ with_cell cluster (shard_of domain workflow header.shards) (written_at (reset_at (home_at header cluster w) domain workflow event (cell_at cluster (shard_of domain workflow header.shards) w)) (cell_at cluster (shard_of domain workflow header.shards) w)) w
unfolding reset_step jobs_done cells_after after_job
reset-world header cluster domain workflow event w = refl

module _ (header : Header) (well : IsWellFormedHeader header) (lines : ℕ) (few : lines < 100000) (w : World) (is : IsReached header lines w) (cluster : ClusterNo) (domain workflow : Name) (names : IsWorkflowAt header cluster domain workflow) where
  abbrev place : ℕ
  place = shard_of domain workflow header.shards

  abbrev here : Cell
  here = cell_at cluster place w

  abbrev before : List Batch
  before = written_of header domain workflow w

  there : place < header.shards
  there = shard-below domain workflow header.shards (let l = well.shards_least in omega (arith, l))

  -- the same world after one line more
  later : IsReached header (lines + 1) w
  later = lines_pass header lines (lines + 1) w (omega arith) (omega (arith, few)) is

  still : IsReached header (lines + 1) (with_cell cluster place here w)
  still = subst (IsReached header (lines + 1)) (sym (same-world header lines w is cluster names.known domain workflow there)) later

  may-have-added : (version : ℕ) → WritesWith (home_at header cluster w) domain (learned_of domain workflow here) version → MayAdd before (learned_of domain workflow here) version
  may-have-added version with = may-add header lines w is cluster names.known domain workflow there version with

  numbers-few : (version : ℕ) → WritesWith (home_at header cluster w) domain (learned_of domain workflow here) version → AreFew before version
  numbers-few version with = are-few header lines w is cluster names.known domain workflow there version with

  -- one entry with one line more
  one-leaves : (version originals : ℕ) (entry : Entry) → originals ≤ 1 → IsWriter (home_at header cluster w) domain version
      → IsWrite before (learned_of domain workflow here) domain workflow version originals entry
      → Leaves header (lines + 1) w later cluster names.known domain workflow there entry domain workflow (with_cell cluster place (with_written entry here) w)
  one-leaves version originals entry small writer write =
      entry-leaves header (lines + 1) w later cluster names.known domain workflow there version originals entry writer write
      (let n = is.fair.numbers.written domain workflow in let m = n.batches_most in let l = news-few entry.batch entry.second in omega (arith, m, l))
      (let n = is.fair.numbers.written domain workflow in let m = n.originals_most in omega (arith, m, small))

  pub command-kept : (command : Command) → IsWellFormedCommand command → IsReached header (lines + 1) (command_step header cluster domain workflow command w).world
  unfolding command_of
  command-kept command fit =
      subst (IsReached header (lines + 1)) (sym (command-world header cluster domain workflow command w)) (by (command_of (home_at header cluster w) domain workflow command here) refl)
    where
      by : (r : Result (List Entry) CommandError) → command_of (home_at header cluster w) domain workflow command here ≡ r → IsReached header (lines + 1) (with_cell cluster place (written_at r here) w)
      by (Err error) e = still
      by (Ok entries) e =
          let m = may-have (home_at header cluster w) domain workflow here (λ version. command_entries domain workflow command header.limit version (learned_of domain workflow here)) entries e in
          let one = command-writes before (learned_of domain workflow here) m.version (may-have-added m.version m.with) (numbers-few m.version m.with) domain workflow names.domain_name names.workflow_name
          header.limit well.limit_most command entries fit m.wrote in
          subst (λ (l : List Entry). IsReached header (lines + 1) (with_cell cluster place (with_all_written l here) w)) (sym one.are)
          (one-leaves m.version 1 one.entry (omega arith) m.with.by_record one.may_be).reached

  -- the first batch of a reset's new run, after the one that closes the old one
  module _ (version : ℕ) (writer : IsWriter (home_at header cluster w) domain version) (closing entry : Entry) (lone_closing : closing.second ≡ None) (lone : entry.second ≡ None)
      (close : IsWrite before (learned_of domain workflow here) domain workflow version 1 closing)
      (write : (other : List Batch) → IsWrite (arrived closing.batch before) other domain workflow version 0 entry) where
    abbrev middle : World
    middle = with_cell cluster place (with_written closing here) w

    closed : Leaves header (lines + 1) w later cluster names.known domain workflow there closing domain workflow middle
    closed = one-leaves version 1 closing (omega arith) writer close

    written-then : written_of header domain workflow middle ≡ arrived closing.batch before
    written-then = closed.own ∙ ap (λ o. joined closing.batch o before) lone_closing

    still-writer : IsWriter (home_at header cluster middle) domain version
    still-writer = record { found = writer.found; has = ap (λ t. record_of t domain) closed.table ∙ writer.has; version_is = writer.version_is; writer = writer.writer }

    second-leaves : Leaves header (lines + 1) middle closed.reached cluster names.known domain workflow there entry domain workflow (with_cell cluster place (with_written entry (cell_at cluster place middle)) middle)
    second-leaves =
        entry-leaves header (lines + 1) middle closed.reached cluster names.known domain workflow there version 0 entry still-writer
        (subst (λ l. IsWrite l (learned_of domain workflow (cell_at cluster place middle)) domain workflow version 0 entry) (sym written-then) (write (learned_of domain workflow (cell_at cluster place middle))))
        (let n = is.fair.numbers.written domain workflow in let m = n.batches_most in let l = ap length written-then in let a = arrived-length closing.batch before close.added.fresh in
        let o = ap (λ o. length (news entry.batch o)) lone in omega (arith, m, l, a, o))
        (let n = is.fair.numbers.written domain workflow in let m = n.originals_most in let l = ap originals_in written-then in let a = arrived-originals closing.batch before close.added.fresh in
        let o = close.small.originals_most in omega (arith, m, l, a, o))

    pub two-kept : IsReached header (lines + 1) (with_cell cluster place (with_written entry (with_written closing here)) w)
    two-kept =
        subst (IsReached header (lines + 1))
        (ap (λ (c : Cell). with_cell cluster place (with_written entry c) middle) (cell-here header w is.shaped cluster names.known place there (with_written closing here))
        ∙ with-twice header w cluster place (with_written closing here) (with_written entry (with_written closing here)) (let k = names.known in let s = is.shaped.clusters in omega (arith, k, s)))
        second-leaves.reached

  pub reset-kept : (event : ℕ) → IsReached header (lines + 1) (reset_step header cluster domain workflow event w).world
  unfolding reset_at
  reset-kept event =
      subst (IsReached header (lines + 1)) (sym (reset-world header cluster domain workflow event w)) (by (reset_at (home_at header cluster w) domain workflow event here) refl)
    where
      entries-kept : (version : ℕ) (with : WritesWith (home_at header cluster w) domain (learned_of domain workflow here) version) → (entries : List Entry)
          → WritesAlone before (learned_of domain workflow here) domain workflow version entries ⊎ WritesBehind before (learned_of domain workflow here) domain workflow version entries
          → IsReached header (lines + 1) (with_cell cluster place (with_all_written entries here) w)
      entries-kept version with entries (inl one) =
          subst (λ (l : List Entry). IsReached header (lines + 1) (with_cell cluster place (with_all_written l here) w)) (sym one.are) (one-leaves version 0 one.entry (omega arith) with.by_record one.may_be).reached
      entries-kept version with entries (inr two) =
          subst (λ (l : List Entry). IsReached header (lines + 1) (with_cell cluster place (with_all_written l here) w)) (sym two.are)
          (two-kept version with.by_record two.closing two.entry two.lone_closing two.lone two.may_close two.may_be)

      by : (r : Result (List Entry) CommandError) → reset_at (home_at header cluster w) domain workflow event here ≡ r → IsReached header (lines + 1) (with_cell cluster place (written_at r here) w)
      by (Err error) e = still
      by (Ok entries) e =
          let m = may-have (home_at header cluster w) domain workflow here (λ version. reset_below domain workflow event header.limit version (workflow_tip (learned_of domain workflow here)) (learned_of domain workflow here)) entries e in
          entries-kept m.version m.with entries
          (reset-writes before (learned_of domain workflow here) m.version (may-have-added m.version m.with) (numbers-few m.version m.with) domain workflow names.domain_name names.workflow_name header.limit well.limit_most event entries m.wrote)
