-- After a handover the target goes on where all that was written ends.
use Rattle.std.proofs.Common.{◌≡◌, ◌≤◌, ℕ, Bool, true, false, List, [], ◌∷◌, ◌++◌, ◌⊎◌, inl, inr, Option, Some, None, Result, Ok, Err, slice_index_or, if◌then◌else◌, refl, sym, ◌∙◌, subst, ap, arith}
use Rattle.std.specs.Prelude.{option_to_list}
use Rattle.std.specs.List.{AllByRecursion, filter, flat_map}
use Rattle.ndc_script_types.specs.WellFormed.{IsWellFormedHeader}
use Rattle.ndc_script_types.specs.declared.script.Act.TheVariants as act
use Rattle.ndc_script_types.specs.declared.script.Header.{Header}
use Rattle.ndc_model_cells.specs.Cells.{Cell, both, learned_of}
use Rattle.ndc_model_cells.specs.Jobs.{cell_for}
use Rattle.ndc_model_cells.specs.Places.{in_order, is_of}
use Rattle.ndc_model_cells.specs.Shards.{shard_of}
use Rattle.ndc_model_cells.specs.Writing.{Entry, Desk, alone, as_command_error, batch_below, batches_in, carried_by, command_entries, command_of, entry_of, first_batch, goes_on_as, is_close_full, key_behind, may_write, next_key, reapplication_below, reapplication_by, reapplication_of, reset_at, reset_below, reset_close, reset_entries, reset_refused}
use Rattle.ndc_command.specs.Laws.{begins_run}
use Rattle.ndc_command.specs.Plan.{plan_of}
use Rattle.ndc_command.specs.declared.command.Command.{Command}
use Rattle.ndc_command.specs.declared.refusal.CommandError.{CommandError}
use Rattle.ndc_command.specs.declared.refusal.CommandError.TheVariants.{Refused}
use Rattle.ndc_command.specs.declared.refusal.Refusal.{Refusal}
use Rattle.ndc_command.specs.declared.refusal.Refusal.TheVariants as refusal
use Rattle.ndc_domain.specs.Merge.{merged}
use Rattle.ndc_domain.specs.Records.{only_of}
use Rattle.ndc_domain.specs.declared.clusters.ClusterNo.{ClusterNo}
use Rattle.ndc_domain.specs.declared.record.DomainRecord.{DomainRecord}
use Rattle.ndc_event.specs.Key.{key_lt, run_of}
use Rattle.ndc_event.specs.declared.batch.Batch.{Batch}
use Rattle.ndc_event.specs.declared.key.BatchKey.{BatchKey}
use Rattle.ndc_event.specs.declared.kind.EventKind.{EventKind}
use Rattle.ndc_event.specs.declared.name.Name.{Name}
use Rattle.ndc_graceful.specs.declared.handover.Handover.{Handover}
use Rattle.ndc_laws.specs.HandedOver.{BeginsOrGoesBelow, GoesOnAtTheEnd, HasNoChild, WritesNextBelow}
use Rattle.ndc_laws.proofs.AboveLemmas.{HoldsOfEntries, HoldsWhereOk, next-holds}
use Rattle.ndc_laws.proofs.HandoverLemmas.{taken-over}
use Rattle.ndc_laws_reached.proofs.LetterLemmas.{shard-below}
use Rattle.ndc_laws_reached.proofs.OneWriterLemmas.{learned_sound}
use Rattle.ndc_laws_reached.proofs.WriterLemmas.{within}
use Rattle.ndc_model.specs.Facts.{IsHandoverFit, IsReached}
use Rattle.ndc_model.specs.Fair.{written_of}
use Rattle.ndc_model.specs.Handovers.{complete_by, complete_open, complete_step, handed_over, handover_to, ready_in}
use Rattle.ndc_model.specs.Lines.{act_step}
use Rattle.ndc_model.specs.Reading.{learned_at}
use Rattle.ndc_model.specs.World.{Cluster, World, all_clusters, cell_at, cell_of, cluster_at, home_at, new_cluster, with_table}
use Rattle.ndc_model.proofs.WorldLemmas.{set-cases}
use Rattle.ndc_model_sets.specs.Branches.{greatest_key, workflow_tip}
use Rattle.ndc_model_sets.specs.Current.{state_to, strays}
use Rattle.ndc_model_sets.specs.Paths.{events_to}
use Rattle.ndc_model_sets.specs.Sets.{Has, PointsBack}
use Rattle.ndc_model_sets.specs.Sound.{IsSound}
use Rattle.ndc_model_sets.proofs.BranchLemmas.{IsUpTo, among-has, greatest-among, greatest-of, greatest-some, greatest-top, has-among, same-batch}
use Rattle.ndc_model_sets.proofs.CurrentLaws.{workflow_is_greatest}
use Rattle.ndc_model_sets.proofs.KeyLemmas.{IsBefore, before-irrefl, before-parts, before-trans}
use Rattle.ndc_model_sets.proofs.Lists.{Among, all-among}
use Rattle.ndc_model_sets.proofs.PathLemmas.{parent-back}
use Rattle.ndc_model_sets.proofs.SetLemmas.{found-all}
use Rattle.ndc_reapply.specs.declared.stray.Stray.{Stray}
use Rattle.ndc_reset.specs.Reset.{reset_of}
use Rattle.ndc_state.specs.Value.{StateValue}

-- another table leaves the cells of all clusters
table-cells : (cluster : ClusterNo) (table : List DomainRecord) (w : World) (other : ClusterNo) (place : ℕ) → cell_at other place (with_table cluster table w) ≡ cell_at other place w
unfolding with_table
table-cells cluster table w other place =
    set-cases (λ (c : Cluster). cell_for place c.cells ≡ cell_at other place w) w.clusters cluster.number other.number _ (new_cluster 0)
    (λ at. ap (λ (n : ℕ). cell_for place (slice_index_or w.clusters n (new_cluster 0)).cells) (sym at)) refl

-- so does the end of a handover
handed-cells : (handover : Handover) (w : World) (other : ClusterNo) (place : ℕ) → cell_at other place (handed_over handover w) ≡ cell_at other place w
handed-cells handover w other place = table-cells handover.to (merged (cluster_at handover.to w).table (only_of (cluster_at handover.from w).table handover.domain)) w other place

-- where the cells are the same, so is what was written
same-written : (header : Header) (v w : World) → ((other : ClusterNo) (place : ℕ) → cell_at other place v ≡ cell_at other place w) → (domain workflow : Name) → written_of header domain workflow v ≡ written_of header domain workflow w
same-written header v w same domain workflow = λ i. filter (is_of domain workflow) (in_order (flat_map (λ c. flat_map both (same c (shard_of domain workflow header.shards) i).written) (all_clusters header)))

-- `complete` of a handover that is ready
completed : (header : Header) (at : ClusterNo) (domain : Name) (w : World) (handover : Handover) → handover_to at domain w ≡ Some handover → ready_in handover w ≡ Ok tt
    → (act_step header (act.Complete at domain) w).world ≡ handed_over handover w
unfolding act_step complete_step
completed header at domain w handover opened ready = ap (λ o. (complete_open w o).world) opened ∙ ap (λ r. (complete_by handover w r).world) ready

-- what is written below a tip with a key begins a run, or goes below the tip
module _ (tip : Batch) (domain workflow : Name) (key : BatchKey) where
  abbrev Fits : Batch → Type 0
  Fits = BeginsOrGoesBelow tip

  carried-fits : (o : Option Name) → AllByRecursion Fits (option_to_list (carried_by domain workflow key o))
  carried-fits None = tt
  carried-fits (Some workflow_type) = (inl refl, tt)

  entry-fits : (begins : Bool) (batches : List Batch) (kinds : List EventKind) → AllByRecursion Fits (batches_in (entry_of domain workflow begins key (Some tip) batches kinds))
  entry-fits true batches kinds = (inl refl, tt)
  entry-fits false batches kinds = (inr refl, carried-fits (goes_on_as kinds))

  reset-fits : (limit : ℕ) (s : StateValue) (kinds : List EventKind) → HoldsWhereOk Fits (reset_entries domain workflow limit key tip s kinds)
  reset-fits limit s kinds = by (is_close_full limit s key.version) s.running
    where
      by : (full : Bool) (t : Bool) → HoldsWhereOk Fits (if full then Err (Refused refusal.HistoryFull) else Ok ((if t then alone (batch_below domain workflow key tip s (reset_close s key.version)) ∷ [] else []) ++ alone (first_batch domain workflow (if t then key_behind key else key) None kinds) ∷ []))
      by true t = tt
      by false true = ((inr refl, tt), ((inl refl, tt), tt))
      by false false = ((inl refl, tt), tt)

  applied-fits : (s : StateValue) (kinds : List EventKind) (t : Bool) → HoldsOfEntries Fits (if t then alone (batch_below domain workflow key tip s kinds) ∷ [] else [])
  applied-fits s kinds true = ((inr refl, tt), tt)
  applied-fits s kinds false = tt

-- what a cell writes where this is the tip of its current run of the workflow
module _ (home : Desk) (domain workflow : Name) (cell : Cell) (tip : Batch) (current : workflow_tip (learned_of domain workflow cell) ≡ Some tip) where
  abbrev batches : List Batch
  batches = learned_of domain workflow cell

  command-fits : (command : Command) → HoldsWhereOk (BeginsOrGoesBelow tip) (command_of home domain workflow command cell)
  unfolding command_of
  command-fits command =
      next-holds (BeginsOrGoesBelow tip) (as_command_error (may_write home domain workflow cell)) (λ version. command_entries domain workflow command home.limit version batches)
      (λ version e. next-holds (BeginsOrGoesBelow tip) (plan_of _ command version home.limit (run_of (key_behind (next_key version batches))))
      (λ kinds. Ok (entry_of domain workflow (begins_run command) (next_key version batches) (workflow_tip batches) batches kinds ∷ []))
      (λ kinds f. (
        subst (λ (o : Option Batch). AllByRecursion (BeginsOrGoesBelow tip) (batches_in (entry_of domain workflow (begins_run command) (next_key version batches) o batches kinds))) (sym current)
            (entry-fits tip domain workflow (next_key version batches) (begins_run command) batches kinds),
        tt,
      )))

  reset-at-fits : (event : ℕ) → HoldsWhereOk (BeginsOrGoesBelow tip) (reset_at home domain workflow event cell)
  unfolding reset_at
  reset-at-fits event =
      next-holds (BeginsOrGoesBelow tip) (as_command_error (may_write home domain workflow cell)) (λ version. reset_below domain workflow event home.limit version (workflow_tip batches) batches)
      (λ version e. subst (λ (o : Option Batch). HoldsWhereOk (BeginsOrGoesBelow tip) (reset_below domain workflow event home.limit version o batches)) (sym current)
      (next-holds (BeginsOrGoesBelow tip) (reset_refused (reset_of (events_to tip.key batches) tip.run event home.limit))
      (λ kinds. reset_entries domain workflow home.limit (next_key version batches) tip (state_to tip.run tip.key batches) kinds)
      (λ kinds f. reset-fits tip domain workflow (next_key version batches) home.limit (state_to tip.run tip.key batches) kinds)))

  reapplied-fits : HoldsOfEntries (BeginsOrGoesBelow tip) (reapplication_of home domain workflow cell)
  unfolding reapplication_of
  reapplied-fits = by (may_write home domain workflow cell)
    where
      below : (version : ℕ) (list : List Stray) → HoldsOfEntries (BeginsOrGoesBelow tip) (reapplication_below domain workflow version (Some tip) batches list)
      below version [] = tt
      below version (stray ∷ list) = applied-fits tip domain workflow (next_key version batches) (state_to tip.run tip.key batches) _ (state_to tip.run tip.key batches).running

      by : (r : Result ℕ Refusal) → HoldsOfEntries (BeginsOrGoesBelow tip) (reapplication_by domain workflow r batches)
      by (Err why) = tt
      by (Ok version) = subst (λ (o : Option Batch). HoldsOfEntries (BeginsOrGoesBelow tip) (reapplication_below domain workflow version o batches (strays batches))) (sym current) (below version (strays batches))

where-ok : (P : Batch → Type 0) (r : Result (List Entry) CommandError) (entries : List Entry) → HoldsWhereOk P r → r ≡ Ok entries → HoldsOfEntries P entries
where-ok P r entries holds e = subst (HoldsWhereOk P) e holds

-- a cluster writes next below the tip of its current run
pub next-below : (header : Header) (cluster : ClusterNo) (domain workflow : Name) (v : World) (tip : Batch) → workflow_tip (learned_at header cluster domain workflow v) ≡ Some tip → WritesNextBelow header cluster domain workflow v tip
next-below header cluster domain workflow v tip current = record {
  commanded = λ command entries. where-ok (BeginsOrGoesBelow tip) (command_of (home_at header cluster v) domain workflow command (cell_of header cluster domain workflow v)) entries
      (command-fits (home_at header cluster v) domain workflow (cell_of header cluster domain workflow v) tip current command);
  reset = λ event entries. where-ok (BeginsOrGoesBelow tip) (reset_at (home_at header cluster v) domain workflow event (cell_of header cluster domain workflow v)) entries
      (reset-at-fits (home_at header cluster v) domain workflow (cell_of header cluster domain workflow v) tip current event);
  applied = reapplied-fits (home_at header cluster v) domain workflow (cell_of header cluster domain workflow v) tip current;
}

-- the greatest of all that was written has no child
greatest-childless : (all : List Batch) (tip : Batch) → IsSound all → greatest_key all ≡ Some tip → HasNoChild all tip
greatest-childless all tip sound greatest other has named =
    up (greatest-top all tip other greatest (has-among all other has)) (parent-back other (found-all PointsBack all other.key other sound.set.back has) tip.key named)
  where
    up : IsUpTo tip.key other.key → key_lt tip.key other.key ≡ true → ⊥
    up (inl same) l = before-irrefl tip.key (subst (λ (k : BatchKey). key_lt tip.key k ≡ true) same l)
    up (inr k) l = before-irrefl tip.key (before-trans tip.key other.key tip.key l k)

-- what is learned that has the greatest of all that was written goes on at it
learned-greatest : (all part : List Batch) (tip : Batch) → IsSound all → IsSound part → ((b : Batch) → Has part b → Has all b) → greatest_key all ≡ Some tip → Has part tip → workflow_tip part ≡ Some tip
learned-greatest all part tip whole sound within greatest has =
    workflow_is_greatest part sound.set sound.closed sound.parents sound.chains ∙ greatest-of part tip (has-among part tip has) each
  where
    each : (x : Batch) → Among x part → (x ≡ tip) ⊎ (key_lt x.key tip.key ≡ true)
    each x among = by (greatest-top all tip x greatest (has-among all x there))
      where
        there : Has all x
        there = within x (among-has part x sound.set.ordered among)

        by : IsUpTo tip.key x.key → (x ≡ tip) ⊎ (key_lt x.key tip.key ≡ true)
        by (inl same) = inl (same-batch all x tip there (within tip has) same)
        by (inr l) = inr l

module _ (header : Header) (fit : IsWellFormedHeader header) (lines : ℕ) (w : World) (is : IsReached header lines w) (handover : Handover) (opened : Among handover w.handovers) (ready : ready_in handover w ≡ Ok tt) (workflow : Name)
    (b : Batch) (has : Has (written_of header handover.domain workflow w) b) (version : b.key.version ≡ handover.old) (most : (other : Batch) → Has (written_of header handover.domain workflow w) other → other.key.version ≤ handover.old) where
  abbrev all : List Batch
  all = written_of header handover.domain workflow w

  abbrev part : List Batch
  part = learned_at header handover.to handover.domain workflow w

  whole : IsSound all
  whole = is.fair.writing.sound handover.domain workflow

  handed : IsHandoverFit header w handover
  handed = all-among (IsHandoverFit header w) w.handovers handover is.handovers.each opened

  sound : IsSound part
  sound = learned_sound header lines w handover.to handover.domain workflow fit.shards_least handed.clusters.second is

  g : (tip : Batch) × (greatest_key all ≡ Some tip)
  g = greatest-some all b (has-among all b has)

  tip-has : Has all g.0
  tip-has = among-has all g.0 whole.set.ordered (greatest-among all g.0 g.1)

  tip-old : g.0.key.version ≡ handover.old
  tip-old = by (greatest-top all g.0 b g.1 (has-among all b has))
    where
      before : IsBefore b.key g.0.key → b.key.version ≤ g.0.key.version
      before (inl l) = omega (arith, l)
      before (inr e) = let p = e.0 in omega (arith, p)

      by : IsUpTo g.0.key b.key → g.0.key.version ≡ handover.old
      by (inl same) = sym (ap (λ (k : BatchKey). k.version) same) ∙ version
      by (inr l) = let up = before (before-parts b.key g.0.key l) in let down = most g.0 tip-has in omega (arith, up, down, version)

  -- the target has it, and goes on there
  tip-current : workflow_tip part ≡ Some g.0
  tip-current =
      learned-greatest all part g.0 whole sound
      (λ x there. within header lines w is handover.to handed.clusters.second handover.domain workflow (shard-below handover.domain workflow header.shards fit.shards_least) x there)
      g.1 (taken-over header fit lines w is handover opened ready workflow g.0 tip-has tip-old)

  -- in any world with the same cells
  goes-on : (v : World) → ((other : ClusterNo) (place : ℕ) → cell_at other place v ≡ cell_at other place w) → GoesOnAtTheEnd header handover.to handover.domain workflow v
  goes-on v same = record {
    tip = g.0;
    current = there;
    written = subst (λ (batches : List Batch). Has batches g.0) (sym (same-written header v w same handover.domain workflow)) tip-has;
    childless = subst (λ (batches : List Batch). HasNoChild batches g.0) (sym (same-written header v w same handover.domain workflow)) (greatest-childless all g.0 whole g.1);
    next = next-below header handover.to handover.domain workflow v g.0 there;
  }
    where
      there : workflow_tip (learned_at header handover.to handover.domain workflow v) ≡ Some g.0
      there = ap (λ (cell : Cell). workflow_tip (learned_of handover.domain workflow cell)) (same handover.to (shard_of handover.domain workflow header.shards)) ∙ tip-current

  pub goes-on-behind : (at : ClusterNo) (domain : Name) → handover_to at domain w ≡ Some handover → GoesOnAtTheEnd header handover.to handover.domain workflow (act_step header (act.Complete at domain) w).world
  goes-on-behind at domain found =
      subst (GoesOnAtTheEnd header handover.to handover.domain workflow) (sym (completed header at domain w handover found ready)) (goes-on (handed_over handover w) (handed-cells handover w))
