-- An entry that a cluster writes in a world that is as it should be may be written beside what waits in its cell.
use Rattle.std.proofs.Common.{◌≡◌, ℕ, ◌<◌, true, false, not, List, inl, inr, ◌⊎◌, Option, Some, None, option_to_list, refl, sym, ◌∙◌, subst, ap, true≢false}
use Rattle.std.specs.List.{filter}
use Rattle.std.specs.Prelude.{is_some}
use Rattle.ndc_script_types.specs.WellFormed.{IsCluster}
use Rattle.ndc_script_types.specs.declared.script.Header.{Header}
use Rattle.ndc_model_cells.specs.declared.message.Message.{Message}
use Rattle.ndc_model_cells.specs.Cells.{Cell, arrived_of, both, is_learned_in, learned_of, own_message, put_off_in}
use Rattle.ndc_model_cells.specs.Places.{is_of}
use Rattle.ndc_model_cells.specs.Shards.{shard_of}
use Rattle.ndc_model_cells.specs.Writing.{Entry, with_written}
use Rattle.ndc_domain.specs.declared.clusters.ClusterNo.{ClusterNo}
use Rattle.ndc_event.specs.Key.{key_eq}
use Rattle.ndc_event.specs.declared.batch.Batch.{Batch}
use Rattle.ndc_event.specs.declared.key.BatchKey.{BatchKey}
use Rattle.ndc_event.specs.declared.name.Name.{Name}
use Rattle.ndc_laws_reached.proofs.ArrivalLemmas.{own-is}
use Rattle.ndc_laws_reached.proofs.MessageLemmas.{among-true}
use Rattle.ndc_laws_reached.proofs.WrittenLemmas.{arrived-written, flat-among, has-written, names-of, own-names}
use Rattle.ndc_laws_reached.proofs.FitLemmas.{arrivals-kept, place-new}
use Rattle.ndc_laws_reached.proofs.HeldLemmas.{held-set, news-names}
use Rattle.ndc_laws_reached.proofs.LandLemmas.{Write, behind, cell-here, here}
use Rattle.ndc_laws_cells.proofs.PairLemmas.{entry_with, news}
use Rattle.ndc_laws_reached.proofs.WriterLemmas.{IsWriter, writable}
use Rattle.ndc_laws_reached.proofs.WroteLemmas.{writing-kept}
use Rattle.ndc_model.specs.Facts.{IsReached}
use Rattle.ndc_model.specs.Fair.{IsArrivedFit, IsMessageTrue, written_of}
use Rattle.ndc_model.specs.Moves.{all_written}
use Rattle.ndc_model.specs.World.{World, cell_at, home_at}
use Rattle.ndc_model_sets.specs.Learned.{has_key, top}
use Rattle.ndc_model_sets.specs.Sets.{Has, batch_at, earlier}
use Rattle.ndc_model_sets.specs.Sound.{IsSound}
use Rattle.ndc_model_sets.proofs.BranchLemmas.{among-has}
use Rattle.ndc_model_sets.proofs.LearnedLemmas.{reaches-learned}
use Rattle.ndc_model_sets.proofs.Lists.{Among, all-from, among-filter, filter-among, filter_map-among, find-among}
use Rattle.ndc_model_sets.proofs.SetLemmas.{found-key}
use Rattle.ndc_model_cells.specs.Messages.{batches_of, waits_for}
use Rattle.ndc_model_cells.specs.Allowed.{MayWrite}
use Rattle.ndc_laws_cells.specs.Entries.{IsWrite}
use Rattle.ndc_laws_jobs.proofs.OneLemmas.{first-among, found-sound, second-among, second-parts}

module _ (it : Write) where
  open it use {header, lines, w, is, cluster, known, b, second, originals, below, may}

  abbrev at : ℕ
  at = shard_of b.domain b.workflow header.shards

  abbrev cell : Cell
  cell = cell_at cluster at w

  abbrev new : Cell
  new = with_written (entry_with b second) cell

  abbrev all : List Batch
  all = here it

  abbrev old : List Batch
  old = written_of header b.domain b.workflow w

  -- the messages of the workflow that wait
  abbrev waiting : List Message
  waiting = filter (λ sent. is_of b.domain b.workflow sent.batch) cell.waiting

  -- what is learned after the writing is sound
  still-sound : IsSound (learned_of b.domain b.workflow new)
  still-sound = found-sound (all_written header at (behind it)) b.domain b.workflow new ((writing-kept it).sound b.domain b.workflow) fit.once fit.written
    where
      fit : IsArrivedFit header (behind it) at new
      fit = subst (IsArrivedFit header (behind it) at) (cell-here header w is.shaped cluster known at below new) (arrivals-kept it cluster at known below)

  -- a message that waits is true, and its batch is put off
  record Waits (sent : Message) : Type 0 where
    put_off : Among sent.batch (put_off_in cell)
    is_true : IsMessageTrue header at w sent
    names : (sent.batch.domain ≡ b.domain) × (sent.batch.workflow ≡ b.workflow)

  waits : (sent : Message) → Among sent waiting → Waits sent
  waits sent h =
      let p = filter-among (λ m. is_of b.domain b.workflow m.batch) cell.waiting sent h in
      let m = filter_map-among (λ x. own_message (filter (is_of x.domain x.workflow) all) all x) (put_off_in cell) sent
      (subst (Among sent) (is.fair.messages cluster at known below).waiting p.1) in
      let same : m.0 ≡ sent.batch = ap (λ (x : Message). x.batch) (own-is (filter (is_of m.0.domain m.0.workflow) all) all m.0 sent m.2).1 in
      let there : Among m.0 cell.arrived = (filter-among (λ x. not (is_learned_in cell x)) cell.arrived m.0 m.1).1 in
      record {
        put_off = subst (λ (x : Batch). Among x (put_off_in cell)) same m.1;
        is_true = among-true header lines w is at below m.0 sent (arrived-written header lines w is at below cluster known m.0 there) m.2;
        names = names-of b.domain b.workflow sent.batch p.0;
      }

  -- no batch of what waits has the key of a new one
  apart : (x y : Batch) → Among x (news b second) → y.key ≡ x.key → Among y all → (y.domain ≡ b.domain) × (y.workflow ≡ b.workflow) → ⊥
  apart x y h key there names =
      let n = news-names it x h in
      let d : y.domain ≡ x.domain = names.0 ∙ sym n.0 in
      let u : y.workflow ≡ x.workflow = names.1 ∙ sym n.1 in
      place-new it y x there h (λ i. record { domain = d i; workflow = u i; key = key i })

  none-waits : (x : Batch) → Among x (news b second) → batch_at x.key (batches_of waiting) ≡ None
  none-waits x h = by (batch_at x.key (batches_of waiting)) refl
    where
      clash : (y : Batch) → y.key ≡ x.key → Among y (batches_of waiting) → ⊥
      clash y key there =
          let f = flat-among both waiting y there in
          let s = waits f.0 f.1 in
          which f.0 s f.2
        where
          option-is : (o : Option Batch) → Among y (option_to_list o) → o ≡ Some y
          option-is None none = absurd none
          option-is (Some z) (inl same) = ap (λ (u : Batch). Some u) (sym same)
          option-is (Some z) (inr none) = absurd none

          which : (sent : Message) → Waits sent → (y ≡ sent.batch) ⊎ Among y (option_to_list sent.second) → ⊥
          which sent s (inl same) =
              apart x y h key (subst (λ (z : Batch). Among z all) (sym same) (first-among header lines w is at below sent s.is_true))
              (ap (λ (z : Batch). z.domain) same ∙ s.names.0, ap (λ (z : Batch). z.workflow) same ∙ s.names.1)
          which sent s (inr there) =
              let e : sent.second ≡ Some y = option-is sent.second there in
              let n = names-of sent.batch.domain sent.batch.workflow y (second-parts header lines w is at below sent s.is_true y e).0 in
              apart x y h key (second-among header lines w is at below sent s.is_true y e).0 (n.0 ∙ s.names.0, n.1 ∙ s.names.1)

      by : (o : Option Batch) → batch_at x.key (batches_of waiting) ≡ o → o ≡ None
      by None e = refl
      by (Some y) e = absurd (clash y (found-key (batches_of waiting) x.key y e) (find-among (λ z. key_eq z.key x.key) (batches_of waiting) y e))

  -- nothing that waits waits for a new one
  never-awaited : (sent : Message) → Among sent waiting → has_key (earlier sent.batch) (news b second) ≡ false
  never-awaited sent h = by (earlier sent.batch) refl
    where
      s : Waits sent
      s = waits sent h

      off : (not (is_learned_in cell sent.batch) ≡ true) × Among sent.batch cell.arrived
      off = filter-among (λ x. not (is_learned_in cell x)) cell.arrived sent.batch s.put_off

      -- what is put off has an earlier key
      has-earlier : earlier sent.batch ≡ None → ⊥
      has-earlier none =
          let held = arrived_of sent.batch.domain sent.batch.workflow cell in
          let same : held ≡ arrived_of b.domain b.workflow cell = ap (λ d. arrived_of d sent.batch.workflow cell) s.names.0 ∙ ap (λ u. arrived_of b.domain u cell) s.names.1 in
          let there : Has (arrived_of b.domain b.workflow cell) sent.batch =
          among-has (arrived_of b.domain b.workflow cell) sent.batch (held-set it).ordered
          (subst (Among sent.batch) same (among-filter (is_of sent.batch.domain sent.batch.workflow) cell.arrived sent.batch (own-names sent.batch) off.1)) in
          let learned_there : Has (learned_of b.domain b.workflow cell) sent.batch = reaches-learned (arrived_of b.domain b.workflow cell) sent.batch (held-set it) (top sent.batch there none) in
          let learned_here : is_learned_in cell sent.batch ≡ true =
          subst (λ d. has_key (Some sent.batch.key) (learned_of d sent.batch.workflow cell) ≡ true) (sym s.names.0)
          (subst (λ u. has_key (Some sent.batch.key) (learned_of b.domain u cell) ≡ true) (sym s.names.1) (ap is_some learned_there)) in
          true≢false (sym off.0 ∙ ap not learned_here)

      -- and the batch of that key was written before
      written-before : (key : BatchKey) → earlier sent.batch ≡ Some key → has_key (Some key) old ≡ true
      written-before key e =
          let written = has-written header lines w is at below sent.batch (first-among header lines w is at below sent s.is_true) in
          let there : Has old sent.batch = subst (λ d. Has (written_of header d b.workflow w) sent.batch) s.names.0 (subst (λ u. Has (written_of header sent.batch.domain u w) sent.batch) s.names.1 written) in
          ap (λ o. has_key o old) (sym e) ∙ (is.fair.writing.sound b.domain b.workflow).closed sent.batch there

      clash : (x y : Batch) (key : BatchKey) → batch_at key (news b second) ≡ Some x → batch_at key old ≡ Some y → ⊥
      clash x y key e f =
          let p = filter-among (is_of b.domain b.workflow) all y (find-among (λ z. key_eq z.key key) old y f) in
          apart x y (find-among (λ z. key_eq z.key key) (news b second) x e) (found-key old key y f ∙ sym (found-key (news b second) key x e)) p.1 (names-of b.domain b.workflow y p.0)

      both-found : (key : BatchKey) (o p : Option Batch) → batch_at key (news b second) ≡ o → batch_at key old ≡ p → is_some p ≡ true → is_some o ≡ false
      both-found key None p e f h = refl
      both-found key (Some x) None e f h = absurd (true≢false (sym h))
      both-found key (Some x) (Some y) e f h = absurd (clash x y key e f)

      by : (o : Option BatchKey) → earlier sent.batch ≡ o → has_key o (news b second) ≡ false
      by None e = absurd (has-earlier e)
      by (Some key) e = both-found key (batch_at key (news b second)) (batch_at key old) refl refl (written-before key e)

  pub may-write : MayWrite b.domain b.workflow (entry_with b second) (cell_at cluster (shard_of b.domain b.workflow header.shards) w)
  may-write = record {
    sound = still-sound;
    new = all-from (λ x. batch_at x.key (batches_of waiting) ≡ None) (news b second) none-waits;
    awaited = all-from (λ sent. waits_for (news b second) sent ≡ false) waiting never-awaited;
  }

-- an entry of the writer of a workflow
module _ (header : Header) (lines : ℕ) (w : World) (is : IsReached header lines w) (cluster : ClusterNo) (known : IsCluster header cluster) (domain workflow : Name)
    (below : shard_of domain workflow header.shards < header.shards) where
  pub entry-may : (version originals : ℕ) (entry : Entry) → IsWriter (home_at header cluster w) domain version
      → IsWrite (written_of header domain workflow w) (learned_of domain workflow (cell_at cluster (shard_of domain workflow header.shards) w)) domain workflow version originals entry
      → MayWrite domain workflow entry (cell_at cluster (shard_of domain workflow header.shards) w)
  entry-may version originals entry with write =
      subst (λ d. MayWrite d workflow entry (cell_at cluster (shard_of d workflow header.shards) w)) write.domain_is
      (subst (λ u. MayWrite entry.batch.domain u entry (cell_at cluster (shard_of entry.batch.domain u header.shards) w)) write.workflow_is (may-write it))
    where
      there : shard_of entry.batch.domain entry.batch.workflow header.shards < header.shards
      there = subst (λ d. shard_of d entry.batch.workflow header.shards < header.shards) (sym write.domain_is) (subst (λ u. shard_of domain u header.shards < header.shards) (sym write.workflow_is) below)

      it : Write
      it = record {
        header = header;
        lines = lines;
        w = w;
        is = is;
        cluster = cluster;
        known = known;
        b = entry.batch;
        second = entry.second;
        originals = originals;
        below = there;
        may = writable header lines w is cluster known domain workflow below version originals entry with write;
      }
