-- A table with one record put fits, where the record does.
use Rattle.std.proofs.Common.{◌≡◌, ℕ, ◌≤◌, Bool, true, false, cond, List, slice_index_or, slice_set, Some, ◌⊎◌, inl, inr, refl, sym, ◌∙◌, subst, ap, arith}
use Rattle.std.specs.List.{AllByRecursion}
use Rattle.std.specs.Str.{bytes_eq}
use Rattle.std.proofs.lemmas.List.{get_or-set_same}
use Rattle.std.proofs.lemmas.Slice.Eq.{bytes_eq-Decides}
use Rattle.ndc_script_types.specs.WellFormed.{IsCluster}
use Rattle.ndc_script_types.specs.declared.script.Header.{Header}
use Rattle.ndc_domain.specs.Records.{IsRecord, put_record, record_of}
use Rattle.ndc_domain.specs.declared.clusters.ClusterNo.{ClusterNo}
use Rattle.ndc_domain.specs.declared.record.DomainRecord.{DomainRecord}
use Rattle.ndc_domain.proofs.CallLaws.{record_of-put}
use Rattle.ndc_domain.proofs.Tables.{All-put, IsTable-put}
use Rattle.ndc_event.specs.declared.name.Name.{Name}
use Rattle.ndc_laws_reached.specs.Tables.{Grew, IsTableFit}
use Rattle.ndc_model.specs.Facts.{IsReached}
use Rattle.ndc_model.specs.Fair.{AreMembersKnown, IsConfigKnown, IsRecordInRange, primary}
use Rattle.ndc_model.specs.World.{Cluster, World, cluster_at, new_cluster, with_table}
use Rattle.ndc_model.proofs.ListLemmas.{all-weaker}
use Rattle.ndc_model.proofs.WorldLemmas.{set-cases}

-- a record that may be put into a cluster's table
pub record IsRecordFit (header : Header) (lines : ℕ) (w : World) (cluster : ClusterNo) (new : DomainRecord) : Type 0 where
  pub sound : IsRecord new
  pub grows : (old : DomainRecord) → record_of (cluster_at cluster w).table new.name ≡ Some old → Grew old new × (old.config ≤ new.config)
  pub range : IsRecordInRange header lines new
  pub members : AreMembersKnown header new
  pub known : (cluster.number ≡ 0) ⊎ IsConfigKnown (cluster_at primary w).table new
  pub days : (other : ClusterNo) → IsCluster header other → (one : DomainRecord) → record_of (cluster_at other w).table new.name ≡ Some one → new.config ≡ one.config → new.days ≡ one.days

module _ (header : Header) (lines : ℕ) (w : World) (is : IsReached header lines w) (cluster : ClusterNo) (at_known : IsCluster header cluster) (new : DomainRecord) (fit : IsRecordFit header lines w cluster new) where
  abbrev before : List DomainRecord
  before = (cluster_at cluster w).table

  abbrev first : List DomainRecord
  first = (cluster_at primary w).table

  -- what is found in the table with the record put
  kept : (domain : Name) (old : DomainRecord) → record_of before domain ≡ Some old → (one : DomainRecord) × (record_of (put_record new before) domain ≡ Some one) × Grew old one × (old.config ≤ one.config)
  kept domain old e = by (bytes_eq new.name domain) refl
    where
      by : (t : Bool) → bytes_eq new.name domain ≡ t → (one : DomainRecord) × (record_of (put_record new before) domain ≡ Some one) × Grew old one × (old.config ≤ one.config)
      by true at =
          let same : new.name ≡ domain = (bytes_eq-Decides new.name domain).0 at in
          let g = fit.grows old (ap (record_of before) same ∙ e) in
          (new, record_of-put new before domain ∙ ap (λ (t : Bool). cond t (Some new) (record_of before domain)) at, g.0, g.1)
      by false at = (old, record_of-put new before domain ∙ ap (λ (t : Bool). cond t (Some new) (record_of before domain)) at ∙ e, record { version = omega arith; members = λ n h. h }, omega arith)

  put-found : record_of (put_record new before) new.name ≡ Some new
  put-found = record_of-put new before new.name ∙ ap (λ (t : Bool). cond t (Some new) (record_of before new.name)) ((bytes_eq-Decides new.name new.name).1 refl)

  -- what the first cluster knows it still knows
  known-after : (one : DomainRecord) → IsConfigKnown first one → IsConfigKnown (cluster_at primary (with_table cluster (put_record new before) w)).table one
  unfolding with_table
  known-after one known =
      set-cases (λ (c : Cluster). IsConfigKnown c.table one) w.clusters cluster.number primary.number _ (new_cluster 0)
      (λ at. let mine : record_of before one.name ≡ Some known.found = ap (λ (n : ℕ). record_of (slice_index_or w.clusters n (new_cluster 0)).table one.name) (sym at) ∙ known.has in
      let k = kept one.name known.found mine in
      record { found = k.0; has = k.1; most = omega (arith, known.most, k.3) })
      known

  new-known : (cluster.number ≡ 0) ⊎ IsConfigKnown first new → IsConfigKnown (cluster_at primary (with_table cluster (put_record new before) w)).table new
  unfolding with_table
  new-known (inr known) = known-after new known
  new-known (inl at) =
      let put : Cluster = record (cluster_at cluster w) { table = put_record new before } in
      let there : slice_index_or (slice_set w.clusters cluster.number put) cluster.number (new_cluster 0) ≡ put = get_or-set_same w.clusters cluster.number put (new_cluster 0) (omega (arith, at_known, is.shaped.clusters)) in
      let first_there : slice_index_or (slice_set w.clusters cluster.number put) 0 (new_cluster 0) ≡ put = ap (λ (n : ℕ). slice_index_or (slice_set w.clusters cluster.number put) n (new_cluster 0)) (sym at) ∙ there in
      record { found = new; has = ap (λ (c : Cluster). record_of c.table new.name) first_there ∙ put-found; most = omega arith }

  known-put : (other : ClusterNo) → IsCluster header other → AllByRecursion (IsConfigKnown (cluster_at primary (with_table cluster (put_record new before) w)).table) (cluster_at other (with_table cluster (put_record new before) w)).table
  unfolding with_table
  known-put other there =
      set-cases (λ (c : Cluster). AllByRecursion (IsConfigKnown (cluster_at primary (with_table cluster (put_record new before) w)).table) c.table) w.clusters cluster.number other.number _ (new_cluster 0)
      (λ at. All-put (IsConfigKnown (cluster_at primary (with_table cluster (put_record new before) w)).table) new before (new-known fit.known)
      (all-weaker (IsConfigKnown first) (IsConfigKnown (cluster_at primary (with_table cluster (put_record new before) w)).table) known-after before (is.fair.records.known cluster at_known)))
      (all-weaker (IsConfigKnown first) (IsConfigKnown (cluster_at primary (with_table cluster (put_record new before) w)).table) known-after (cluster_at other w).table (is.fair.records.known other there))

  agree-put : (other : ClusterNo) → IsCluster header other → (name : List ℕ) (ours theirs : DomainRecord) → record_of (put_record new before) name ≡ Some ours → record_of (cluster_at other w).table name ≡ Some theirs
      → ours.config ≡ theirs.config → ours.days ≡ theirs.days
  agree-put other there name ours theirs found other_found = by (bytes_eq new.name name) refl (sym (record_of-put new before name) ∙ found)
    where
      by : (t : Bool) → bytes_eq new.name name ≡ t → cond t (Some new) (record_of before name) ≡ Some ours → ours.config ≡ theirs.config → ours.days ≡ theirs.days
      by true at e =
          let same : new ≡ ours = cc in
          let named : new.name ≡ name = (bytes_eq-Decides new.name name).0 at in
          subst (λ (r : DomainRecord). r.config ≡ theirs.config → r.days ≡ theirs.days) same (fit.days other there theirs (ap (record_of (cluster_at other w).table) named ∙ other_found))
      by false at e = is.fair.records.days cluster other at_known there name ours theirs e other_found

  pub put-fits : IsTableFit header lines w cluster (put_record new before)
  put-fits = record {
    is_table = IsTable-put new before (is.fair.records.tables cluster at_known) fit.sound;
    grows = λ domain old e. let k = kept domain old e in (k.0, k.1, k.2);
    ranges = All-put (IsRecordInRange header lines) new before fit.range (is.fair.records.ranges cluster at_known);
    members = All-put (AreMembersKnown header) new before fit.members (is.fair.members.members cluster at_known);
    known = known-put;
    days = agree-put;
  }

-- what so many lines have reached stays so when more have run
pub lines_pass : (header : Header) (lines more : ℕ) (w : World) → lines ≤ more → more ≤ 100000 → IsReached header lines w → IsReached header more w
lines_pass header lines more w later most is = record {
  shaped = is.shaped;
  fair = record {
    writing = is.fair.writing;
    copies = is.fair.copies;
    writers = is.fair.writers;
    arrivals = is.fair.arrivals;
    messages = is.fair.messages;
    lanes = is.fair.lanes;
    records = record {
      tables = is.fair.records.tables;
      ranges = λ c there. all-weaker (IsRecordInRange header lines) (IsRecordInRange header more) (λ one r. record { writer = r.writer; config_most = omega (arith, r.config_most, later) }) (cluster_at c w).table (is.fair.records.ranges c there);
      known = is.fair.records.known;
      days = is.fair.records.days;
    };
    numbers = record {
      written = λ domain workflow. let n = is.fair.numbers.written domain workflow in record {
        tasks = n.tasks;
        batches_most = omega (arith, n.batches_most, later);
        originals_most = omega (arith, n.originals_most, later);
        events_most = n.events_most;
      };
      lines_most = most;
    };
    members = is.fair.members;
  };
  ranges = is.ranges;
  handovers = is.handovers;
  letters = is.letters;
  beats = λ c there. all-weaker _ _ (λ report b. omega (arith, b, later)) (cluster_at c w).reports (is.beats c there);
  reports = is.reports;
}
