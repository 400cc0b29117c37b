-- Steps that let tables grow.
use Rattle.std.proofs.Common.{◌≡◌, ℕ, ◌≤◌, Bool, true, false, ◌||◌, ◌&&◌, not, cond, if◌then◌else◌, List, [], ◌∷◌, Option, Some, None, Result, Ok, Err, slice_index_or, refl, sym, ◌∙◌, subst, ap, arith, true≢false}
use Rattle.std.specs.Prelude.{◌==◌, codes, is_some, option_to_list}
use Rattle.std.specs.Str.{bytes_eq}
use Rattle.std.proofs.lemmas.Slice.Eq.{bytes_eq-Decides}
use Rattle.ndc_script_types.specs.WellFormed.{IsCluster}
use Rattle.ndc_script_types.specs.declared.script.Header.{Header}
use Rattle.ndc_model_cells.specs.Writing.{is_writer, same_cluster}
use Rattle.ndc_domain.specs.Clusters.{AreClusters, writer_of}
use Rattle.ndc_domain.specs.Flags.{has-where}
use Rattle.ndc_domain.specs.Laws.{Keeps}
use Rattle.ndc_domain.specs.Members.{has_member, with_member}
use Rattle.ndc_domain.specs.Merge.{merged}
use Rattle.ndc_domain.specs.Next.{next_of}
use Rattle.ndc_domain.specs.Records.{IsRecord, IsTable, failover_of, join_of, only_of, put_record, record_of, register_of, retain_of, retained}
use Rattle.ndc_domain.specs.declared.clusters.ClusterNo.{ClusterNo}
use Rattle.ndc_domain.specs.declared.record.DomainError.{DomainError}
use Rattle.ndc_domain.specs.declared.record.DomainRecord.{DomainRecord}
use Rattle.ndc_domain.specs.declared.record.FailoverError.{FailoverError}
use Rattle.ndc_domain.specs.declared.record.JoinError.{JoinError}
use Rattle.ndc_domain.specs.declared.record.RetainError.{RetainError}
use Rattle.ndc_domain.proofs.CallLaws.{failover_finds, failover_version_tells, join_finds, one_test, record_of-put, register_tells, retain_finds}
use Rattle.ndc_domain.proofs.Least.{next_is}
use Rattle.ndc_domain.proofs.MergeLaws.{merge_keeps_ours}
use Rattle.ndc_domain.proofs.Tables.{found_has}
use Rattle.ndc_domain.proofs.Unions.{member_below}
use Rattle.ndc_event.specs.declared.name.Name.{Name}
use Rattle.ndc_laws_reached.specs.Tables.{Grew, TableGrows}
use Rattle.ndc_laws_reached.proofs.GrowLemmas.{grows-none}
use Rattle.ndc_laws.specs.Grown.{TablesGrow}
use Rattle.ndc_laws.proofs.StayLemmas.{AreTables, TablesStay}
use Rattle.ndc_graceful.specs.Begin.{begin_of, begun_by, begun_from}
use Rattle.ndc_graceful.specs.declared.handover.BeginError.TheVariants.{NotActive}
use Rattle.ndc_graceful.specs.declared.handover.Handover.{Handover}
use Rattle.ndc_graceful.specs.declared.handover.ReadyError.{ReadyError}
use Rattle.ndc_graceful.specs.declared.handover.ReadyError.TheVariants.{BootstrapDue, NotYet, Overtaken}
use Rattle.ndc_model.proofs.ListLemmas.{some-and}
use Rattle.ndc_model.specs.Facts.{IsHandoverFit, IsReached}
use Rattle.ndc_model.specs.Handovers.{complete_by, complete_open, complete_step, handover_begun, handover_step, handover_to, is_handover_of, open_handover, queue_ends, ready_in}
use Rattle.ndc_model.specs.Steps.{answered}
use Rattle.ndc_model.specs.Tables.{failover_words, join_step, register_words, retain_words, table_step}
use Rattle.ndc_model.specs.Texts.{refused}
use Rattle.ndc_model.specs.World.{Cluster, World, cluster_at, new_cluster, with_table}
use Rattle.ndc_model.proofs.WorldLemmas.{set-cases}
use Rattle.ndc_model_sets.proofs.Lists.{all-among, find-among}

-- what grew to what grew has grown
pub table-then : (one two three : List DomainRecord) → TableGrows one two → TableGrows two three → TableGrows one three
table-then one two three first second domain old e =
    let g = first domain old e in
    let h = second domain g.0 g.1 in
    (h.0, h.1, record { version = omega (arith, g.2.version, h.2.version); members = λ number m. h.2.members number (g.2.members number m) })

pub tables-then : (u v w : World) → TablesGrow u v → TablesGrow v w → TablesGrow u w
tables-then u v w first second one = table-then (cluster_at one u).table (cluster_at one v).table (cluster_at one w).table (first one) (second one)

-- what stays has grown
pub stay-grow : (w v : World) → TablesStay w v → TablesGrow w v
stay-grow w v stay one = subst (TableGrows (cluster_at one w).table) (sym (stay one)) (grows-none (cluster_at one w).table)

-- a grown table takes the place of a cluster's
pub table-put-grows : (cluster : ClusterNo) (table : List DomainRecord) (w : World) → TableGrows (cluster_at cluster w).table table → TablesGrow w (with_table cluster table w)
unfolding with_table
table-put-grows cluster table w grows one =
    set-cases (λ (c : Cluster). TableGrows (cluster_at one w).table c.table) w.clusters cluster.number one.number _ (new_cluster 0)
    (λ at. subst (λ (n : ℕ). TableGrows (slice_index_or w.clusters n (new_cluster 0)).table table) (sym at) grows)
    (grows-none (cluster_at one w).table)

-- a record that has grown is put into a table
record-put-grows : (new : DomainRecord) (table : List DomainRecord) → ((old : DomainRecord) → record_of table new.name ≡ Some old → Grew old new) → TableGrows table (put_record new table)
record-put-grows new table grew domain old e = by (bytes_eq new.name domain) refl
  where
    by : (t : Bool) → bytes_eq new.name domain ≡ t → (one : DomainRecord) × (record_of (put_record new table) domain ≡ Some one) × Grew old one
    by true at =
        let same : new.name ≡ domain = (bytes_eq-Decides new.name domain).0 at in
        (new, record_of-put new table domain ∙ ap (λ (t : Bool). cond t (Some new) (record_of table domain)) at, grew old (ap (record_of table) same ∙ e))
    by false at = (old, record_of-put new table domain ∙ ap (λ (t : Bool). cond t (Some new) (record_of table domain)) at ∙ e, record { version = omega arith; members = λ n h. h })

-- the record that is found is the one of its name
found-once : (table : List DomainRecord) (name : Name) (old other : DomainRecord) → IsTable table → record_of table name ≡ Some old → record_of table old.name ≡ Some other → old ≡ other
found-once table name old other is e f =
    let named : old.name ≡ name = (found_has IsRecord table name old is.sound e).1 in
    let both : Some old ≡ Some other = sym e ∙ ap (record_of table) (sym named) ∙ f in cc

-- a table merges another
pub merge-grows : (ours theirs : List DomainRecord) → IsTable ours → IsTable theirs → TableGrows ours (merged ours theirs)
merge-grows ours theirs first second domain old e =
    let k = some-and (Keeps old) (record_of (merged ours theirs) domain) (merge_keeps_ours ours theirs domain old first second e) in
    (k.0, k.1, record { version = k.2.version; members = k.2.members })

-- one record of a table is a table
only-table : (table : List DomainRecord) (domain : Name) → IsTable table → IsTable (only_of table domain)
only-table table domain is = by (record_of table domain) refl
  where
    by : (o : Option DomainRecord) → record_of table domain ≡ o → IsTable (option_to_list o)
    by None e = record { ordered = tt; sound = tt }
    by (Some one) e = record { ordered = (tt, tt); sound = ((found_has IsRecord table domain one is.sound e).0, tt) }

-- a domain fails over
failover-grows : (header : Header) (table : List DomainRecord) (target : ClusterNo) (domain : Name) (answer : ℕ × List DomainRecord) → AreClusters header.clusters → IsTable table
    → failover_of header.clusters domain target table ≡ Ok answer → TableGrows table answer.1
failover-grows header table target domain answer lawful is e =
    let told = failover_finds header.clusters target table (record_of table domain) answer e in
    let facts = failover_version_tells header.clusters target told.0 answer.0 told.2 in
    let next = next_is header.clusters told.0.version target lawful facts.0 in
    let later : told.0.version ≤ answer.0 = subst (λ (v : ℕ). told.0.version ≤ v) facts.1 next.0 in
    subst (TableGrows table) (sym told.3)
    (record-put-grows (record (told.0) { version = answer.0 }) table
    (λ other f. subst (λ (r : DomainRecord). Grew r (record (told.0) { version = answer.0 })) (found-once table domain told.0 other is told.1 f) (record { version = later; members = λ n h. h })))

module _ (header : Header) (w : World) (lawful : AreClusters header.clusters) (tables : AreTables header w) where
  abbrev table_of : ClusterNo → List DomainRecord
  table_of cluster = (cluster_at cluster w).table

  nothing : TablesGrow w w
  nothing one = grows-none (table_of one)

  pub failover-grow : (at target : ClusterNo) (domain : Name) → IsCluster header at → TablesGrow w (table_step failover_words at w (failover_of header.clusters domain target (table_of at))).world
  failover-grow at target domain known = by (failover_of header.clusters domain target (table_of at)) refl
    where
      by : (r : Result (ℕ × List DomainRecord) FailoverError) → failover_of header.clusters domain target (table_of at) ≡ r → TablesGrow w (table_step failover_words at w r).world
      by (Err error) e = nothing
      by (Ok answer) e = table-put-grows at answer.1 w (failover-grows header (table_of at) target domain answer lawful (tables at known) e)

  pub join-grow : (at member : ClusterNo) (domain : Name) → IsCluster header at → TablesGrow w (join_step at w (join_of at domain member (table_of at))).world
  join-grow at member domain known = by (join_of at domain member (table_of at)) refl
    where
      more : (old : DomainRecord) → IsRecord old → (number : ℕ) → has_member old.members number ≡ true → has_member (with_member old.members member.number) number ≡ true
      more old is number h = has-where (λ n. has_member old.members n || (member.number == n)) number (member_below old.members number is.1 h) ∙ ap (λ (t : Bool). t || (member.number == number)) h

      joined : (old : DomainRecord) → record_of (table_of at) domain ≡ Some old → TableGrows (table_of at) (put_record (record old { members = with_member old.members member.number }) (table_of at))
      joined old has =
          record-put-grows (record old { members = with_member old.members member.number }) (table_of at)
          (λ other f. subst (λ (r : DomainRecord). Grew r (record old { members = with_member old.members member.number })) (found-once (table_of at) domain old other (tables at known) has f)
          (record { version = omega arith; members = more old (found_has IsRecord (table_of at) domain old (tables at known).sound has).0 }))

      by : (r : Result (List DomainRecord) JoinError) → join_of at domain member (table_of at) ≡ r → TablesGrow w (join_step at w r).world
      by (Err error) e = nothing
      by (Ok after) e =
          let told = join_finds member (table_of at) (record_of (table_of at) domain) after ((one_test _ _ _ _ e).1) in
          table-put-grows at after w (subst (TableGrows (table_of at)) told.2 (joined told.0 told.1))

  pub retain-grow : (at : ClusterNo) (domain : Name) (days : ℕ) → IsCluster header at → TablesGrow w (table_step retain_words at w (retain_of at domain days (table_of at))).world
  retain-grow at domain days known = by (retain_of at domain days (table_of at)) refl
    where
      changed : (old : DomainRecord) → record_of (table_of at) domain ≡ Some old → TableGrows (table_of at) (put_record (retained days old) (table_of at))
      changed old has =
          record-put-grows (retained days old) (table_of at)
          (λ other f. subst (λ (r : DomainRecord). Grew r (retained days old)) (found-once (table_of at) domain old other (tables at known) has f) (record { version = omega arith; members = λ n h. h }))

      by : (r : Result (ℕ × List DomainRecord) RetainError) → retain_of at domain days (table_of at) ≡ r → TablesGrow w (table_step retain_words at w r).world
      by (Err error) e = nothing
      by (Ok answer) e =
          let told = retain_finds days (table_of at) (record_of (table_of at) domain) answer ((one_test _ _ _ _ e).1) in
          table-put-grows at answer.1 w (subst (λ (a : ℕ × List DomainRecord). TableGrows (table_of at) a.1) told.2 (changed told.0 told.1))

  pub register-grow : (at target : ClusterNo) (domain : Name) (days : ℕ) (members : List ℕ) → TablesGrow w (table_step register_words at w (register_of header.clusters at domain target days members (table_of at))).world
  register-grow at target domain days members = by (register_of header.clusters at domain target days members (table_of at)) refl
    where
      new : DomainRecord
      new = record { name = domain; version = next_of header.clusters 0 target; config = 0; days = days; members = members }

      by : (r : Result (ℕ × List DomainRecord) DomainError) → register_of header.clusters at domain target days members (table_of at) ≡ r → TablesGrow w (table_step register_words at w r).world
      by (Err error) e = nothing
      by (Ok answer) e =
          let one = one_test _ _ _ _ e in
          let two = one_test _ _ _ _ one.1 in
          let told = register_tells header.clusters at domain target days members (table_of at) answer e in
          table-put-grows at answer.1 w (subst (λ (a : ℕ × List DomainRecord). TableGrows (table_of at) a.1) told.2
          (record-put-grows new (table_of at) (λ old f. absurd (true≢false (sym (ap (λ (o : Option DomainRecord). is_some o) f) ∙ two.0)))))

  pub merge-grow : (to : ClusterNo) (theirs : List DomainRecord) → IsCluster header to → IsTable theirs → TablesGrow w (with_table to (merged (table_of to) theirs) w)
  merge-grow to theirs known is = table-put-grows to (merged (table_of to) theirs) w (merge-grows (table_of to) theirs (tables to known) is)

  pub handover-grow : (at target : ClusterNo) (domain : Name) → IsCluster header at → TablesGrow w (handover_step header at domain target w).world
  unfolding handover_step begin_of
  handover-grow at target domain known = by (is_some (open_handover domain w))
    where
      failed : (version : ℕ) (r : Result (ℕ × List DomainRecord) FailoverError) → failover_of header.clusters domain target (table_of at) ≡ r → TablesGrow w (handover_begun at w (begun_by at domain target (queue_ends header at w) version r)).world
      failed version (Err error) e = nothing
      failed version (Ok answer) e = table-put-grows at answer.1 w (failover-grows header (table_of at) target domain answer lawful (tables at known) e)

      active : (one : DomainRecord) (t : Bool)
          → TablesGrow w (handover_begun at w (if not t then Err (NotActive one.version) else begun_by at domain target (queue_ends header at w) one.version (failover_of header.clusters domain target (table_of at)))).world
      active one true = failed one.version (failover_of header.clusters domain target (table_of at)) refl
      active one false = nothing

      of-record : (o : Option DomainRecord) → TablesGrow w (handover_begun at w (begun_from header.clusters at domain target (queue_ends header at w) (table_of at) o)).world
      of-record None = nothing
      of-record (Some one) = active one (is_writer at (writer_of header.clusters one.version))

      by : (t : Bool)
          → TablesGrow w (if t then answered w (refused (codes "HandoverOpen" ∷ [])) else handover_begun at w (begin_of header.clusters at domain target (queue_ends header at w) (table_of at))).world
      by true = nothing
      by false = of-record (record_of (table_of at) domain)

-- a cluster completes a handover
pub complete-grow : (header : Header) (lines : ℕ) (w : World) (at : ClusterNo) (domain : Name) → IsReached header lines w → TablesGrow w (complete_step at domain w).world
unfolding complete_step
complete-grow header lines w at domain is = by (handover_to at domain w) refl
  where
    tables : AreTables header w
    tables = is.fair.records.tables

    same : TablesGrow w w
    same one = grows-none (cluster_at one w).table

    completed : (handover : Handover) → IsHandoverFit header w handover → (r : Result (Unit {0}) ReadyError) → TablesGrow w (complete_by handover w r).world
    completed handover f (Ok ready) =
        table-put-grows handover.to (merged (cluster_at handover.to w).table (only_of (cluster_at handover.from w).table handover.domain)) w
        (merge-grows (cluster_at handover.to w).table (only_of (cluster_at handover.from w).table handover.domain) (tables handover.to f.clusters.second)
        (only-table (cluster_at handover.from w).table handover.domain (tables handover.from f.clusters.first)))
    completed handover f (Err (Overtaken version)) = same
    completed handover f (Err BootstrapDue) = same
    completed handover f (Err (NotYet shard done place)) = same

    by : (o : Option Handover) → handover_to at domain w ≡ o → TablesGrow w (complete_open w o).world
    by None e = same
    by (Some handover) e =
        completed handover (all-among (IsHandoverFit header w) w.handovers handover is.handovers.each (find-among (λ other. is_handover_of domain other && same_cluster other.to at) w.handovers handover e)) (ready_in handover w)
