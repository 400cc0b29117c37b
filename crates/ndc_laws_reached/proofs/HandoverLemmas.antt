-- Handovers begin and end, and worlds stay as they should be.
use Rattle.std.proofs.Common.{◌≡◌, ◌≢◌, ℕ, ◌<◌, ◌≤◌, ◌^◌, zero, suc, Bool, true, false, not, ◌&&◌, cond, if◌then◌else◌, List, [], ◌∷◌, ◌++◌, length, slice_index_or, slice_set, Option, Some, None, Result, Ok, Err, inl, inr, refl, sym, ◌∙◌, subst, ap, arith, true≢false}
use Rattle.std.specs.Prelude.{AllPairs, codes, drop, find, is_some}
use Rattle.std.specs.List.{AllByRecursion, filter}
use Rattle.std.proofs.Math.Seq.{drop-length}
use Rattle.std.proofs.lemmas.Bool.{cases_eq, eqb-true}
use Rattle.std.proofs.lemmas.List.{get_or-set_same}
use Rattle.std.proofs.lemmas.List.FromFn.{get_or-map-range_with_len, length-map-range_with_len}
use Rattle.std.proofs.lemmas.List.Quantifiers.{all_pairs_push}
use Rattle.std.proofs.lemmas.List.Kept.{AllPairs-filter}
use Rattle.std.proofs.lemmas.Slice.Eq.{bytes_eq-Decides}
use Rattle.ndc_script_types.specs.WellFormed.{AreTwoClusters}
use Rattle.ndc_script_types.specs.declared.script.Header.{Header}
use Rattle.ndc_model_cells.specs.Jobs.{cell_for}
use Rattle.ndc_model_cells.specs.declared.message.Message.{Message}
use Rattle.ndc_model_cells.specs.Writing.{is_writer, same_cluster}
use Rattle.ndc_domain.specs.Clusters.{AreClusters, count_of, writer_of}
use Rattle.ndc_domain.specs.Members.{has_member}
use Rattle.ndc_domain.specs.Next.{next_of}
use Rattle.ndc_domain.specs.Records.{IsRecord, failover_of, failover_version_of, put_record, record_of}
use Rattle.ndc_domain.specs.declared.clusters.ClusterNo.{ClusterNo}
use Rattle.ndc_domain.specs.declared.record.DomainRecord.{DomainRecord}
use Rattle.ndc_domain.specs.declared.record.FailoverError.{FailoverError}
use Rattle.ndc_domain.proofs.CallLaws.{failover_finds, failover_version_tells, record_of-put}
use Rattle.ndc_domain.proofs.Least.{next_is}
use Rattle.ndc_domain.proofs.Tables.{found_has}
use Rattle.ndc_event.specs.declared.name.Name.{Name}
use Rattle.ndc_graceful.specs.Begin.{begin_of, begun_by, begun_from, handover_of}
use Rattle.ndc_graceful.specs.declared.handover.BeginError.TheVariants.{NotActive}
use Rattle.ndc_graceful.specs.declared.handover.Handover.{Handover}
use Rattle.ndc_graceful.specs.declared.handover.ReadyError.{ReadyError}
use Rattle.ndc_graceful.specs.declared.handover.ReadyError.TheVariants.{BootstrapDue, NotYet, Overtaken}
use Rattle.ndc_laws_reached.proofs.FrameLemmas.{fair-alike, letters-alike, reports-alike}
use Rattle.ndc_laws_reached.proofs.DomainLineLemmas.{failover_kept}
use Rattle.ndc_laws_reached.proofs.MergeLemmas.{merged_kept, only-offered, table-offered}
use Rattle.ndc_model.specs.Facts.{IsHandoverFit, IsReached, is_old, place_in}
use Rattle.ndc_model.specs.Handovers.{complete_by, complete_open, complete_step, handover_begun, handover_step, handover_to, is_handover_of, open_handover, queue_ends, ready_in, with_handover, without_handover}
use Rattle.ndc_model.specs.Queues.{names_cluster}
use Rattle.ndc_model.specs.Steps.{answered}
use Rattle.ndc_model.specs.Texts.{refused}
use Rattle.ndc_model.specs.Tables.{failover_words, table_step}
use Rattle.ndc_model.specs.World.{Cluster, World, cluster_at, new_cluster, queue_at, with_table}
use Rattle.ndc_model.proofs.ListLemmas.{all-append, all-filter, all-weaker}
use Rattle.ndc_model.proofs.WorldLemmas.{set-cases}
use Rattle.ndc_model_sets.proofs.Lists.{all-among, find-among}

-- a handover that fits a world fits it with other ones open
fit-beside : (header : Header) (w : World) (handovers : List Handover) (handover : Handover) → IsHandoverFit header w handover → IsHandoverFit header (record w { handovers = handovers }) handover
fit-beside header w handovers handover f = record {
  clusters = f.clusters;
  writer = f.writer;
  later = f.later;
  given = f.given;
  names = f.names;
  places = f.places;
  place_most = f.place_most;
  behind = f.behind;
}

-- other handovers may be open
handovers-put : (header : Header) (lines : ℕ) (w : World) (handovers : List Handover) → AllPairs (λ one two. one.domain ≢ two.domain) handovers → AllByRecursion (IsHandoverFit header w) handovers
    → IsReached header lines w → IsReached header lines (record w { handovers = handovers })
handovers-put header lines w handovers one_each each is = record {
  shaped = record {
    clusters = is.shaped.clusters;
    cells = is.shaped.cells;
    links = is.shaped.links;
    ends = is.shaped.ends;
    lanes = is.shaped.lanes;
    sources = is.shaped.sources;
    trimmed = is.shaped.trimmed;
  };
  fair = fair-alike header v w lines refl refl refl refl is.fair;
  ranges = is.ranges;
  handovers = record { one_each = one_each; each = all-weaker (IsHandoverFit header w) (IsHandoverFit header v) (fit-beside header w handovers) handovers each };
  letters = letters-alike header v w refl refl refl is.letters;
  beats = is.beats;
  reports = reports-alike header v w refl is.reports;
}
  where
    v : World
    v = record w { handovers = handovers }

-- the handover of a domain may end
pub ended_kept : (header : Header) (lines : ℕ) (domain : Name) (w : World) → IsReached header lines w → IsReached header lines (without_handover domain w)
ended_kept header lines domain w is =
    handovers-put header lines w (filter (λ handover. not (is_handover_of domain handover)) w.handovers)
    (AllPairs-filter (λ one two. one.domain ≢ two.domain) (λ handover. not (is_handover_of domain handover)) w.handovers is.handovers.one_each)
    (all-filter (IsHandoverFit header w) (λ handover. not (is_handover_of domain handover)) w.handovers is.handovers.each) is

-- a cluster may complete a handover to it
pub complete_kept : (header : Header) (lines : ℕ) (at : ClusterNo) (domain : Name) (w : World) → IsReached header lines w → IsReached header lines (complete_step at domain w).world
unfolding complete_step
complete_kept header lines at domain w is = by (handover_to at domain w) refl
  where
    completed : (handover : Handover) → IsHandoverFit header w handover → (r : Result (Unit {0}) ReadyError) → IsReached header lines (complete_by handover w r).world
    completed handover f (Ok ready) =
        ended_kept header lines handover.domain _
        (merged_kept header lines handover.to _ w f.clusters.second (only-offered header lines w (cluster_at handover.from w).table handover.domain (table-offered header lines w handover.from is f.clusters.first)) is)
    completed handover f (Err (Overtaken version)) = ended_kept header lines handover.domain w is
    completed handover f (Err BootstrapDue) = is
    completed handover f (Err (NotYet shard done place)) = is

    by : (o : Option Handover) → handover_to at domain w ≡ o → IsReached header lines (complete_open w o).world
    by None e = is
    by (Some handover) e =
        completed handover (all-among (IsHandoverFit header w) w.handovers handover is.handovers.each (find-among (λ other. is_handover_of domain other && same_cluster other.to at) w.handovers handover e)) (ready_in handover w)

-- where nothing is found, the first item fails the test, and nothing is found after it
first-fails : (t : Bool) (first : Handover) (rest : Option Handover) → cond t (Some first) rest ≡ None → (t ≡ false) × (rest ≡ None)
first-fails true first rest e = absurd (cc)
first-fails false first rest e = (refl, e)

-- where nothing is found, each item fails the test
none-there : (p : Handover → Bool) (handovers : List Handover) (i : ℕ) (d : Handover) → i < length handovers → find p handovers ≡ None → p (slice_index_or handovers i d) ≡ false
none-there p [] i d below none = absurd (omega (arith, below))
none-there p (first ∷ handovers) zero d below none = (first-fails (p first) first (find p handovers) none).0
none-there p (first ∷ handovers) (suc i) d below none = none-there p handovers i d (omega (arith, below)) ((first-fails (p first) first (find p handovers) none).1)

-- one handover more is of another domain than those that are open
pairs-behind : (new : Handover) (handovers : List Handover) → find (is_handover_of new.domain) handovers ≡ None → AllPairs (λ one two. one.domain ≢ two.domain) handovers
    → AllPairs (λ one two. one.domain ≢ two.domain) (handovers ++ new ∷ [])
pairs-behind new handovers none pairs =
    all_pairs_push (λ one two. one.domain ≢ two.domain) handovers new pairs
    (λ i d below same. true≢false (sym ((bytes_eq-Decides (slice_index_or handovers i d).domain new.domain).1 same) ∙ none-there (is_handover_of new.domain) handovers i d below none))

-- the writer of a version is a cluster of this number
pub writer-is : (at : ClusterNo) (o : Option ClusterNo) → is_writer at o ≡ true → o ≡ Some at
writer-is at None h = absurd (true≢false (sym h))
writer-is at (Some writer) h = let same : writer.number ≡ at.number = eqb-true writer.number at.number h in λ i. Some (record { number = same i })

-- a world in which a domain failed over
module _ (header : Header) (lines : ℕ) (at target : ClusterNo) (domain : Name) (w : World) (lawful : AreClusters header.clusters) (two : AreTwoClusters header at target) (is : IsReached header lines w) (one : DomainRecord) (answer : ℕ × List DomainRecord) (found : record_of (cluster_at at w).table domain ≡ Some one) (mine : is_writer at (writer_of header.clusters one.version) ≡ true) (failed : failover_of header.clusters domain target (cluster_at at w).table ≡ Ok answer) where
  abbrev new : Handover
  new = handover_of domain at target one.version answer.0 (queue_ends header at w)

  abbrev v : World
  v = with_table at answer.1 w

  v-reached : IsReached header lines v
  v-reached = subst (λ (r : Result (ℕ × List DomainRecord) FailoverError). IsReached header lines (table_step failover_words at w r).world) failed (failover_kept header lines at target domain w lawful two.first is)

  told : (old : DomainRecord) × (record_of (cluster_at at w).table domain ≡ Some old) × (failover_version_of header.clusters target old ≡ Ok answer.0) × (answer.1 ≡ put_record (record old { version = answer.0 }) (cluster_at at w).table)
  told = failover_finds header.clusters target (cluster_at at w).table (record_of (cluster_at at w).table domain) answer failed

  same : told.0 ≡ one
  same = let e : Some told.0 ≡ Some one = sym told.1 ∙ found in cc

  facts : (target.number < count_of header.clusters) × (next_of header.clusters one.version target ≡ answer.0) × (answer.0 ≤ 10 ^ 13) × (has_member one.members target.number ≡ true)
  facts = failover_version_tells header.clusters target one answer.0 (subst (λ (r : DomainRecord). failover_version_of header.clusters target r ≡ Ok answer.0) same told.2)

  after : answer.1 ≡ put_record (record one { version = answer.0 }) (cluster_at at w).table
  after = subst (λ (r : DomainRecord). answer.1 ≡ put_record (record r { version = answer.0 }) (cluster_at at w).table) same told.3

  named : one.name ≡ domain
  named = (found_has IsRecord (cluster_at at w).table domain one (is.fair.records.tables at two.first).sound found).1

  found-after : record_of answer.1 domain ≡ Some (record one { version = answer.0 })
  found-after =
      ap (λ (t : List DomainRecord). record_of t domain) after
      ∙ record_of-put (record one { version = answer.0 }) (cluster_at at w).table domain
      ∙ ap (λ (t : Bool). cond t (Some (record one { version = answer.0 })) (record_of (cluster_at at w).table domain)) ((bytes_eq-Decides one.name domain).1 named)

  table-after : record_of (cluster_at at v).table domain ≡ Some (record one { version = answer.0 })
  unfolding with_table
  table-after =
      let put : Cluster = record (cluster_at at w) { table = answer.1 } in
      let there : slice_index_or (slice_set w.clusters at.number put) at.number (new_cluster 0) ≡ put = get_or-set_same w.clusters at.number put (new_cluster 0) (omega (arith, two.first, is.shaped.clusters)) in
      ap (λ (c : Cluster). record_of c.table domain) there ∙ found-after

  queue-same : (shard : ℕ) → queue_at at shard v ≡ queue_at at shard w
  unfolding with_table
  queue-same shard = set-cases (λ (c : Cluster). (cell_for shard c.cells).written ≡ queue_at at shard w) w.clusters at.number at.number _ (new_cluster 0) (λ e. refl) refl

  place-same : (shard : ℕ) → shard < header.shards → place_in new shard ≡ length (queue_at at shard v)
  place-same shard below = get_or-map-range_with_len (λ shard. length (queue_at at shard w)) 0 header.shards shard shard 0 below (omega arith) ∙ ap (λ (q : List Message). length q) (sym (queue-same shard))

  later-version : one.version < answer.0
  later-version =
      let next = next_is header.clusters one.version target lawful facts.0 in
      let least : one.version ≤ answer.0 = subst (λ (n : ℕ). one.version ≤ n) facts.1 next.0 in
      let writer : writer_of header.clusters answer.0 ≡ Some target = subst (λ (n : ℕ). writer_of header.clusters n ≡ Some target) facts.1 next.1 in
      elim (cases_eq one.version answer.0) as (λ _. one.version < answer.0) [
        | inl e ↦
            let both : Some at ≡ Some target = sym (writer-is at (writer_of header.clusters one.version) mine) ∙ ap (writer_of header.clusters) e ∙ writer in
            let alike : at ≡ target = cc in
            absurd (two.differ (ap (λ (c : ClusterNo). c.number) alike))
        | inr ne ↦ omega (arith, least, ne)
      ]

  new-fits : IsHandoverFit header v new
  new-fits = record {
    clusters = record { first = two.first; second = two.second; differ = two.differ };
    writer = writer-is at (writer_of header.clusters one.version) mine;
    later = later-version;
    given = record { found = record one { version = answer.0 }; has = table-after; least = omega arith };
    names = ap (names_cluster target) table-after ∙ facts.3;
    places = length-map-range_with_len (λ shard. length (queue_at at shard w)) 0 header.shards;
    place_most = λ shard below. omega (arith, place-same shard below);
    behind = λ shard below. subst (λ (q : List Message). AllByRecursion (λ sent. not (is_old new sent) ≡ true) q)
        (sym (ap (λ (n : ℕ). drop n (queue_at at shard v)) (place-same shard below) ∙ drop-length (queue_at at shard v))) tt;
  }

  pub begun-kept : open_handover domain w ≡ None → IsReached header lines (with_handover new v)
  unfolding with_table
  begun-kept none =
      handovers-put header lines v (v.handovers ++ new ∷ []) (pairs-behind new v.handovers none v-reached.handovers.one_each)
      (all-append (IsHandoverFit header v) v.handovers (new ∷ []) v-reached.handovers.each (new-fits, tt)) v-reached

-- a handover may begin
pub handover_kept : (header : Header) (lines : ℕ) (at target : ClusterNo) (domain : Name) (w : World) → AreClusters header.clusters → AreTwoClusters header at target → IsReached header lines w
    → IsReached header lines (handover_step header at domain target w).world
unfolding handover_step begin_of
handover_kept header lines at target domain w lawful two is = by (open_handover domain w) refl
  where
    failed : open_handover domain w ≡ None → (one : DomainRecord) → record_of (cluster_at at w).table domain ≡ Some one → is_writer at (writer_of header.clusters one.version) ≡ true
        → (r : Result (ℕ × List DomainRecord) FailoverError) → failover_of header.clusters domain target (cluster_at at w).table ≡ r
        → IsReached header lines (handover_begun at w (begun_by at domain target (queue_ends header at w) one.version r)).world
    failed none one found mine (Err error) e = is
    failed none one found mine (Ok answer) e = begun-kept header lines at target domain w lawful two is one answer found mine e none

    active : open_handover domain w ≡ None → (one : DomainRecord) → record_of (cluster_at at w).table domain ≡ Some one → (t : Bool) → is_writer at (writer_of header.clusters one.version) ≡ t
        → IsReached header lines (handover_begun at w (if not t then Err (NotActive one.version) else begun_by at domain target (queue_ends header at w) one.version (failover_of header.clusters domain target (cluster_at at w).table))).world
    active none one found true mine = failed none one found mine (failover_of header.clusters domain target (cluster_at at w).table) refl
    active none one found false mine = is

    of-record : open_handover domain w ≡ None → (o : Option DomainRecord) → record_of (cluster_at at w).table domain ≡ o
        → IsReached header lines (handover_begun at w (begun_from header.clusters at domain target (queue_ends header at w) (cluster_at at w).table o)).world
    of-record none None found = is
    of-record none (Some one) found = active none one found (is_writer at (writer_of header.clusters one.version)) refl

    by : (o : Option Handover) → open_handover domain w ≡ o
        → IsReached header lines (if is_some o then answered w (refused (codes "HandoverOpen" ∷ [])) else handover_begun at w (begin_of header.clusters at domain target (queue_ends header at w) (cluster_at at w).table)).world
    by (Some handover) e = is
    by None e = of-record e (record_of (cluster_at at w).table domain) refl
