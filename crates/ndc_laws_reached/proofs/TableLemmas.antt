-- A table that takes the place of another keeps a world as it should be.
use Rattle.std.proofs.Common.{◌≡◌, ℕ, zero, suc, ◌<◌, ◌≤◌, Bool, true, false, not, ◌||◌, if◌then◌else◌, List, [], ◌∷◌, ◌++◌, length, map, take, slice_index_or, slice_set, Some, inl, inr, refl, sym, ◌∙◌, subst, ap, arith, true≢false}
use Rattle.std.specs.List.{AllByRecursion, IsAmong, flat_map, list_any}
use Rattle.std.specs.Str.{bytes_eq}
use Rattle.ndc_script_types.specs.WellFormed.{AreTwoClusters, IsCluster}
use Rattle.ndc_script_types.specs.declared.script.Header.{Header}
use Rattle.ndc_model_cells.specs.declared.message.Message.{Message}
use Rattle.ndc_model_cells.specs.Cells.{Cell, both, is_message_learned}
use Rattle.ndc_model_cells.specs.Jobs.{cell_for}
use Rattle.ndc_model_cells.specs.Places.{in_order, place_of}
use Rattle.ndc_model_cells.specs.Writing.{same_cluster}
use Rattle.ndc_domain.specs.Laws.{DaysAgree}
use Rattle.ndc_domain.specs.Records.{IsTable, record_of}
use Rattle.ndc_domain.specs.declared.clusters.ClusterNo.{ClusterNo}
use Rattle.ndc_domain.specs.declared.record.DomainRecord.{DomainRecord}
use Rattle.ndc_event.specs.declared.batch.Batch.{Batch}
use Rattle.ndc_event.specs.declared.name.Name.{Name}
use Rattle.ndc_graceful.specs.declared.handover.Handover.{Handover}
use Rattle.ndc_letters.specs.declared.letter.Letter.{Letter}
use Rattle.std.specs.Prelude.{drop}
use Rattle.ndc_model_cells.specs.Places.{is_at}
use Rattle.ndc_model_cells.specs.Shards.{shard_of}
use Rattle.ndc_letters.specs.Letters.{place_of_letter}
use Rattle.ndc_model.specs.Facts.{IsHandoverFit, IsLetterFit, IsReached, is_old, place_in}
use Rattle.ndc_model.specs.Fair.{AreMembersKnown, EachRecord, HasRecordFrom, IsConfigKnown, IsLaneTrue, IsOwn, IsRecordInRange, IsShaped, ends_of, is_named, primary}
use Rattle.ndc_model.specs.Queues.{is_addressed, names_cluster, needs_nothing}
use Rattle.ndc_model.specs.World.{Cluster, Link, World, all_clusters, cell_at, cluster_at, is_late_in, lane_in, new_cluster, newly_naming, queue_at, with_late, with_table}
use Rattle.ndc_model.proofs.ListLemmas.{all-append, all-self, all-set, all-take, all-weaker, map-alike, any-one}
use Rattle.ndc_laws_cells.proofs.Lists.{is-among}
use Rattle.ndc_model.proofs.WorldLemmas.{set-cases}
use Rattle.ndc_model_sets.proofs.ForkLemmas.{among-left, among-right}
use Rattle.std.proofs.lemmas.Bool.Decides.{nat_tests}
use Rattle.ndc_model_sets.proofs.Lists.{Among, all-among, all-from, list_any-one}
use Rattle.ndc_laws_reached.proofs.FrameLemmas.{WroteAlike, arrivals-alike, beats-alike, cells_in, copies-alike, messages-alike, numbers-alike, queues_in, ranges-alike, reports-alike, reports_in, writing-alike}
use Rattle.ndc_laws_reached.proofs.ManyLemmas.{one-cluster}
use Rattle.ndc_laws_reached.specs.Tables.{IsTableFit, TableGrows}
use Rattle.ndc_laws_reached.proofs.GrowLemmas.{grows-none, names-grow, newly-named, newly-there, record-grows}
use Rattle.ndc_laws_reached.proofs.Lists.{length-set}

any-append : {X : Type 0} (p : X → Bool) (xs ys : List X) → list_any p xs ≡ true → list_any p (xs ++ ys) ≡ true
any-append p xs ys h = let f = any-one p xs h in list_any-one p (xs ++ ys) f.0 (among-left f.0 xs ys f.1) f.2

any-behind : {X : Type 0} (p : X → Bool) (xs ys : List X) → list_any p ys ≡ true → list_any p (xs ++ ys) ≡ true
any-behind p xs ys h = let f = any-one p ys h in list_any-one p (xs ++ ys) f.0 (among-right f.0 xs ys f.1) f.2

module _ (header : Header) (lines : ℕ) (cluster : ClusterNo) (table : List DomainRecord) (w : World) (is : IsReached header lines w) (at_known : IsCluster header cluster) (fit : IsTableFit header lines w cluster table) where
  abbrev before : List DomainRecord
  before = (cluster_at cluster w).table

  abbrev v : World
  v = record w {
    clusters = slice_set w.clusters cluster.number (record (cluster_at cluster w) { table = table });
    links = map (with_late cluster (cluster_at cluster w).table table) w.links;
  }

  -- a part of clusters that is not their table
  by-part : {X : Type 0} (part : Cluster → X) → ((c : Cluster) → part (record c { table = table }) ≡ part c) → (other : ClusterNo) → part (cluster_at other v) ≡ part (cluster_at other w)
  by-part part same other =
      set-cases (λ (c : Cluster). part c ≡ part (cluster_at other w)) w.clusters cluster.number other.number _ (new_cluster 0)
      (λ at. same (cluster_at cluster w) ∙ ap (λ (n : ℕ). part (slice_index_or w.clusters n (new_cluster 0))) (sym at)) refl

  cells : cells_in v ≡ cells_in w
  cells = λ i other place. cell_for place (by-part (λ c. c.cells) (λ c. refl) other i)

  reports : reports_in v ≡ reports_in w
  reports = λ i other. by-part (λ c. c.reports) (λ c. refl) other i

  letters-same : (other : ClusterNo) → (cluster_at other v).letters ≡ (cluster_at other w).letters
  letters-same other = by-part (λ c. c.letters) (λ c. refl) other

  queues : queues_in v ≡ queues_in w
  queues = λ i other place. (cells i other place).written

  wrote : WroteAlike header v w
  wrote = record {
    places = λ i s. flat_map (λ c. map place_of (flat_map both (queues i c s))) (all_clusters header);
    batches = λ i s. in_order (flat_map (λ c. flat_map both (queues i c s)) (all_clusters header));
  }

  -- a table of the world: the new one at its cluster, or the one before
  by-table : (P : ClusterNo → List DomainRecord → Type 0) → P cluster table → (other : ClusterNo) → P other (cluster_at other w).table → P other (cluster_at other v).table
  by-table P here other there =
      set-cases (λ (c : Cluster). P other c.table) w.clusters cluster.number other.number _ (new_cluster 0)
      (λ at. subst (λ (n : ℕ). P (record { number = n }) table) (sym at) here) there

  new-table : (cluster_at cluster v).table ≡ table
  new-table = there w.clusters cluster.number (omega (arith, at_known, is.shaped.clusters))
    where
      there : (clusters : List Cluster) (i : ℕ) → i < length clusters → (slice_index_or (slice_set clusters i (record (cluster_at cluster w) { table = table })) i (new_cluster 0)).table ≡ table
      there [] i below = absurd (omega (arith, below))
      there (c ∷ cs) zero below = refl
      there (c ∷ cs) (suc i) below = there cs i (omega (arith, below))

  tables-grow : (other : ClusterNo) → TableGrows (cluster_at other w).table (cluster_at other v).table
  tables-grow = λ other. by-table (λ o t. TableGrows (cluster_at o w).table t) fit.grows other (grows-none (cluster_at other w).table)

  named-grows : (c : ClusterNo) (domain : Name) → is_named header c w domain ≡ true → is_named header c v domain ≡ true
  named-grows c domain h =
      let f = any-one (λ other. names_cluster c (record_of (cluster_at other w).table domain)) (all_clusters header) h in
      list_any-one (λ other. names_cluster c (record_of (cluster_at other v).table domain)) (all_clusters header) f.0 f.1
      (names-grow (cluster_at f.0 w).table (cluster_at f.0 v).table (tables-grow f.0) c domain f.2)

  -- links after the table
  ends-same : (link : Link) → ends_of (with_late cluster before table link) ≡ ends_of link
  ends-same link = by (same_cluster link.source cluster)
    where
      by : (t : Bool) → ends_of (if t then record link { late = link.late ++ newly_naming link.reader before table } else link) ≡ ends_of link
      by true = refl
      by false = refl

  -- a fact on each link
  each-mapped : (P Q : Link → Type 0) → ((link : Link) → Among link w.links → P link → Q (with_late cluster before table link)) → (links : List Link) → ((link : Link) → Among link links → Among link w.links)
      → AllByRecursion P links → AllByRecursion Q (map (with_late cluster before table) links)
  each-mapped P Q change [] within all = tt
  each-mapped P Q change (link ∷ links) within all = (change link (within link (inl refl)) all.0, each-mapped P Q change links (λ other among. within other (inr among)) all.1)

  either-late : (P : Link → Type 0) (link : Link) → ((late : List Name) → P (record link { late = late })) → P (with_late cluster before table link)
  either-late P link each = by (same_cluster link.source cluster)
    where
      by : (t : Bool) → P (if t then record link { late = link.late ++ newly_naming link.reader before table } else link)
      by true = each (link.late ++ newly_naming link.reader before table)
      by false = each link.late

  -- what the source wrote is of a domain that it has a record of
  source-has : (source : ClusterNo) (shard : ℕ) → IsCluster header source → shard < header.shards → (sent : Message) → IsAmong (queue_at source shard w) sent
      → HasRecordFrom sent.batch.key.version sent.batch.domain (cluster_at source w).table
  source-has source shard there below sent among =
      (all-among (IsOwn header source shard (cluster_at source w).table (cell_at source shard w)) (flat_map both (queue_at source shard w)) sent.batch (is.fair.writers source shard there below)
      (among-both (queue_at source shard w) sent (is-among (queue_at source shard w) sent among))).recorded
    where
      among-both : (queue : List Message) (m : Message) → Among m queue → Among m.batch (flat_map both queue)
      among-both [] m none = absurd none
      among-both (x ∷ xs) m (inl same) = inl (ap (λ (y : Message). y.batch) same)
      among-both (x ∷ xs) m (inr there) = among-right m.batch (both x) (flat_map both xs) (among-both xs m there)

  -- an entry that needed nothing, or was late, needs nothing or is late
  entry-still : (link : Link) (shard : ℕ) → IsCluster header link.source → shard < header.shards → (sent : Message) → IsAmong (queue_at link.source shard w) sent
      → (needs_nothing link.reader (cluster_at link.source w).table (cell_at link.reader shard w) sent || is_late_in sent.batch.domain link) ≡ true
      → (needs_nothing link.reader (cluster_at link.source v).table (cell_at link.reader shard w) sent || is_late_in sent.batch.domain (with_late cluster before table link)) ≡ true
  entry-still link shard there below sent among h = by (same_cluster link.source cluster) refl
    where
      quiet : List DomainRecord → Bool
      quiet t = is_message_learned (cell_at link.reader shard w) sent || not (is_addressed link.reader t sent)

      same-table : (other : ClusterNo) → same_cluster other cluster ≡ false → (cluster_at other v).table ≡ (cluster_at other w).table
      same-table other = by-table (λ o t. same_cluster o cluster ≡ false → t ≡ (cluster_at o w).table) (λ e. absurd (true≢false (sym (self cluster) ∙ e))) other (λ e. refl)
        where
          self : (c : ClusterNo) → same_cluster c c ≡ true
          self c = grind (arith, nat_tests)

      -- at the cluster whose table changes
      here : link.source ≡ cluster → (l : Bool) → is_message_learned (cell_at link.reader shard w) sent ≡ l → (a b : Bool) → is_addressed link.reader (cluster_at link.source w).table sent ≡ a → is_addressed link.reader (cluster_at link.source v).table sent ≡ b
          → ((l || not a) || is_late_in sent.batch.domain link) ≡ true → ((l || not b) || list_any (λ late. bytes_eq late sent.batch.domain) (link.late ++ newly_naming link.reader before table)) ≡ true
      here same true e a b f g h = refl
      here same false e a false f g h = refl
      here same false e true true f g h = any-append (λ late. bytes_eq late sent.batch.domain) link.late (newly_naming link.reader before table) h
      here same false e false true f g h =
          let has = source-has link.source shard there below sent among in
          let found : record_of before sent.batch.domain ≡ Some has.found = subst (λ (c : ClusterNo). record_of (cluster_at c w).table sent.batch.domain ≡ Some has.found) same has.has in
          let without : names_cluster link.reader (record_of before sent.batch.domain) ≡ false = subst (λ (c : ClusterNo). names_cluster link.reader (record_of (cluster_at c w).table sent.batch.domain) ≡ false) same f in
          let now : names_cluster link.reader (record_of table sent.batch.domain) ≡ true =
          ap (λ (t : List DomainRecord). names_cluster link.reader (record_of t sent.batch.domain)) (sym (ap (λ (c : ClusterNo). (cluster_at c v).table) same ∙ new-table)) ∙ g in
          any-behind (λ late. bytes_eq late sent.batch.domain) link.late (newly_naming link.reader before table) (newly-there link.reader before table sent.batch.domain has.found found without now)

      by : (t : Bool) → same_cluster link.source cluster ≡ t
          → (needs_nothing link.reader (cluster_at link.source v).table (cell_at link.reader shard w) sent || is_late_in sent.batch.domain (if t then record link { late = link.late ++ newly_naming link.reader before table } else link)) ≡ true
      by true e =
          here (one-cluster link.source cluster e) (is_message_learned (cell_at link.reader shard w) sent) refl (is_addressed link.reader (cluster_at link.source w).table sent) (is_addressed link.reader (cluster_at link.source v).table sent) refl refl h
      by false e = subst (λ (t : List DomainRecord). (quiet t || is_late_in sent.batch.domain link) ≡ true) (sym (same-table link.source e)) h

  source-known : (link : Link) → Among link w.links → IsCluster header link.source
  source-known link among = (all-among (λ l. AreTwoClusters header l.reader l.source) w.links link is.shaped.ends among).second

  -- a lane is true after the table
  lane-true : (link : Link) → Among link w.links → (shard : ℕ) → shard < header.shards → IsLaneTrue w link shard (lane_in link shard)
      → IsLaneTrue v (with_late cluster before table link) shard (lane_in (with_late cluster before table link) shard)
  lane-true link among shard below t = by (same_cluster link.source cluster) all_done
    where
      all_done : AllByRecursion (λ sent. (needs_nothing link.reader (cluster_at link.source v).table (cell_at link.reader shard w) sent || is_late_in sent.batch.domain (with_late cluster before table link)) ≡ true)
          (take (lane_in link shard).levels.done (queue_at link.source shard w))
      all_done = all-from _ (take (lane_in link shard).levels.done (queue_at link.source shard w))
          (λ sent there. entry-still link shard (source-known link among) below sent
          (all-among (IsAmong (queue_at link.source shard w)) (take (lane_in link shard).levels.done (queue_at link.source shard w)) sent
          (all-take (IsAmong (queue_at link.source shard w)) (lane_in link shard).levels.done (queue_at link.source shard w) (all-self (queue_at link.source shard w))) there)
          (all-among (λ m. (needs_nothing link.reader (cluster_at link.source w).table (cell_at link.reader shard w) m || is_late_in m.batch.domain link) ≡ true)
          (take (lane_in link shard).levels.done (queue_at link.source shard w)) sent t.done there))

      of-late : (late : List Name)
          → AllByRecursion (λ sent. (needs_nothing link.reader (cluster_at link.source v).table (cell_at link.reader shard w) sent || list_any (λ one. bytes_eq one sent.batch.domain) late) ≡ true) (take (lane_in link shard).levels.done (queue_at link.source shard w))
          → IsLaneTrue v (record link { late = late }) shard (lane_in link shard)
      of-late late d = record {
        trimmed_most = t.trimmed_most;
        levels = record {
          done_most = t.levels.done_most;
          read_most = subst (λ (f : ClusterNo → ℕ → Cell). (lane_in link shard).levels.read ≤ length (f link.source shard).written) (sym cells) t.levels.read_most;
        };
        done = subst (λ (f : ClusterNo → ℕ → Cell). AllByRecursion (λ sent. (needs_nothing link.reader (cluster_at link.source v).table (f link.reader shard) sent || list_any (λ one. bytes_eq one sent.batch.domain) late) ≡ true)
            (take (lane_in link shard).levels.done (f link.source shard).written)) (sym cells) d;
        flight = subst (λ (f : ClusterNo → ℕ → Cell). AllByRecursion (IsAmong (f link.source shard).written) (lane_in link shard).flight) (sym cells) t.flight;
      }

      by : (b : Bool)
          → AllByRecursion (λ sent. (needs_nothing link.reader (cluster_at link.source v).table (cell_at link.reader shard w) sent || is_late_in sent.batch.domain (if b then record link { late = link.late ++ newly_naming link.reader before table } else link)) ≡ true)
          (take (lane_in link shard).levels.done (queue_at link.source shard w))
          → IsLaneTrue v (if b then record link { late = link.late ++ newly_naming link.reader before table } else link) shard (lane_in (if b then record link { late = link.late ++ newly_naming link.reader before table } else link) shard)
      by true d = of-late (link.late ++ newly_naming link.reader before table) d
      by false d = of-late link.late d

  -- what is late names the reader
  late-true : (link : Link) → AllByRecursion (λ domain. names_cluster link.reader (record_of (cluster_at link.source w).table domain) ≡ true) link.late
      → AllByRecursion (λ domain. names_cluster (with_late cluster before table link).reader (record_of (cluster_at (with_late cluster before table link).source v).table domain) ≡ true) (with_late cluster before table link).late
  late-true link old = by (same_cluster link.source cluster) refl
    where
      grown : AllByRecursion (λ domain. names_cluster link.reader (record_of (cluster_at link.source v).table domain) ≡ true) link.late
      grown = all-weaker (λ domain. names_cluster link.reader (record_of (cluster_at link.source w).table domain) ≡ true) (λ domain. names_cluster link.reader (record_of (cluster_at link.source v).table domain) ≡ true)
          (λ domain h. names-grow (cluster_at link.source w).table (cluster_at link.source v).table (tables-grow link.source) link.reader domain h) link.late old

      fresh : link.source ≡ cluster → AllByRecursion (λ domain. names_cluster link.reader (record_of (cluster_at link.source v).table domain) ≡ true) (newly_naming link.reader before table)
      fresh same =
          subst (λ (t : List DomainRecord). AllByRecursion (λ domain. names_cluster link.reader (record_of t domain) ≡ true) (newly_naming link.reader before table))
          (sym (ap (λ (c : ClusterNo). (cluster_at c v).table) same ∙ new-table)) (newly-named link.reader before table)

      by : (b : Bool) → same_cluster link.source cluster ≡ b
          → AllByRecursion (λ domain. names_cluster (if b then record link { late = link.late ++ newly_naming link.reader before table } else link).reader
          (record_of (cluster_at (if b then record link { late = link.late ++ newly_naming link.reader before table } else link).source v).table domain) ≡ true) (if b then record link { late = link.late ++ newly_naming link.reader before table } else link).late
      by true e = all-append (λ domain. names_cluster link.reader (record_of (cluster_at link.source v).table domain) ≡ true) link.late (newly_naming link.reader before table) grown (fresh (one-cluster link.source cluster e))
      by false e = grown

  many-cells : (clusters : List Cluster) (i : ℕ) → AllByRecursion (λ c. length c.cells ≡ header.shards) clusters → i < length clusters → length (slice_index_or clusters i (new_cluster 0)).cells ≡ header.shards
  many-cells [] i all less = absurd (omega (arith, less))
  many-cells (c ∷ cs) zero all less = all.0
  many-cells (c ∷ cs) (suc i) all less = many-cells cs i all.1 (omega (arith, less))

  shaped : IsShaped header v
  shaped = record {
    clusters = length-set w.clusters cluster.number _ ∙ is.shaped.clusters;
    cells = all-set (λ c. length c.cells ≡ header.shards) w.clusters cluster.number _ (many-cells w.clusters cluster.number is.shaped.cells (omega (arith, at_known, is.shaped.clusters))) is.shaped.cells;
    links = map-alike ends_of (with_late cluster before table) w.links ends-same ∙ is.shaped.links;
    ends = each-mapped (λ link. AreTwoClusters header link.reader link.source) (λ link. AreTwoClusters header link.reader link.source)
        (λ link among two. either-late (λ l. AreTwoClusters header l.reader l.source) link (λ late. two)) w.links (λ link among. among) is.shaped.ends;
    lanes = each-mapped (λ link. length link.lanes ≡ header.shards) (λ link. length link.lanes ≡ header.shards)
        (λ link among many. either-late (λ l. length l.lanes ≡ header.shards) link (λ late. many)) w.links (λ link among. among) is.shaped.lanes;
    sources = is.shaped.sources;
    trimmed = is.shaped.trimmed;
  }

  -- days agree between any two tables
  days-agree : (one two : ClusterNo) → IsCluster header one → IsCluster header two → DaysAgree (cluster_at one v).table (cluster_at two v).table
  days-agree one two first second =
      by-table (λ o t. IsCluster header o → DaysAgree t (cluster_at two v).table)
      (λ known. by-table (λ o t. IsCluster header o → DaysAgree table t) (λ same. itself) two (λ there. fit.days two there) second) one
      (λ known. by-table (λ o t. IsCluster header o → DaysAgree (cluster_at one w).table t) (λ same. flip table (cluster_at one w).table (fit.days one known)) two (λ there. is.fair.records.days one two known there) second) first
    where
      itself : DaysAgree table table
      itself name ours theirs e f c = let same : ours ≡ theirs = (let both_are : Some ours ≡ Some theirs = sym e ∙ f in cc) in ap (λ (r : DomainRecord). r.days) same

      flip : (a b : List DomainRecord) → DaysAgree a b → DaysAgree b a
      flip a b agree name ours theirs e f c = sym (agree name theirs ours f e (sym c))

  -- an open handover fits still
  handover-fit : (handover : Handover) → IsHandoverFit header w handover → IsHandoverFit header v handover
  handover-fit handover h = record {
    clusters = h.clusters;
    writer = h.writer;
    later = h.later;
    given = record-grows (cluster_at handover.from w).table (cluster_at handover.from v).table (tables-grow handover.from) handover.new handover.domain h.given;
    names = names-grow (cluster_at handover.from w).table (cluster_at handover.from v).table (tables-grow handover.from) handover.to handover.domain h.names;
    places = h.places;
    place_most = subst (λ (q : ClusterNo → ℕ → List Message). (shard : ℕ) → shard < header.shards → place_in handover shard ≤ length (q handover.from shard)) (sym queues) h.place_most;
    behind = subst (λ (q : ClusterNo → ℕ → List Message). (shard : ℕ) → shard < header.shards → AllByRecursion (λ sent. not (is_old handover sent) ≡ true) (drop (place_in handover shard) (q handover.from shard))) (sym queues) h.behind;
  }

  letter-fit : (c : ClusterNo) (letter : Letter) → IsLetterFit header w c letter → IsLetterFit header v c letter
  letter-fit c letter h = record {
    clusters = h.clusters;
    sent = subst (λ (q : ClusterNo → ℕ → List Message). list_any (λ sent. is_at (place_of_letter letter) sent.batch) (q letter.source (shard_of letter.domain letter.workflow header.shards)) ≡ true) (sym queues) h.sent;
    named = named-grows c letter.domain h.named;
  }

  own-still : (o : ClusterNo) (shard : ℕ) (bs : List Batch) → AllByRecursion (IsOwn header o shard (cluster_at o w).table (cell_at o shard w)) bs → AllByRecursion (IsOwn header o shard (cluster_at o v).table (cell_at o shard w)) bs
  own-still o shard bs all = all-weaker _ _ (λ b own. record {
    lives = own.lives;
    version = own.version;
    learned = own.learned;
    recorded = record-grows (cluster_at o w).table (cluster_at o v).table (tables-grow o) b.key.version b.domain own.recorded;
  }) bs all

  pub put-reached : EachRecord header v (IsConfigKnown (cluster_at primary v).table) → IsReached header lines v
  put-reached config_known = record {
    shaped = shaped;
    fair = record {
      writing = writing-alike header v w wrote is.fair.writing;
      copies = copies-alike header v w wrote.batches is.fair.copies;
      writers = subst (λ (f : ClusterNo → ℕ → Cell). (o : ClusterNo) (shard : ℕ) → IsCluster header o → shard < header.shards → AllByRecursion (IsOwn header o shard (cluster_at o v).table (f o shard)) (flat_map both (f o shard).written)) (sym cells)
          (λ o shard there below. own-still o shard (flat_map both (queue_at o shard w)) (is.fair.writers o shard there below));
      arrivals = arrivals-alike header v w cells wrote.batches is.fair.arrivals;
      messages = messages-alike header v w cells wrote.batches is.fair.messages;
      lanes = each-mapped (λ link. (shard : ℕ) → shard < header.shards → IsLaneTrue w link shard (lane_in link shard)) (λ link. (shard : ℕ) → shard < header.shards → IsLaneTrue v link shard (lane_in link shard))
          (λ link among t shard below. lane-true link among shard below (t shard below)) w.links (λ link among. among) is.fair.lanes;
      records = record {
        tables = λ o there. by-table (λ c t. IsTable t) fit.is_table o (is.fair.records.tables o there);
        ranges = λ o there. by-table (λ c t. AllByRecursion (IsRecordInRange header lines) t) fit.ranges o (is.fair.records.ranges o there);
        known = config_known;
        days = days-agree;
      };
      numbers = numbers-alike header v w lines wrote.batches is.fair.numbers;
      members = record {
        members = λ o there. by-table (λ c t. AllByRecursion (AreMembersKnown header) t) fit.members o (is.fair.members.members o there);
        arrived = subst (λ (f : ClusterNo → ℕ → Cell). (o : ClusterNo) (shard : ℕ) → IsCluster header o → shard < header.shards → AllByRecursion (λ b. is_named header o v b.domain ≡ true) (f o shard).arrived) (sym cells)
            (λ o shard there below. all-weaker _ _ (λ b h. named-grows o b.domain h) (cell_at o shard w).arrived (is.fair.members.arrived o shard there below));
        flight = each-mapped (λ link. (shard : ℕ) → shard < header.shards → AllByRecursion (λ sent. is_named header link.reader w sent.batch.domain ≡ true) (lane_in link shard).flight)
            (λ link. (shard : ℕ) → shard < header.shards → AllByRecursion (λ sent. is_named header link.reader v sent.batch.domain ≡ true) (lane_in link shard).flight)
            (λ link among h. either-late (λ l. (shard : ℕ) → shard < header.shards → AllByRecursion (λ sent. is_named header l.reader v sent.batch.domain ≡ true) (lane_in l shard).flight) link
            (λ late shard below. all-weaker _ _ (λ sent n. named-grows link.reader sent.batch.domain n) (lane_in link shard).flight (h shard below))) w.links (λ link among. among) is.fair.members.flight;
        late = each-mapped (λ link. AllByRecursion (λ domain. names_cluster link.reader (record_of (cluster_at link.source w).table domain) ≡ true) link.late)
            (λ link. AllByRecursion (λ domain. names_cluster link.reader (record_of (cluster_at link.source v).table domain) ≡ true) link.late)
            (λ link among h. late-true link h) w.links (λ link among. among) is.fair.members.late;
      };
    };
    ranges = ranges-alike header v w wrote.batches is.ranges;
    handovers = record { one_each = is.handovers.one_each; each = all-weaker (IsHandoverFit header w) (IsHandoverFit header v) handover-fit w.handovers is.handovers.each };
    letters = λ c there. subst (AllByRecursion (IsLetterFit header v c)) (sym (letters-same c)) (all-weaker (IsLetterFit header w c) (IsLetterFit header v c) (letter-fit c) (cluster_at c w).letters (is.letters c there));
    beats = beats-alike header v w lines reports is.beats;
    reports = reports-alike header v w reports is.reports;
  }

-- a table that fits may take the place of a cluster's
pub table_put : (header : Header) (lines : ℕ) (cluster : ClusterNo) (table : List DomainRecord) (w : World) → IsReached header lines w → IsCluster header cluster → IsTableFit header lines w cluster table
    → IsReached header lines (with_table cluster table w)
unfolding with_table
table_put header lines cluster table w is known fit = put-reached header lines cluster table w is known fit fit.known
