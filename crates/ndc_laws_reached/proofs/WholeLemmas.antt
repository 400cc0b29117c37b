-- Where all that was written has arrived at each member: what is learned there, and who writes.
use Rattle.std.proofs.Common.{◌≡◌, ℕ, ◌<◌, ◌≤◌, Bool, true, false, cond, not, nat_lt, List, [], ◌∷◌, Option, Some, None, Ok, Err, inl, inr, refl, sym, ◌∙◌, subst, ap, arith, true≢false}
use Rattle.std.specs.Prelude.{IsSomeAnd, is_some}
use Rattle.std.specs.List.{filter, flat_map}
use Rattle.ndc_model_cells.specs.declared.message.Message.{Message}
use Rattle.std.proofs.lemmas.Bool.{eq-eqb, eqb-true}
use Rattle.std.proofs.lemmas.Bool.Decides.{nat_tests}
use Rattle.ndc_script_types.specs.WellFormed.{IsCluster}
use Rattle.ndc_script_types.specs.declared.script.Header.{Header}
use Rattle.ndc_model_cells.specs.Cells.{arrived_of, both, is_learned_in, learned_of, put_off_in}
use Rattle.ndc_model_cells.specs.Places.{is_of}
use Rattle.ndc_model_cells.specs.Shards.{shard_of}
use Rattle.ndc_model_cells.specs.Writing.{greatest_version, is_writer, may_write, may_write_by}
use Rattle.ndc_model_cells.proofs.PlaceLemmas.{set_of_workflow}
use Rattle.ndc_command.specs.declared.refusal.Refusal.{Refusal}
use Rattle.ndc_domain.specs.Clusters.{count_of, writer_of}
use Rattle.ndc_domain.specs.Members.{has_member}
use Rattle.ndc_domain.specs.Records.{record_of}
use Rattle.ndc_domain.specs.declared.clusters.ClusterNo.{ClusterNo}
use Rattle.ndc_domain.specs.declared.record.DomainRecord.{DomainRecord}
use Rattle.ndc_domain.proofs.Tables.{found_has}
use Rattle.ndc_domain.proofs.Writers.{rest_of_writer}
use Rattle.ndc_event.specs.declared.batch.Batch.{Batch}
use Rattle.ndc_event.specs.declared.name.Name.{Name}
use Rattle.ndc_model.proofs.ListLemmas.{any-one, filter-none}
use Rattle.ndc_model.specs.Facts.{IsReached}
use Rattle.ndc_model.specs.Fair.{AreMembersKnown, IsOwn, IsRecordInRange, is_named, written_of}
use Rattle.ndc_model.specs.Moves.{all_written}
use Rattle.ndc_model.specs.Queues.{names_cluster}
use Rattle.ndc_model.specs.World.{World, all_clusters, cell_at, home_at, queue_at}
use Rattle.ndc_model.proofs.FairLemmas.{clusters-among}
use Rattle.ndc_model_sets.specs.Learned.{has_key, learned}
use Rattle.ndc_model_sets.specs.Sets.{Has, IsSet}
use Rattle.ndc_model_sets.specs.Sound.{IsSound}
use Rattle.ndc_model_sets.proofs.ArrivalLemmas.{equal_sets}
use Rattle.ndc_model_sets.proofs.BranchLemmas.{among-has, has-among}
use Rattle.ndc_model_sets.proofs.LearnedLemmas.{closed_whole}
use Rattle.ndc_model_sets.proofs.Lists.{Among, all-among, among-filter, filter-among}
use Rattle.ndc_laws_reached.proofs.BootstrapLemmas.{come-itself}
use Rattle.ndc_laws_reached.proofs.ManyLemmas.{among-flat}
use Rattle.ndc_laws_reached.proofs.WrittenLemmas.{arrived-written, cell-is, lives, names-of, own-names}
use Rattle.ndc_laws_reached.proofs.OwnLemmas.{owns, owns_by}
use Rattle.ndc_laws_reached.proofs.TableRound.{OneTable, table_at}
use Rattle.ndc_laws_reached.proofs.CameLemmas.{HasAll, written-message}

-- a list without items
empty-list : {X : Type 0} (xs : List X) → ((x : X) → Among x xs → ⊥) → xs ≡ []
empty-list [] none = refl
empty-list (x ∷ xs) none = absurd (none x (inl refl))

module _ (header : Header) (lines : ℕ) (w : World) (is : IsReached header lines w) (tables : OneTable header w) where
  -- who is named by any record is named by its own
  pub named-own : (cluster : ClusterNo) → IsCluster header cluster → (domain : Name) → is_named header cluster w domain ≡ true → names_cluster cluster (record_of (table_at cluster w) domain) ≡ true
  named-own cluster known domain named =
      let f = any-one (λ other. names_cluster cluster (record_of (table_at other w) domain)) (all_clusters header) named in
      subst (λ (t : List DomainRecord). names_cluster cluster (record_of t domain) ≡ true) (tables f.0 cluster (clusters-among (count_of header.clusters) f.0 f.1) known) f.2

  -- what has arrived of a domain names the cluster
  arrived-named : (cluster : ClusterNo) → IsCluster header cluster → (shard : ℕ) → shard < header.shards → (b : Batch) → Among b (cell_at cluster shard w).arrived → names_cluster cluster (record_of (table_at cluster w) b.domain) ≡ true
  arrived-named cluster known shard below b among =
      named-own cluster known b.domain (all-among (λ x. is_named header cluster w x.domain ≡ true) (cell_at cluster shard w).arrived b (is.fair.members.arrived cluster shard known below) among)

  -- nothing has arrived at a cluster that is not a member
  pub arrived-none : (cluster : ClusterNo) → IsCluster header cluster → (domain workflow : Name) (shard : ℕ) → shard < header.shards → names_cluster cluster (record_of (table_at cluster w) domain) ≡ false
      → arrived_of domain workflow (cell_at cluster shard w) ≡ []
  arrived-none cluster known domain workflow shard below stranger =
      empty-list (arrived_of domain workflow (cell_at cluster shard w))
      (λ b among. let f = filter-among (is_of domain workflow) (cell_at cluster shard w).arrived b among in
      true≢false (sym (subst (λ (d : Name). names_cluster cluster (record_of (table_at cluster w) d) ≡ true) (names-of domain workflow b f.0).0 (arrived-named cluster known shard below b f.1)) ∙ stranger))

  -- a member has learned all that was written
  pub learned-all : (cluster : ClusterNo) → IsCluster header cluster → HasAll header w cluster → (domain workflow : Name) (shard : ℕ) → shard < header.shards → shard_of domain workflow header.shards ≡ shard
      → names_cluster cluster (record_of (table_at cluster w) domain) ≡ true → learned_of domain workflow (cell_at cluster shard w) ≡ written_of header domain workflow w
  learned-all cluster known has domain workflow shard below lives_there named =
      ap learned same ∙ closed_whole (written_of header domain workflow w) sound.set sound.closed
    where
      sound : IsSound (written_of header domain workflow w)
      sound = is.fair.writing.sound domain workflow

      own-set : IsSet (arrived_of domain workflow (cell_at cluster shard w))
      own-set = set_of_workflow domain workflow (cell_at cluster shard w) (cell-is header lines w is shard below cluster known)

      here : written_of header domain workflow w ≡ filter (is_of domain workflow) (all_written header shard w)
      here = ap (λ (s : ℕ). filter (is_of domain workflow) (all_written header s w)) lives_there

      more : (b : Batch) → Has (arrived_of domain workflow (cell_at cluster shard w)) b → Has (written_of header domain workflow w) b
      more b has_b =
          let f = filter-among (is_of domain workflow) (cell_at cluster shard w).arrived b (has-among (arrived_of domain workflow (cell_at cluster shard w)) b has_b) in
          among-has (written_of header domain workflow w) b sound.set.ordered
          (subst (λ (l : List Batch). Among b l) (sym here) (among-filter (is_of domain workflow) (all_written header shard w) b f.0 (arrived-written header lines w is shard below cluster known b f.1)))

      less : (b : Batch) → Has (written_of header domain workflow w) b → Has (arrived_of domain workflow (cell_at cluster shard w)) b
      less b has_b =
          let f = filter-among (is_of domain workflow) (all_written header shard w) b (subst (λ (l : List Batch). Among b l) here (has-among (written_of header domain workflow w) b has_b)) in
          let own : names_cluster cluster (record_of (table_at cluster w) b.domain) ≡ true = subst (λ (d : Name). names_cluster cluster (record_of (table_at cluster w) d) ≡ true) (sym (names-of domain workflow b f.0).0) named in
          among-has (arrived_of domain workflow (cell_at cluster shard w)) b own-set.ordered
          (among-filter (is_of domain workflow) (cell_at cluster shard w).arrived b f.0 (come-itself header lines w is shard below cluster known b f.1 (has shard below b f.1 own)))

      same : arrived_of domain workflow (cell_at cluster shard w) ≡ written_of header domain workflow w
      same = equal_sets (arrived_of domain workflow (cell_at cluster shard w)) (written_of header domain workflow w) own-set sound.set more less

  -- so nothing is put off
  pub put-off-none : (cluster : ClusterNo) → IsCluster header cluster → HasAll header w cluster → (shard : ℕ) → shard < header.shards → put_off_in (cell_at cluster shard w) ≡ []
  put-off-none cluster known has shard below =
      filter-none (λ b. not (is_learned_in (cell_at cluster shard w) b)) (cell_at cluster shard w).arrived (λ b among. ap not (each b among))
    where
      each : (b : Batch) → Among b (cell_at cluster shard w).arrived → is_learned_in (cell_at cluster shard w) b ≡ true
      each b among =
          let written = arrived-written header lines w is shard below cluster known b among in
          let lives_there = lives header lines w is shard below b written in
          let sound = is.fair.writing.sound b.domain b.workflow in
          ap (λ (l : List Batch). has_key (Some b.key) l) (learned-all cluster known has b.domain b.workflow shard below lives_there (arrived-named cluster known shard below b among))
          ∙ ap is_some (among-has (written_of header b.domain b.workflow w) b sound.set.ordered
          (among-filter (is_of b.domain b.workflow) (all_written header (shard_of b.domain b.workflow header.shards) w) b (own-names b) (subst (λ (s : ℕ). Among b (all_written header s w)) (sym lives_there) written)))

  -- who writes to a domain is a member of it
  pub owner-named : (cluster : ClusterNo) → IsCluster header cluster → (domain : Name) → owns header cluster w domain ≡ true → names_cluster cluster (record_of (table_at cluster w) domain) ≡ true
  owner-named cluster known domain owned = by (record_of (table_at cluster w) domain) refl owned
    where
      writes : (one : DomainRecord) → (o : Option ClusterNo) → is_writer cluster o ≡ true → IsSomeAnd o (λ active. has_member one.members active.number ≡ true) → has_member one.members cluster.number ≡ true
      writes one None h member = absurd (true≢false (sym h))
      writes one (Some writer) h member = subst (λ (n : ℕ). has_member one.members n ≡ true) (eqb-true writer.number cluster.number h) member

      by : (o : Option DomainRecord) → record_of (table_at cluster w) domain ≡ o → owns_by cluster header.clusters o ≡ true → names_cluster cluster o ≡ true
      by None e h = absurd (true≢false (sym h))
      by (Some one) e h = writes one (writer_of header.clusters one.version) h (found_has (AreMembersKnown header) (table_at cluster w) domain one (is.fair.members.members cluster known) e).0.active

  -- each domain of which anything was written has a cluster that writes to it
  pub owner-there : (domain workflow : Name) (b : Batch) → Among b (written_of header domain workflow w) → shard_of domain workflow header.shards < header.shards → (owner : ClusterNo) × IsCluster header owner × (owns header owner w domain ≡ true)
  owner-there domain workflow b among below = from (written-message header w (shard_of domain workflow header.shards) b f.1)
    where
      f : (is_of domain workflow b ≡ true) × Among b (all_written header (shard_of domain workflow header.shards) w)
      f = filter-among (is_of domain workflow) (all_written header (shard_of domain workflow header.shards) w) b among

      of-record : (cluster : ClusterNo) → IsCluster header cluster → (one : DomainRecord) → record_of (table_at cluster w) domain ≡ Some one → (o : Option ClusterNo) → writer_of header.clusters one.version ≡ o → is_some o ≡ true
          → (owner : ClusterNo) × IsCluster header owner × (owns header owner w domain ≡ true)
      of-record cluster known one e None at h = absurd (true≢false (sym h))
      of-record cluster known one e (Some owner) at h =
          let there : IsCluster header owner = (rest_of_writer header.clusters one.version owner at).0 in
          let has : record_of (table_at owner w) domain ≡ Some one = subst (λ (t : List DomainRecord). record_of t domain ≡ Some one) (tables cluster owner known there) e in
          (owner, there, ap (owns_by owner header.clusters) has ∙ ap (is_writer owner) at ∙ eq-eqb owner.number owner.number refl)

      from : (cluster : ClusterNo) × IsCluster header cluster × ((sent : Message) × Among sent (queue_at cluster (shard_of domain workflow header.shards) w) × Among b (both sent)) → (owner : ClusterNo) × IsCluster header owner × (owns header owner w domain ≡ true)
      from g =
          let own =
          all-among (IsOwn header g.0 (shard_of domain workflow header.shards) (table_at g.0 w) (cell_at g.0 (shard_of domain workflow header.shards) w)) (flat_map both (queue_at g.0 (shard_of domain workflow header.shards) w)) b
          (is.fair.writers g.0 (shard_of domain workflow header.shards) g.1 below) (among-flat both (queue_at g.0 (shard_of domain workflow header.shards) w) g.2.0 b g.2.1 g.2.2) in
          let r = own.recorded in
          let has : record_of (table_at g.0 w) domain ≡ Some r.found = subst (λ (d : Name). record_of (table_at g.0 w) d ≡ Some r.found) (names-of domain workflow b f.0).0 r.has in
          of-record g.0 g.1 r.found has (writer_of header.clusters r.found.version) refl (found_has (IsRecordInRange header lines) (table_at g.0 w) domain r.found (is.fair.records.ranges g.0 g.1) has).0.writer

  -- who writes to a domain and has learned all that was written may write
  pub owner-may : (cluster : ClusterNo) → IsCluster header cluster → (domain workflow : Name) (shard : ℕ) → shard < header.shards → shard_of domain workflow header.shards ≡ shard → owns header cluster w domain ≡ true
      → learned_of domain workflow (cell_at cluster shard w) ≡ written_of header domain workflow w → (version : ℕ) × (may_write (home_at header cluster w) domain workflow (cell_at cluster shard w) ≡ Ok version)
  unfolding may_write
  owner-may cluster known domain workflow shard below lives_there owned whole = by (record_of (table_at cluster w) domain) refl owned
    where
      -- no version that was written is above that of the record
      most : (one : DomainRecord) → record_of (table_at cluster w) domain ≡ Some one → (b : Batch) → Among b (written_of header domain workflow w) → b.key.version ≤ one.version
      most one e b among = from (written-message header w shard b f.1)
        where
          f : (is_of domain workflow b ≡ true) × Among b (all_written header shard w)
          f = filter-among (is_of domain workflow) (all_written header shard w) b (subst (λ (s : ℕ). Among b (filter (is_of domain workflow) (all_written header s w))) lives_there among)

          from : (c : ClusterNo) × IsCluster header c × ((sent : Message) × Among sent (queue_at c shard w) × Among b (both sent)) → b.key.version ≤ one.version
          from g =
              let own = all-among (IsOwn header g.0 shard (table_at g.0 w) (cell_at g.0 shard w)) (flat_map both (queue_at g.0 shard w)) b (is.fair.writers g.0 shard g.1 below) (among-flat both (queue_at g.0 shard w) g.2.0 b g.2.1 g.2.2) in
              let r = own.recorded in
              let has : record_of (table_at g.0 w) domain ≡ Some r.found = subst (λ (d : Name). record_of (table_at g.0 w) d ≡ Some r.found) (names-of domain workflow b f.0).0 r.has in
              let both_are : Some r.found ≡ Some one = sym has ∙ ap (λ (t : List DomainRecord). record_of t domain) (tables g.0 cluster g.1 known) ∙ e in
              let same : r.found ≡ one = cc in
              subst (λ (x : DomainRecord). b.key.version ≤ x.version) same r.least

      greatest : (bound : ℕ) (bs : List Batch) → ((b : Batch) → Among b bs → b.key.version ≤ bound) → greatest_version bs ≤ bound
      greatest bound [] each = omega arith
      greatest bound (b ∷ bs) each = omega (arith, each b (inl refl), greatest bound bs (λ x among. each x (inr among)))

      of-tests : (version : ℕ) (mine behind : Bool) (one two : Refusal) → mine ≡ true → behind ≡ false → (v : ℕ) × (cond (not mine) (Err one) (cond behind (Err two) (Ok version)) ≡ Ok v)
      of-tests version true false one two h k = (version, refl)
      of-tests version true true one two h k = absurd (true≢false k)
      of-tests version false behind one two h k = absurd (true≢false (sym h))

      by : (o : Option DomainRecord) → record_of (table_at cluster w) domain ≡ o → owns_by cluster header.clusters o ≡ true
          → (version : ℕ) × (may_write_by (home_at header cluster w) o (learned_of domain workflow (cell_at cluster shard w)) ≡ Ok version)
      by None e h = absurd (true≢false (sym h))
      by (Some one) e h =
          of-tests one.version (is_writer cluster (writer_of header.clusters one.version)) (nat_lt one.version (greatest_version (learned_of domain workflow (cell_at cluster shard w)))) _ _ h
          (not-less one.version (greatest_version (learned_of domain workflow (cell_at cluster shard w))) (greatest one.version (learned_of domain workflow (cell_at cluster shard w)) (λ b among. most one e b (subst (λ (l : List Batch). Among b l) whole among))))
        where
          not-less : (a b : ℕ) → b ≤ a → nat_lt a b ≡ false
          not-less a b less = grind (arith, nat_tests)
