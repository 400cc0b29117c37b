-- A round of settlement writes to each workflow at most once.
use Rattle.std.proofs.Common.{◌≡◌, ◌≢◌, ℕ, zero, suc, ◌+◌, ◌*◌, ◌<◌, ◌≤◌, Bool, true, false, not, List, [], ◌∷◌, ◌++◌, length, Option, Some, None, inl, inr, refl, sym, ◌∙◌, subst, ap, arith, true≢false}
use Rattle.std.specs.List.{AllByRecursion, filter, fold}
use Rattle.std.proofs.lemmas.Bool.{eq-eqb}
use Rattle.ndc_script_types.specs.Below.{clusters_below}
use Rattle.ndc_script_types.specs.WellFormed.{AreTwoClusters, IsCluster}
use Rattle.ndc_script_types.specs.declared.script.Header.{Header}
use Rattle.ndc_model_cells.specs.Places.{is_of}
use Rattle.ndc_model_cells.specs.Shards.{shard_of}
use Rattle.ndc_model_cells.specs.Writing.{same_cluster}
use Rattle.ndc_domain.specs.Clusters.{cluster_no, count_of, writer_of}
use Rattle.ndc_domain.specs.Records.{record_of}
use Rattle.ndc_domain.specs.declared.clusters.ClusterNo.{ClusterNo}
use Rattle.ndc_domain.specs.declared.record.DomainRecord.{DomainRecord}
use Rattle.ndc_event.specs.declared.batch.Batch.{Batch}
use Rattle.ndc_event.specs.declared.name.Name.{Name}
use Rattle.ndc_model.specs.Facts.{IsReached}
use Rattle.ndc_model.specs.Fair.{written_of}
use Rattle.ndc_model.specs.Moves.{Trace, bootstrapped, by_link, due, due_arrived, jobs_done, merged_all, quietly, reapplied_all, renewed, settled_once}
use Rattle.ndc_model.specs.World.{World, all_clusters, others_of, shards_of}
use Rattle.ndc_model.proofs.FairLemmas.{clusters-among}
use Rattle.ndc_model.proofs.ListLemmas.{all-append, all-weaker, fold-keeps}
use Rattle.ndc_model_sets.proofs.Lists.{Among, all-among, all-from, filter-among}
use Rattle.ndc_laws_reached.specs.Writing.{ApplyingKeeps, count_in}
use Rattle.ndc_laws_reached.proofs.FrameLemmas.{batches_in, tables_in}
use Rattle.ndc_laws_reached.proofs.BootstrapLemmas.{brought}
use Rattle.ndc_laws_reached.proofs.ArrivalLaws.{bootstrapped_kept}
use Rattle.ndc_laws_reached.proofs.ManyLemmas.{by-shard, due-may}
use Rattle.ndc_laws_reached.proofs.OwnLemmas.{one-writer, owns, owns_by}
use Rattle.ndc_laws_reached.proofs.RoundLemmas.{IsRound, owns-same, reapplied-round}
use Rattle.ndc_laws_reached.proofs.TableRound.{IsSpread, OneTable, table_at, tables-one}

-- at most one cluster writes to a domain
abbrev pub OneOwner : Header → World → Type 0
OneOwner header w = (one two : ClusterNo) → IsCluster header one → IsCluster header two → (domain : Name) → owns header one w domain ≡ true → owns header two w domain ≡ true → one.number ≡ two.number

-- so it is where all tables are one
pub one-owner : (header : Header) (v : World) → OneTable header v → OneOwner header v
one-owner header v tables one two there also domain first second =
    both (record_of (table_at one v) domain) first (subst (λ (t : List DomainRecord). owns_by two header.clusters (record_of t domain) ≡ true) (tables two one also there) second)
  where
    both : (o : Option DomainRecord) → owns_by one header.clusters o ≡ true → owns_by two header.clusters o ≡ true → one.number ≡ two.number
    both None h k = absurd (true≢false (sym h))
    both (Some found) h k = one-writer one two (writer_of header.clusters found.version) h k

-- no two of the clusters are one
abbrev pub AreDifferent : List ClusterNo → Type 0
AreDifferent [] = Unit {0}
AreDifferent (cluster ∷ clusters) = AllByRecursion (λ other. other.number ≢ cluster.number) clusters × AreDifferent clusters

pub below-different : (count : ℕ) → AreDifferent (clusters_below count)
below-different zero = tt
below-different (suc count) = behind (clusters_below count) (all-from (λ c. c.number < count) (clusters_below count) (λ c among. clusters-among count c among)) (below-different count)
  where
    behind : (clusters : List ClusterNo) → AllByRecursion (λ c. c.number < count) clusters → AreDifferent clusters → AreDifferent (clusters ++ cluster_no count ∷ [])
    behind [] below different = (tt, tt)
    behind (c ∷ cs) below different = (all-append (λ other. other.number ≢ c.number) cs (cluster_no count ∷ []) different.0 ((λ same. omega (arith, same, below.0)), tt), behind cs below.1 different.1)

-- a world after a round of some clusters
pub record AreRounds (header : Header) (lines : ℕ) (clusters : List ClusterNo) (w v : World) : Type 0 where
  pub reached : IsReached header lines v
  pub strange : (domain workflow : Name) → AllByRecursion (λ cluster. owns header cluster w domain ≡ false) clusters → written_of header domain workflow v ≡ written_of header domain workflow w
  pub most : (domain workflow : Name) → count_in header domain workflow v ≤ count_in header domain workflow w + 1

module _ (header : Header) (lines : ℕ) (keeps : ApplyingKeeps header lines) where
  -- one cluster after the other applies its strays again
  rounds : (clusters : List ClusterNo) → AllByRecursion (IsCluster header) clusters → AreDifferent clusters → (t : Trace) → IsReached header lines t.world → OneOwner header t.world
      → ((cluster : ClusterNo) → Among cluster clusters → (domain workflow : Name) → owns header cluster t.world domain ≡ true → count_in header domain workflow t.world + 1 ≤ 2 * lines)
      → AreRounds header lines clusters t.world (fold (reapplied_all header) t clusters).world
  rounds [] known different t is owner room = record { reached = is; strange = λ domain workflow none. refl; most = λ domain workflow. omega arith }
  rounds (cluster ∷ clusters) known different t is owner room =
      joined (fold (reapplied_all header) (reapplied_all header t cluster) clusters).world
      (rounds clusters known.1 different.1 (reapplied_all header t cluster) first.reached
      (λ one two there also domain a b. owner one two there also domain (sym (owns-same header one domain middle t.world first.tables) ∙ a) (sym (owns-same header two domain middle t.world first.tables) ∙ b))
      (λ other among domain workflow owned. let before : owns header other t.world domain ≡ true = sym (owns-same header other domain middle t.world first.tables) ∙ owned in
      subst (λ (written : List Batch). length written + 1 ≤ 2 * lines) (sym (first.strange domain workflow (not-first domain other among before))) (room other (inr among) domain workflow before)))
    where
      middle : World
      middle = (reapplied_all header t cluster).world

      first : IsRound header lines cluster (λ domain workflow. Among (shard_of domain workflow header.shards) (shards_of header)) t.world middle
      first = reapplied-round header lines keeps cluster known.0 t is (room cluster (inl refl))

      -- where another cluster writes to a domain, the first one does not
      not-first : (domain : Name) (other : ClusterNo) → Among other clusters → owns header other t.world domain ≡ true → owns header cluster t.world domain ≡ false
      not-first domain other among owned = by (owns header cluster t.world domain) refl
        where
          by : (b : Bool) → owns header cluster t.world domain ≡ b → b ≡ false
          by true e = absurd (all-among (λ o. o.number ≢ cluster.number) clusters other different.0 among (owner other cluster (all-among (IsCluster header) clusters other known.1 among) known.0 domain owned e))
          by false e = refl

      joined : (v : World) → AreRounds header lines clusters middle v → AreRounds header lines (cluster ∷ clusters) t.world v
      joined v rest = record {
        reached = rest.reached;
        strange = λ domain workflow none.
            rest.strange domain workflow
            (all-weaker (λ c. owns header c t.world domain ≡ false) (λ c. owns header c middle domain ≡ false) (λ c never. owns-same header c domain middle t.world first.tables ∙ never) clusters none.1)
            ∙ first.strange domain workflow none.0;
        most = λ domain workflow. count domain workflow (owns header cluster t.world domain) refl;
      }
        where
          count : (domain workflow : Name) (b : Bool) → owns header cluster t.world domain ≡ b → count_in header domain workflow v ≤ count_in header domain workflow t.world + 1
          count domain workflow true mine =
              omega (arith, first.most domain workflow, ap (λ (list : List Batch). length list) (rest.strange domain workflow (all-from (λ c. owns header c middle domain ≡ false) clusters (λ c among. others c among (owns header c middle domain) refl))))
            where
              others : (c : ClusterNo) → Among c clusters → (b : Bool) → owns header c middle domain ≡ b → b ≡ false
              others c among true e = absurd (true≢false (sym mine ∙ not-first domain c among (sym (owns-same header c domain middle t.world first.tables) ∙ e)))
              others c among false e = refl
          count domain workflow false other = omega (arith, rest.most domain workflow, ap (λ (list : List Batch). length list) (first.strange domain workflow other))

-- another cluster of the header
pub others-two : (header : Header) (reader source : ClusterNo) → IsCluster header reader → Among source (others_of header reader) → AreTwoClusters header reader source
others-two header reader source known among = record {
  first = known;
  second = clusters-among (count_of header.clusters) source found.1;
  differ = λ same. true≢false (sym found.0 ∙ ap not (eq-eqb reader.number source.number same));
}
  where
    found : (not (same_cluster reader source) ≡ true) × Among source (all_clusters header)
    found = filter-among (λ other. not (same_cluster reader other)) (all_clusters header) source among

-- a world after another one, in which the same was written and tables are the same
pub record IsAlike (header : Header) (lines : ℕ) (w v : World) : Type 0 where
  pub reached : IsReached header lines v
  pub batches : batches_in header v ≡ batches_in header w
  pub tables : tables_in v ≡ tables_in w

module _ (header : Header) (lines : ℕ) where
  pub alike-then : (u v w : World) → IsAlike header lines u v → IsAlike header lines v w → IsAlike header lines u w
  alike-then u v w one two = record { reached = two.reached; batches = two.batches ∙ one.batches; tables = two.tables ∙ one.tables }

  pub bootstrap-alike : (reader source : ClusterNo) → AreTwoClusters header reader source → (t : Trace) → IsReached header lines t.world → IsAlike header lines t.world (bootstrapped header reader t source).world
  unfolding bootstrapped jobs_done renewed
  bootstrap-alike reader source two t is =
      let b = brought header lines reader source two t.world is in
      record { reached = bootstrapped_kept header lines reader source t two is; batches = b.0.kept.batches; tables = b.0.kept.tables }

  pub due-alike : (reader : ClusterNo) → IsCluster header reader → (t : Trace) → IsReached header lines t.world → IsAlike header lines t.world (due_arrived header t reader).world
  unfolding due_arrived jobs_done
  due-alike reader known t is =
      let b = by-shard header lines reader known (by_link reader (due t.world) t.world.links) t.world is (due-may header lines t.world is reader) in
      record { reached = b.0.kept.reached; batches = b.0.kept.batches; tables = b.0.kept.tables }

  pub bootstraps-alike : (t : Trace) → IsReached header lines t.world → IsAlike header lines t.world (fold (λ v reader. fold (bootstrapped header reader) v (others_of header reader)) t (all_clusters header)).world
  bootstraps-alike t is =
      fold-keeps (λ u. IsAlike header lines t.world u.world) (λ v reader. fold (bootstrapped header reader) v (others_of header reader)) (all_clusters header)
      (λ u reader among alike. fold-keeps (λ x. IsAlike header lines t.world x.world) (bootstrapped header reader) (others_of header reader)
      (λ x source other before. alike-then t.world x.world (bootstrapped header reader x source).world before
      (bootstrap-alike reader source (others-two header reader source (clusters-among (count_of header.clusters) reader among) other) x before.reached)) u alike)
      t (record { reached = is; batches = refl; tables = refl })

  dues-alike : (t : Trace) → IsReached header lines t.world → IsAlike header lines t.world (fold (due_arrived header) t (all_clusters header)).world
  dues-alike t is =
      fold-keeps (λ u. IsAlike header lines t.world u.world) (due_arrived header) (all_clusters header)
      (λ u reader among alike. alike-then t.world u.world (due_arrived header u reader).world alike (due-alike reader (clusters-among (count_of header.clusters) reader among) u alike.reached))
      t (record { reached = is; batches = refl; tables = refl })

  -- how many were written, where the same was
  pub count-alike : (v w : World) → batches_in header v ≡ batches_in header w → (domain workflow : Name) → count_in header domain workflow v ≡ count_in header domain workflow w
  count-alike v w same domain workflow = ap (λ (f : ℕ → List Batch). length (filter (is_of domain workflow) (f (shard_of domain workflow header.shards)))) same

  -- one round of settlement
  pub settled-one : ApplyingKeeps header lines → (t : Trace) → IsReached header lines t.world → ((domain workflow : Name) → count_in header domain workflow t.world + 1 ≤ 2 * lines)
      → IsReached header lines (settled_once header t).world × ((domain workflow : Name) → count_in header domain workflow (settled_once header t).world ≤ count_in header domain workflow t.world + 1)
  unfolding settled_once
  settled-one keeps t is room = (round.reached, λ domain workflow. omega (arith, round.most domain workflow, counts domain workflow))
    where
      one : Trace
      one = quietly (λ w. fold (merged_all header) w (all_clusters header)) t

      two : Trace
      two = fold (λ v reader. fold (bootstrapped header reader) v (others_of header reader)) one (all_clusters header)

      three : Trace
      three = fold (due_arrived header) two (all_clusters header)

      tables : IsSpread header lines t.world one.world × OneTable header one.world
      tables = tables-one header lines t.world t.world (record { reached = is; batches = refl })

      alike : IsAlike header lines one.world three.world
      alike = let b = bootstraps-alike one tables.0.reached in alike-then one.world two.world three.world b (dues-alike two b.reached)

      counts : (domain workflow : Name) → count_in header domain workflow three.world ≡ count_in header domain workflow t.world
      counts domain workflow = count-alike three.world t.world (alike.batches ∙ tables.0.batches) domain workflow

      owner : OneOwner header three.world
      owner = one-owner header three.world (λ first second there also. (λ i. alike.tables i first) ∙ tables.1 first second there also ∙ (λ i. sym alike.tables i second))

      round : AreRounds header lines (all_clusters header) three.world (fold (reapplied_all header) three (all_clusters header)).world
      round =
          rounds header lines keeps (all_clusters header) (all-from (IsCluster header) (all_clusters header) (λ c among. clusters-among (count_of header.clusters) c among)) (below-different (count_of header.clusters)) three alike.reached owner
          (λ c among domain workflow owned. omega (arith, room domain workflow, counts domain workflow))
