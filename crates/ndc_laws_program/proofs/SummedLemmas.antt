-- The numbers that sum up a world mean what they say.
use Rattle.std.proofs.Common.{◌≡◌, ◌≢◌, ℕ, suc, ◌+◌, ◌<◌, Bool, true, false, cond, not, List, [], ◌∷◌, ◌++◌, length, map, slice_index_or, Option, Some, None, inl, inr, refl, sym, ◌∙◌, subst, ap, arith, true≢false, append-nil, if◌then◌else◌}
use Rattle.std.specs.Prelude.{find, option_to_list, sum_by}
use Rattle.std.specs.List.{AllByRecursion, IsAmong, filter, flat_map, fold}
use Rattle.std.proofs.lemmas.Bool.{and_parts}
use Rattle.std.proofs.lemmas.List.Concat.{length-flat_map}
use Rattle.std.proofs.lemmas.Grind.{flat_map-append}
use Rattle.std.proofs.lemmas.List.Folds.{flat_map-map}
use Rattle.std.proofs.lemmas.List.Sums.{sum_by-cons}
use Rattle.ndc_script_types.specs.WellFormed.{IsCluster}
use Rattle.ndc_script_types.specs.declared.script.Header.{Header}
use Rattle.ndc_model_cells.specs.declared.message.Message.{Message}
use Rattle.ndc_model_cells.specs.Cells.{Cell, arrived_of, both, carries, learned_of}
use Rattle.ndc_model_cells.specs.Jobs.{cell_for}
use Rattle.ndc_model_cells.specs.Places.{AreInOrder, is_at, is_of, place_lt, place_of, placed}
use Rattle.ndc_model_cells.specs.Shards.{shard_of}
use Rattle.ndc_model_cells.proofs.PlaceLemmas.{all-placed, placed-cases}
use Rattle.ndc_domain.specs.Clusters.{count_of}
use Rattle.ndc_domain.specs.declared.clusters.ClusterNo.{ClusterNo}
use Rattle.ndc_domain.specs.declared.record.DomainRecord.{DomainRecord}
use Rattle.ndc_event.specs.declared.batch.Batch.{Batch}
use Rattle.ndc_event.specs.declared.name.Name.{Name}
use Rattle.ndc_laws.proofs.AncestorLemmas.{arrived-set}
use Rattle.ndc_laws_cells.proofs.FoundLemmas.{at-place, find-passes, place-irrefl}
use Rattle.ndc_laws_cells.proofs.Lists.{among-is, flat-among, is-among}
use Rattle.ndc_laws_program.specs.Summed.{AreTheSame, AreWorkflowsOf, SumsUp, batches_written}
use Rattle.ndc_laws_program.proofs.FoundLemmas.{found-all, found-each, found-once, named}
use Rattle.ndc_laws_program.proofs.SumLemmas.{all-items, among-index, fold-same, fold-sum, index-among, one-pass, pass-one, same-parts, sum-flat, sum-mapped, sum-none, sum-same}
use Rattle.ndc_laws_reached.proofs.ApartLemmas.{Differ, differ-from, differ-more, map-flat, pairs-from}
use Rattle.ndc_laws_reached.proofs.ArrivalLemmas.{own-is}
use Rattle.ndc_laws_reached.proofs.CameLemmas.{written-message}
use Rattle.ndc_laws_reached.proofs.LetterLemmas.{shard-below}
use Rattle.ndc_laws_reached.proofs.ManyLemmas.{among-flat, range-among, range-below}
use Rattle.ndc_laws_reached.proofs.OwnLemmas.{Rise, range-rises}
use Rattle.ndc_laws_reached.proofs.WriterLemmas.{within}
use Rattle.ndc_laws_reached.proofs.WrittenLemmas.{lives, names-of, ordered}
use Rattle.ndc_model.specs.Facts.{IsReached}
use Rattle.ndc_model.specs.Fair.{IsMessageTrue, IsOwn, places_written, primary, written_of}
use Rattle.ndc_model.specs.Moves.{all_written}
use Rattle.ndc_model.specs.Reading.{is_nothing, learned_at}
use Rattle.ndc_model.specs.World.{Cluster, World, all_clusters, cell_at, cluster_at, new_cluster, queue_at, shards_of}
use Rattle.ndc_model.proofs.FairLemmas.{clusters-among}
use Rattle.ndc_model_sets.specs.Learned.{IsPart}
use Rattle.ndc_model_sets.specs.Paths.{is_wanted}
use Rattle.ndc_model_sets.specs.Sets.{Has, IsSet}
use Rattle.ndc_model_sets.proofs.ArrivalLemmas.{equal_sets}
use Rattle.ndc_model_sets.proofs.BranchLemmas.{among-has, has-among}
use Rattle.ndc_model_sets.proofs.LearnedLemmas.{learned_closed}
use Rattle.ndc_model_sets.proofs.Lists.{Among, all-among, all-from, among-filter, among-map, filter-among, filter-cases, map-among}
use Rattle.ndc_world_queries.specs.declared.parts.Totals.{Totals}
use Rattle.ndc_world_queries.specs.Same.{same_batches}
use Rattle.ndc_world_queries.specs.Summaries.{are_alike, are_one_table, batches_alone, branch_count, cells_of, first_learned, learned_with, messages_of, one_if_any, part_of, same_table, tables_alone, totals_in, totals_of, workflows_in}
use Rattle.ndc_world_queries.proofs.BatchLemmas.{batches_decide}
use Rattle.ndc_world_queries.proofs.TableLemmas.{table_decides}

-- batches of different places are put into order without loss
fresh-length : (new : Batch) (bs : List Batch) → AllByRecursion (λ b. is_at (place_of new) b ≡ false) bs → length (placed new bs) ≡ suc (length bs)
fresh-length new [] fresh = refl
fresh-length new (b ∷ bs) fresh =
    placed-cases (λ l. length l ≡ suc (suc (length bs))) new b bs (λ _. refl) (λ _ same. absurd (true≢false (sym same ∙ fresh.0))) (λ _ _. ap suc (fresh-length new bs fresh.1))

order-length : (bs front : List Batch) → Differ (map place_of bs) → AllByRecursion (λ b. AllByRecursion (λ x. is_at (place_of b) x ≡ false) front) bs → length (fold (λ sorted b. placed b sorted) front bs) ≡ length front + length bs
order-length [] front differ apart = omega arith
order-length (b ∷ bs) front differ apart =
    omega (arith, order-length bs (placed b front) differ.1 (all-from (λ c. AllByRecursion (λ x. is_at (place_of c) x ≡ false) (placed b front)) bs later), fresh-length b front apart.0)
  where
    elsewhere : (c : Batch) → Among c bs → (t : Bool) → is_at (place_of c) b ≡ t → is_at (place_of c) b ≡ false
    elsewhere c among true e = absurd (differ.0 (place_of c) (among-map place_of bs c among) (sym (at-place (place_of c) b e)))
    elsewhere c among false e = e

    later : (c : Batch) → Among c bs → AllByRecursion (λ x. is_at (place_of c) x ≡ false) (placed b front)
    later c among =
        all-placed (λ x. is_at (place_of c) x ≡ false) b front (elsewhere c among (is_at (place_of c) b) refl)
        (all-among (λ d. AllByRecursion (λ x. is_at (place_of d) x ≡ false) front) bs c apart.1 among)

no-front : (bs : List Batch) → AllByRecursion (λ b. AllByRecursion (λ x. is_at (place_of b) x ≡ false) []) bs
no-front [] = tt
no-front (b ∷ bs) = (tt, no-front bs)

-- batches in order of place differ
order-differ : (bs : List Batch) → AreInOrder bs → Differ bs
order-differ [] order = tt
order-differ (b ∷ bs) order =
    (λ c among same. place-irrefl (place_of b) (subst (λ (x : Batch). place_lt (place_of b) (place_of x) ≡ true) (sym same) (all-among (λ x. place_lt (place_of b) (place_of x) ≡ true) bs c order.0 among)), order-differ bs order.1)

-- lists that are apart, one for each of some numbers
differ-flat : {X : Type 0} (of : X → ℕ) (f : ℕ → List X) (numbers : List ℕ) → Rise numbers → ((n : ℕ) → Among n numbers → Differ (f n) × AllByRecursion (λ x. of x ≡ n) (f n)) → Differ (flat_map f numbers)
differ-flat of f [] rise each = tt
differ-flat {X = X} of f (n ∷ numbers) rise each =
    subst Differ (ap (λ (l : List X). f n ++ l) (append-nil (flat_map f numbers)))
    (differ-more (f n) (flat_map f numbers) [] (subst Differ (sym (append-nil (f n))) (each n (inl refl)).0) (differ-flat of f numbers rise.1 (λ m among. each m (inr among))) apart)
  where
    apart : (x : X) → Among x (flat_map f numbers) → Among x (f n ++ []) → ⊥
    apart x later here =
        let m = flat-among f numbers x later in
        let less : n < m.0 = all-among (λ more. n < more) numbers m.0 rise.0 m.1 in
        let one : of x ≡ n = all-among (λ y. of y ≡ n) (f n) x (each n (inl refl)).1 (subst (Among x) (append-nil (f n)) here) in
        let two : of x ≡ m.0 = all-among (λ y. of y ≡ m.0) (f m.0) x (each m.0 (inr m.1)).1 m.2 in
        omega (arith, less, one, two)

-- the batches of cells, cell by cell
cells-batches : (cells : List Cell) → flat_map both (messages_of cells) ≡ flat_map (λ (cell : Cell). flat_map both cell.written) cells
cells-batches [] = refl
cells-batches (cell ∷ cells) = flat_map-append both cell.written (messages_of cells) ∙ ap (λ (l : List Batch). flat_map both cell.written ++ l) (cells-batches cells)

-- what the first cell has learned of a workflow
first-is : (shard : ℕ) (b : Batch) (clusters : List Cluster) → first_learned (map (λ (c : Cluster). cell_for shard c.cells) clusters) b ≡ learned_with b (cell_for shard (slice_index_or clusters 0 (new_cluster 0)).cells)
first-is shard b [] = refl
first-is shard b (c ∷ clusters) = refl

-- nothing has no branches
none-branched : branch_count [] ≡ 0
unfolding branch_count
none-branched = refl

-- of the workflows of which something is learned
kept-count : (known : Batch → List Batch) (found : List Batch) → sum_by (λ b. one_if_any (known b)) found ≡ length (map named (filter (λ b. not (is_nothing (known b))) found))
kept-count known [] = refl
kept-count known (b ∷ found) = omega (arith, sum_by-cons (λ b. one_if_any (known b)) b found, kept-count known found, one (is_nothing (known b)))
  where
    rest : List Batch
    rest = filter (λ b. not (is_nothing (known b))) found

    one : (t : Bool) → (if t then 0 else 1) + length (map named rest) ≡ length (map named (cond (not t) (b ∷ rest) rest))
    one true = omega arith
    one false = omega arith

kept-sum : (known : Batch → List Batch) (number : List Batch → ℕ) (count : Name × Name → ℕ) (found : List Batch) → number [] ≡ 0 → AllByRecursion (λ b. number (known b) ≡ count (named b)) found
    → sum_by (λ b. number (known b)) found ≡ sum_by count (map named (filter (λ b. not (is_nothing (known b))) found))
kept-sum known number count [] none same = refl
kept-sum known number count (b ∷ found) none same = omega (arith, sum_by-cons (λ b. number (known b)) b found, kept-sum known number count found none same.1, one (known b) same.0)
  where
    rest : List Batch
    rest = filter (λ b. not (is_nothing (known b))) found

    one : (l : List Batch) → number l ≡ count (named b) → number l + sum_by count (map named rest) ≡ sum_by count (map named (cond (not (is_nothing l)) (b ∷ rest) rest))
    one [] e = omega (arith, none)
    one (c ∷ l) e = omega (arith, e, sum_by-cons count (named b) (map named rest))

-- what is kept of workflows that differ
differ-kept : (p : Batch → Bool) (found : List Batch) → Differ (map named found) → Differ (map named (filter p found))
differ-kept p [] differ = tt
differ-kept p (b ∷ found) differ =
    filter-cases (λ l. Differ (map named l)) p b found
    (λ _. (λ y among. let m = map-among named (filter p found) y among in differ.0 y (subst (λ n. Among n (map named found)) (sym m.2) (among-map named found m.0 (filter-among p found m.0 m.1).1)), differ-kept p found differ.1))
    (λ _. differ-kept p found differ.1)

-- tables and lists that pass their tests are one
tables-one : (clusters : List Cluster) → are_one_table (map (λ (c : Cluster). c.table) clusters) ≡ true → (x y : Cluster) → Among x clusters → Among y clusters → x.table ≡ y.table
tables-one [] pass x y none there = absurd none
tables-one (c ∷ clusters) pass x y here there =
    pass-one same_table table_decides c.table (map (λ (c : Cluster). c.table) clusters) pass x.table y.table (among-map (λ (c : Cluster). c.table) (c ∷ clusters) x here) (among-map (λ (c : Cluster). c.table) (c ∷ clusters) y there)

one-table : (clusters : List Cluster) → ((x y : Cluster) → Among x clusters → Among y clusters → x.table ≡ y.table) → are_one_table (map (λ (c : Cluster). c.table) clusters) ≡ true
one-table [] same = refl
one-table (c ∷ clusters) same = one-pass same_table table_decides c.table (map (λ (c : Cluster). c.table) clusters) both
  where
    both : (x y : List DomainRecord) → Among x (map (λ (c : Cluster). c.table) (c ∷ clusters)) → Among y (map (λ (c : Cluster). c.table) (c ∷ clusters)) → x ≡ y
    both x y here there =
        let m = map-among (λ (c : Cluster). c.table) (c ∷ clusters) x here in
        let n = map-among (λ (c : Cluster). c.table) (c ∷ clusters) y there in
        m.2 ∙ same m.0 n.0 m.1 n.1 ∙ sym n.2

alike-one : (b : Batch) (cells : List Cell) → are_alike (map (learned_with b) cells) ≡ true → (x y : Cell) → Among x cells → Among y cells → learned_with b x ≡ learned_with b y
alike-one b [] pass x y none there = absurd none
alike-one b (c ∷ cells) pass x y here there =
    pass-one same_batches batches_decide (learned_with b c) (map (learned_with b) cells) pass (learned_with b x) (learned_with b y) (among-map (learned_with b) (c ∷ cells) x here) (among-map (learned_with b) (c ∷ cells) y there)

one-alike : (b : Batch) (cells : List Cell) → ((x y : Cell) → Among x cells → Among y cells → learned_with b x ≡ learned_with b y) → are_alike (map (learned_with b) cells) ≡ true
one-alike b [] same = refl
one-alike b (c ∷ cells) same = one-pass same_batches batches_decide (learned_with b c) (map (learned_with b) cells) both
  where
    both : (x y : List Batch) → Among x (map (learned_with b) (c ∷ cells)) → Among y (map (learned_with b) (c ∷ cells)) → x ≡ y
    both x y here there =
        let m = map-among (learned_with b) (c ∷ cells) x here in
        let n = map-among (learned_with b) (c ∷ cells) y there in
        m.2 ∙ same m.0 n.0 m.1 n.1 ∙ sym n.2

module _ (header : Header) (lines : ℕ) (w : World) (is : IsReached header lines w) where
  -- the workflows of a shard of which the first cluster has learned a batch
  abbrev names_at : ℕ → List (Name × Name)
  names_at shard = map named (filter (λ b. not (is_nothing (first_learned (cells_of w shard) b))) (workflows_in (cells_of w shard)))

  abbrev branches_of : Name × Name → ℕ
  branches_of workflow = branch_count (learned_at header primary workflow.0 workflow.1 w)

  abbrev item : ClusterNo → Cluster
  item cluster = slice_index_or w.clusters cluster.number (new_cluster 0)

  inside : (shard : ℕ) → Among shard (shards_of header) → shard < header.shards
  inside shard among = omega (arith, range-below 0 header.shards shard among)

  cluster-there : (cluster : ClusterNo) → IsCluster header cluster → Among (cluster_at cluster w) w.clusters
  cluster-there cluster known = index-among w.clusters cluster.number (new_cluster 0) (omega (arith, known, is.shaped.clusters))

  -- each cluster has its number
  numbered : (c : Cluster) → Among c w.clusters → (cluster : ClusterNo) × IsCluster header cluster × (cluster_at cluster w ≡ c)
  numbered c among = let at = among-index w.clusters c (new_cluster 0) among in (record { number = at.0 }, omega (arith, at.1, is.shaped.clusters), at.2)

  module _ (shard : ℕ) (below : shard < header.shards) where
    abbrev here : List Cell
    here = cells_of w shard

    abbrev cell_in : Cluster → Cell
    cell_in cluster = cell_for shard cluster.cells

    abbrev found : List Batch
    found = workflows_in here

    abbrev wrote : Cluster → List Batch
    wrote cluster = flat_map both (cell_in cluster).written

    abbrev all_here : List Batch
    all_here = flat_map (λ cluster. flat_map both (cell_at cluster shard w).written) (all_clusters header)

    written-there : flat_map both (messages_of here) ≡ all_here
    written-there =
        cells-batches here ∙ flat_map-map (λ (cell : Cell). flat_map both cell.written) cell_in w.clusters
        ∙ sym (ap (flat_map wrote) (all-items w.clusters (new_cluster 0) (count_of header.clusters) is.shaped.clusters)) ∙ flat_map-map wrote item (all_clusters header)

    places-differ : Differ (map place_of all_here)
    places-differ = subst Differ (map-flat place_of (λ cluster. flat_map both (cell_at cluster shard w).written) (all_clusters header)) (differ-from (places_written header shard w) (is.fair.writing.differ shard below))

    count-same : length (flat_map both (messages_of here)) ≡ length (all_written header shard w)
    count-same = omega (arith, ap (λ (l : List Batch). length l) written-there, order-length all_here [] places-differ (no-front all_here))

    -- a batch of a message lives in the shard
    own-lives : (b : Batch) → Among b all_here → shard_of b.domain b.workflow header.shards ≡ shard
    own-lives b among =
        let f = flat-among (λ cluster. flat_map both (cell_at cluster shard w).written) (all_clusters header) b among in
        (all-among (IsOwn header f.0 shard (cluster_at f.0 w).table (cell_at f.0 shard w)) (flat_map both (cell_at f.0 shard w).written) b
        (is.fair.writers f.0 shard (clusters-among (count_of header.clusters) f.0 f.1) below) f.2).lives

    found-live : AllByRecursion (λ b. shard_of b.domain b.workflow header.shards ≡ shard) found
    found-live =
        found-all (λ b. shard_of b.domain b.workflow header.shards ≡ shard) (map (λ (sent : Message). sent.batch) (messages_of here)) [] tt
        (all-from (λ b. shard_of b.domain b.workflow header.shards ≡ shard) (map (λ (sent : Message). sent.batch) (messages_of here)) each)
      where
        each : (b : Batch) → Among b (map (λ (sent : Message). sent.batch) (messages_of here)) → shard_of b.domain b.workflow header.shards ≡ shard
        each b among =
            let m = map-among (λ (sent : Message). sent.batch) (messages_of here) b among in
            own-lives b (subst (Among b) written-there (among-flat both (messages_of here) m.0 b m.1 (inl m.2)))

    first-there : (b : Batch) → shard_of b.domain b.workflow header.shards ≡ shard → first_learned here b ≡ learned_at header primary b.domain b.workflow w
    first-there b live = first-is shard b w.clusters ∙ ap (λ n. learned_of b.domain b.workflow (cell_at primary n w)) (sym live)

    batches-here : (totals_in here).batches ≡ length (all_written header shard w)
    unfolding totals_in part_of
    batches-here =
        omega (
          arith,
          fold-sum (λ (t : Totals). t.batches) (λ one two. refl) (map (part_of here) found) (batches_alone (length (flat_map both (messages_of here)))),
          sum-mapped (λ (t : Totals). t.batches) (part_of here) found,
          sum-none (λ b. (part_of here b).batches) found (λ b. refl),
          count-same,
        )

    workflows-here : (totals_in here).workflows ≡ length (names_at shard)
    unfolding totals_in part_of
    workflows-here =
        omega (
          arith,
          fold-sum (λ (t : Totals). t.workflows) (λ one two. refl) (map (part_of here) found) (batches_alone (length (flat_map both (messages_of here)))),
          sum-mapped (λ (t : Totals). t.workflows) (part_of here) found,
          kept-count (first_learned here) found,
        )

    branches-here : (totals_in here).branches ≡ sum_by branches_of (names_at shard)
    unfolding totals_in part_of
    branches-here =
        omega (
          arith,
          fold-sum (λ (t : Totals). t.branches) (λ one two. refl) (map (part_of here) found) (batches_alone (length (flat_map both (messages_of here)))),
          sum-mapped (λ (t : Totals). t.branches) (part_of here) found,
          kept-sum (first_learned here) branch_count branches_of found no-branch (all-from (λ b. branch_count (first_learned here b) ≡ branches_of (named b)) found each),
        )
      where
        no-branch : branch_count [] ≡ 0
        no-branch = none-branched

        each : (b : Batch) → Among b found → branch_count (first_learned here b) ≡ branches_of (named b)
        each b among = ap branch_count (first-there b (all-among (λ b. shard_of b.domain b.workflow header.shards ≡ shard) found b found-live among))

    names-here : Differ (names_at shard) × AllByRecursion (λ (n : Name × Name). shard_of n.0 n.1 header.shards ≡ shard) (names_at shard)
    names-here = (
      differ-kept (λ b. not (is_nothing (first_learned here b))) found (found-once (map (λ (sent : Message). sent.batch) (messages_of here)) [] tt),
      all-from (λ (n : Name × Name). shard_of n.0 n.1 header.shards ≡ shard) (names_at shard) live,
    )
      where
        live : (n : Name × Name) → Among n (names_at shard) → shard_of n.0 n.1 header.shards ≡ shard
        live n among =
            let m = map-among named (filter (λ b. not (is_nothing (first_learned here b))) found) n among in
            subst (λ (x : Name × Name). shard_of x.0 x.1 header.shards ≡ shard) (sym m.2)
            (all-among (λ b. shard_of b.domain b.workflow header.shards ≡ shard) found m.0 found-live (filter-among (λ b. not (is_nothing (first_learned here b))) found m.0 m.1).1)

    -- the workflow of each batch of a message is found
    found-of : (cluster : ClusterNo) → IsCluster header cluster → (sent : Message) → Among sent (queue_at cluster shard w) → (x : Batch) → Among x (both sent) → (b : Batch) × Among b found × (named b ≡ named x)
    found-of cluster known sent there x among = (f.0, f.1, f.2 ∙ sym (by sent.second refl among))
      where
        by : (o : Option Batch) → sent.second ≡ o → Among x (sent.batch ∷ option_to_list o) → named x ≡ named sent.batch
        by o e (inl same) = ap named same
        by None e (inr none) = absurd none
        by (Some s) e (inr (inr none)) = absurd none
        by (Some s) e (inr (inl same)) =
            let t = all-among (IsMessageTrue header shard w) (queue_at cluster shard w) sent (is.fair.messages cluster shard known below).written there in
            let own = (own-is (filter (is_of sent.batch.domain sent.batch.workflow) (all_written header shard w)) (all_written header shard w) sent.batch sent t.1).1 in
            let carried : find (carries sent.batch) (all_written header shard w) ≡ Some s = ap (λ (y : Message). y.second) own ∙ e in
            let p = and_parts (is_of sent.batch.domain sent.batch.workflow s) (is_wanted s.carrier sent.batch) (find-passes (carries sent.batch) (all_written header shard w) s carried) in
            let n = names-of sent.batch.domain sent.batch.workflow s p.0 in
            ap named same ∙ ap (λ (d : Name). (d, s.workflow)) n.0 ∙ ap (λ (u : Name). (sent.batch.domain, u)) n.1

        f : (b : Batch) × Among b found × (named b ≡ named sent.batch)
        f =
            found-each (map (λ (sent : Message). sent.batch) (messages_of here)) [] sent.batch
            (inr (among-map (λ (sent : Message). sent.batch) (messages_of here) sent
            (among-flat (λ (cell : Cell). cell.written) here (cell_at cluster shard w) sent (among-map cell_in w.clusters (cluster_at cluster w) (cluster-there cluster known)) there)))

    -- a workflow to which something was written is found
    found-written : (x : Batch) → Among x (all_written header shard w) → (b : Batch) × Among b found × (named b ≡ named x)
    found-written x among = let m = written-message header w shard x among in found-of m.0 m.1 m.2.0 m.2.1 x m.2.2

  abbrev shard_totals : ℕ → Totals
  shard_totals shard = totals_in (cells_of w shard)

  abbrev names : List (Name × Name)
  names = flat_map names_at (shards_of header)

  batches-all : (totals_of header w).batches ≡ length (batches_written header w)
  unfolding totals_of
  batches-all =
      omega (
        arith,
        fold-sum (λ (t : Totals). t.batches) (λ one two. refl) (map shard_totals (shards_of header)) (tables_alone w),
        sum-mapped (λ (t : Totals). t.batches) shard_totals (shards_of header),
        sum-same (λ shard. (shard_totals shard).batches) (λ shard. length (all_written header shard w)) (shards_of header) (λ shard among. batches-here shard (inside shard among)),
        length-flat_map (λ shard. all_written header shard w) (shards_of header),
      )

  workflows-all : (totals_of header w).workflows ≡ length names
  unfolding totals_of
  workflows-all =
      omega (
        arith,
        fold-sum (λ (t : Totals). t.workflows) (λ one two. refl) (map shard_totals (shards_of header)) (tables_alone w),
        sum-mapped (λ (t : Totals). t.workflows) shard_totals (shards_of header),
        sum-same (λ shard. (shard_totals shard).workflows) (λ shard. length (names_at shard)) (shards_of header) (λ shard among. workflows-here shard (inside shard among)),
        length-flat_map names_at (shards_of header),
      )

  branches-all : (totals_of header w).branches ≡ sum_by branches_of names
  unfolding totals_of
  branches-all =
      omega (
        arith,
        fold-sum (λ (t : Totals). t.branches) (λ one two. refl) (map shard_totals (shards_of header)) (tables_alone w),
        sum-mapped (λ (t : Totals). t.branches) shard_totals (shards_of header),
        sum-same (λ shard. (shard_totals shard).branches) (λ shard. sum_by branches_of (names_at shard)) (shards_of header) (λ shard among. branches-here shard (inside shard among)),
        sum-flat branches_of names_at (shards_of header),
      )

  batches-once : Differ (batches_written header w)
  batches-once =
      differ-flat (λ (b : Batch). shard_of b.domain b.workflow header.shards) (λ shard. all_written header shard w) (shards_of header) (range-rises 0 header.shards)
      (λ shard among. let below = inside shard among in
      (order-differ (all_written header shard w) (ordered header lines w is shard below), all-from (λ (b : Batch). shard_of b.domain b.workflow header.shards ≡ shard) (all_written header shard w) (lives header lines w is shard below)))

  names-once : Differ names
  names-once = differ-flat (λ (n : Name × Name). shard_of n.0 n.1 header.shards) names_at (shards_of header) (range-rises 0 header.shards) (λ shard among. names-here shard (inside shard among))

  -- what is said to be the same
  abbrev Alike : ℕ → Type 0
  Alike shard = (b : Batch) → Among b (workflows_in (cells_of w shard)) → are_alike (map (learned_with b) (cells_of w shard)) ≡ true

  shard-alike : (shard : ℕ) → (shard_totals shard).same ≡ true → Alike shard
  unfolding totals_in part_of
  shard-alike shard same b among =
      let all = same-parts (map (part_of (cells_of w shard)) (workflows_in (cells_of w shard))) (batches_alone (length (flat_map both (messages_of (cells_of w shard))))) same in
      all-among (λ (part : Totals). part.same ≡ true) (map (part_of (cells_of w shard)) (workflows_in (cells_of w shard))) (part_of (cells_of w shard) b) all.1
      (among-map (part_of (cells_of w shard)) (workflows_in (cells_of w shard)) b among)

  alike-shard : (shard : ℕ) → Alike shard → (shard_totals shard).same ≡ true
  unfolding totals_in part_of
  alike-shard shard alike =
      fold-same (map (part_of (cells_of w shard)) (workflows_in (cells_of w shard))) (batches_alone (length (flat_map both (messages_of (cells_of w shard))))) refl
      (all-from (λ (part : Totals). part.same ≡ true) (map (part_of (cells_of w shard)) (workflows_in (cells_of w shard))) each)
    where
      each : (part : Totals) → Among part (map (part_of (cells_of w shard)) (workflows_in (cells_of w shard))) → part.same ≡ true
      each part among =
          let m = map-among (part_of (cells_of w shard)) (workflows_in (cells_of w shard)) part among in
          ap (λ (p : Totals). p.same) m.2 ∙ alike m.0 m.1

  parts-same : (totals_of header w).same ≡ true → (are_one_table (map (λ (c : Cluster). c.table) w.clusters) ≡ true) × ((shard : ℕ) → Among shard (shards_of header) → Alike shard)
  unfolding totals_of
  parts-same same =
      let all = same-parts (map shard_totals (shards_of header)) (tables_alone w) same in
      (all.0, λ shard among. shard-alike shard (all-among (λ (part : Totals). part.same ≡ true) (map shard_totals (shards_of header)) (shard_totals shard) all.1 (among-map shard_totals (shards_of header) shard among)))

  same-parts-are : are_one_table (map (λ (c : Cluster). c.table) w.clusters) ≡ true → ((shard : ℕ) → Among shard (shards_of header) → Alike shard) → (totals_of header w).same ≡ true
  unfolding totals_of
  same-parts-are tables alike = fold-same (map shard_totals (shards_of header)) (tables_alone w) tables (all-from (λ (part : Totals). part.same ≡ true) (map shard_totals (shards_of header)) each)
    where
      each : (part : Totals) → Among part (map shard_totals (shards_of header)) → part.same ≡ true
      each part among =
          let m = map-among shard_totals (shards_of header) part among in
          ap (λ (p : Totals). p.same) m.2 ∙ alike-shard m.0 (alike m.0 m.1)

  -- where all is the same, it is said so
  pub told-same : AreTheSame header w → (totals_of header w).same ≡ true
  told-same all = same-parts-are (one-table w.clusters tables) (λ shard among b there. one-alike b (cells_of w shard) (cells shard (inside shard among) b there))
    where
      tables : (x y : Cluster) → Among x w.clusters → Among y w.clusters → x.table ≡ y.table
      tables x y here there =
          let one = numbered x here in
          let two = numbered y there in
          sym (ap (λ (c : Cluster). c.table) one.2) ∙ all.tables one.0 two.0 one.1 two.1 ∙ ap (λ (c : Cluster). c.table) two.2

      cells : (shard : ℕ) → shard < header.shards → (b : Batch) → Among b (workflows_in (cells_of w shard)) → (x y : Cell) → Among x (cells_of w shard) → Among y (cells_of w shard) → learned_with b x ≡ learned_with b y
      cells shard below b among x y here there =
          let m = map-among (λ (c : Cluster). cell_for shard c.cells) w.clusters x here in
          let n = map-among (λ (c : Cluster). cell_for shard c.cells) w.clusters y there in
          let one = numbered m.0 m.1 in
          let two = numbered n.0 n.1 in
          let live = all-among (λ c. shard_of c.domain c.workflow header.shards ≡ shard) (workflows_in (cells_of w shard)) b (found-live shard below) among in
          ap (learned_with b) (m.2 ∙ sym (ap (λ (c : Cluster). cell_for shard c.cells) one.2))
          ∙ learned-here one.0 two.0 one.1 two.1 live
          ∙ ap (learned_with b) (ap (λ (c : Cluster). cell_for shard c.cells) two.2 ∙ sym n.2)
        where
          learned-here : (one two : ClusterNo) → IsCluster header one → IsCluster header two → shard_of b.domain b.workflow header.shards ≡ shard → learned_with b (cell_at one shard w) ≡ learned_with b (cell_at two shard w)
          learned-here one two known also live =
              subst (λ n. learned_with b (cell_at one n w) ≡ learned_with b (cell_at two n w)) live
              (equal_sets (learned_at header one b.domain b.workflow w) (learned_at header two b.domain b.workflow w) (set one known) (set two also)
              (all.learned one two b.domain b.workflow known also).there (all.learned one two b.domain b.workflow known also).back)
            where
              set : (cluster : ClusterNo) → IsCluster header cluster → IsSet (learned_at header cluster b.domain b.workflow w)
              set cluster known =
                  (learned_closed (arrived_of b.domain b.workflow (cell_at cluster (shard_of b.domain b.workflow header.shards) w))
                  (arrived-set header lines w is cluster known (shard_of b.domain b.workflow header.shards) (subst (λ n. n < header.shards) (sym live) below) b.domain b.workflow)).0

  module _ (some : 0 < header.shards) where
    abbrev home : Name → Name → ℕ
    home domain workflow = shard_of domain workflow header.shards

    at-home : (domain workflow : Name) → home domain workflow < header.shards
    at-home domain workflow = shard-below domain workflow header.shards some

    listed : (domain workflow : Name) → Among (home domain workflow) (shards_of header)
    listed domain workflow = range-among 0 header.shards (home domain workflow) (home domain workflow) (at-home domain workflow) (omega arith)

    learned-set : (cluster : ClusterNo) (domain workflow : Name) → IsCluster header cluster → IsSet (learned_at header cluster domain workflow w)
    learned-set cluster domain workflow known =
        (learned_closed (arrived_of domain workflow (cell_at cluster (home domain workflow) w)) (arrived-set header lines w is cluster known (home domain workflow) (at-home domain workflow) domain workflow)).0

    -- a workflow of which a cluster has learned anything is found
    found-learned : (cluster : ClusterNo) (domain workflow : Name) → IsCluster header cluster → (x : Batch) → Among x (learned_at header cluster domain workflow w)
        → (b : Batch) × Among b (workflows_in (cells_of w (home domain workflow))) × (named b ≡ (domain, workflow))
    found-learned cluster domain workflow known x among =
        let has = among-has (learned_at header cluster domain workflow w) x (learned-set cluster domain workflow known).ordered among in
        let there = within header lines w is cluster known domain workflow (at-home domain workflow) x has in
        let p = filter-among (is_of domain workflow) (all_written header (home domain workflow) w) x (has-among (written_of header domain workflow w) x there) in
        let f = found-written (home domain workflow) (at-home domain workflow) x p.1 in
        let n = names-of domain workflow x p.0 in
        (f.0, f.1, f.2 ∙ ap (λ (d : Name). (d, x.workflow)) n.0 ∙ ap (λ (u : Name). (domain, u)) n.1)

    names-are : (known : IsCluster header primary) → AreWorkflowsOf header primary w names
    names-are known = record { once = pairs-from names names-once; learned = λ domain workflow. (there domain workflow, back domain workflow) }
      where
        there : (domain workflow : Name) → IsAmong names (domain, workflow) → learned_at header primary domain workflow w ≢ []
        there domain workflow among =
            let f = flat-among names_at (shards_of header) (domain, workflow) (is-among names (domain, workflow) among) in
            let m = map-among named (filter (λ b. not (is_nothing (first_learned (cells_of w f.0) b))) (workflows_in (cells_of w f.0))) (domain, workflow) f.2 in
            let p = filter-among (λ b. not (is_nothing (first_learned (cells_of w f.0) b))) (workflows_in (cells_of w f.0)) m.0 m.1 in
            let live = all-among (λ c. shard_of c.domain c.workflow header.shards ≡ f.0) (workflows_in (cells_of w f.0)) m.0 (found-live f.0 (inside f.0 f.1)) p.1 in
            subst (λ (n : Name × Name). learned_at header primary n.0 n.1 w ≢ []) (sym m.2)
            (subst (λ (l : List Batch). l ≢ []) (first-there f.0 (inside f.0 f.1) m.0 live) (something (first_learned (cells_of w f.0) m.0) p.0))
          where
            something : (l : List Batch) → not (is_nothing l) ≡ true → l ≢ []
            something l kept none = true≢false (sym kept ∙ ap (λ x. not (is_nothing x)) none)

        back : (domain workflow : Name) → learned_at header primary domain workflow w ≢ [] → IsAmong names (domain, workflow)
        back domain workflow some_learned = among-is names (domain, workflow) (among-flat names_at (shards_of header) (home domain workflow) (domain, workflow) (listed domain workflow) (by (learned_at header primary domain workflow w) refl))
          where
            by : (l : List Batch) → learned_at header primary domain workflow w ≡ l → Among (domain, workflow) (names_at (home domain workflow))
            by [] e = absurd (some_learned e)
            by (x ∷ l) e =
                let f = found-learned primary domain workflow known x (subst (Among x) (sym e) (inl refl)) in
                let live = all-among (λ c. shard_of c.domain c.workflow header.shards ≡ home domain workflow) (workflows_in (cells_of w (home domain workflow))) f.0 (found-live (home domain workflow) (at-home domain workflow)) f.1 in
                let first : first_learned (cells_of w (home domain workflow)) f.0 ≡ x ∷ l =
                first-there (home domain workflow) (at-home domain workflow) f.0 live ∙ ap (λ (n : Name × Name). learned_at header primary n.0 n.1 w) f.2 ∙ e in
                subst (λ (n : Name × Name). Among n (names_at (home domain workflow))) f.2
                (among-map named (filter (λ b. not (is_nothing (first_learned (cells_of w (home domain workflow)) b))) (workflows_in (cells_of w (home domain workflow)))) f.0
                (among-filter (λ b. not (is_nothing (first_learned (cells_of w (home domain workflow)) b))) (workflows_in (cells_of w (home domain workflow))) f.0 (ap (λ z. not (is_nothing z)) first) f.1))

    -- what is said to be the same is
    same-there : (totals_of header w).same ≡ true → AreTheSame header w
    same-there same = record {
      tables = λ one two known also. tables-one w.clusters parts.0 (cluster_at one w) (cluster_at two w) (cluster-there one known) (cluster-there two also);
      learned = λ one two domain workflow known also. record { there = part one two domain workflow known also; back = part two one domain workflow also known };
    }
      where
        parts : (are_one_table (map (λ (c : Cluster). c.table) w.clusters) ≡ true) × ((shard : ℕ) → Among shard (shards_of header) → Alike shard)
        parts = parts-same same

        part : (one two : ClusterNo) (domain workflow : Name) → IsCluster header one → IsCluster header two → IsPart (learned_at header one domain workflow w) (learned_at header two domain workflow w)
        part one two domain workflow known also x has =
            let f = found-learned one domain workflow known x (has-among (learned_at header one domain workflow w) x has) in
            let alike = alike-one f.0 (cells_of w (home domain workflow)) (parts.1 (home domain workflow) (listed domain workflow) f.0 f.1) (cell_at one (home domain workflow) w) (cell_at two (home domain workflow) w)
            (among-map (λ (c : Cluster). cell_for (home domain workflow) c.cells) w.clusters (cluster_at one w) (cluster-there one known))
            (among-map (λ (c : Cluster). cell_for (home domain workflow) c.cells) w.clusters (cluster_at two w) (cluster-there two also)) in
            subst (λ (l : List Batch). Has l x)
            (subst (λ (n : Name × Name). learned_of n.0 n.1 (cell_at one (home domain workflow) w) ≡ learned_of n.0 n.1 (cell_at two (home domain workflow) w)) f.2 alike) has

    pub sums-up : IsCluster header primary → SumsUp header w (totals_of header w)
    sums-up known = record {
      batches = batches-all;
      once = pairs-from (batches_written header w) batches-once;
      names = names;
      are = names-are known;
      workflows = workflows-all;
      branches = branches-all;
      same = (same-there, told-same);
    }
