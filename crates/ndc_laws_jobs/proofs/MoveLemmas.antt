-- Moves do not look at progress reports.
use Rattle.std.proofs.Common.{◌≡◌, ℕ, zero, suc, Bool, true, false, List, [], ◌∷◌, ◌++◌, drop, map, max, slice_index_or, slice_set, Some, None, refl, ◌∙◌, ap, if◌then◌else◌}
use Rattle.std.specs.List.{filter, flat_map, fold}
use Rattle.ndc_script_types.specs.declared.script.Header.{Header}
use Rattle.ndc_model_cells.specs.declared.job.ShardJob.{ShardJob}
use Rattle.ndc_model_cells.specs.declared.message.Message.{Message}
use Rattle.ndc_model_cells.specs.Cells.{both}
use Rattle.ndc_model_cells.specs.Jobs.{cell_for, cells_after, replies_to}
use Rattle.ndc_model_cells.specs.Places.{in_order}
use Rattle.ndc_model_cells.specs.Writing.{same_cluster}
use Rattle.ndc_domain.specs.Merge.{merged}
use Rattle.ndc_domain.specs.declared.clusters.ClusterNo.{ClusterNo}
use Rattle.ndc_domain.specs.declared.record.DomainRecord.{DomainRecord}
use Rattle.ndc_event.specs.declared.batch.Batch.{Batch}
use Rattle.ndc_model.specs.Moves.{Trace, after_settlement, all_arrive, all_written, arrives, bootstrapped, by_link, done_levels, due, due_arrived, flights_arrived, from_world, jobs_done, map_from, merged_all, messages_among, missing_ancestors, notes_of, pulled_all, pulled_link, pulled_shard, quietly, reapplied_all, renewed, renewed_link, resent, sent_again, settled_once, trimmed_all, trimmed_level, without_flights, without_flights_to, worked}
use Rattle.ndc_model_cells.specs.Domains.{learned_of_domains}
use Rattle.ndc_model.specs.Queues.{after_pull, after_renewal, is_addressed}
use Rattle.ndc_queue.specs.Levels.{trim_level}
use Rattle.ndc_model.specs.World.{Cluster, Link, World, all_clusters, cell_at, changed_first, cluster_at, home_at, is_link, link_at, new_cluster, others_of, shards_of, with_cluster, with_late, with_link, with_table, lane_in, queue_at, trimmed_at}
use Rattle.ndc_model.specs.Bare.{bare, bare_cluster, bare_trace}

-- functions that agree on each item map, change and flatten alike
pub map-same : {X Y : Type 0} (f g : X → Y) → ((x : X) → f x ≡ g x) → (xs : List X) → map f xs ≡ map g xs
map-same f g same [] = refl
map-same f g same (x ∷ xs) = ap (λ y. y ∷ map f xs) (same x) ∙ ap (λ ys. g x ∷ ys) (map-same f g same xs)

pub flat-same : {X Y : Type 0} (f g : X → List Y) → ((x : X) → f x ≡ g x) → (xs : List X) → flat_map f xs ≡ flat_map g xs
flat-same f g same [] = refl
flat-same f g same (x ∷ xs) = ap (λ ys. ys ++ flat_map f xs) (same x) ∙ ap (λ ys. g x ++ ys) (flat-same f g same xs)

changed-same : {X : Type 0} (test : X → Bool) (f g : X → X) → ((x : X) → f x ≡ g x) → (xs : List X) → changed_first test f xs ≡ changed_first test g xs
changed-same test f g same [] = refl
changed-same test f g same (x ∷ xs) = by (test x) (changed-same test f g same xs)
  where
    by : (t : Bool) → changed_first test f xs ≡ changed_first test g xs → (if t then f x ∷ xs else x ∷ changed_first test f xs) ≡ (if t then g x ∷ xs else x ∷ changed_first test g xs)
    by true rest = ap (λ y. y ∷ xs) (same x)
    by false rest = ap (λ ys. x ∷ ys) rest

-- clusters that are found and put
at-bare : (clusters : List Cluster) (i : ℕ) → slice_index_or (map bare_cluster clusters) i (new_cluster 0) ≡ bare_cluster (slice_index_or clusters i (new_cluster 0))
at-bare [] i = refl
at-bare (c ∷ clusters) zero = refl
at-bare (c ∷ clusters) (suc i) = at-bare clusters i

set-bare : (clusters : List Cluster) (i : ℕ) (c : Cluster) → slice_set (map bare_cluster clusters) i (bare_cluster c) ≡ map bare_cluster (slice_set clusters i c)
set-bare [] i c = refl
set-bare (d ∷ clusters) zero c = refl
set-bare (d ∷ clusters) (suc i) c = ap (λ l. bare_cluster d ∷ l) (set-bare clusters i c)

module _ (w : World) where
  pub cluster-bare : (cluster : ClusterNo) → cluster_at cluster (bare w) ≡ bare_cluster (cluster_at cluster w)
  cluster-bare cluster = at-bare w.clusters cluster.number

  -- what is made of a cluster without looking at its reports
  pub same-at : {X : Type 0} (f : Cluster → X) (cluster : ClusterNo) → ((c : Cluster) → f (bare_cluster c) ≡ f c) → f (cluster_at cluster (bare w)) ≡ f (cluster_at cluster w)
  same-at f cluster same = ap f (cluster-bare cluster) ∙ same (cluster_at cluster w)

  -- a cluster takes the place of another, with other links
  put-bare : (cluster : ClusterNo) (c : Cluster) (links : List Link)
      → record (bare w) { clusters = slice_set (bare w).clusters cluster.number (bare_cluster c); links = links } ≡ bare (record w { clusters = slice_set w.clusters cluster.number c; links = links })
  put-bare cluster c links = ap (λ l. record w { clusters = l; links = links }) (set-bare w.clusters cluster.number c)

  pub table-bare : (cluster : ClusterNo) (table : List DomainRecord) → with_table cluster table (bare w) ≡ bare (with_table cluster table w)
  unfolding with_table
  table-bare cluster table =
      ap (λ (c : Cluster). record (bare w) { clusters = slice_set (bare w).clusters cluster.number (record c { table = table }); links = map (with_late cluster c.table table) w.links }) (cluster-bare cluster)
      ∙ put-bare cluster (record (cluster_at cluster w) { table = table }) (map (with_late cluster (cluster_at cluster w).table table) w.links)

  -- a cluster changes in what is not a report
  pub changed-bare : (cluster : ClusterNo) (change : Cluster → Cluster) → ((c : Cluster) → change (bare_cluster c) ≡ bare_cluster (change c))
      → with_cluster cluster (change (cluster_at cluster (bare w))) (bare w) ≡ bare (with_cluster cluster (change (cluster_at cluster w)) w)
  changed-bare cluster change same =
      ap (λ (c : Cluster). with_cluster cluster (change c) (bare w)) (cluster-bare cluster)
      ∙ ap (λ (c : Cluster). with_cluster cluster c (bare w)) (same (cluster_at cluster w))
      ∙ put-bare cluster (change (cluster_at cluster w)) w.links

  pub pull-bare : (reader source : ClusterNo) → pulled_all reader source (bare w) ≡ bare (pulled_all reader source w)
  unfolding pulled_all
  pull-bare reader source =
      ap (λ links. record (bare w) { links = links }) (changed-same (is_link reader source) (pulled_link (bare w)) (pulled_link w) each w.links)
    where
      each : (link : Link) → pulled_link (bare w) link ≡ pulled_link w link
      each link = same-at (λ c. record link { lanes = map_from (λ shard lane. after_pull link.reader c.table None (cell_for shard c.cells).written lane) 0 link.lanes }) link.source (λ c. refl)

  pub pull-some-bare : (reader source : ClusterNo) (shard count : ℕ) → pulled_shard reader source shard count (bare w) ≡ bare (pulled_shard reader source shard count w)
  unfolding pulled_shard
  pull-some-bare reader source shard count =
      same-at (λ c. record (bare w) { links = changed_first (is_link reader source) (λ link. record link { lanes = slice_set link.lanes shard (after_pull (link_at reader source w).reader c.table (Some count) (cell_for shard c.cells).written (lane_in (link_at reader source w) shard)) }) w.links })
      (link_at reader source w).source (λ c. refl)

  pub renew-bare : (reader : ClusterNo) → renewed (bare w) reader ≡ bare (renewed w reader)
  unfolding renewed
  renew-bare reader = ap (λ links. record (bare w) { links = links }) (map-same (renewed_link (bare w) reader) (renewed_link w reader) each w.links)
    where
      each : (link : Link) → renewed_link (bare w) reader link ≡ renewed_link w reader link
      each link =
          same-at (λ c. if same_cluster link.reader reader then record link { lanes = map_from (λ shard lane. after_renewal link.reader c.table (cell_at link.reader shard (bare w)) (cell_for shard c.cells).written lane) 0 link.lanes } else link)
          link.source (λ c. refl)
          ∙ same-at (λ c. if same_cluster link.reader reader then record link { lanes = map_from (λ shard lane. after_renewal link.reader (cluster_at link.source w).table (cell_for shard c.cells) (queue_at link.source shard w) lane) 0 link.lanes } else link)
          link.reader (λ c. refl)

  -- how far a queue is trimmed
  pub level-bare : (source : ClusterNo) (shard : ℕ) → trimmed_level source (bare w) shard ≡ trimmed_level source w shard
  level-bare source shard =
      same-at (λ c. max (trimmed_at source w shard) (trim_level (cell_for shard c.cells).written (done_levels source shard w.links))) source (λ c. refl)

  pub trim-bare : (header : Header) (source : ClusterNo) → trimmed_all header source (bare w) ≡ bare (trimmed_all header source w)
  unfolding trimmed_all
  trim-bare header source =
      ap (λ levels. record (bare w) { trimmed = slice_set w.trimmed source.number levels }) (map-same (trimmed_level source (bare w)) (trimmed_level source w) (level-bare source) (shards_of header))

  pub all-written-bare : (header : Header) (shard : ℕ) → all_written header shard (bare w) ≡ all_written header shard w
  all-written-bare header shard =
      ap in_order (flat-same (λ cluster. flat_map both (cell_at cluster shard (bare w)).written) (λ cluster. flat_map both (cell_at cluster shard w).written)
      (λ cluster. same-at (λ c. flat_map both (cell_for shard c.cells).written) cluster (λ c. refl)) (all_clusters header))

-- jobs of a cluster
pub jobs-bare : (header : Header) (cluster : ClusterNo) (jobs : List ShardJob) (t : Trace) → jobs_done header cluster jobs (bare_trace t) ≡ bare_trace (jobs_done header cluster jobs t)
unfolding jobs_done
jobs-bare header cluster jobs t =
    ap (λ (c : Cluster). record {
      world = with_cluster cluster (record c { cells = cells_after (record { clusters = header.clusters; me = cluster; limit = header.limit; table = c.table }) jobs c.cells }) (bare t.world);
      notes = t.notes ++ notes_of cluster jobs (replies_to (record { clusters = header.clusters; me = cluster; limit = header.limit; table = c.table }) jobs c.cells);
    }) (cluster-bare t.world cluster)
    ∙ ap (λ v. record { world = v; notes = t.notes ++ notes_of cluster jobs (replies_to (home_at header cluster t.world) jobs (cluster_at cluster t.world).cells) })
    (put-bare t.world cluster (record (cluster_at cluster t.world) { cells = cells_after (home_at header cluster t.world) jobs (cluster_at cluster t.world).cells }) t.world.links)

-- a fold over what is kept alike
fold-bare : {X : Type 0} (f : Trace → X → Trace) → ((t : Trace) (x : X) → f (bare_trace t) x ≡ bare_trace (f t x)) → (t : Trace) (xs : List X) → fold f (bare_trace t) xs ≡ bare_trace (fold f t xs)
fold-bare f same t [] = refl
fold-bare f same t (x ∷ xs) = ap (λ u. fold f u xs) (same t x) ∙ fold-bare f same (f t x) xs

fold-world : {X : Type 0} (f : World → X → World) → ((w : World) (x : X) → f (bare w) x ≡ bare (f w x)) → (w : World) (xs : List X) → fold f (bare w) xs ≡ bare (fold f w xs)
fold-world f same w [] = refl
fold-world f same w (x ∷ xs) = ap (λ u. fold f u xs) (same w x) ∙ fold-world f same (f w x) xs

module _ (header : Header) where
  renew-after : (t : Trace) (reader : ClusterNo) → quietly (λ v. renewed v reader) (bare_trace t) ≡ bare_trace (quietly (λ v. renewed v reader) t)
  renew-after t reader = ap (λ v. record t { world = v }) (renew-bare t.world reader)

  arrived-bare : (reader : ClusterNo) (w : World) → flights_arrived header reader (bare w) ≡ bare_trace (flights_arrived header reader w)
  unfolding flights_arrived
  arrived-bare reader w = jobs-bare header reader _ (from_world (without_flights_to reader w))

  reapplied-bare : (t : Trace) (cluster : ClusterNo) → reapplied_all header (bare_trace t) cluster ≡ bare_trace (reapplied_all header t cluster)
  unfolding reapplied_all
  reapplied-bare t cluster = jobs-bare header cluster _ t

  pub work-bare : (reader : ClusterNo) (w : World) → worked header reader (bare w) ≡ bare_trace (worked header reader w)
  unfolding worked
  work-bare reader w =
      ap (λ t. quietly (λ v. renewed v reader) (reapplied_all header t reader)) (arrived-bare reader w)
      ∙ ap (quietly (λ v. renewed v reader)) (reapplied-bare (flights_arrived header reader w) reader)
      ∙ renew-after (reapplied_all header (flights_arrived header reader w) reader) reader

  again-bare : (reader : ClusterNo) (w : World) (shard : ℕ) → sent_again header reader (bare w) shard ≡ sent_again header reader w shard
  again-bare reader w shard =
      ap (λ (all : List Batch). messages_among all (missing_ancestors all (cell_at reader shard (bare w)))) (all-written-bare w header shard)
      ∙ same-at w (λ c. messages_among (all_written header shard w) (missing_ancestors (all_written header shard w) (cell_for shard c.cells))) reader (λ c. refl)

  all-arrive-same : (one two : ℕ → List Message) → ((shard : ℕ) → one shard ≡ two shard) → all_arrive one (shards_of header) ≡ all_arrive two (shards_of header)
  all-arrive-same one two same = flat-same (λ shard. map (arrives shard) (one shard)) (λ shard. map (arrives shard) (two shard)) (λ shard. ap (map (arrives shard)) (same shard)) (shards_of header)

  pub resend-bare : (reader : ClusterNo) (w : World) → resent header reader (bare w) ≡ bare_trace (resent header reader w)
  unfolding resent
  resend-bare reader w =
      ap (λ (jobs : List ShardJob). quietly (λ v. renewed v reader) (jobs_done header reader jobs (from_world (bare w)))) (all-arrive-same (sent_again header reader (bare w)) (sent_again header reader w) (again-bare reader w))
      ∙ ap (quietly (λ v. renewed v reader)) (jobs-bare header reader (all_arrive (sent_again header reader w) (shards_of header)) (from_world w))
      ∙ renew-after (jobs_done header reader (all_arrive (sent_again header reader w) (shards_of header)) (from_world w)) reader

  pub bootstrap-bare : (reader : ClusterNo) (t : Trace) (source : ClusterNo) → bootstrapped header reader (bare_trace t) source ≡ bare_trace (bootstrapped header reader t source)
  unfolding bootstrapped renewed jobs_done
  bootstrap-bare reader t source =
      ap (λ (jobs : List ShardJob). quietly (λ v. renewed v reader) (quietly (with_link reader source (λ link. record link { late = [] })) (jobs_done header reader jobs (bare_trace t))))
      (all-arrive-same (λ shard. learned_of_domains (link_at reader source t.world).late (cell_at source shard (bare t.world))) messages
      (λ shard. same-at t.world (λ c. learned_of_domains (link_at reader source t.world).late (cell_for shard c.cells)) source (λ c. refl)))
      ∙ ap (λ u. quietly (λ v. renewed v reader) (quietly (with_link reader source (λ link. record link { late = [] })) u)) (jobs-bare header reader (all_arrive messages (shards_of header)) t)
      ∙ renew-after (quietly (with_link reader source (λ link. record link { late = [] })) (jobs_done header reader (all_arrive messages (shards_of header)) t)) reader
    where
      messages : ℕ → List Message
      messages shard = learned_of_domains (link_at reader source t.world).late (cell_at source shard t.world)

  merged-bare : (w : World) (cluster : ClusterNo) → merged_all header (bare w) cluster ≡ bare (merged_all header w cluster)
  merged-bare w cluster =
      fold-world (λ v other. with_table cluster (merged (cluster_at cluster v).table (cluster_at other v).table) v) each w (others_of header cluster)
    where
      each : (v : World) (other : ClusterNo) → with_table cluster (merged (cluster_at cluster (bare v)).table (cluster_at other (bare v)).table) (bare v) ≡ bare (with_table cluster (merged (cluster_at cluster v).table (cluster_at other v).table) v)
      each v other =
          ap (λ (table : List DomainRecord). with_table cluster (merged table (cluster_at other (bare v)).table) (bare v)) (same-at v (λ c. c.table) cluster (λ c. refl))
          ∙ ap (λ (table : List DomainRecord). with_table cluster (merged (cluster_at cluster v).table table) (bare v)) (same-at v (λ c. c.table) other (λ c. refl))
          ∙ table-bare v cluster (merged (cluster_at cluster v).table (cluster_at other v).table)

  by-link-same : (reader : ClusterNo) (one two : ℕ → Link → List Message) → ((shard : ℕ) (link : Link) → one shard link ≡ two shard link) → (links : List Link) (shard : ℕ) → by_link reader one links shard ≡ by_link reader two links shard
  by-link-same reader one two same links shard =
      flat-same (λ link. if same_cluster link.reader reader then one shard link else []) (λ link. if same_cluster link.reader reader then two shard link else [])
      (λ link. ap (λ l. if same_cluster link.reader reader then l else []) (same shard link)) links

  due-bare : (t : Trace) (reader : ClusterNo) → due_arrived header (bare_trace t) reader ≡ bare_trace (due_arrived header t reader)
  unfolding due_arrived
  due-bare t reader =
      ap (λ (jobs : List ShardJob). jobs_done header reader jobs (bare_trace t))
      (all-arrive-same (by_link reader (due (bare t.world)) t.world.links) (by_link reader (due t.world) t.world.links)
      (by-link-same reader (due (bare t.world)) (due t.world) each t.world.links))
      ∙ jobs-bare header reader (all_arrive (by_link reader (due t.world) t.world.links) (shards_of header)) t
    where
      each : (shard : ℕ) (link : Link) → due (bare t.world) shard link ≡ due t.world shard link
      each shard link = same-at t.world (λ c. filter (is_addressed link.reader c.table) (drop (lane_in link shard).levels.done (cell_for shard c.cells).written)) link.source (λ c. refl)

  once-bare : (t : Trace) → settled_once header (bare_trace t) ≡ bare_trace (settled_once header t)
  unfolding settled_once
  once-bare t =
      ap (λ v. fold (reapplied_all header) (fold (due_arrived header) (fold boot (record t { world = v }) (all_clusters header)) (all_clusters header)) (all_clusters header))
      (fold-world (merged_all header) merged-bare t.world (all_clusters header))
      ∙ ap (λ u. fold (reapplied_all header) (fold (due_arrived header) u (all_clusters header)) (all_clusters header)) (fold-bare boot boot-bare merged_trace (all_clusters header))
      ∙ ap (λ u. fold (reapplied_all header) u (all_clusters header)) (fold-bare (due_arrived header) due-bare (fold boot merged_trace (all_clusters header)) (all_clusters header))
      ∙ fold-bare (reapplied_all header) reapplied-bare (fold (due_arrived header) (fold boot merged_trace (all_clusters header)) (all_clusters header)) (all_clusters header)
    where
      boot : Trace → ClusterNo → Trace
      boot v reader = fold (bootstrapped header reader) v (others_of header reader)

      boot-bare : (v : Trace) (reader : ClusterNo) → boot (bare_trace v) reader ≡ bare_trace (boot v reader)
      boot-bare v reader = fold-bare (bootstrapped header reader) (bootstrap-bare reader) v (others_of header reader)

      merged_trace : Trace
      merged_trace = quietly (λ w. fold (merged_all header) w (all_clusters header)) t

  pub settle-bare : (w : World) → after_settlement header (bare w) ≡ bare_trace (after_settlement header w)
  unfolding after_settlement
  settle-bare w =
      ap (λ t. quietly renew (settled_once header t)) (once-bare (from_world (without_flights w)))
      ∙ ap (quietly renew) (once-bare (settled_once header (from_world (without_flights w))))
      ∙ ap (λ v. record (settled_once header (settled_once header (from_world (without_flights w)))) { world = v })
      (fold-world renewed renew-bare (settled_once header (settled_once header (from_world (without_flights w)))).world (all_clusters header))
    where
      renew : World → World
      renew v = fold renewed v (all_clusters header)
