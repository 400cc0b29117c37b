-- Where a reader is a member late of no domain, bootstraps renew its levels, and once is as good as many times.
use Rattle.std.proofs.Common.{◌≡◌, ◌+◌, ℕ, zero, suc, Bool, true, false, ◌&&◌, List, [], ◌∷◌, ◌++◌, find, length, map, drop, cond, ◌==◌, true≢false, refl, ap, sym, ◌∙◌, arith}
use Rattle.std.proofs.lemmas.Bool.{eqb-true}
use Rattle.std.proofs.lemmas.List.{append-nil}
use Rattle.std.specs.List.{fold, prefix_len}
use Rattle.ndc_domain.specs.declared.clusters.ClusterNo.{ClusterNo}
use Rattle.ndc_model.specs.Moves.{Trace, bootstrapped, jobs_done, map_from, notes_of, renewed, renewed_lane, renewed_link}
use Rattle.ndc_model.specs.Queues.{Lane, after_renewal, needs_nothing}
use Rattle.ndc_model.specs.World.{Link, World, cell_at, changed_first, cluster_at, home_at, is_link, link_at, link_found, queue_at, shards_of, with_link}
use Rattle.ndc_model_cells.specs.Cells.{Cell}
use Rattle.ndc_model_cells.specs.Jobs.{replies_to}
use Rattle.ndc_model_cells.specs.Writing.{same_cluster}
use Rattle.ndc_model_cells.specs.declared.job.ShardJob.{ShardJob}
use Rattle.ndc_model_cells.specs.declared.message.Message.{Message}
use Rattle.ndc_domain.specs.declared.record.DomainRecord.{DomainRecord}
use Rattle.ndc_queue.specs.Levels.{LevelPair, advanced}
use Rattle.ndc_script_types.specs.declared.script.Header.{Header}
use Rattle.ndc_world_replication.proofs.QuietLemmas.{no_domain_jobs}
use Rattle.ndc_world_replication.proofs.WorkLemmas.{no_job_done}
use Rattle.ndc_world_replication.specs.OnTime.{IsOnTime}

-- what is dropped after a prefix that passes does not begin with one that passes
front-once : {X : Type 0} (p : X → Bool) (xs : List X) → prefix_len p (drop (prefix_len p xs) xs) ≡ 0
front-once p [] = refl
front-once p (x ∷ xs) = by (p x) refl (front-once p xs)
  where
    by : (b : Bool) → p x ≡ b → prefix_len p (drop (prefix_len p xs) xs) ≡ 0 → prefix_len p (drop (cond b (1 + prefix_len p xs) 0) (x ∷ xs)) ≡ 0
    by true passes rest = (let e : 1 + prefix_len p xs ≡ suc (prefix_len p xs) = omega arith in ap (λ k. prefix_len p (drop k (x ∷ xs))) e) ∙ rest
    by false stops rest = ap (λ (t : Bool). cond t (1 + prefix_len p xs) 0) stops

drop-nil : {X : Type 0} (k : ℕ) → drop {A = X} k [] ≡ []
drop-nil zero = refl
drop-nil (suc k) = refl

drop-more : {X : Type 0} (i n : ℕ) (xs : List X) → drop (i + n) xs ≡ drop n (drop i xs)
drop-more zero n xs = let e : 0 + n ≡ n = omega arith in ap (λ k. drop k xs) e
drop-more (suc i) n [] = drop-nil (suc i + n) ∙ sym (drop-nil n)
drop-more (suc i) n (x ∷ xs) = let e : suc i + n ≡ suc (i + n) = omega arith in ap (λ k. drop k (x ∷ xs)) e ∙ drop-more i n xs

-- levels that were renewed are as good as renewed again
lane-twice : (reader : ClusterNo) (table : List DomainRecord) (cell : Cell) (queue : List Message) (lane : Lane)
    → after_renewal reader table cell queue (after_renewal reader table cell queue lane) ≡ after_renewal reader table cell queue lane
lane-twice reader table cell queue lane = ap (λ (levels : LevelPair). record lane { levels = levels }) (at-levels stays)
  where
    passes : Message → Bool
    passes = needs_nothing reader table cell

    from : ℕ
    from = lane.levels.done

    count : ℕ
    count = prefix_len passes (drop from queue)

    stays : (from + count) + prefix_len passes (drop (from + count) queue) ≡ from + count
    stays = ap (λ n. (from + count) + n) (ap (prefix_len passes) (drop-more from count queue) ∙ front-once passes (drop from queue)) ∙ omega arith

    at-levels : (from + count) + prefix_len passes (drop (from + count) queue) ≡ from + count
        → advanced ((from + count) + prefix_len passes (drop (from + count) queue)) (advanced (from + count) lane.levels) ≡ advanced (from + count) lane.levels
    at-levels e = ap (λ n. advanced n (advanced (from + count) lane.levels)) e ∙ ap (λ n. record { read = n; done = from + count }) (omega arith)

lanes-twice : (w : World) (link : Link) (shard : ℕ) (lanes : List Lane) → map_from (renewed_lane w link) shard (map_from (renewed_lane w link) shard lanes) ≡ map_from (renewed_lane w link) shard lanes
lanes-twice w link shard [] = refl
lanes-twice w link shard (lane ∷ lanes) =
    ap (λ (one : Lane). one ∷ map_from (renewed_lane w link) (suc shard) (map_from (renewed_lane w link) (suc shard) lanes))
    (lane-twice link.reader (cluster_at link.source w).table (cell_at link.reader shard w) (queue_at link.source shard w) lane)
    ∙ ap (λ (rest : List Lane). renewed_lane w link shard lane ∷ rest) (lanes-twice w link (suc shard) lanes)

module _ (reader : ClusterNo) where
  link-twice : (w : World) (link : Link) → renewed_link w reader (renewed_link w reader link) ≡ renewed_link w reader link
  link-twice w link = by (same_cluster link.reader reader) refl
    where
      by : (b : Bool) → same_cluster link.reader reader ≡ b → renewed_link w reader (renewed_link w reader link) ≡ renewed_link w reader link
      by true own = rw (own, own) (ap (λ (lanes : List Lane). record link { lanes = lanes }) (lanes-twice w link 0 link.lanes))
      by false other = rw (other, other) refl

  links-twice : (w : World) (links : List Link) → map (renewed_link w reader) (map (renewed_link w reader) links) ≡ map (renewed_link w reader) links
  links-twice w [] = refl
  links-twice w (link ∷ links) =
      ap (λ (one : Link). one ∷ map (renewed_link w reader) (map (renewed_link w reader) links)) (link-twice w link) ∙ ap (λ (rest : List Link). renewed_link w reader link ∷ rest) (links-twice w links)

  renewed-twice : (w : World) → renewed (renewed w reader) reader ≡ renewed w reader
  unfolding renewed
  renewed-twice w = ap (λ (links : List Link). record w { links = links }) (links-twice w w.links)

  -- renewing makes nobody late
  link-late : (w : World) (link : Link) → (same_cluster link.reader reader ≡ true → link.late ≡ []) → same_cluster (renewed_link w reader link).reader reader ≡ true → (renewed_link w reader link).late ≡ []
  link-late w link late = by (same_cluster link.reader reader) refl
    where
      by : (b : Bool) → same_cluster link.reader reader ≡ b → same_cluster (renewed_link w reader link).reader reader ≡ true → (renewed_link w reader link).late ≡ []
      by true own = rw own (λ _. late own)
      by false other = rw other (λ (own : same_cluster link.reader reader ≡ true). late own)

  links-late : (w : World) (links : List Link) → IsOnTime reader links → IsOnTime reader (map (renewed_link w reader) links)
  links-late w [] on = tt
  links-late w (link ∷ links) on = (link-late w link on.0, links-late w links on.1)

  renewed-on-time : (w : World) → IsOnTime reader w.links → IsOnTime reader (renewed w reader).links
  unfolding renewed
  renewed-on-time w on = links-late w w.links on

  -- nothing is late over the link that is found, and clearing it changes nothing
  module _ (source : ClusterNo) where
    own-first : (link : Link) → is_link reader source link ≡ true → same_cluster link.reader reader ≡ true
    own-first link = by (same_cluster link.reader reader) (same_cluster link.source source)
      where
        by : (a b : Bool) → a && b ≡ true → a ≡ true
        by true b is = refl
        by false b is = is

    late-found : (links : List Link) → IsOnTime reader links → (link_found reader source (find (is_link reader source) links)).late ≡ []
    late-found [] on = refl
    late-found (link ∷ links) on = by (is_link reader source link) refl (late-found links on.1)
      where
        by : (b : Bool) → is_link reader source link ≡ b → (link_found reader source (find (is_link reader source) links)).late ≡ [] → (link_found reader source (find (is_link reader source) (link ∷ links))).late ≡ []
        by true is rest = rw is (on.0 (own-first link is))
        by false other rest = rw other rest

    late-cleared : (links : List Link) → IsOnTime reader links → changed_first (is_link reader source) (λ link. record link { late = [] }) links ≡ links
    late-cleared [] on = refl
    late-cleared (link ∷ links) on = by (is_link reader source link) refl (late-cleared links on.1)
      where
        by : (b : Bool) → is_link reader source link ≡ b → changed_first (is_link reader source) (λ link. record link { late = [] }) links ≡ links → changed_first (is_link reader source) (λ link. record link { late = [] }) (link ∷ links) ≡ link ∷ links
        by true is rest = rw is (ap (λ late. record link { late = late } ∷ links) (sym (on.0 (own-first link is))))
        by false other rest = rw other (ap (λ (more : List Link). link ∷ more) rest)

  module _ (header : Header) where
    -- no job changes nothing
    nothing-done : (jobs : List ShardJob) (t : Trace) → jobs ≡ [] → jobs_done header reader jobs t ≡ t
    unfolding jobs_done replies_to
    nothing-done jobs t none =
        let cells = (cluster_at reader t.world).cells in
        let home = home_at header reader t.world in
        λ i. record {
          world = sym (no_job_done home jobs reader t.world none) i;
          notes = (ap (λ (list : List ShardJob). t.notes ++ notes_of reader list (replies_to home list cells)) none ∙ append-nil t.notes) i;
        }

    -- a bootstrap then renews the levels
    bootstrap-renews : (t : Trace) (source : ClusterNo) → IsOnTime reader t.world.links → bootstrapped header reader t source ≡ record t { world = renewed t.world reader }
    unfolding bootstrapped
    bootstrap-renews t source on =
        ap (λ (done : Trace). record done { world = renewed (with_link reader source (λ link. record link { late = [] }) done.world) reader })
        (nothing-done _ t (no_domain_jobs (link_at reader source t.world).late (λ shard. cell_at source shard t.world) (shards_of header) (late-found source t.world.links on)))
        ∙ ap (λ (links : List Link). record t { world = renewed (record t.world { links = links }) reader }) (late-cleared source t.world.links on)

    -- and so do many
    on_time_renews : (t : Trace) (source : ClusterNo) (sources : List ClusterNo) → IsOnTime reader t.world.links
        → fold (bootstrapped header reader) t (source ∷ sources) ≡ record t { world = renewed t.world reader }
    on_time_renews t source [] on = bootstrap-renews t source on
    on_time_renews t source (next ∷ sources) on =
        ap (λ (done : Trace). fold (bootstrapped header reader) done (next ∷ sources)) (bootstrap-renews t source on)
        ∙ on_time_renews (record t { world = renewed t.world reader }) next sources (renewed-on-time t.world on)
        ∙ ap (λ (w : World). record t { world = w }) (renewed-twice t.world)

    -- where there is one at all
    pub on_time_some : (t : Trace) (sources : List ClusterNo) → false ≡ (length sources == 0) → IsOnTime reader t.world.links → fold (bootstrapped header reader) t sources ≡ record t { world = renewed t.world reader }
    on_time_some t [] some on = absurd (true≢false (sym some))
    on_time_some t (source ∷ sources) some on = on_time_renews t source sources on

    -- where there is none, nothing changes
    pub on_time_none : (t : Trace) (sources : List ClusterNo) → true ≡ (length sources == 0) → fold (bootstrapped header reader) t sources ≡ t
    on_time_none t [] none = refl
    on_time_none t (source ∷ sources) none = absurd (omega (arith, eqb-true (length (source ∷ sources)) 0 (sym none)))
