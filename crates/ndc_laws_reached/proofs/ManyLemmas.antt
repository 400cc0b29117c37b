-- Many messages that arrive at a cluster: what is in flight, and what is due.
pub use Rattle.ndc_laws_cells.proofs.VersionLemmas.{one-cluster}
use Rattle.std.proofs.Common.{◌≡◌, ℕ, zero, suc, ◌+◌, ◌<◌, Bool, true, false, if◌then◌else◌, List, [], ◌∷◌, map, drop, inl, inr, refl, sym, subst, arith}
use Rattle.std.specs.List.{AllByRecursion, IsAmong, flat_map, range_with_len}
use Rattle.ndc_script_types.specs.WellFormed.{IsCluster}
use Rattle.ndc_script_types.specs.declared.script.Header.{Header}
use Rattle.ndc_model_cells.specs.declared.job.Job.TheVariants.{Arrive}
use Rattle.ndc_model_cells.specs.declared.job.ShardJob.{ShardJob}
use Rattle.ndc_model_cells.specs.declared.message.Message.{Message}
use Rattle.ndc_model_cells.specs.Jobs.{cells_after}
use Rattle.ndc_model_cells.specs.Writing.{same_cluster}
use Rattle.ndc_domain.specs.declared.clusters.ClusterNo.{ClusterNo}
use Rattle.ndc_model.specs.Facts.{IsReached}
use Rattle.ndc_model.specs.Fair.{IsMessageTrue, is_named}
use Rattle.ndc_model.specs.Moves.{all_arrive, arrives, by_link, due, in_flight}
use Rattle.ndc_model.specs.Queues.{is_addressed}
use Rattle.ndc_model.specs.World.{Link, World, cluster_at, lane_in, queue_at, shards_of}
use Rattle.ndc_model.proofs.ListLemmas.{all-drop, all-flat, all-self, all-weaker}
use Rattle.ndc_laws_cells.proofs.Lists.{is-among}
use Rattle.ndc_model.proofs.WorldLemmas.{same-cells}
use Rattle.ndc_model_sets.proofs.ForkLemmas.{among-left, among-right}
use Rattle.ndc_model_sets.proofs.Lists.{Among, all-among, all-from, among-map, filter-among}
use Rattle.ndc_laws_reached.proofs.LaneLemmas.{named-there}
use Rattle.ndc_laws_reached.proofs.LinkLemmas.{IsLinkFit, links-fit}
use Rattle.ndc_laws_reached.proofs.BringLemmas.{HasCome, IsArrival, IsBrought, MayArrive, after-more, brought-none, brought-then, come-still, may-still, one-arrives, world_after}

-- the shards of a header
pub range-below : (from n shard : ℕ) → Among shard (range_with_len from n) → shard < from + n
range-below from zero shard none = absurd none
range-below from (suc n) shard (inl same) = omega (arith, same)
range-below from (suc n) shard (inr among) = omega (arith, range-below (from + 1) n shard among)

pub range-among : (from n shard i : ℕ) → i < n → shard ≡ from + i → Among shard (range_with_len from n)
range-among from zero shard i below at = absurd (omega (arith, below))
range-among from (suc n) shard zero below at = inl (omega (arith, at))
range-among from (suc n) shard (suc i) below at = inr (range-among (from + 1) n shard i (omega (arith, below)) (omega (arith, at)))

-- what stands in a part stands in a flat map
pub among-flat : {X Y : Type 0} (f : X → List Y) (xs : List X) (x : X) (y : Y) → Among x xs → Among y (f x) → Among y (flat_map f xs)
among-flat f [] x y none there = absurd none
among-flat f (z ∷ zs) x y (inl same) there = among-left y (f z) (flat_map f zs) (subst (λ w. Among y (f w)) same there)
among-flat f (z ∷ zs) x y (inr among) there = among-right y (f z) (flat_map f zs) (among-flat f zs x y among there)

module _ (header : Header) (lines : ℕ) (cluster : ClusterNo) (known : IsCluster header cluster) where
  -- the batches of a job's message have come
  abbrev JobHasCome : World → ShardJob → Type 0
  JobHasCome v asked = (sent : Message) → asked.job ≡ Arrive sent → HasCome cluster asked.shard v sent

  -- one job in which a message arrives
  one-job : (w : World) (asked : ShardJob) → IsReached header lines w → IsArrival header cluster w asked
      → IsBrought header lines cluster w (world_after header cluster (asked ∷ []) w) × JobHasCome (world_after header cluster (asked ∷ []) w) asked
  one-job w asked is arrival =
      subst (λ (a : ShardJob). IsBrought header lines cluster w (world_after header cluster (a ∷ []) w) × JobHasCome (world_after header cluster (a ∷ []) w) a) same
      (let one = one-arrives header lines cluster known w asked.shard arrival.sent is arrival.below arrival.may in
      (one.0, λ sent e. let equal : arrival.sent ≡ sent = cc in subst (HasCome cluster asked.shard (world_after header cluster (arrives asked.shard arrival.sent ∷ []) w)) equal one.1))
    where
      same : arrives asked.shard arrival.sent ≡ asked
      same = λ i. record { shard = asked.shard; job = sym arrival.job i }

  -- many jobs, one after the other
  pub many : (jobs : List ShardJob) (w : World) → IsReached header lines w → AllByRecursion (IsArrival header cluster w) jobs
      → IsBrought header lines cluster w (world_after header cluster jobs w) × AllByRecursion (JobHasCome (world_after header cluster jobs w)) jobs
  unfolding cells_after
  many [] w is all = (subst (IsBrought header lines cluster w) (sym (same-cells cluster w)) (brought-none header lines cluster w is), tt)
  many (asked ∷ jobs) w is all =
      joined (one-job w asked is all.0)
      (λ brought. many jobs (world_after header cluster (asked ∷ []) w) brought.kept.reached
      (all-weaker (IsArrival header cluster w) (IsArrival header cluster (world_after header cluster (asked ∷ []) w))
      (λ other a. record { sent = a.sent; job = a.job; below = a.below; may = may-still header lines w (world_after header cluster (asked ∷ []) w) cluster other.shard a.sent brought.kept a.may }) jobs all.1))
    where
      middle : World
      middle = world_after header cluster (asked ∷ []) w

      joined : IsBrought header lines cluster w (world_after header cluster (asked ∷ []) w) × JobHasCome (world_after header cluster (asked ∷ []) w) asked
          → (IsBrought header lines cluster w (world_after header cluster (asked ∷ []) w)
          → IsBrought header lines cluster (world_after header cluster (asked ∷ []) w) (world_after header cluster jobs (world_after header cluster (asked ∷ []) w))
          × AllByRecursion (JobHasCome (world_after header cluster jobs (world_after header cluster (asked ∷ []) w))) jobs)
          → IsBrought header lines cluster w (world_after header cluster (asked ∷ jobs) w) × AllByRecursion (JobHasCome (world_after header cluster (asked ∷ jobs) w)) (asked ∷ jobs)
      joined one rest =
          let r = rest one.0 in
          subst (λ (v : World). IsBrought header lines cluster w v × AllByRecursion (JobHasCome v) (asked ∷ jobs)) (after-more header cluster w is.shaped known asked jobs) (
            brought-then header lines cluster w (world_after header cluster (asked ∷ []) w) (world_after header cluster jobs (world_after header cluster (asked ∷ []) w)) one.0 r.0,
            (λ sent e. come-still header lines cluster (world_after header cluster (asked ∷ []) w) (world_after header cluster jobs (world_after header cluster (asked ∷ []) w)) r.0 asked.shard sent (one.1 sent e), r.1),
          )

  -- messages by shard
  pub by-shard : (messages : ℕ → List Message) (w : World) → IsReached header lines w → ((shard : ℕ) → shard < header.shards → AllByRecursion (MayArrive header cluster shard w) (messages shard))
      → IsBrought header lines cluster w (world_after header cluster (all_arrive messages (shards_of header)) w)
      × ((shard : ℕ) (sent : Message) → shard < header.shards → Among sent (messages shard) → HasCome cluster shard (world_after header cluster (all_arrive messages (shards_of header)) w) sent)
  by-shard messages w is may =
      let m = many (all_arrive messages (shards_of header)) w is
      (all-flat (IsArrival header cluster w) (λ shard. map (arrives shard) (messages shard)) (shards_of header)
      (λ shard among. let below : shard < header.shards = omega (arith, range-below 0 header.shards shard among) in each shard below (messages shard) (may shard below))) in (
        m.0,
        λ shard sent below among. all-among (JobHasCome (world_after header cluster (all_arrive messages (shards_of header)) w)) (all_arrive messages (shards_of header)) (arrives shard sent) m.1
            (among-flat (λ s. map (arrives s) (messages s)) (shards_of header) shard (arrives shard sent) (range-among 0 header.shards shard shard below (omega arith)) (among-map (arrives shard) (messages shard) sent among))
            sent refl,
      )
    where
      each : (shard : ℕ) → shard < header.shards → (sents : List Message) → AllByRecursion (MayArrive header cluster shard w) sents → AllByRecursion (IsArrival header cluster w) (map (arrives shard) sents)
      each shard below [] all = tt
      each shard below (sent ∷ sents) all = (record { sent = sent; job = refl; below = below; may = all.0 }, each shard below sents all.1)

-- what is brought over the links of a reader
module _ (header : Header) (lines : ℕ) (w : World) (is : IsReached header lines w) where
  -- an entry of a queue may arrive where its domain names the reader
  pub entry-may : (reader source : ClusterNo) (shard : ℕ) → IsCluster header source → shard < header.shards → (sent : Message) → IsAmong (queue_at source shard w) sent
      → is_named header reader w sent.batch.domain ≡ true → MayArrive header reader shard w sent
  entry-may reader source shard known below sent among named = record {
    is_true = all-among (IsMessageTrue header shard w) (queue_at source shard w) sent (is.fair.messages source shard known below).written (is-among (queue_at source shard w) sent among);
    named = named;
  }

  -- over each link of a reader
  over-links : (P : Message → Type 0) (reader : ClusterNo) (messages : ℕ → Link → List Message) (shard : ℕ)
      → ((link : Link) → IsLinkFit header w link → link.reader ≡ reader → AllByRecursion P (messages shard link)) → AllByRecursion P (by_link reader messages w.links shard)
  over-links P reader messages shard each =
      all-flat P (λ link. if same_cluster link.reader reader then messages shard link else []) w.links
      (λ link among. by link (all-among (IsLinkFit header w) w.links link (links-fit header lines w is) among) (same_cluster link.reader reader) refl)
    where
      by : (link : Link) → IsLinkFit header w link → (t : Bool) → same_cluster link.reader reader ≡ t → AllByRecursion P (if t then messages shard link else [])
      by link fit true e = each link fit (one-cluster link.reader reader e)
      by link fit false e = tt

  pub flights-may : (reader : ClusterNo) (shard : ℕ) → shard < header.shards → AllByRecursion (MayArrive header reader shard w) (by_link reader in_flight w.links shard)
  flights-may reader shard below =
      over-links (MayArrive header reader shard w) reader in_flight shard
      (λ link fit same. all-from (MayArrive header reader shard w) (in_flight shard link)
      (λ sent among. entry-may reader link.source shard fit.ends.second below sent
      (all-among (IsAmong (queue_at link.source shard w)) (lane_in link shard).flight sent (fit.lanes shard below).is_true.flight among)
      (subst (λ (r : ClusterNo). is_named header r w sent.batch.domain ≡ true) same
      (all-among (λ m. is_named header link.reader w m.batch.domain ≡ true) (lane_in link shard).flight sent (fit.lanes shard below).named among))))

  pub due-may : (reader : ClusterNo) (shard : ℕ) → shard < header.shards → AllByRecursion (MayArrive header reader shard w) (by_link reader (due w) w.links shard)
  due-may reader shard below =
      over-links (MayArrive header reader shard w) reader (due w) shard
      (λ link fit same. all-from (MayArrive header reader shard w) (due w shard link)
      (λ sent among. let p = filter-among (is_addressed link.reader (cluster_at link.source w).table) (drop (lane_in link shard).levels.done (queue_at link.source shard w)) sent among in
      entry-may reader link.source shard fit.ends.second below sent
      (all-among (IsAmong (queue_at link.source shard w)) (drop (lane_in link shard).levels.done (queue_at link.source shard w)) sent (all-drop (IsAmong (queue_at link.source shard w)) (lane_in link shard).levels.done (queue_at link.source shard w) (all-self (queue_at link.source shard w))) p.1)
      (subst (λ (r : ClusterNo). is_named header r w sent.batch.domain ≡ true) same (named-there header w link.reader link.source sent.batch.domain fit.ends.second p.0))))
