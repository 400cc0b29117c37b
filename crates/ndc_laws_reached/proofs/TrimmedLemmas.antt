-- What is trimmed is learned by each reader to which it is addressed, or of a domain in which the reader is late.
use Rattle.std.proofs.Common.{◌≡◌, ℕ, zero, suc, ◌<◌, ◌≤◌, Bool, true, false, ◌||◌, not, cond, List, [], ◌∷◌, map, take, Option, Some, None, option_map, ◌⊎◌, inl, inr, refl, sym, ◌∙◌, subst, ap, arith, true≢false}
use Rattle.std.specs.Prelude.{find}
use Rattle.std.specs.List.{AllByRecursion, list_any}
use Rattle.std.specs.Str.{bytes_eq}
use Rattle.ndc_event.specs.declared.name.Name.{Name}
use Rattle.std.proofs.lemmas.Bool.{and_from, and_parts, eq-eqb, eqb-true}
use Rattle.ndc_script_types.specs.WellFormed.{AreTwoClusters}
use Rattle.ndc_script_types.specs.declared.script.Header.{Header}
use Rattle.ndc_model_cells.specs.declared.message.Message.{Message}
use Rattle.ndc_model_cells.specs.Cells.{is_message_learned}
use Rattle.ndc_model_cells.specs.Writing.{same_cluster}
use Rattle.ndc_domain.specs.Clusters.{count_of}
use Rattle.ndc_domain.specs.declared.clusters.ClusterNo.{ClusterNo}
use Rattle.ndc_model.specs.Facts.{IsReached}
use Rattle.ndc_model.specs.Fair.{IsLaneTrue, IsShaped, ends_of}
use Rattle.ndc_model.specs.Moves.{Trace, all_arrive, bootstrapped, jobs_done, map_from, renewed, renewed_lane, renewed_link}
use Rattle.ndc_model_cells.specs.Domains.{learned_of_domains}
use Rattle.ndc_model.specs.Queues.{is_addressed, needs_nothing}
use Rattle.ndc_model.specs.World.{Link, World, all_clusters, cell_at, changed_first, cluster_at, is_late_in, is_link, lane_in, link_at, link_found, new_link, opening_world, others_of, queue_at, shards_of, trimmed_at, with_link}
use Rattle.ndc_model_sets.proofs.Lists.{Among, all-among, among-filter, among-map, find-among, map-among}
use Rattle.ndc_laws_reached.proofs.LaneLemmas.{below-among}
use Rattle.ndc_laws_reached.proofs.LinkLemmas.{IsLinkFit, links-fit}
use Rattle.ndc_laws_cells.proofs.FoundLemmas.{find-passes}
use Rattle.ndc_laws_reached.proofs.ArrivalLaws.{bootstrapped_kept}
use Rattle.ndc_laws_reached.proofs.ManyLemmas.{among-flat, one-cluster}
use Rattle.ndc_laws_reached.specs.Trimmed.{IsLearnedOrLate, IsLearnedWhereAddressed, trimmed_of}

-- one is found, where one passes
find-some : {X : Type 0} (p : X → Bool) (xs : List X) (x : X) → Among x xs → p x ≡ true → (y : X) × (find p xs ≡ Some y)
find-some p [] x none passes = absurd none
find-some {X = X} p (z ∷ zs) x among passes = by (p z) refl among (λ rest. find-some p zs x rest passes)
  where
    by : (t : Bool) → p z ≡ t → Among x (z ∷ zs) → (Among x zs → (y : X) × (find p zs ≡ Some y)) → (y : X) × (cond t (Some z) (find p zs) ≡ Some y)
    by true e among later = (z, refl)
    by false e (inl same) later = absurd (true≢false (sym passes ∙ ap p same ∙ e))
    by false e (inr rest) later = later rest

-- a world that is shaped by its header has a link for each reader and source
pub link-there : (header : Header) (w : World) (reader source : ClusterNo) → IsShaped header w → AreTwoClusters header reader source → (link : Link) × (find (is_link reader source) w.links ≡ Some link)
link-there header w reader source shaped two =
    find-some (is_link reader source) w.links found.0 found.1
    (and_from (same_cluster found.0.reader reader) (same_cluster found.0.source source) (eq-eqb found.0.reader.number reader.number (ap (λ (e : ClusterNo × ClusterNo). e.0.number) (sym found.2)))
    (eq-eqb found.0.source.number source.number (ap (λ (e : ClusterNo × ClusterNo). e.1.number) (sym found.2))))
  where
    other : not (same_cluster reader source) ≡ true
    other = by (same_cluster reader source) refl
      where
        by : (t : Bool) → same_cluster reader source ≡ t → not t ≡ true
        by true e = absurd (two.differ (eqb-true reader.number source.number e))
        by false e = refl

    opening : Among (reader, source) (map ends_of (opening_world header).links)
    opening =
        among-map ends_of (opening_world header).links (new_link header reader source)
        (among-flat (λ r. map (new_link header r) (others_of header r)) (all_clusters header) reader (new_link header reader source) (below-among (count_of header.clusters) reader two.first)
        (among-map (new_link header reader) (others_of header reader) source (among-filter (λ o. not (same_cluster reader o)) (all_clusters header) source other (below-among (count_of header.clusters) source two.second))))

    found : (link : Link) × Among link w.links × ((reader, source) ≡ ends_of link)
    found = map-among ends_of w.links (reader, source) (subst (λ (ends : List (ClusterNo × ClusterNo)). Among (reader, source) ends) (sym shaped.links) opening)

-- what holds of a longer prefix holds of a shorter one
take-less : {X : Type 0} (P : X → Type 0) (n m : ℕ) (xs : List X) → n ≤ m → AllByRecursion P (take m xs) → AllByRecursion P (take n xs)
take-less P zero m xs less all = tt
take-less P (suc n) m [] less all = tt
take-less P (suc n) zero (x ∷ xs) less all = absurd (omega (arith, less))
take-less P (suc n) (suc m) (x ∷ xs) less all = (all.0, take-less P n m xs (omega (arith, less)) all.1)

-- what is trimmed
module _ (header : Header) (lines : ℕ) (w : World) (is : IsReached header lines w) (reader source : ClusterNo) (two : AreTwoClusters header reader source) (shard : ℕ) (below : shard < header.shards) where
  -- where nothing is to be done for a message, or it is late, and it is addressed to the reader
  either : (learned addressed late : Bool) → ((learned || not addressed) || late) ≡ true → addressed ≡ true → (learned ≡ true) ⊎ (late ≡ true)
  either true addressed late h is_addressed = inl refl
  either false true true h is_addressed = inr refl
  either false true false h is_addressed = absurd (true≢false (sym h))
  either false false late h is_addressed = absurd (true≢false (sym is_addressed))

  of-link : (link : Link) → link.reader ≡ reader → link.source ≡ source → IsLaneTrue w link shard (lane_in link shard)
      → AllByRecursion (λ sent. is_addressed reader (cluster_at source w).table sent ≡ true → (is_message_learned (cell_at reader shard w) sent ≡ true) ⊎ (is_late_in sent.batch.domain link ≡ true)) (trimmed_of source shard w)
  of-link link mine theirs t =
      subst (λ (r : ClusterNo). AllByRecursion (λ sent. is_addressed r (cluster_at source w).table sent ≡ true → (is_message_learned (cell_at r shard w) sent ≡ true) ⊎ (is_late_in sent.batch.domain link ≡ true)) (trimmed_of source shard w)) mine
      (subst (λ (s : ClusterNo). AllByRecursion (λ sent. is_addressed link.reader (cluster_at s w).table sent ≡ true → (is_message_learned (cell_at link.reader shard w) sent ≡ true) ⊎ (is_late_in sent.batch.domain link ≡ true)) (trimmed_of s shard w)) theirs
      (each (trimmed_of link.source shard w)
      (take-less (λ sent. (needs_nothing link.reader (cluster_at link.source w).table (cell_at link.reader shard w) sent || is_late_in sent.batch.domain link) ≡ true) (trimmed_at link.source w shard) (lane_in link shard).levels.done (queue_at link.source shard w) t.trimmed_most t.done)))
    where
      each : (sents : List Message) → AllByRecursion (λ sent. (needs_nothing link.reader (cluster_at link.source w).table (cell_at link.reader shard w) sent || is_late_in sent.batch.domain link) ≡ true) sents
          → AllByRecursion (λ sent. is_addressed link.reader (cluster_at link.source w).table sent ≡ true → (is_message_learned (cell_at link.reader shard w) sent ≡ true) ⊎ (is_late_in sent.batch.domain link ≡ true)) sents
      each [] all = tt
      each (sent ∷ sents) all = (
        either (is_message_learned (cell_at link.reader shard w) sent) (is_addressed link.reader (cluster_at link.source w).table sent) (is_late_in sent.batch.domain link) all.0,
        each sents all.1,
      )

  trimmed-fit : AllByRecursion (IsLearnedOrLate reader source shard w) (trimmed_of source shard w)
  trimmed-fit =
      let there = link-there header w reader source is.shaped two in
      let mine = and_parts (same_cluster there.0.reader reader) (same_cluster there.0.source source) (find-passes (is_link reader source) w.links there.0 there.1) in
      let fit = all-among (IsLinkFit header w) w.links there.0 (links-fit header lines w is) (find-among (is_link reader source) w.links there.0 there.1) in
      subst (λ (link : Link). AllByRecursion (λ sent. is_addressed reader (cluster_at source w).table sent ≡ true → (is_message_learned (cell_at reader shard w) sent ≡ true) ⊎ (is_late_in sent.batch.domain link ≡ true)) (trimmed_of source shard w))
      (sym (ap (link_found reader source) there.1))
      (of-link there.0 (one-cluster there.0.reader reader mine.0) (one-cluster there.0.source source mine.1) (fit.lanes shard below).is_true)

-- nothing is trimmed that a reader has not learned, unless it is not addressed to it or late
pub trimmed_fit : (header : Header) (lines : ℕ) (w : World) (reader source : ClusterNo) (shard : ℕ) → IsReached header lines w → AreTwoClusters header reader source → shard < header.shards
    → AllByRecursion (IsLearnedOrLate reader source shard w) (trimmed_of source shard w)
trimmed_fit header lines w reader source shard is two below = trimmed-fit header lines w is reader source two shard below

-- a link that is found, where links are changed and keep their ends
pub find-mapped : (p : Link → Bool) (change : Link → Link) (links : List Link) → ((link : Link) → p (change link) ≡ p link) → find p (map change links) ≡ option_map change (find p links)
find-mapped p change [] same = refl
find-mapped p change (link ∷ links) same = ap (λ (t : Bool). cond t (Some (change link)) (find p (map change links))) (same link) ∙ by (p link) (find-mapped p change links same)
  where
    by : (t : Bool) → find p (map change links) ≡ option_map change (find p links) → cond t (Some (change link)) (find p (map change links)) ≡ option_map change (cond t (Some link) (find p links))
    by true rest = refl
    by false rest = rest

find-changed : (p : Link → Bool) (change : Link → Link) (links : List Link) → ((link : Link) → p (change link) ≡ p link) → find p (changed_first p change links) ≡ option_map change (find p links)
find-changed p change [] same = refl
find-changed p change (link ∷ links) same = by (p link) refl (find-changed p change links same)
  where
    by : (t : Bool) → p link ≡ t → find p (changed_first p change links) ≡ option_map change (find p links)
        → find p (cond t (change link ∷ links) (link ∷ changed_first p change links)) ≡ option_map change (cond t (Some link) (find p links))
    by true e rest = ap (λ (t : Bool). cond t (Some (change link)) (find p links)) (same link ∙ e)
    by false e rest = ap (λ (t : Bool). cond t (Some link) (find p (changed_first p change links))) e ∙ rest

module _ (header : Header) (reader source : ClusterNo) where
  abbrev pub never_late : Link → Link
  never_late link = record link { late = [] }

  pub renewed-ends : (w : World) (link : Link) → is_link reader source (renewed_link w reader link) ≡ is_link reader source link
  renewed-ends w link = by (same_cluster link.reader reader)
    where
      by : (t : Bool) → is_link reader source (cond t (record link { lanes = map_from (renewed_lane w link) 0 link.lanes }) link) ≡ is_link reader source link
      by true = refl
      by false = refl

  -- nothing is late where the link was changed so, and levels were renewed
  ended-late : (v : World) (links : List Link) → v.links ≡ changed_first (is_link reader source) never_late links → (link_at reader source (renewed v reader)).late ≡ []
  unfolding renewed
  ended-late v links same =
      ap (λ (o : Option Link). (link_found reader source o).late)
      (find-mapped (is_link reader source) (renewed_link v reader) v.links (renewed-ends v)
      ∙ ap (λ (list : List Link). option_map (renewed_link v reader) (find (is_link reader source) list)) same
      ∙ ap (option_map (renewed_link v reader)) (find-changed (is_link reader source) never_late links (λ link. refl)))
      ∙ none (find (is_link reader source) links)
    where
      none : (o : Option Link) → (link_found reader source (option_map (renewed_link v reader) (option_map never_late o))).late ≡ []
      none None = refl
      none (Some link) = by (same_cluster link.reader reader)
        where
          by : (t : Bool) → (cond t (record (never_late link) { lanes = map_from (renewed_lane v (never_late link)) 0 link.lanes }) (never_late link)).late ≡ []
          by true = refl
          by false = refl

  -- nothing is late after a bootstrap
  pub none-late : (t : Trace) → (link_at reader source (bootstrapped header reader t source).world).late ≡ []
  unfolding bootstrapped jobs_done
  none-late t =
      ended-late (with_link reader source never_late (jobs_done header reader (all_arrive (λ shard. learned_of_domains (link_at reader source t.world).late (cell_at source shard t.world)) (shards_of header)) t).world) t.world.links refl

-- after a bootstrap nothing is trimmed that the reader has not learned, unless it is not addressed to it
pub bootstrapped_fit : (header : Header) (lines : ℕ) (t : Trace) (reader source : ClusterNo) (shard : ℕ) → IsReached header lines t.world → AreTwoClusters header reader source → shard < header.shards
    → AllByRecursion (IsLearnedWhereAddressed reader source shard (bootstrapped header reader t source).world) (trimmed_of source shard (bootstrapped header reader t source).world)
bootstrapped_fit header lines t reader source shard is two below =
    each (trimmed_of source shard v) (trimmed_fit header lines v reader source shard (bootstrapped_kept header lines reader source t two is) two below)
  where
    v : World
    v = (bootstrapped header reader t source).world

    each : (sents : List Message) → AllByRecursion (IsLearnedOrLate reader source shard v) sents → AllByRecursion (IsLearnedWhereAddressed reader source shard v) sents
    each [] all = tt
    each (sent ∷ sents) all = (λ addressed. by (all.0 addressed), each sents all.1)
      where
        by : (is_message_learned (cell_at reader shard v) sent ≡ true) ⊎ (is_late_in sent.batch.domain (link_at reader source v) ≡ true) → is_message_learned (cell_at reader shard v) sent ≡ true
        by (inl learned) = learned
        by (inr late) = absurd (true≢false (sym late ∙ ap (λ (names : List Name). list_any (λ one. bytes_eq one sent.batch.domain) names) (none-late header reader source t)))
