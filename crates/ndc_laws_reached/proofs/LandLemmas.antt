-- Where an entry lands that is written: its cell, and all that was written in its shard.
use Rattle.std.proofs.Common.{◌≡◌, ◌<◌, ℕ, zero, suc, Bool, true, false, List, [], ◌∷◌, ◌++◌, length, slice_index_or, slice_set, ◌⊎◌, inl, inr, Option, Some, None, refl, sym, ◌∙◌, subst, ap, arith, IfSome, ◌&&◌}
use Rattle.std.specs.List.{AllByRecursion, filter, flat_map}
use Rattle.std.specs.Option.{option_or}
use Rattle.std.specs.Str.{bytes_eq}
use Rattle.std.proofs.lemmas.Grind.{flat_map-append}
use Rattle.std.proofs.lemmas.List.{append-nil, length-set}
use Rattle.ndc_script_types.specs.WellFormed.{IsCluster}
use Rattle.ndc_script_types.specs.declared.script.Header.{Header}
use Rattle.ndc_model_cells.specs.declared.place.Place.{Place}
use Rattle.ndc_model_cells.specs.Cells.{Cell, both, empty_cell, learned_of}
use Rattle.ndc_model_cells.specs.Jobs.{cell_for}
use Rattle.ndc_model_cells.specs.Places.{AreInOrder, batch_there, in_order, is_of, place_of, placed}
use Rattle.ndc_model_cells.specs.Shards.{shard_of}
use Rattle.ndc_model_cells.specs.Writing.{entry_message, with_batches, with_written}
use Rattle.ndc_model_cells.proofs.CellLemmas.{filter-both}
use Rattle.ndc_model_cells.proofs.PlaceLemmas.{filter-own}
use Rattle.ndc_domain.specs.Clusters.{count_of, writer_of}
use Rattle.ndc_domain.specs.Records.{record_of}
use Rattle.ndc_domain.specs.declared.clusters.ClusterNo.{ClusterNo}
use Rattle.ndc_domain.specs.declared.record.DomainRecord.{DomainRecord}
use Rattle.ndc_event.specs.declared.batch.Batch.{Batch}
use Rattle.ndc_event.specs.declared.name.Name.{Name}
use Rattle.ndc_model.specs.Facts.{IsReached}
use Rattle.ndc_model.specs.Fair.{IsShaped, written_of}
use Rattle.ndc_model.specs.Moves.{all_written}
use Rattle.ndc_model.specs.World.{Cluster, World, all_clusters, cell_at, cluster_at, new_cluster}
use Rattle.ndc_model.proofs.ListLemmas.{all-set, set-there}
use Rattle.ndc_model.proofs.WorldLemmas.{cells-cases, set-cases}
use Rattle.ndc_model_sets.specs.Sets.{batch_at}
use Rattle.ndc_laws_reached.specs.Writing.{with_cell}
use Rattle.ndc_laws_cells.proofs.FoundLemmas.{at-there, in_order-ordered, order-finds, there-among, there-place}
use Rattle.ndc_laws_reached.proofs.WrittenLemmas.{arrived-written, names-of, ordered, own-names}
use Rattle.ndc_laws_cells.proofs.OrderLemmas.{IsMore, flat-more, flat-same, order-there, same-arrivals}
use Rattle.ndc_laws_cells.proofs.PairLemmas.{AreNew, entry_with, joined, middle-there, more, more-order, more-own, more-there, new-less, new-none, news}
use Rattle.ndc_laws_cells.specs.Entries.{IsSecond, IsWrite}
use Rattle.ndc_laws_cells.proofs.NamedLemmas.{either-way}

all-at : {X : Type 0} (P : X → Type 0) (xs : List X) (i : ℕ) (d : X) → AllByRecursion P xs → i < length xs → P (slice_index_or xs i d)
all-at P [] i d all less = absurd (omega (arith, less))
all-at P (x ∷ xs) zero d all less = all.0
all-at P (x ∷ xs) (suc i) d all less = all-at P xs i d all.1 (omega (arith, less))

-- a world in which a cell took the place of another
module _ (header : Header) (w : World) (shaped : IsShaped header w) (cluster : ClusterNo) (known : IsCluster header cluster) (shard : ℕ) (below : shard < header.shards) (new : Cell) where
  abbrev v : World
  v = with_cell cluster shard new w

  pub cell-here : cell_at cluster shard v ≡ new
  cell-here =
      ap (λ (c : Cluster). cell_for shard c.cells) (set-there w.clusters cluster.number _ (new_cluster 0) (omega (arith, known, shaped.clusters)))
      ∙ set-there (cluster_at cluster w).cells shard new empty_cell
      (let many = all-at (λ (c : Cluster). length c.cells ≡ header.shards) w.clusters cluster.number (new_cluster 0) shaped.cells (omega (arith, known, shaped.clusters)) in omega (arith, many, below))

  pub cell-other : (other : ClusterNo) (place : ℕ) → (other.number ≡ cluster.number → place ≡ shard → ⊥) → cell_at other place v ≡ cell_at other place w
  cell-other other place apart =
      cells-cases (λ c. c ≡ cell_at other place w) cluster other place (slice_set (cluster_at cluster w).cells shard new) w
      (λ at. set-cases (λ c. c ≡ cell_at other place w) (cluster_at cluster w).cells shard place new empty_cell
      (λ in_shard. absurd (apart at in_shard))
      (ap (λ n. cell_for place (slice_index_or w.clusters n (new_cluster 0)).cells) (sym at))) refl

  -- a cell of the world: the new one at its place, or the one before
  pub by-cell : (P : ClusterNo → ℕ → Cell → Type 0) → P cluster shard new → (other : ClusterNo) (place : ℕ) → P other place (cell_at other place w) → P other place (cell_at other place v)
  by-cell P here other place there =
      cells-cases (P other place) cluster other place (slice_set (cluster_at cluster w).cells shard new) w
      (λ at. set-cases (P other place) (cluster_at cluster w).cells shard place new empty_cell
      (λ in_shard. subst (λ (n : ℕ). P other n new) (sym in_shard) (subst (λ (n : ℕ). P (record { number = n }) shard new) (sym at) here))
      (subst (λ (n : ℕ). P other place (cell_for place (slice_index_or w.clusters n (new_cluster 0)).cells)) at there)) there

  -- a part of a cluster that is none of its cells
  pub by-part : {X : Type 0} (part : Cluster → X) → ((c : Cluster) (cells : List Cell) → part (record c { cells = cells }) ≡ part c) → (other : ClusterNo) → part (cluster_at other v) ≡ part (cluster_at other w)
  by-part part same other =
      set-cases (λ (c : Cluster). part c ≡ part (cluster_at other w)) w.clusters cluster.number other.number _ (new_cluster 0)
      (λ at. same (cluster_at cluster w) _ ∙ ap (λ (n : ℕ). part (slice_index_or w.clusters n (new_cluster 0))) (sym at)) refl

  pub still-shaped : IsShaped header v
  still-shaped = record {
    clusters = length-set w.clusters cluster.number _ ∙ shaped.clusters;
    cells = all-set (λ c. length c.cells ≡ header.shards) w.clusters cluster.number _
        (length-set (cluster_at cluster w).cells shard new ∙ all-at (λ (c : Cluster). length c.cells ≡ header.shards) w.clusters cluster.number (new_cluster 0) shaped.cells (omega (arith, known, shaped.clusters))) shaped.cells;
    links = shaped.links;
    ends = shaped.ends;
    lanes = shaped.lanes;
    sources = shaped.sources;
    trimmed = shaped.trimmed;
  }

-- an entry that a cluster may write: the version is its own, and that of its record of the domain
pub record IsWritable (header : Header) (cluster : ClusterNo) (w : World) (originals : ℕ) (b : Batch) (second : Option Batch) : Type 0 where
  pub writer : writer_of header.clusters b.key.version ≡ Some cluster
  pub found : DomainRecord
  pub has : record_of (cluster_at cluster w).table b.domain ≡ Some found
  pub version_is : found.version ≡ b.key.version
  pub write : IsWrite (written_of header b.domain b.workflow w) (learned_of b.domain b.workflow (cell_at cluster (shard_of b.domain b.workflow header.shards) w)) b.domain b.workflow b.key.version originals (entry_with b second)

-- a cluster of a world that is as it should be, and an entry that it may write
pub record Write : Type 0 where
  pub header : Header
  pub lines : ℕ
  pub w : World
  pub is : IsReached header lines w
  pub cluster : ClusterNo
  pub known : IsCluster header cluster
  pub b : Batch
  pub second : Option Batch
  pub originals : ℕ
  pub below : shard_of b.domain b.workflow header.shards < header.shards
  pub may : IsWritable header cluster w originals b second

module _ (it : Write) where
  open it use {header, lines, w, is, cluster, known, b, second, originals, below, may}

  abbrev pub home : ℕ
  home = shard_of b.domain b.workflow header.shards

  abbrev pub cell : Cell
  cell = cell_at cluster home w

  abbrev pub new : Cell
  new = with_written (entry_with b second) cell

  abbrev pub behind : World
  behind = with_cell cluster home new w

  abbrev pub here : List Batch
  here = all_written header home w

  abbrev pub own : List Batch
  own = written_of header b.domain b.workflow w

  -- what is read of clusters in a shard
  abbrev pub flat : World → ℕ → List Batch
  flat x shard = flat_map (λ c. flat_map both (cell_at c shard x).written) (all_clusters header)

  pub here-ordered : AreInOrder here
  here-ordered = ordered header lines w is home below

  pub are-new : AreNew here b second
  are-new = record { first = sym (at-there b.domain b.workflow b.key here) ∙ may.write.added.fresh; second_new = by second may.write.second }
    where
      by : (o : Option Batch) → IfSome o (IsSecond own b) → IfSome o (λ s. batch_there (placed b here) (place_of s) ≡ None)
      by None e = tt
      by (Some s) e =
          let place : place_of s ≡ record { domain = b.domain; workflow = b.workflow; key = s.key } = λ i. record { domain = e.domain_is i; workflow = e.workflow_is i; key = s.key } in
          ap (batch_there (placed b here)) place
          ∙ sym (at-there b.domain b.workflow s.key (placed b here))
          ∙ ap (batch_at s.key) (filter-own b.domain b.workflow b (own-names b) here here-ordered)
          ∙ e.added.fresh

  -- the second is of the same workflow
  pub second-own : IfSome second (λ s. is_of b.domain b.workflow s ≡ true)
  second-own = by second may.write.second
    where
      by : (o : Option Batch) → IfSome o (IsSecond own b) → IfSome o (λ s. is_of b.domain b.workflow s ≡ true)
      by None e = tt
      by (Some s) e = subst (λ (d : Name). is_of d b.workflow s ≡ true) e.domain_is (subst (λ (u : Name). is_of s.domain u s ≡ true) e.workflow_is (own-names s))

  -- and of no other
  pub second-other : (domain workflow : Name) → is_of domain workflow b ≡ false → IfSome second (λ s. is_of domain workflow s ≡ false)
  second-other domain workflow other = by second may.write.second
    where
      by : (o : Option Batch) → IfSome o (IsSecond own b) → IfSome o (λ s. is_of domain workflow s ≡ false)
      by None e = tt
      by (Some s) e = subst (λ (d : Name). (bytes_eq d domain && bytes_eq s.workflow workflow) ≡ false) (sym e.domain_is) (subst (λ (u : Name). (bytes_eq b.domain domain && bytes_eq u workflow) ≡ false) (sym e.workflow_is) other)

  -- what was not written in the shard has not arrived
  pub none-arrived : (other : ClusterNo) → IsCluster header other → (q : Place) → batch_there here q ≡ None → batch_there (cell_at other home w).arrived q ≡ None
  none-arrived other there q none = by (batch_there (cell_at other home w).arrived q) refl
    where
      by : (o : Option Batch) → batch_there (cell_at other home w).arrived q ≡ o → o ≡ None
      by None e = refl
      by (Some x) e =
          let among = arrived-written header lines w is home below other there x (there-among (cell_at other home w).arrived q x e) in
          let found : batch_there here q ≡ Some x = subst (λ (p : Place). batch_there here p ≡ Some x) (sym (there-place (cell_at other home w).arrived q x e)) (order-finds here x here-ordered among) in
          let both_are : Some x ≡ None = sym found ∙ none in
          both_are

  pub cell-ordered : AreInOrder cell.arrived
  cell-ordered = (is.fair.arrivals cluster home known below).once

  pub new-to-cell : AreNew cell.arrived b second
  new-to-cell = new-less b second here cell.arrived here-ordered cell-ordered (none-arrived cluster known) are-new

  -- all that was written in the shard is with the entry more
  pub flat-here : IsMore (flat w home) (news b second) (flat behind home)
  flat-here =
      flat-more (λ c. flat_map both (cell_at c home w).written) (λ c. flat_map both (cell_at c home behind).written) (count_of header.clusters) cluster (news b second) known
      (ap (λ (c : Cell). flat_map both c.written) (cell-here header w is.shaped cluster known home below new)
      ∙ flat_map-append both cell.written (entry_message (entry_with b second) (with_batches (entry_with b second) cell) ∷ []) ∙ ap (λ l. flat_map both cell.written ++ l) (append-nil (news b second)))
      (λ c apart. ap (λ (x : Cell). flat_map both x.written) (sym (cell-other header w is.shaped cluster known home below new c home (λ e _. apart e))))

  pub flat-there : (shard : ℕ) → (shard ≡ home → ⊥) → flat behind shard ≡ flat w shard
  flat-there shard apart =
      flat-same (λ c. flat_map both (cell_at c shard behind).written) (λ c. flat_map both (cell_at c shard w).written) (count_of header.clusters)
      (λ c _. ap (λ (x : Cell). flat_map both x.written) (cell-other header w is.shaped cluster known home below new c shard (λ _ e. apart e)))

  pub flat-found : (x : World) (shard : ℕ) (q : Place) → batch_there (all_written header shard x) q ≡ batch_there (flat x shard) q
  flat-found x shard q = order-there (flat x shard) [] q tt

  pub all-here : all_written header home behind ≡ more b second here
  all-here = same-arrivals (all_written header home behind) (more b second here) (in_order-ordered (flat behind home) [] tt) (more-order b second here here-ordered) found
    where
      none : (q : Place) (x : Batch) → batch_there (news b second) q ≡ Some x → batch_there (flat-here.front ++ flat-here.back) q ≡ None
      none q x e =
          ap (λ l. batch_there l q) (sym flat-here.before) ∙ sym (flat-found w home q)
          ∙ subst (λ (p : Place). batch_there here p ≡ None) (sym (there-place (news b second) q x e)) (new-none b second here x here-ordered are-new (there-among (news b second) q x e))

      found : (q : Place) → batch_there (all_written header home behind) q ≡ batch_there (more b second here) q
      found q =
          flat-found behind home q ∙ ap (λ l. batch_there l q) flat-here.after ∙ middle-there flat-here.front (news b second) flat-here.back q (none q)
          ∙ ap (λ l. option_or (batch_there l q) (batch_there (news b second) q)) (sym flat-here.before)
          ∙ ap (λ o. option_or o (batch_there (news b second) q)) (sym (flat-found w home q))
          ∙ sym (more-there b second here q here-ordered)

  pub all-there : (shard : ℕ) → (shard ≡ home → ⊥) → all_written header shard behind ≡ all_written header shard w
  all-there shard apart = ap in_order (flat-there shard apart)

  -- all that was written in a shard, by whether it is the entry's
  pub shard-cases : (Q : ℕ → List Batch → Type 0) → Q home (more b second here) → (shard : ℕ) → Q shard (all_written header shard w) → Q shard (all_written header shard behind)
  shard-cases Q mine shard old = by (either-way shard home)
    where
      other : (shard ≡ home → ⊥) → Q shard (all_written header shard behind)
      other apart = subst (Q shard) (sym (all-there shard apart)) old

      by : (shard < home) ⊎ ((shard ≡ home) ⊎ (home < shard)) → Q shard (all_written header shard behind)
      by (inl l) = other (λ e. omega (arith, l, e))
      by (inr (inl e)) = subst (λ n. Q n (all_written header n behind)) (sym e) (subst (Q home) (sym all-here) mine)
      by (inr (inr l)) = other (λ e. omega (arith, l, e))

  pub written-own : written_of header b.domain b.workflow behind ≡ joined b second own
  written-own = ap (filter (is_of b.domain b.workflow)) all-here ∙ more-own b.domain b.workflow b second here here-ordered (own-names b) second-own

  pub written-other : (domain workflow : Name) → is_of domain workflow b ≡ false → written_of header domain workflow behind ≡ written_of header domain workflow w
  written-other domain workflow other =
      by (either-way (shard_of domain workflow header.shards) home)
    where
      by : (shard_of domain workflow header.shards < home) ⊎ ((shard_of domain workflow header.shards ≡ home) ⊎ (home < shard_of domain workflow header.shards)) → written_of header domain workflow behind ≡ written_of header domain workflow w
      by (inl l) = ap (filter (is_of domain workflow)) (all-there (shard_of domain workflow header.shards) (λ e. omega (arith, l, e)))
      by (inr (inl e)) =
          ap (λ n. filter (is_of domain workflow) (all_written header n behind)) e
          ∙ ap (filter (is_of domain workflow)) all-here ∙ filter-both (is_of domain workflow) b second here other (second-other domain workflow other)
          ∙ sym (ap (λ n. filter (is_of domain workflow) (all_written header n w)) e)
      by (inr (inr l)) = ap (filter (is_of domain workflow)) (all-there (shard_of domain workflow header.shards) (λ e. omega (arith, l, e)))

  -- all that was written of a workflow, by whether it is the entry's
  pub written-cases : (P : Name → Name → List Batch → Type 0) → P b.domain b.workflow (joined b second own) → (domain workflow : Name) → P domain workflow (written_of header domain workflow w)
      → P domain workflow (written_of header domain workflow behind)
  written-cases P mine domain workflow old = by (is_of domain workflow b) refl
    where
      by : (t : Bool) → is_of domain workflow b ≡ t → P domain workflow (written_of header domain workflow behind)
      by true e =
          let n = names-of domain workflow b e in
          subst (λ d. P d workflow (written_of header d workflow behind)) n.0 (subst (λ u. P b.domain u (written_of header b.domain u behind)) n.1 (subst (P b.domain b.workflow) (sym written-own) mine))
      by false e = subst (P domain workflow) (sym (written-other domain workflow e)) old
