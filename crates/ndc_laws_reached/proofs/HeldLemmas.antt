-- What the cell of a writer holds and has learned after an entry.
use Rattle.std.proofs.Common.{◌≡◌, ℕ, true, is_some, List, [], ◌∷◌, ◌++◌, ◌⊎◌, inl, inr, Option, Some, None, refl, sym, ◌∙◌, subst, ap, arith, IfSome, option_to_list}
use Rattle.std.specs.List.{AllByRecursion, flat_map}
use Rattle.std.proofs.lemmas.Grind.{flat_map-append}
use Rattle.std.proofs.lemmas.List.{append-nil}
use Rattle.ndc_model_cells.specs.Cells.{Cell, IsCell, arrived_of, both, learned_of}
use Rattle.ndc_model_cells.specs.Places.{is_of}
use Rattle.ndc_model_cells.specs.Shards.{shard_of}
use Rattle.ndc_model_cells.specs.Writing.{with_written}
use Rattle.ndc_model_cells.proofs.PlaceLemmas.{set_of_workflow, writing_keeps, writing_only_adds, written_arrives}
use Rattle.ndc_domain.specs.Clusters.{writer_of}
use Rattle.ndc_domain.specs.Records.{record_of}
use Rattle.ndc_domain.specs.declared.clusters.ClusterNo.{ClusterNo}
use Rattle.ndc_domain.specs.declared.record.DomainRecord.{DomainRecord}
use Rattle.ndc_event.specs.declared.batch.Batch.{Batch}
use Rattle.ndc_event.specs.declared.key.BatchKey.{BatchKey}
use Rattle.ndc_event.specs.declared.name.Name.{Name}
use Rattle.ndc_model.specs.Fair.{IsOwn, WritersUseOwnVersions, written_of}
use Rattle.ndc_model.specs.World.{World, cell_at, cluster_at}
use Rattle.ndc_model.proofs.ListLemmas.{all-append}
use Rattle.ndc_model_sets.specs.Learned.{IsPart, has_key, itself, learned}
use Rattle.ndc_model_sets.specs.Sets.{Has, IsSet, PointsBack, arrived, batch_at, earlier, earlier_of}
use Rattle.ndc_model_sets.proofs.ArrivalLemmas.{arrival_keeps_sets, is_there, only_adds, stays, waited_learned, was_or_new}
use Rattle.ndc_model_sets.proofs.BranchLemmas.{has-among}
use Rattle.ndc_model_sets.proofs.Lists.{Among, all-from, filter-among}
use Rattle.ndc_model_sets.proofs.SetLemmas.{found-has, found-key}
use Rattle.ndc_laws_cells.proofs.FoundLemmas.{at-there}
use Rattle.ndc_laws_reached.proofs.WrittenLemmas.{arrived-written, cell-is, has-written, names-of, own-names}
use Rattle.ndc_laws_reached.proofs.JoinedLemmas.{first-back, second-back}
use Rattle.ndc_laws_reached.proofs.LandLemmas.{Write, behind, by-cell, by-part, new-to-cell, second-own}
use Rattle.ndc_laws_cells.proofs.PairLemmas.{entry_with, joined, news}
use Rattle.ndc_laws_reached.proofs.WroteLemmas.{old-sound}
use Rattle.ndc_laws_cells.specs.Entries.{IsSecond}

-- what is new to a set, and learned as its earlier key is
module _ (bs : List Batch) (set : IsSet bs) (b : Batch) (back : PointsBack b) (fresh : batch_at b.key bs ≡ None) (reached : has_key (earlier b) (learned bs) ≡ true) where
  first-learned : Has (learned (arrived b bs)) b
  first-learned = waited_learned bs b b set back fresh reached itself

  -- each batch of an entry is learned
  pub joined-learned : (second : Option Batch) → IfSome second (λ s. (earlier s ≡ Some b.key) × PointsBack s × (batch_at s.key (arrived b bs) ≡ None)) → (x : Batch) → Among x (news b second) → Has (learned (joined b second bs)) x
  joined-learned None e x (inl same) = subst (λ (y : Batch). Has (learned (arrived b bs)) y) (sym same) first-learned
  joined-learned None e x (inr h) = absurd h
  joined-learned (Some s) e x (inl same) =
      subst (λ (y : Batch). Has (learned (arrived s (arrived b bs))) y) (sym same) (only_adds (arrived b bs) s (arrival_keeps_sets b bs set back) e.1 b first-learned)
  joined-learned (Some s) e x (inr (inl same)) =
      subst (λ (y : Batch). Has (learned (arrived s (arrived b bs))) y) (sym same)
      (waited_learned (arrived b bs) s s (arrival_keeps_sets b bs set back) e.1 e.2 (ap (λ o. has_key o (learned (arrived b bs))) e.0 ∙ ap is_some first-learned) itself)
  joined-learned (Some s) e x (inr (inr h)) = absurd h

module _ (it : Write) where
  open it use {header, lines, w, is, cluster, known, b, second, originals, below, may}

  abbrev at : ℕ
  at = shard_of b.domain b.workflow header.shards

  abbrev old : List Batch
  old = written_of header b.domain b.workflow w

  abbrev v : World
  v = behind it

  abbrev cell : Cell
  cell = cell_at cluster at w

  abbrev new : Cell
  new = with_written (entry_with b second) cell

  -- what has arrived of the workflow
  abbrev held : List Batch
  held = arrived_of b.domain b.workflow cell

  pub cell-fit : IsCell cell
  cell-fit = cell-is header lines w is at below cluster known

  pub back-first : PointsBack b
  back-first = first-back old b (old-sound it) may.write.added

  pub back-second : IfSome second PointsBack
  back-second = second-back old b second may.write.added may.write.second

  pub new-fit : IsCell new
  new-fit = writing_keeps (entry_with b second) cell cell-fit back-first back-second

  pub learned-more : (domain workflow : Name) → IsPart (learned_of domain workflow cell) (learned_of domain workflow new)
  learned-more domain workflow = writing_only_adds domain workflow (entry_with b second) cell cell-fit back-first back-second

  pub arrived-own : arrived_of b.domain b.workflow new ≡ joined b second held
  arrived-own = written_arrives b.domain b.workflow (entry_with b second) cell cell-fit back-first (own-names b) (second-own it)

  pub held-set : IsSet held
  held-set = set_of_workflow b.domain b.workflow cell cell-fit

  pub held-within : IsPart held old
  held-within x has =
      let p = filter-among (is_of b.domain b.workflow) cell.arrived x (has-among held x has) in
      let n = names-of b.domain b.workflow x p.0 in
      let there = has-written header lines w is at below x (arrived-written header lines w is at below cluster known x p.1) in
      subst (λ d. Has (written_of header d b.workflow w) x) n.0 (subst (λ u. Has (written_of header x.domain u w) x) n.1 there)

  fresh-first : batch_at b.key held ≡ None
  fresh-first = at-there b.domain b.workflow b.key cell.arrived ∙ (new-to-cell it).first

  second-facts : IfSome second (λ s. (earlier s ≡ Some b.key) × PointsBack s × (batch_at s.key (arrived b held) ≡ None))
  second-facts = by second may.write.second back-second
    where
      by : (o : Option Batch) → IfSome o (IsSecond old b) → IfSome o PointsBack → IfSome o (λ s. (earlier s ≡ Some b.key) × PointsBack s × (batch_at s.key (arrived b held) ≡ None))
      by None e p = tt
      by (Some s) e p = (ap (λ o. earlier_of o s.carrier) e.parent ∙ e.carrier, p, none s e.added.fresh)
        where
          none : (s : Batch) → batch_at s.key (arrived b old) ≡ None → batch_at s.key (arrived b held) ≡ None
          none s e = less (batch_at s.key (arrived b held)) refl
            where
              less : (o : Option Batch) → batch_at s.key (arrived b held) ≡ o → o ≡ None
              less None f = refl
              less (Some x) f =
                  let same : x.key ≡ s.key = found-key (arrived b held) s.key x f in
                  let there = in-old x (was_or_new b held x held-set.ordered (found-has (arrived b held) s.key x f)) in
                  let both : Some x ≡ None = sym (subst (λ (k : BatchKey). batch_at k (arrived b old) ≡ Some x) same there) ∙ e in
                  both
                where
                  in-old : (x : Batch) → (x ≡ b) ⊎ Has held x → Has (arrived b old) x
                  in-old x (inl e) = subst (λ (y : Batch). Has (arrived b old) y) (sym e) (is_there b old (old-sound it).set.ordered may.write.added.fresh)
                  in-old x (inr h) = stays b old (old-sound it).set.ordered x (held-within x h)

  -- the batches of the entry are learned
  pub news-learned : (x : Batch) → Among x (news b second) → Has (learned_of b.domain b.workflow new) x
  news-learned x h =
      subst (λ (l : List Batch). Has (learned l) x) (sym arrived-own)
      (joined-learned held held-set b back-first fresh-first may.write.reached second second-facts x h)

  -- they are of the workflow, and of the version
  pub news-names : (x : Batch) → Among x (news b second) → (x.domain ≡ b.domain) × (x.workflow ≡ b.workflow) × (x.key.version ≡ b.key.version)
  news-names x (inl same) = (ap (λ (y : Batch). y.domain) same, ap (λ (y : Batch). y.workflow) same, ap (λ (y : Batch). y.key.version) same)
  news-names x (inr h) = by second may.write.second h
    where
      by : (o : Option Batch) → IfSome o (IsSecond old b) → Among x (option_to_list o) → (x.domain ≡ b.domain) × (x.workflow ≡ b.workflow) × (x.key.version ≡ b.key.version)
      by None e k = absurd k
      by (Some s) e (inl same) = (ap (λ (y : Batch). y.domain) same ∙ e.domain_is, ap (λ (y : Batch). y.workflow) same ∙ e.workflow_is, ap (λ (y : Batch). y.key.version) same ∙ e.version_is)
      by (Some s) e (inr k) = absurd k

  pub news-own-learned : (x : Batch) → Among x (news b second) → Has (learned_of x.domain x.workflow new) x
  news-own-learned x h =
      let n = news-names x h in
      subst (λ d. Has (learned_of d x.workflow new) x) (sym n.0) (subst (λ u. Has (learned_of b.domain u new) x) (sym n.1) (news-learned x h))

  -- no table changes
  pub table-same : (other : ClusterNo) → (cluster_at other v).table ≡ (cluster_at other w).table
  table-same other = by-part header w is.shaped cluster known at below new (λ c. c.table) (λ c cells. refl) other

  new-own : (x : Batch) → Among x (news b second) → IsOwn header cluster at (cluster_at cluster w).table new x
  new-own x h =
      let n = news-names x h in
      record {
        lives = subst (λ d. shard_of d x.workflow header.shards ≡ at) (sym n.0) (ap (λ u. shard_of b.domain u header.shards) n.1);
        version = ap (writer_of header.clusters) n.2 ∙ may.writer;
        learned = news-own-learned x h;
        recorded = record { found = may.found; has = ap (record_of (cluster_at cluster w).table) n.0 ∙ may.has; least = (let e = may.version_is in let m = n.2 in omega (arith, e, m)) };
      }

  still-own : (bs : List Batch) → AllByRecursion (IsOwn header cluster at (cluster_at cluster w).table cell) bs → AllByRecursion (IsOwn header cluster at (cluster_at cluster w).table new) bs
  still-own [] all = tt
  still-own (x ∷ xs) all =
      (record { lives = all.0.lives; version = all.0.version; learned = learned-more x.domain x.workflow x all.0.learned; recorded = all.0.recorded }, still-own xs all.1)

  pub writers-kept : WritersUseOwnVersions header v
  writers-kept other shard there less =
      subst (λ (t : List DomainRecord). AllByRecursion (IsOwn header other shard t (cell_at other shard v)) (flat_map both (cell_at other shard v).written)) (sym (table-same other))
      (by-cell header w is.shaped cluster known at below new (λ o p c. AllByRecursion (IsOwn header o p (cluster_at o w).table c) (flat_map both c.written))
      (subst (AllByRecursion (IsOwn header cluster at (cluster_at cluster w).table new)) (sym (flat_map-append both cell.written _ ∙ ap (λ l. flat_map both cell.written ++ l) (append-nil (news b second))))
      (all-append (IsOwn header cluster at (cluster_at cluster w).table new) (flat_map both cell.written) (news b second) (still-own (flat_map both cell.written) (is.fair.writers cluster at known below))
      (all-from (IsOwn header cluster at (cluster_at cluster w).table new) (news b second) new-own)))
      other shard (is.fair.writers other shard there less))
