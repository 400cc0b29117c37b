-- What was written in a world that is as it should be.
pub use Rattle.ndc_laws_cells.proofs.Lists.{flat-among}
pub use Rattle.ndc_laws_cells.proofs.NameLemmas.{names-of, own-names, wanted-some}
use Rattle.std.proofs.Common.{◌≡◌, ℕ, ◌<◌, Bool, true, false, if◌then◌else◌, List, [], ◌∷◌, length, Some, ◌⊎◌, inl, inr, sym, ◌∙◌, subst, ap, arith}
use Rattle.std.specs.List.{filter, flat_map, fold}
use Rattle.std.specs.Prelude.{is_some}
use Rattle.std.proofs.lemmas.Bool.{and_parts}
use Rattle.ndc_script_types.specs.WellFormed.{IsCluster}
use Rattle.ndc_script_types.specs.declared.script.Header.{Header}
use Rattle.ndc_model_cells.specs.declared.place.Place.{Place}
use Rattle.ndc_model_cells.specs.Cells.{IsCell, both, carries}
use Rattle.ndc_model_cells.specs.Places.{AreInOrder, batch_there, is_at, is_of, place_lt, place_of, placed}
use Rattle.ndc_model_cells.specs.Shards.{shard_of}
use Rattle.ndc_domain.specs.Clusters.{count_of}
use Rattle.ndc_domain.specs.declared.clusters.ClusterNo.{ClusterNo}
use Rattle.ndc_event.specs.declared.batch.Batch.{Batch}
use Rattle.ndc_model.specs.Facts.{IsReached}
use Rattle.ndc_model.specs.Fair.{IsOwn, written_of}
use Rattle.ndc_model.specs.Moves.{all_written}
use Rattle.ndc_model.specs.World.{World, all_clusters, cell_at, cluster_at}
use Rattle.ndc_model.proofs.FairLemmas.{clusters-among}
use Rattle.ndc_model_sets.specs.Paths.{is_wanted}
use Rattle.ndc_model_sets.specs.Sets.{Has, PointsBack}
use Rattle.ndc_model_sets.specs.Sound.{IsSound}
use Rattle.ndc_model_sets.proofs.Lists.{Among, all-among, all-from, among-filter}
use Rattle.ndc_model_sets.proofs.SoundLemmas.{faultless-back}
use Rattle.ndc_laws_cells.proofs.FoundLemmas.{at-there, in_order-ordered, order-finds, there-among}
use Rattle.ndc_model_cells.specs.Writing.{goes_on}

-- what was put into order was there
pub among-placed : (new x : Batch) (bs : List Batch) → Among x (placed new bs) → (x ≡ new) ⊎ Among x bs
among-placed new x [] (inl same) = inl same
among-placed new x [] (inr none) = absurd none
among-placed new x (b ∷ bs) among = by (place_lt (place_of new) (place_of b)) (is_at (place_of new) b) (among-placed new x bs) among
  where
    by : (s t : Bool) → (Among x (placed new bs) → (x ≡ new) ⊎ Among x bs) → Among x (if s then new ∷ b ∷ bs else if t then b ∷ bs else b ∷ placed new bs) → (x ≡ new) ⊎ Among x (b ∷ bs)
    by true t rest (inl same) = inl same
    by true t rest (inr among) = inr among
    by false true rest among = inr among
    by false false rest (inl same) = inr (inl same)
    by false false rest (inr among) = more (rest among)
      where
        more : (x ≡ new) ⊎ Among x bs → (x ≡ new) ⊎ Among x (b ∷ bs)
        more (inl same) = inl same
        more (inr there) = inr (inr there)

pub in_order-among : (bs front : List Batch) (x : Batch) → Among x (fold (λ ordered b. placed b ordered) front bs) → Among x front ⊎ Among x bs
in_order-among [] front x among = inl among
in_order-among (b ∷ bs) front x among = by (in_order-among bs (placed b front) x among)
  where
    old : (x ≡ b) ⊎ Among x front → Among x front ⊎ Among x (b ∷ bs)
    old (inl same) = inr (inl same)
    old (inr there) = inl there

    by : Among x (placed b front) ⊎ Among x bs → Among x front ⊎ Among x (b ∷ bs)
    by (inl there) = old (among-placed b x front there)
    by (inr later) = inr (inr later)

module _ (header : Header) (lines : ℕ) (w : World) (is : IsReached header lines w) (shard : ℕ) (below : shard < header.shards) where
  abbrev all : List Batch
  all = all_written header shard w

  pub ordered : AreInOrder all
  ordered = in_order-ordered (flat_map (λ c. flat_map both (cell_at c shard w).written) (all_clusters header)) [] tt

  -- batches of one place are one
  pub one-written : (b x : Batch) → Among b all → Among x all → place_of b ≡ place_of x → b ≡ x
  one-written b x first second same =
      let one : batch_there all (place_of x) ≡ Some b = subst (λ (p : Place). batch_there all p ≡ Some b) same (order-finds all b ordered first) in
      let two : batch_there all (place_of x) ≡ Some x = order-finds all x ordered second in
      let both_are : Some b ≡ Some x = sym one ∙ two in cc

  -- a batch lives in the shard of its workflow
  pub lives : (b : Batch) → Among b all → shard_of b.domain b.workflow header.shards ≡ shard
  lives b among = by (in_order-among (flat_map (λ c. flat_map both (cell_at c shard w).written) (all_clusters header)) [] b among)
    where
      by : Among b [] ⊎ Among b (flat_map (λ c. flat_map both (cell_at c shard w).written) (all_clusters header)) → shard_of b.domain b.workflow header.shards ≡ shard
      by (inl none) = absurd none
      by (inr there) =
          let f = flat-among (λ c. flat_map both (cell_at c shard w).written) (all_clusters header) b there in
          let known : IsCluster header f.0 = clusters-among (count_of header.clusters) f.0 f.1 in
          (all-among (IsOwn header f.0 shard (cluster_at f.0 w).table (cell_at f.0 shard w)) (flat_map both (cell_at f.0 shard w).written) b (is.fair.writers f.0 shard known below) f.2).lives

  -- it is one of those of its workflow
  pub has-written : (b : Batch) → Among b all → Has (written_of header b.domain b.workflow w) b
  has-written b among =
      subst (λ (s : ℕ). Has (filter (is_of b.domain b.workflow) (all_written header s w)) b) (sym (lives b among))
      (at-there b.domain b.workflow b.key all ∙ order-finds all b ordered among)

  -- those of a workflow that lives here are sound
  pub sound-of : (b : Batch) → Among b all → IsSound (filter (is_of b.domain b.workflow) all)
  sound-of b among = subst (λ (s : ℕ). IsSound (filter (is_of b.domain b.workflow) (all_written header s w))) (lives b among) (is.fair.writing.sound b.domain b.workflow)

  pub points-back : (b : Batch) → Among b all → PointsBack b
  points-back b among = faultless-back b ((is.fair.writing.sound b.domain b.workflow).faultless b (has-written b among))

  -- a batch carries one other at most
  pub one-carried : (b x y : Batch) → Among b all → Among x all → Among y all → carries b x ≡ true → carries b y ≡ true → x ≡ y
  one-carried b x y among first second cx cy =
      only (filter (carries b) (filter (is_of b.domain b.workflow) all)) (goes_on b)
      (subst (λ (s : ℕ). length (filter (carries b) (filter (is_of b.domain b.workflow) (all_written header s w))) ≡ (if goes_on b then 1 else 0)) (lives b among) (is.fair.writing.carried b.domain b.workflow b (has-written b among)))
      (carried-there x first cx) (carried-there y second cy)
    where
      carried-there : (z : Batch) → Among z all → carries b z ≡ true → Among z (filter (carries b) (filter (is_of b.domain b.workflow) all))
      carried-there z there c =
          among-filter (carries b) (filter (is_of b.domain b.workflow) all) z c
          (among-filter (is_of b.domain b.workflow) all z (and_parts (is_of b.domain b.workflow z) (is_wanted z.carrier b) c).0 there)

      only : (zs : List Batch) (t : Bool) → length zs ≡ (if t then 1 else 0) → Among x zs → Among y zs → x ≡ y
      only [] t e none other = absurd none
      only (z ∷ []) t e (inl one) (inl two) = one ∙ sym two
      only (z ∷ []) t e (inl one) (inr none) = absurd none
      only (z ∷ []) t e (inr none) other = absurd none
      only (z ∷ u ∷ zs) true e one other = absurd (omega (arith, e))
      only (z ∷ u ∷ zs) false e one other = absurd (omega (arith, e))

  -- a batch that is carried carries none
  pub carried-alone : (b x : Batch) → Among b all → Among x all → is_some b.carrier ≡ true → carries b x ≡ true → ⊥
  carried-alone b x among other carried c =
      none (filter (carries b) (filter (is_of b.domain b.workflow) all))
      (subst (λ (s : ℕ). length (filter (carries b) (filter (is_of b.domain b.workflow) (all_written header s w))) ≡ (if goes_on b then 1 else 0)) (lives b among) (is.fair.writing.carried b.domain b.workflow b (has-written b among))
      ∙ ap (λ (t : Bool). if t then 1 else 0) (is.fair.writing.lone b.domain b.workflow b (has-written b among) carried))
      (among-filter (carries b) (filter (is_of b.domain b.workflow) all) x c
      (among-filter (is_of b.domain b.workflow) all x (and_parts (is_of b.domain b.workflow x) (is_wanted x.carrier b) c).0 other))
    where
      none : (zs : List Batch) → length zs ≡ 0 → Among x zs → ⊥
      none [] e there = there
      none (z ∷ zs) e there = absurd (omega (arith, e))

  -- batches that carry the same one are one
  pub one-carrier : (b y x : Batch) → Among b all → Among y all → carries b x ≡ true → carries y x ≡ true → b ≡ y
  one-carrier b y x first second cb cy =
      let p = and_parts (is_of b.domain b.workflow x) (is_wanted x.carrier b) cb in
      let q = and_parts (is_of y.domain y.workflow x) (is_wanted x.carrier y) cy in
      let n = names-of b.domain b.workflow x p.0 in
      let m = names-of y.domain y.workflow x q.0 in
      let keys : Some b.key ≡ Some y.key = sym (wanted-some x.carrier b p.1) ∙ wanted-some x.carrier y q.1 in
      let key : b.key ≡ y.key = cc in
      let d : b.domain ≡ y.domain = sym n.0 ∙ m.0 in
      let v : b.workflow ≡ y.workflow = sym n.1 ∙ m.1 in
      one-written b y first second (λ i. record { domain = d i; workflow = v i; key = key i })

  -- what has arrived in a cell was written
  pub arrived-written : (cluster : ClusterNo) → IsCluster header cluster → (b : Batch) → Among b (cell_at cluster shard w).arrived → Among b all
  arrived-written cluster known b among =
      there-among all (place_of b) b (all-among (λ x. batch_there all (place_of x) ≡ Some x) (cell_at cluster shard w).arrived b (is.fair.arrivals cluster shard known below).written among)

  pub cell-is : (cluster : ClusterNo) → IsCluster header cluster → IsCell (cell_at cluster shard w)
  cell-is cluster known = record {
    ordered = (is.fair.arrivals cluster shard known below).once;
    back = all-from PointsBack (cell_at cluster shard w).arrived (λ b among. points-back b (arrived-written cluster known b among));
  }
