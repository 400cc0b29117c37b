-- An entry that is written keeps it so that what has arrived was written, each batch with the one that it carries.
use Rattle.std.proofs.Common.{◌≡◌, ℕ, true, false, is_some, List, ◌⊎◌, inl, inr, Option, Some, None, refl, sym, ◌∙◌, subst, ap, IfSome, option_to_list, true≢false}
use Rattle.std.specs.List.{AllByRecursion}
use Rattle.std.proofs.lemmas.Bool.{and_parts}
use Rattle.ndc_script_types.specs.WellFormed.{IsCluster}
use Rattle.ndc_model_cells.specs.declared.place.Place.{Place}
use Rattle.ndc_model_cells.specs.Arrival.{has_arrived}
use Rattle.ndc_model_cells.specs.Cells.{Cell, carries}
use Rattle.ndc_model_cells.specs.Places.{AreInOrder, batch_there, is_of, place_of}
use Rattle.ndc_model_cells.specs.Shards.{shard_of}
use Rattle.ndc_model_cells.specs.Writing.{with_written}
use Rattle.ndc_domain.specs.declared.clusters.ClusterNo.{ClusterNo}
use Rattle.ndc_event.specs.declared.batch.Batch.{Batch}
use Rattle.ndc_model.specs.Fair.{ArrivalsWereWritten, IsArrivedFit, written_of}
use Rattle.ndc_model.specs.Moves.{all_written}
use Rattle.ndc_model.specs.World.{World, cell_at}
use Rattle.ndc_model.proofs.ListLemmas.{all-weaker}
use Rattle.ndc_laws_cells.proofs.Lists.{among-is, is-among}
use Rattle.ndc_model_sets.specs.Paths.{is_wanted}
use Rattle.ndc_model_sets.specs.Sets.{Has, arrived}
use Rattle.ndc_model_sets.specs.Sound.{IsSound}
use Rattle.ndc_model_sets.proofs.ArrivalLemmas.{stays}
use Rattle.ndc_model_sets.proofs.BranchLemmas.{has-among}
use Rattle.ndc_model_sets.proofs.Lists.{Among}
use Rattle.ndc_laws_cells.proofs.FoundLemmas.{order-finds, there-among}
use Rattle.ndc_laws_reached.proofs.WrittenLemmas.{has-written, names-of, wanted-some}
use Rattle.ndc_laws_reached.proofs.HeldLemmas.{news-names}
use Rattle.ndc_laws_reached.proofs.JoinedLemmas.{carries-none, new-carries}
use Rattle.ndc_laws_reached.proofs.LandLemmas.{Write, all-here, are-new, behind, by-cell, cell-ordered, here, here-ordered, new-to-cell, none-arrived, shard-cases}
use Rattle.ndc_laws_cells.proofs.PairLemmas.{AreNew, entry_with, more, more-all, more-apart, more-either, more-new, more-order, more-stays, new-none, news, second-apart}
use Rattle.ndc_laws_reached.proofs.WroteLemmas.{old-sound, there-some}
use Rattle.ndc_laws_cells.specs.Entries.{IsSecond}

-- what has arrived in a cell, and all that was written in its shard
pub record FitsWith (all : List Batch) (cell : Cell) : Type 0 where
  pub once : AreInOrder cell.arrived
  pub written : AllByRecursion (λ b. batch_there all (place_of b) ≡ Some b) cell.arrived
  pub carried : (b other : Batch) → Among b all → Among other all → carries b other ≡ true → has_arrived b cell ≡ has_arrived other cell

module _ (it : Write) where
  open it use {header, lines, w, is, cluster, known, b, second, originals, below, may}

  abbrev at : ℕ
  at = shard_of b.domain b.workflow header.shards

  abbrev old : List Batch
  old = written_of header b.domain b.workflow w

  abbrev v : World
  v = behind it

  abbrev cell : Cell
  cell = cell_at cluster at w

  abbrev new : Cell
  new = with_written (entry_with b second) cell

  abbrev all : List Batch
  all = here it

  abbrev ordered : AreInOrder all
  ordered = here-ordered it

  abbrev fresh : AreNew all b second
  fresh = are-new it

  -- a new batch is at no place of an old one
  pub place-new : (x z : Batch) → Among x all → Among z (news b second) → place_of x ≡ place_of z → ⊥
  place-new x z h k same = there-some all x h (subst (λ (p : Place). batch_there all p ≡ None) (sym same) (new-none b second all z ordered fresh k))

  -- a batch of all is new, or was there
  pub more-among : (x : Batch) → Among x (more b second all) → Among x (news b second) ⊎ Among x all
  more-among x h = by (more-either b second all (place_of x) x ordered (order-finds (more b second all) x (more-order b second all ordered) h))
    where
      by : Among x (news b second) ⊎ (batch_there all (place_of x) ≡ Some x) → Among x (news b second) ⊎ Among x all
      by (inl k) = inl k
      by (inr e) = inr (there-among all (place_of x) x e)

  -- what was there is there
  pub among-more : (x : Batch) → Among x all → Among x (more b second all)
  among-more x h = there-among (more b second all) (place_of x) x (more-stays b second all (place_of x) x ordered (order-finds all x ordered h))

  pub new-among : (x : Batch) → Among x (news b second) → Among x (more b second all)
  new-among x h = there-among (more b second all) (place_of x) x (more-new b second all x ordered fresh h)

  -- no new batch carries one that was there
  pub carries-none-old : (x y : Batch) → Among x (news b second) → Among y all → carries x y ≡ true → ⊥
  carries-none-old x y h k c = by second may.write.second h
    where
      n : (x.domain ≡ b.domain) × (x.workflow ≡ b.workflow) × (x.key.version ≡ b.key.version)
      n = news-names it x h

      m : (y.domain ≡ x.domain) × (y.workflow ≡ x.workflow)
      m = names-of x.domain x.workflow y (and_parts (is_of x.domain x.workflow y) (is_wanted y.carrier x) c).0

      there : Has old y
      there = subst (λ d. Has (written_of header d b.workflow w) y) (m.0 ∙ n.0) (subst (λ u. Has (written_of header y.domain u w) y) (m.1 ∙ n.1) (has-written header lines w is at below y k))

      sound : IsSound old
      sound = old-sound it

      by : (o : Option Batch) → IfSome o (IsSecond old b) → (x ≡ b) ⊎ Among x (option_to_list o) → ⊥
      by o e (inl same) = new-carries old b y sound may.write.added.fresh (has-among old y there) (subst (λ (z : Batch). carries z y ≡ true) same c)
      by None e (inr none) = none
      by (Some s) e (inr (inl same)) =
          new-carries (arrived b old) s y may.write.added.sound e.added.fresh (has-among (arrived b old) y (stays b old sound.set.ordered y there)) (subst (λ (z : Batch). carries z y ≡ true) same c)
      by (Some s) e (inr (inr none)) = none

  -- who carries the second is at the place of the first
  carrier-place : (s x : Batch) → IsSecond old b s → carries x s ≡ true → place_of x ≡ place_of b
  carrier-place s x e c =
      let p = and_parts (is_of x.domain x.workflow s) (is_wanted s.carrier x) c in
      let n = names-of x.domain x.workflow s p.0 in
      let keys : Some b.key ≡ Some x.key = sym e.carrier ∙ wanted-some s.carrier x p.1 in
      let key : b.key ≡ x.key = cc in
      let d : x.domain ≡ b.domain = sym n.0 ∙ e.domain_is in
      let u : x.workflow ≡ b.workflow = sym n.1 ∙ e.workflow_is in
      λ i. record { domain = d i; workflow = u i; key = sym key i }

  -- which batches carry which: both were there, or they are those of the entry
  pub carried-cases : (x y : Batch) → Among x (more b second all) → Among y (more b second all) → carries x y ≡ true → (Among x all × Among y all) ⊎ ((x ≡ b) × (second ≡ Some y))
  carried-cases x y h k c = by (more-among x h) (more-among y k)
    where
      -- the second is carried by the first alone
      of-second : (o : Option Batch) → IfSome o (IsSecond old b) → AreNew all b o → Among x (news b o) ⊎ Among x all → ((z : Batch) → Among z (news b o) → Among x all → place_of x ≡ place_of z → ⊥)
          → (y ≡ b) ⊎ Among y (option_to_list o) → (Among x all × Among y all) ⊎ ((x ≡ b) × (o ≡ Some y))
      of-second o e fresh_ones who apart (inl same) = absurd (true≢false (sym c ∙ ap (carries x) same ∙ carries-none x b may.write.carrier))
      of-second None e fresh_ones who apart (inr none) = absurd none
      of-second (Some s) e fresh_ones (inr there) apart (inr (inl same)) = absurd (apart b (inl refl) there (carrier-place s x e (subst (λ (z : Batch). carries x z ≡ true) same c)))
      of-second (Some s) e fresh_ones (inl (inl one)) apart (inr (inl same)) = inr (one, ap (λ (z : Batch). Some z) (sym same))
      of-second (Some s) e fresh_ones (inl (inr (inl one))) apart (inr (inl same)) =
          absurd (second-apart b s all ordered fresh_ones (sym (subst (λ (z : Batch). place_of z ≡ place_of b) one (carrier-place s x e (subst (λ (z : Batch). carries x z ≡ true) same c)))))
      of-second (Some s) e fresh_ones (inl (inr (inr none))) apart (inr (inl same)) = absurd none
      of-second (Some s) e fresh_ones who apart (inr (inr none)) = absurd none

      by : Among x (news b second) ⊎ Among x all → Among y (news b second) ⊎ Among y all → (Among x all × Among y all) ⊎ ((x ≡ b) × (second ≡ Some y))
      by (inr one) (inr two) = inl (one, two)
      by (inl one) (inr two) = absurd (carries-none-old x y one two c)
      by who (inl two) = of-second second may.write.second fresh who (λ z m n. place-new x z n m) two

  -- what is found of an old batch in the writer's cell
  pub has-same : (x : Batch) → Among x all → has_arrived x new ≡ has_arrived x cell
  has-same x h = ap is_some (more-apart b second cell.arrived (place_of x) (cell-ordered it) (λ z k. place-new x z h k))

  -- an old cell of the shard
  old-fits : (other : ClusterNo) → IsCluster header other → FitsWith (more b second all) (cell_at other at w)
  old-fits other there = record {
    once = fit.once;
    written = all-weaker (λ x. batch_there all (place_of x) ≡ Some x) (λ x. batch_there (more b second all) (place_of x) ≡ Some x) (λ x e. more-stays b second all (place_of x) x ordered e) (cell_at other at w).arrived fit.written;
    carried = λ x y h k c. by x y c (carried-cases x y h k c);
  }
    where
      fit : IsArrivedFit header w at (cell_at other at w)
      fit = is.fair.arrivals other at there below

      none : (x : Batch) → Among x (news b second) → has_arrived x (cell_at other at w) ≡ false
      none x h = ap is_some (none-arrived it other there (place_of x) (new-none b second all x ordered fresh h))

      by : (x y : Batch) → carries x y ≡ true → (Among x all × Among y all) ⊎ ((x ≡ b) × (second ≡ Some y)) → has_arrived x (cell_at other at w) ≡ has_arrived y (cell_at other at w)
      by x y c (inl m) = fit.carried x y (among-is all x m.0) (among-is all y m.1) c
      by x y c (inr m) = none x (inl m.0) ∙ sym (none y (inr (subst (λ o. Among y (option_to_list o)) (sym m.1) (inl refl))))

  -- the writer's cell
  new-fits : FitsWith (more b second all) new
  new-fits = record {
    once = more-order b second cell.arrived (cell-ordered it);
    written = more-all (λ x. batch_there (more b second all) (place_of x) ≡ Some x) b second cell.arrived (more-new b second all b ordered fresh (inl refl)) (other second refl)
        (all-weaker (λ x. batch_there all (place_of x) ≡ Some x) (λ x. batch_there (more b second all) (place_of x) ≡ Some x) (λ x e. more-stays b second all (place_of x) x ordered e) cell.arrived fit.written);
    carried = λ x y h k c. by x y c (carried-cases x y h k c);
  }
    where
      fit : IsArrivedFit header w at cell
      fit = is.fair.arrivals cluster at known below

      other : (o : Option Batch) → second ≡ o → IfSome o (λ x. batch_there (more b second all) (place_of x) ≡ Some x)
      other None e = tt
      other (Some s) e = more-new b second all s ordered fresh (inr (subst (λ o. Among s (option_to_list o)) (sym e) (inl refl)))

      found : (x : Batch) → Among x (news b second) → has_arrived x new ≡ true
      found x h = ap is_some (more-new b second cell.arrived x (cell-ordered it) (new-to-cell it) h)

      by : (x y : Batch) → carries x y ≡ true → (Among x all × Among y all) ⊎ ((x ≡ b) × (second ≡ Some y)) → has_arrived x new ≡ has_arrived y new
      by x y c (inl m) = has-same x m.0 ∙ fit.carried x y (among-is all x m.0) (among-is all y m.1) c ∙ sym (has-same y m.1)
      by x y c (inr m) = found x (inl m.0) ∙ sym (found y (inr (subst (λ o. Among y (option_to_list o)) (sym m.1) (inl refl))))

  as-fit : (shard : ℕ) (c : Cell) → FitsWith (all_written header shard v) c → IsArrivedFit header v shard c
  as-fit shard c fit = record { once = fit.once; written = fit.written; carried = λ x y h k. fit.carried x y (is-among (all_written header shard v) x h) (is-among (all_written header shard v) y k) }

  pub arrivals-kept : ArrivalsWereWritten header v
  arrivals-kept other shard there less =
      by-cell header w is.shaped cluster known at below new (λ o p c. IsArrivedFit header v p c)
      (as-fit at new (subst (λ l. FitsWith l new) (sym (all-here it)) new-fits)) other shard
      (as-fit shard (cell_at other shard w) (shard-cases it (λ p l. FitsWith l (cell_at other p w)) (old-fits other there) shard fit))
    where
      fit : FitsWith (all_written header shard w) (cell_at other shard w)
      fit =
          let f = is.fair.arrivals other shard there less in
          record { once = f.once; written = f.written; carried = λ x y h k. f.carried x y (among-is (all_written header shard w) x h) (among-is (all_written header shard w) y k) }
