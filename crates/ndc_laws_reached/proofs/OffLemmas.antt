-- What is put off in the cell of a writer stays put off, and nothing else is.
use Rattle.std.proofs.Common.{◌≡◌, ℕ, Bool, true, false, cond, is_some, not, List, [], ◌∷◌, ◌⊎◌, inl, inr, Option, Some, None, refl, sym, ◌∙◌, subst, ap, IfSome, option_to_list, true≢false}
use Rattle.std.specs.List.{filter}
use Rattle.ndc_model_cells.specs.Cells.{Cell, arrived_of, is_learned_in, learned_of, put_off_in}
use Rattle.ndc_model_cells.specs.Places.{AreInOrder, batch_there, is_of, place_of}
use Rattle.ndc_model_cells.specs.Shards.{shard_of}
use Rattle.ndc_model_cells.specs.Writing.{with_written}
use Rattle.ndc_model_cells.proofs.CellLemmas.{filter-both, others_learned}
use Rattle.ndc_event.specs.declared.batch.Batch.{Batch}
use Rattle.ndc_event.specs.declared.key.BatchKey.{BatchKey}
use Rattle.ndc_model.specs.Fair.{written_of}
use Rattle.ndc_model.specs.World.{cell_at}
use Rattle.ndc_model_sets.specs.Learned.{IsClosed, IsPart, ReachesTop, has_key, top, up}
use Rattle.ndc_model_sets.specs.Sets.{Has, IsSet, batch_at}
use Rattle.ndc_model_sets.specs.Sound.{IsSound}
use Rattle.ndc_model_sets.proofs.BranchLemmas.{among-has, has-among, same-batch}
use Rattle.ndc_model_sets.proofs.LearnedLemmas.{learned-reaches, reaches-has, reaches-learned}
use Rattle.ndc_model_sets.proofs.Lists.{Among, among-filter, filter-among}
use Rattle.ndc_model_sets.proofs.SetLemmas.{found-has, found-key, has-found}
use Rattle.ndc_laws_reached.proofs.ArrivalLemmas.{key-more}
use Rattle.ndc_laws_cells.proofs.FoundLemmas.{at-there, order-finds, there-among}
use Rattle.ndc_laws_reached.proofs.WrittenLemmas.{names-of, own-names}
use Rattle.ndc_laws_reached.proofs.HeldLemmas.{held-set, held-within, learned-more, new-fit, news-own-learned}
use Rattle.ndc_laws_reached.proofs.LandLemmas.{Write, are-new, here, here-ordered, second-other}
use Rattle.ndc_laws_cells.proofs.PairLemmas.{AreNew, entry_with, more, more-either, new-none, news}
use Rattle.ndc_laws_reached.proofs.WroteLemmas.{old-sound}
use Rattle.ndc_model_cells.proofs.PlaceLemmas.{set_of_workflow}

-- filters by tests that say the same
filter-same : {X : Type 0} (p q : X → Bool) (xs : List X) → ((x : X) → Among x xs → p x ≡ q x) → filter p xs ≡ filter q xs
filter-same p q [] same = refl
filter-same p q (x ∷ xs) same = ap (λ t. cond t (x ∷ filter p xs) (filter p xs)) (same x (inl refl)) ∙ ap (λ l. cond (q x) (x ∷ l) l) (filter-same p q xs (λ y h. same y (inr h)))

-- answers that follow from each other are one
both-ways : (s t : Bool) → (s ≡ true → t ≡ true) → (t ≡ true → s ≡ true) → s ≡ t
both-ways true t to from = sym (to refl)
both-ways false true to from = from refl
both-ways false false to from = refl

-- what reaches the top among more batches, and was written before, reached it
reaches-back : (all held more : List Batch) (z : Batch) → IsClosed all → IsPart held all → ((x : Batch) → Has more x → Has held x ⊎ (batch_at x.key all ≡ None)) → ReachesTop more z → Has all z → ReachesTop held z
reaches-back all held more z closed within which (top _ has e) there = by (which z has)
  where
    by : Has held z ⊎ (batch_at z.key all ≡ None) → ReachesTop held z
    by (inl h) = top z h e
    by (inr none) = let both : Some z ≡ None = sym there ∙ none in absurd (cc)
reaches-back all held more z closed within which (up _ before key has e found r) there =
    by (which z has) (which before (found-has more key before found)) (reaches-back all held more before closed within which r)
  where
    same : before.key ≡ key
    same = found-key more key before found

    known : is_some (batch_at before.key all) ≡ true
    known = ap (λ k. is_some (batch_at k all)) same ∙ sym (ap (λ o. has_key o all) e) ∙ closed z there

    by : Has held z ⊎ (batch_at z.key all ≡ None) → Has held before ⊎ (batch_at before.key all ≡ None) → (Has all before → ReachesTop held before) → ReachesTop held z
    by (inr none) _ rest = let both : Some z ≡ None = sym there ∙ none in absurd (cc)
    by (inl h) (inr none) rest = absurd (true≢false (sym known ∙ ap is_some none))
    by (inl h) (inl k) rest = up z before key h e (has-found held key before same k) (rest (within before k))

module _ (it : Write) where
  open it use {header, lines, w, is, cluster, known, b, second, originals, below, may}

  abbrev at : ℕ
  at = shard_of b.domain b.workflow header.shards

  abbrev old : List Batch
  old = written_of header b.domain b.workflow w

  abbrev cell : Cell
  cell = cell_at cluster at w

  abbrev new : Cell
  new = with_written (entry_with b second) cell

  abbrev all : List Batch
  all = here it

  abbrev ordered : AreInOrder all
  ordered = here-ordered it

  abbrev fresh : AreNew all b second
  fresh = are-new it

  abbrev sound : IsSound old
  sound = old-sound it

  -- what had arrived is learned then exactly where it was
  learned-same : (x : Batch) → Among x cell.arrived → is_learned_in new x ≡ is_learned_in cell x
  learned-same x h = by (is_of x.domain x.workflow b) refl
    where
      held : List Batch
      held = arrived_of b.domain b.workflow cell

      held-is : IsSet held
      held-is = held-set it

      -- a batch that had arrived of the workflow
      back : Has held x → has_key (Some x.key) (learned_of b.domain b.workflow new) ≡ true → has_key (Some x.key) (learned_of b.domain b.workflow cell) ≡ true
      back here e = found (batch_at x.key (learned_of b.domain b.workflow new)) refl e
        where
          set-new : IsSet (arrived_of b.domain b.workflow new)
          set-new = set_of_workflow b.domain b.workflow new (new-fit it)

          which : (z : Batch) → Has (arrived_of b.domain b.workflow new) z → Has held z ⊎ (batch_at z.key old ≡ None)
          which z has = side (more-either b second cell.arrived (place_of z) z (is.fair.arrivals cluster at known below).once
              (order-finds new.arrived z (new-fit it).ordered p.1))
            where
              p : (is_of b.domain b.workflow z ≡ true) × Among z new.arrived
              p = filter-among (is_of b.domain b.workflow) new.arrived z (has-among (arrived_of b.domain b.workflow new) z has)

              side : Among z (news b second) ⊎ (batch_there cell.arrived (place_of z) ≡ Some z) → Has held z ⊎ (batch_at z.key old ≡ None)
              side (inl k) =
                  let n = names-of b.domain b.workflow z p.0 in
                  inr (at-there b.domain b.workflow z.key all
                  ∙ subst (λ d. batch_there all (record { domain = d; workflow = b.workflow; key = z.key }) ≡ None) n.0
                  (subst (λ u. batch_there all (record { domain = z.domain; workflow = u; key = z.key }) ≡ None) n.1 (new-none b second all z ordered fresh k)))
              side (inr e) = inl (among-has held z held-is.ordered (among-filter (is_of b.domain b.workflow) cell.arrived z p.0 (there-among cell.arrived (place_of z) z e)))

          found : (o : Option Batch) → batch_at x.key (learned_of b.domain b.workflow new) ≡ o → is_some o ≡ true → has_key (Some x.key) (learned_of b.domain b.workflow cell) ≡ true
          found None f e = absurd (cc)
          found (Some y) f e =
              let has-new : Has (learned_of b.domain b.workflow new) y = found-has (learned_of b.domain b.workflow new) x.key y f in
              let reaches = learned-reaches (arrived_of b.domain b.workflow new) y set-new has-new in
              let same : y ≡ x = keys-same y (found-key (learned_of b.domain b.workflow new) x.key y f) (which y (reaches-has (arrived_of b.domain b.workflow new) y reaches)) in
              let reached : ReachesTop held x =
              reaches-back old held (arrived_of b.domain b.workflow new) x sound.closed (held-within it) which
              (subst (ReachesTop (arrived_of b.domain b.workflow new)) same reaches) (held-within it x here) in
              ap is_some (reaches-learned held x held-is reached)
            where
              keys-same : (y : Batch) → y.key ≡ x.key → Has held y ⊎ (batch_at y.key old ≡ None) → y ≡ x
              keys-same y k (inl has) = same-batch held y x has here k
              keys-same y k (inr none) =
                  let one : batch_at y.key old ≡ Some x = subst (λ (key : BatchKey). batch_at key old ≡ Some x) (sym k) (held-within it x here) in
                  let both : Some x ≡ None = sym one ∙ none in
                  absurd (cc)

      forth : has_key (Some x.key) (learned_of b.domain b.workflow cell) ≡ true → has_key (Some x.key) (learned_of b.domain b.workflow new) ≡ true
      forth e = key-more (learned_of b.domain b.workflow cell) (learned_of b.domain b.workflow new) x.key (learned-more it b.domain b.workflow) e

      by : (t : Bool) → is_of x.domain x.workflow b ≡ t → is_learned_in new x ≡ is_learned_in cell x
      by false e = ap (has_key (Some x.key)) (others_learned x.domain x.workflow (entry_with b second) cell e (second-other it x.domain x.workflow e))
      by true e =
          let n = names-of x.domain x.workflow b e in
          let here : Has held x =
          among-has held x held-is.ordered (among-filter (is_of b.domain b.workflow) cell.arrived x
          (subst (λ d. is_of d b.workflow x ≡ true) (sym n.0) (subst (λ u. is_of x.domain u x ≡ true) (sym n.1) (own-names x))) h) in
          subst (λ d. has_key (Some x.key) (learned_of d x.workflow new) ≡ has_key (Some x.key) (learned_of d x.workflow cell)) n.0
          (subst (λ u. has_key (Some x.key) (learned_of b.domain u new) ≡ has_key (Some x.key) (learned_of b.domain u cell)) n.1 (both-ways _ _ (back here) forth))

  -- so the same is put off
  pub off-same : put_off_in new ≡ put_off_in cell
  off-same =
      filter-both (λ x. not (is_learned_in new x)) b second cell.arrived (learned-new b (inl refl)) (other second refl)
      ∙ filter-same (λ x. not (is_learned_in new x)) (λ x. not (is_learned_in cell x)) cell.arrived (λ x h. ap not (learned-same x h))
    where
      learned-new : (x : Batch) → Among x (news b second) → not (is_learned_in new x) ≡ false
      learned-new x h = ap (λ o. not (is_some o)) (news-own-learned it x h)

      other : (o : Option Batch) → second ≡ o → IfSome o (λ x. not (is_learned_in new x) ≡ false)
      other None e = tt
      other (Some s) e = learned-new s (inr (subst (λ o. Among s (option_to_list o)) (sym e) (inl refl)))
