-- Messages of what a cell has learned, and those that are sent again.
use Rattle.std.proofs.Common.{◌≡◌, ℕ, ◌<◌, Bool, true, false, cond, if◌then◌else◌, List, [], ◌∷◌, Option, Some, None, ◌⊎◌, inl, inr, refl, sym, ◌∙◌, subst, ap, true≢false}
use Rattle.std.specs.List.{AllByRecursion, filter, flat_map}
use Rattle.std.specs.Prelude.{find, is_some, not}
use Rattle.ndc_script_types.specs.WellFormed.{IsCluster}
use Rattle.ndc_script_types.specs.declared.script.Header.{Header}
use Rattle.ndc_model_cells.specs.declared.message.Message.{Message}
use Rattle.ndc_model_cells.specs.Arrival.{has_arrived}
use Rattle.ndc_model_cells.specs.Cells.{Cell, ancestors_down, arrived_of, carries, is_learned_in, learned_message, learned_of, own_message, put_off_in}
use Rattle.ndc_model_cells.specs.Places.{batch_there, in_order, is_of, place_of}
use Rattle.ndc_model_cells.proofs.PlaceLemmas.{set_of_workflow}
use Rattle.ndc_domain.specs.declared.clusters.ClusterNo.{ClusterNo}
use Rattle.ndc_event.specs.declared.batch.Batch.{Batch}
use Rattle.ndc_event.specs.declared.batch.Event.{Event}
use Rattle.ndc_event.specs.declared.name.Name.{Name}
use Rattle.ndc_model.specs.Facts.{IsReached}
use Rattle.ndc_model.specs.Fair.{IsMessageTrue, is_named}
use Rattle.ndc_model.specs.Moves.{all_written, ancestors_of, missing_ancestors, sent_again}
use Rattle.ndc_model.specs.World.{World, cell_at}
use Rattle.ndc_laws_cells.proofs.Lists.{among-is}
use Rattle.ndc_model_sets.specs.Learned.{IsPart}
use Rattle.ndc_model_sets.specs.Paths.{Walk, events_to, is_wanted, path_to, versions_of}
use Rattle.ndc_model_sets.specs.Sets.{Has, IsSet, earlier}
use Rattle.ndc_model_sets.proofs.BranchLemmas.{among-has, has-among}
use Rattle.ndc_model_sets.proofs.LearnedLemmas.{learned-reaches, learned_closed, reaches-has}
use Rattle.ndc_model_sets.proofs.Lists.{Among, all-among, all-from, among-filter, filter-among, filter_map-among, find-among, find-only}
use Rattle.ndc_model_sets.proofs.PathLemmas.{part-path}
use Rattle.ndc_state.specs.Replay.{history_of}
use Rattle.ndc_laws_reached.proofs.ArrivalLemmas.{own-is}
use Rattle.ndc_laws_reached.proofs.BringLemmas.{MayArrive}
use Rattle.ndc_laws_cells.proofs.FoundLemmas.{find-passes, order-finds, there-among, there-place}
use Rattle.ndc_laws_reached.proofs.WrittenLemmas.{arrived-written, cell-is, flat-among, in_order-among, names-of, one-carried, one-written, ordered, sound-of}

-- where one passes, one is found
found-none : (p : Batch → Bool) (bs : List Batch) (x : Batch) → p x ≡ true → Among x bs → find p bs ≡ None → ⊥
found-none p [] x passes none e = none
found-none p (b ∷ bs) x passes among e = by (p b) refl among e (found-none p bs x passes)
  where
    by : (t : Bool) → p b ≡ t → Among x (b ∷ bs) → cond t (Some b) (find p bs) ≡ None → (Among x bs → find p bs ≡ None → ⊥) → ⊥
    by true at among e rest = absurd (cc)
    by false at (inl same) e rest = true≢false (sym (subst (λ (y : Batch). p y ≡ true) same passes) ∙ at)
    by false at (inr there) e rest = rest there e

-- what is found on the way to ancestors is one of the batches, or was on the way
way-among : (bs : List Batch) (walk : Walk) (x : Batch) → Among x (ancestors_down bs walk).path → Among x bs ⊎ Among x walk.path
way-among [] walk x among = inr among
way-among (b ∷ bs) walk x among = by (is_wanted (ancestors_down bs walk).wanted b) (way-among bs walk x) among
  where
    more : Among x bs ⊎ Among x walk.path → Among x (b ∷ bs) ⊎ Among x walk.path
    more (inl there) = inl (inr there)
    more (inr there) = inr there

    by : (t : Bool) → (Among x (ancestors_down bs walk).path → Among x bs ⊎ Among x walk.path)
        → Among x (if t then record { wanted = earlier b; path = b ∷ (ancestors_down bs walk).path } else ancestors_down bs walk).path → Among x (b ∷ bs) ⊎ Among x walk.path
    by true rest (inl same) = inl (inl same)
    by true rest (inr there) = more (rest there)
    by false rest there = more (rest there)

module _ (header : Header) (lines : ℕ) (w : World) (is : IsReached header lines w) (shard : ℕ) (below : shard < header.shards) where
  abbrev all : List Batch
  all = all_written header shard w

  -- a message among all that was written is true
  pub among-true : (b : Batch) (sent : Message) → Among b all → own_message (filter (is_of b.domain b.workflow) (all_written header shard w)) (all_written header shard w) b ≡ Some sent
      → IsMessageTrue header shard w sent
  among-true b sent among e =
      let same : b ≡ sent.batch = ap (λ (m : Message). m.batch) (own-is (filter (is_of b.domain b.workflow) all) all b sent e).1 in (
        subst (λ (x : Batch). batch_there all (place_of x) ≡ Some x) same (order-finds all b (ordered header lines w is shard below) among),
        subst (λ (x : Batch). own_message (filter (is_of x.domain x.workflow) all) all x ≡ Some sent) same e,
      )

  -- what is sent again may arrive
  pub again-may : (reader : ClusterNo) → IsCluster header reader → AllByRecursion (MayArrive header reader shard w) (sent_again header reader w shard)
  again-may reader known = all-from (MayArrive header reader shard w) (sent_again header reader w shard) each
    where
      cell : Cell
      cell = cell_at reader shard w

      each : (sent : Message) → Among sent (sent_again header reader w shard) → MayArrive header reader shard w sent
      each sent among =
          let m = filter_map-among (λ b. own_message (filter (is_of b.domain b.workflow) all) all b) (missing_ancestors all (cell_at reader shard w)) sent among in
          let p = filter-among (λ b. not (has_arrived b (cell_at reader shard w))) (in_order (flat_map (ancestors_of all) (put_off_in (cell_at reader shard w)))) m.0 m.1 in
          ways m.0 m.2 (in_order-among (flat_map (ancestors_of all) (put_off_in (cell_at reader shard w))) [] m.0 p.1)
        where
          of-way : (b x : Batch) → own_message (filter (is_of b.domain b.workflow) all) all b ≡ Some sent → Among x (put_off_in (cell_at reader shard w))
              → Among b (filter (is_of x.domain x.workflow) all) ⊎ Among b [] → MayArrive header reader shard w sent
          of-way b x e put_off (inr none) = absurd none
          of-way b x e put_off (inl there) =
              let q = filter-among (is_of x.domain x.workflow) all b there in
              let here : Among x (cell_at reader shard w).arrived = (filter-among (λ y. not (is_learned_in (cell_at reader shard w) y)) (cell_at reader shard w).arrived x put_off).1 in
              let named : is_named header reader w x.domain ≡ true = all-among (λ y. is_named header reader w y.domain ≡ true) (cell_at reader shard w).arrived x (is.fair.members.arrived reader shard known below) here in
              let same : b ≡ sent.batch = ap (λ (m : Message). m.batch) (own-is (filter (is_of b.domain b.workflow) all) all b sent e).1 in
              record {
                is_true = among-true b sent q.1 e;
                named = subst (λ (y : Batch). is_named header reader w y.domain ≡ true) same (subst (λ (d : Name). is_named header reader w d ≡ true) (sym (names-of x.domain x.workflow b q.0).0) named);
              }

          ways : (b : Batch) → own_message (filter (is_of b.domain b.workflow) all) all b ≡ Some sent → Among b [] ⊎ Among b (flat_map (ancestors_of all) (put_off_in (cell_at reader shard w))) → MayArrive header reader shard w sent
          ways b e (inl none) = absurd none
          ways b e (inr there) =
              let f = flat-among (ancestors_of all) (put_off_in (cell_at reader shard w)) b there in
              of-way b f.0 e f.1 (way-among (filter (is_of f.0.domain f.0.workflow) all) _ b f.2)

  -- what a cell has learned
  module _ (source : ClusterNo) (known : IsCluster header source) where
    abbrev cell : Cell
    cell = cell_at source shard w

    own-set : (domain workflow : Name) → IsSet (arrived_of domain workflow cell)
    own-set domain workflow = set_of_workflow domain workflow (cell_at source shard w) (cell-is header lines w is shard below source known)

    -- a learned batch has arrived
    pub learned-arrived : (domain workflow : Name) (b : Batch) → Has (learned_of domain workflow (cell_at source shard w)) b → Among b (cell_at source shard w).arrived × (is_of domain workflow b ≡ true)
    learned-arrived domain workflow b has =
        let there : Among b (arrived_of domain workflow cell) =
        has-among (arrived_of domain workflow cell) b (reaches-has (arrived_of domain workflow cell) b (learned-reaches (arrived_of domain workflow cell) b (own-set domain workflow) has)) in
        let p = filter-among (is_of domain workflow) cell.arrived b there in (p.1, p.0)

    -- what is learned of a workflow is a part of all that was written
    learned-part : (b : Batch) → Among b all → IsPart (learned_of b.domain b.workflow cell) (filter (is_of b.domain b.workflow) all)
    learned-part b among x has =
        let p = learned-arrived b.domain b.workflow x has in
        among-has (filter (is_of b.domain b.workflow) all) x (sound-of header lines w is shard below b among).set.ordered
        (among-filter (is_of b.domain b.workflow) all x p.1 (arrived-written header lines w is shard below source known x p.0))

    -- the one that a learned batch carries has arrived where the batch has
    pub second-same : (b : Batch) → Among b (cell_at source shard w).arrived → find (carries b) (cell_at source shard w).arrived ≡ find (carries b) all
    second-same b there = by (find (carries b) all) refl
      where
        written : Among b all
        written = arrived-written header lines w is shard below source known b there

        here : has_arrived b cell ≡ true
        here = ap is_some (order-finds cell.arrived b (is.fair.arrivals source shard known below).once there)

        by : (o : Option Batch) → find (carries b) all ≡ o → find (carries b) cell.arrived ≡ o
        by (Some z) e =
            let c : carries b z ≡ true = find-passes (carries b) all z e in
            let z_written : Among z all = find-among (carries b) all z e in
            let come : has_arrived z cell ≡ true = sym ((is.fair.arrivals source shard known below).carried b z (among-is all b written) (among-is all z z_written) c) ∙ here in
            found-there z c z_written (batch_there cell.arrived (place_of z)) refl come
          where
            found-there : (z : Batch) → carries b z ≡ true → Among z all → (o : Option Batch) → batch_there cell.arrived (place_of z) ≡ o → is_some o ≡ true → find (carries b) cell.arrived ≡ Some z
            found-there z c z_written None e h = absurd (true≢false (sym h))
            found-there z c z_written (Some y) e h =
                let y_there : Among y cell.arrived = there-among cell.arrived (place_of z) y e in
                let same : y ≡ z = one-written header lines w is shard below y z (arrived-written header lines w is shard below source known y y_there) z_written (sym (there-place cell.arrived (place_of z) y e)) in
                let z_there : Among z cell.arrived = subst (λ (x : Batch). Among x cell.arrived) same y_there in
                find-only (carries b) cell.arrived z c z_there (λ x x_there cx. one-carried header lines w is shard below b x z written (arrived-written header lines w is shard below source known x x_there) z_written cx c)
        by None e = none-there (find (carries b) cell.arrived) refl
          where
            none-there : (o : Option Batch) → find (carries b) cell.arrived ≡ o → o ≡ None
            none-there None f = refl
            none-there (Some x) f =
                absurd (found-none (carries b) all x (find-passes (carries b) cell.arrived x f) (arrived-written header lines w is shard below source known x (find-among (carries b) cell.arrived x f)) e)

    -- the message of a learned batch is true
    pub learned-true : (b : Batch) (sent : Message) → Has (learned_of b.domain b.workflow (cell_at source shard w)) b → learned_message (cell_at source shard w) b ≡ Some sent → IsMessageTrue header shard w sent
    learned-true b sent has e =
        let there : Among b cell.arrived = (learned-arrived b.domain b.workflow b has).0 in
        let among : Among b all = arrived-written header lines w is shard below source known b there in
        let sound = sound-of header lines w is shard below b among in
        let closed = learned_closed (arrived_of b.domain b.workflow cell) (own-set b.domain b.workflow) in
        let path : path_to b.key (learned_of b.domain b.workflow cell) ≡ path_to b.key (filter (is_of b.domain b.workflow) all) =
        part-path (learned_of b.domain b.workflow cell) (filter (is_of b.domain b.workflow) all) b closed.0 closed.1 sound.set sound.closed (learned-part b among) has in
        among-true b sent among (ap (λ (events : List Event). if is_some b.carrier then None else Some (record { batch = b; history = versions_of events; second = find (carries b) all })) (sym (ap history_of path))
        ∙ ap (λ (o : Option Batch). if is_some b.carrier then None else Some (record { batch = b; history = versions_of (events_to b.key (learned_of b.domain b.workflow cell)); second = o })) (sym (second-same b there)) ∙ e)
