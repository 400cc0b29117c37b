-- What is sent again, from what asking for it brings.
use Rattle.std.proofs.Common.{◌≡◌, ℕ, ◌<◌, Bool, true, false, not, cond, List, [], ◌∷◌, Option, Some, None, ◌⊎◌, inl, inr, refl, sym, ◌∙◌, subst, ap, true≢false}
use Rattle.std.specs.List.{filter, filter_map, flat_map}
use Rattle.std.specs.Prelude.{is_some}
use Rattle.std.specs.Str.{bytes_eq}
use Rattle.std.proofs.lemmas.Bool.{and_from}
use Rattle.std.proofs.lemmas.Slice.Eq.{bytes_eq-Decides}
use Rattle.ndc_script_types.specs.WellFormed.{IsCluster}
use Rattle.ndc_script_types.specs.declared.script.Header.{Header}
use Rattle.ndc_model.specs.Again.{brought_again, cell_by, sent_again_of, served_by_author}
use Rattle.ndc_laws_jobs.proofs.BehindLemmas.{arrived-at, behind, held-part, held-set, mine-sound, off-there, same-way}
use Rattle.ndc_laws_jobs.proofs.GroupLemmas.{by-workflow, order-left}
use Rattle.ndc_laws_jobs.proofs.WayLemmas.{above-way, way-above}
use Rattle.ndc_model_cells.specs.declared.message.Message.{Message}
use Rattle.ndc_model_cells.specs.Arrival.{has_arrived}
use Rattle.ndc_model_cells.specs.Cells.{Cell, ancestry, arrived_of, is_learned_in, learned_of, own_message, put_off_in}
use Rattle.ndc_model_cells.specs.Jobs.{workflows_of}
use Rattle.ndc_model_cells.specs.Places.{AreInOrder, in_order, is_of, place_of}
use Rattle.ndc_model_cells.specs.Workflow.{WorkflowValue, workflow_of}
use Rattle.ndc_model_cells.proofs.PlaceLemmas.{rise-own}
use Rattle.ndc_domain.specs.Clusters.{writer_of}
use Rattle.ndc_domain.specs.declared.clusters.ClusterNo.{ClusterNo}
use Rattle.ndc_event.specs.declared.batch.Batch.{Batch}
use Rattle.ndc_event.specs.declared.name.Name.{Name}
use Rattle.ndc_history.specs.Common.{item_or_zero}
use Rattle.ndc_history.specs.declared.item.Item.{Item}
use Rattle.ndc_laws_reached.proofs.ArrivalLemmas.{none-is}
use Rattle.ndc_laws_reached.proofs.ComeLemmas.{among-order}
use Rattle.ndc_laws_cells.proofs.FoundLemmas.{in_order-ordered}
use Rattle.ndc_laws_reached.proofs.ManyLemmas.{among-flat}
use Rattle.ndc_laws_reached.proofs.WayLemmas.{way-inside}
use Rattle.ndc_laws_reached.proofs.WrittenLemmas.{arrived-written, flat-among, in_order-among, names-of, one-written, own-names, sound-of}
use Rattle.ndc_model.specs.Facts.{IsReached}
use Rattle.ndc_model.specs.Moves.{all_written, ancestors_of, missing_ancestors, sent_again}
use Rattle.ndc_model.specs.Sending.{gap_after}
use Rattle.ndc_model.specs.World.{World, cell_at}
use Rattle.ndc_model_sets.specs.Learned.{WaitsFor, has_key, learned}
use Rattle.ndc_model_sets.specs.Paths.{last_item_of, path_to}
use Rattle.ndc_model_sets.specs.Sets.{Has, batch_at}
use Rattle.ndc_model_sets.specs.Sound.{IsSound}
use Rattle.ndc_model_sets.proofs.BranchLemmas.{Rise-filter, among-has, has-among}
use Rattle.ndc_model_sets.proofs.Lists.{Among, among-filter, filter-among}
use Rattle.ndc_resend.specs.declared.serving.Gap.{Gap}
use Rattle.ndc_resend.specs.Gaps.{first_item}
use Rattle.ndc_resend.specs.PutOff.{gap_in, off_in}
use Rattle.ndc_resend.proofs.AncestorLemmas.{path-in}
use Rattle.ndc_resend.proofs.BringLemmas.{gap_is}
use Rattle.ndc_resend.proofs.OrderLemmas.{brought_is_missing}
use Rattle.ndc_state.specs.Replay.{history_of}

module _ (header : Header) (lines : ℕ) (w : World) (is : IsReached header lines w) (shard : ℕ) (below : shard < header.shards) where
  abbrev all : List Batch
  all = all_written header shard w

  abbrev message_in : Batch → Option Message
  message_in x = own_message (filter (is_of x.domain x.workflow) (all_written header shard w)) (all_written header shard w) x

  module _ (reader : ClusterNo) (known : IsCluster header reader) where
    abbrev cell : Cell
    cell = cell_at reader shard w

    abbrev missing : List Batch
    missing = missing_ancestors (all_written header shard w) (cell_at reader shard w)

    missing-order : AreInOrder missing
    missing-order =
        order-left (λ b. not (has_arrived b (cell_at reader shard w))) (in_order (flat_map (ancestors_of all) (put_off_in cell)))
        (in_order-ordered (flat_map (ancestors_of all) (put_off_in cell)) [] tt)

    off-order : AreInOrder (put_off_in cell)
    off-order = order-left (λ b. not (is_learned_in (cell_at reader shard w) b)) (cell_at reader shard w).arrived (is.fair.arrivals reader shard known below).once

    off-written : (p : Batch) → Among p (put_off_in cell) → Among p all
    off-written p among = arrived-written header lines w is shard below reader known p ((filter-among (λ b. not (is_learned_in cell b)) cell.arrived p among).1)

    module _ (p : Batch) (put_off : Among p (put_off_in cell)) where
      abbrev own : List Batch
      own = filter (is_of p.domain p.workflow) all

      own-sound : IsSound own
      own-sound = sound-of header lines w is shard below p (off-written p put_off)

      own-has : Has own p
      own-has = among-has own p own-sound.set.ordered (among-filter (is_of p.domain p.workflow) all p (own-names p) (off-written p put_off))

      inside : (x : Batch) → Among x (ancestors_of all p) → Among x all × (is_of p.domain p.workflow x ≡ true)
      inside x among = let f = filter-among (is_of p.domain p.workflow) all x (way-inside p own own-sound.set own-sound.closed own-has x among) in (f.1, f.0)

    -- a missing ancestor is above one that is put off, and has not arrived
    record IsOne (x : Batch) : Type 0 where
      p : Batch
      put_off : Among p (put_off_in cell)
      on : Among x (ancestors_of all p)
      gone : has_arrived x cell ≡ false

    one-of : (x : Batch) → Among x missing → IsOne x
    one-of x among =
        let f = filter-among (λ b. not (has_arrived b cell)) (in_order (flat_map (ancestors_of all) (put_off_in cell))) x among in
        by (in_order-among (flat_map (ancestors_of all) (put_off_in cell)) [] x f.1) f.0
      where
        negated : (t : Bool) → not t ≡ true → t ≡ false
        negated true h = absurd (true≢false (sym h))
        negated false h = refl

        by : Among x [] ⊎ Among x (flat_map (ancestors_of all) (put_off_in cell)) → not (has_arrived x cell) ≡ true → IsOne x
        by (inl none) h = absurd none
        by (inr there) h =
            let f = flat-among (ancestors_of all) (put_off_in cell) x there in
            record { p = f.0; put_off = f.1; on = f.2; gone = negated (has_arrived x cell) h }

    among-missing : (p x : Batch) → Among p (put_off_in cell) → Among x (ancestors_of all p) → has_arrived x cell ≡ false → Among x missing
    among-missing p x put_off on gone =
        among-filter (λ b. not (has_arrived b cell)) (in_order (flat_map (ancestors_of all) (put_off_in cell))) x (ap not gone)
        (among-order (flat_map (ancestors_of all) (put_off_in cell)) x one (among-flat (ancestors_of all) (put_off_in cell) p x put_off on))
      where
        one : (y : Batch) → Among y (flat_map (ancestors_of all) (put_off_in cell)) → place_of y ≡ place_of x → y ≡ x
        one y there same =
            let f = flat-among (ancestors_of all) (put_off_in cell) y there in
            one-written header lines w is shard below y x (inside f.0 f.1 y f.2).0 (inside p put_off x on).0 same

    missing-written : (x : Batch) → Among x missing → Among x all
    missing-written x among = let o = one-of x among in (inside o.p o.put_off x o.on).0

    -- what is sent again, workflow by workflow
    pub sent-by-workflow : flat_map (λ h. filter_map message_in (filter (is_of h.domain h.workflow) missing)) (workflows_of (put_off_in cell)) ≡ sent_again header reader w shard
    sent-by-workflow =
        by-workflow message_in missing (put_off_in cell) missing-order off-order (λ x among. let o = one-of x among in (o.p, o.put_off, (inside o.p o.put_off x o.on).1))

    -- of one workflow
    module _ (h : Batch) (listed : Among h (put_off_in cell)) where
      abbrev value : WorkflowValue
      value = workflow_of h.domain h.workflow (cell_at reader shard w)

      abbrev mine : List Batch
      mine = filter (is_of h.domain h.workflow) (all_written header shard w)

      abbrev held : List Batch
      held = arrived_of h.domain h.workflow (cell_at reader shard w)

      abbrev off : List Batch
      off = filter (is_of h.domain h.workflow) (put_off_in (cell_at reader shard w))

      sound : IsSound mine
      sound = mine-sound header lines w is shard below reader known h listed

      in-off : (p : Batch) → Among p (put_off_in cell) → is_of h.domain h.workflow p ≡ true → Has (off_in value) p
      in-off p among own =
          let f = filter-among (λ b. not (is_learned_in cell b)) cell.arrived p among in
          let n = names-of h.domain h.workflow p own in
          let unlearned : not (has_key (Some p.key) (learned held)) ≡ true =
          subst (λ (d : Name). not (has_key (Some p.key) (learned_of d h.workflow cell)) ≡ true) n.0 (subst (λ (u : Name). not (has_key (Some p.key) (learned_of p.domain u cell)) ≡ true) n.1 f.0) in
          among-has (off_in value) p (Rise-filter (λ b. not (has_key (Some b.key) (learned held))) held (held-set header lines w is shard below reader known h listed).ordered)
          (among-filter (λ b. not (has_key (Some b.key) (learned held))) held p unlearned (among-filter (is_of h.domain h.workflow) cell.arrived p own f.1))

      -- an ancestor of what is put off that has not arrived is missing
      is-missing : (p x : Batch) → Has (off_in value) p → WaitsFor mine x p → batch_at x.key held ≡ None → Among x (filter (is_of h.domain h.workflow) missing)
      is-missing p x p_off above gone = by (above-way mine p p_has sound.set sound.closed x above)
        where
          q : Has held p × Among p (put_off_in cell) × (is_of h.domain h.workflow p ≡ true)
          q = off-there header lines w is shard below reader known h listed p p_off

          p_has : Has mine p
          p_has = held-part header lines w is shard below reader known h listed p q.0

          own : Among x (ancestors_of all p) → is_of h.domain h.workflow x ≡ true
          own there =
              let f = inside p q.1 x there in
              let n = names-of h.domain h.workflow p q.2 in
              subst (λ (d : Name). is_of d h.workflow x ≡ true) n.0 (subst (λ (u : Name). is_of p.domain u x ≡ true) n.1 f.1)

          by : (x ≡ p) ⊎ Among x (ancestry p mine).path → Among x (filter (is_of h.domain h.workflow) missing)
          by (inl same) = absurd (let both_are : None ≡ Some p = sym (subst (λ (y : Batch). batch_at y.key held ≡ None) same gone) ∙ q.0 in cc)
          by (inr on) =
              let there : Among x (ancestors_of all p) = subst (λ (l : List Batch). Among x (ancestry p l).path) (sym (same-way header lines w is shard below reader known h listed p q.2)) on in
              among-filter (is_of h.domain h.workflow) missing x (own there)
              (among-missing p x q.1 there (arrived-at header lines w is shard below reader known h listed x (own there) ∙ ap is_some gone))

      -- and nothing else is
      only-missing : (x : Batch) → Among x (filter (is_of h.domain h.workflow) missing) → (p : Batch) × Has (off_in value) p × WaitsFor mine x p × (batch_at x.key held ≡ None)
      only-missing x among = (o.p, in-off o.p o.put_off p_own, above, gone)
        where
          f : (is_of h.domain h.workflow x ≡ true) × Among x missing
          f = filter-among (is_of h.domain h.workflow) missing x among

          o : IsOne x
          o = one-of x f.1

          n : (x.domain ≡ h.domain) × (x.workflow ≡ h.workflow)
          n = names-of h.domain h.workflow x f.0

          l : (x.domain ≡ o.p.domain) × (x.workflow ≡ o.p.workflow)
          l = names-of o.p.domain o.p.workflow x (inside o.p o.put_off x o.on).1

          p_own : is_of h.domain h.workflow o.p ≡ true
          p_own = and_from (bytes_eq o.p.domain h.domain) (bytes_eq o.p.workflow h.workflow) ((bytes_eq-Decides o.p.domain h.domain).1 (sym l.0 ∙ n.0)) ((bytes_eq-Decides o.p.workflow h.workflow).1 (sym l.1 ∙ n.1))

          above : WaitsFor mine x o.p
          above =
              subst (λ (bs : List Batch). WaitsFor bs x o.p) (same-way header lines w is shard below reader known h listed o.p p_own)
              (way-above (filter (is_of o.p.domain o.p.workflow) all) o.p (own-has o.p o.put_off) (own-sound o.p o.put_off).set x o.on)

          gone : batch_at x.key held ≡ None
          gone = none-is (batch_at x.key held) (sym (arrived-at header lines w is shard below reader known h listed x f.0) ∙ o.gone)

      -- what asking brings is what is sent again
      pub brought-of-workflow : brought_again header reader w shard h.domain h.workflow ≡ sent_again_of header reader w shard h.domain h.workflow
      brought-of-workflow =
          brought_is_missing mine (λ b. learned_of h.domain h.workflow (cell_by shard w (writer_of header.clusters b.key.version)))
          (λ x. own_message (filter (is_of x.domain x.workflow) (all_written header shard w)) (all_written header shard w) x) (served_by_author header shard w) value cell (filter (is_of h.domain h.workflow) missing)
          (behind header lines w is shard below reader known h listed) (rise-own h.domain h.workflow missing missing-order)
          (λ x has. arrived-at header lines w is shard below reader known h listed x ((filter-among (is_of h.domain h.workflow) all x (has-among mine x has)).0)) only-missing is-missing

  -- the gap before a batch that is put off begins where the model has it
  module _ (reader : ClusterNo) (known : IsCluster header reader) (b : Batch) (put_off : Among b (put_off_in (cell_at reader shard w))) where
    abbrev its-cell : Cell
    its-cell = cell_at reader shard w

    abbrev its-own : List Batch
    its-own = filter (is_of b.domain b.workflow) (all_written header shard w)

    kept-same : (p q : Batch → Bool) (xs : List Batch) → ((x : Batch) → Among x xs → p x ≡ q x) → filter p xs ≡ filter q xs
    kept-same p q [] each = refl
    kept-same p q (x ∷ xs) each = ap (λ t. cond t (x ∷ filter p xs) (filter p xs)) (each x (inl refl)) ∙ ap (λ l. cond (q x) (x ∷ l) l) (kept-same p q xs (λ y among. each y (inr among)))

    pub gap-of-model : (gap_in (workflow_of b.domain b.workflow its-cell) b).gap ≡ record { after = gap_after header shard w its-cell b; before = first_item b }
    gap-of-model =
        gap_is its-own (λ x. learned_of b.domain b.workflow (cell_by shard w (writer_of header.clusters x.key.version)))
        (λ x. own_message (filter (is_of x.domain x.workflow) (all_written header shard w)) (all_written header shard w) x) (served_by_author header shard w) (workflow_of b.domain b.workflow its-cell) b
        (behind header lines w is shard below reader known b put_off) (in-off reader known b put_off b put_off (own-names b))
        ∙ ap (λ (l : List Batch). between (item_or_zero (last_item_of (history_of l))) (first_item b))
        (kept-same (λ c. has_key (Some c.key) (learned (arrived_of b.domain b.workflow its-cell))) (is_learned_in its-cell) (path_to b.key its-own) same)
      where
        between : Item → Item → Gap
        between after before = record { after = after; before = before }

        same : (x : Batch) → Among x (path_to b.key its-own) → has_key (Some x.key) (learned (arrived_of b.domain b.workflow its-cell)) ≡ is_learned_in its-cell x
        same x among =
            let f = filter-among (is_of b.domain b.workflow) all x (path-in b.key its-own x among) in
            let n = names-of b.domain b.workflow x f.0 in
            (λ i. has_key (Some x.key) (learned_of (sym n.0 i) (sym n.1 i) its-cell))
