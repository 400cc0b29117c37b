-- After reapplication by a cluster that may write to a workflow it has no stray of it.
use Rattle.std.proofs.Common.{◌≡◌, ◌<◌, ◌+◌, ℕ, Bool, true, false, List, [], ◌∷◌, ◌++◌, map, ◌⊎◌, inl, inr, Option, Some, None, Result, Ok, Err, refl, sym, ◌∙◌, subst, ap, true≢false, if◌then◌else◌}
use Rattle.std.specs.List.{cons_option}
use Rattle.std.specs.Prelude.{is_some}
use Rattle.ndc_script_types.specs.WellFormed.{IsCluster}
use Rattle.ndc_script_types.specs.declared.script.Header.{Header}
use Rattle.ndc_model_cells.specs.Cells.{Cell, arrived_of, learned_of}
use Rattle.ndc_model_cells.specs.Places.{is_of}
use Rattle.ndc_model_cells.specs.Shards.{shard_of}
use Rattle.ndc_model_cells.specs.Writing.{Desk, Entry, alone, batch_below, may_write, may_write_by, next_key, reapplication_below, reapplication_by, reapplication_of, with_all_written, with_written}
use Rattle.ndc_model_cells.proofs.CellLemmas.{others_learned}
use Rattle.ndc_model_cells.proofs.PlaceLemmas.{written_arrives}
use Rattle.ndc_command.specs.declared.refusal.Refusal.{Refusal}
use Rattle.ndc_domain.specs.Records.{record_of}
use Rattle.ndc_domain.specs.declared.clusters.ClusterNo.{ClusterNo}
use Rattle.ndc_event.specs.declared.batch.Batch.{Batch}
use Rattle.ndc_event.specs.declared.key.RunId.{RunId}
use Rattle.ndc_event.specs.declared.kind.EventKind.{EventKind}
use Rattle.ndc_event.specs.declared.name.Name.{Name}
use Rattle.ndc_laws_reached.proofs.WrittenLemmas.{cell-is, own-names}
use Rattle.ndc_laws_reached.proofs.JoinedLemmas.{first-back}
use Rattle.ndc_laws_reached.proofs.WriterLemmas.{WritesWith, are-few, may-add, may-parts}
use Rattle.ndc_laws_reached.proofs.WorkflowApplyLemmas.{tip-names}
use Rattle.ndc_laws.specs.Worked.{HasApplied}
use Rattle.ndc_laws.proofs.AncestorLemmas.{arrived-part, arrived-set}
use Rattle.ndc_laws.proofs.ResetLemmas.{learned-more, none-in}
use Rattle.ndc_laws.proofs.StrayLemmas.{no-stray}
use Rattle.ndc_model.specs.Facts.{IsReached}
use Rattle.ndc_model.specs.Fair.{written_of}
use Rattle.ndc_model.specs.World.{World, cell_at, home_at}
use Rattle.ndc_reapply.specs.Reapplied.{copy_of, reapplied}
use Rattle.ndc_reapply.specs.declared.stray.Stray.{Stray}
use Rattle.ndc_model_sets.specs.Branches.{workflow_tip}
use Rattle.ndc_model_sets.specs.Current.{HasNoStray, NoneWhereOpen, state_to, strays}
use Rattle.ndc_model_sets.specs.Learned.{IsClosed, IsPart, has_key, itself, learned}
use Rattle.ndc_model_sets.specs.Origins.{origins_in, signal_of, signals_in}
use Rattle.ndc_model_sets.specs.Sets.{Has, IsSet, PointsBack, arrived, batch_at, earlier}
use Rattle.ndc_model_sets.specs.Sound.{IsSound}
use Rattle.ndc_model_sets.proofs.ArrivalLemmas.{arrival_keeps_sets, equal_sets, is_there, only_adds, stays, waited_learned, was_or_new}
use Rattle.ndc_model_sets.proofs.ForkLemmas.{among-left, among-right}
use Rattle.ndc_model_sets.proofs.LearnedLemmas.{learned_closed}
use Rattle.ndc_model_sets.proofs.Lists.{Among, among-map}
use Rattle.ndc_model_sets.proofs.SoundLemmas.{part_is_sound}
use Rattle.ndc_state.specs.Value.{StateValue}
use Rattle.ndc_state.specs.Written.{events_from, failover_close, wake}
use Rattle.ndc_laws_cells.specs.Adding.{MayAdd}
use Rattle.ndc_laws_cells.specs.Entries.{IsWrite}
use Rattle.ndc_laws_cells.proofs.MayLemmas.{new-above, part-sound, tip-all, tip-part}
use Rattle.ndc_laws_cells.proofs.ReapplyLemmas.{reapplication-writes}

-- where there is none, there is none where the run is open
none-at-all : (o : Option Batch) (batches : List Batch) (list : List Stray) → list ≡ [] → NoneWhereOpen o batches list
none-at-all None batches list e = tt
none-at-all (Some tip) batches list e = λ open_run. e

-- a copy that is written has its stray's origin
copy-origin : (run : RunId) (id version : ℕ) (kinds : List EventKind) (s : Stray) → Among (copy_of s) kinds → Among s.origin (origins_in run (events_from id version kinds))
copy-origin run id version [] s h = absurd h
copy-origin run id version (kind ∷ kinds) s h = by h (copy-origin run (id + 1) version kinds s)
  where
    behind : (o : Option Stray) → Among s.origin (map (λ (x : Stray). x.origin) (signals_in run (events_from (id + 1) version kinds)))
        → Among s.origin (map (λ (x : Stray). x.origin) (cons_option o (signals_in run (events_from (id + 1) version kinds))))
    behind None k = k
    behind (Some x) k = inr k

    by : (copy_of s ≡ kind) ⊎ Among (copy_of s) kinds → (Among (copy_of s) kinds → Among s.origin (origins_in run (events_from (id + 1) version kinds)))
        → Among s.origin (origins_in run (events_from id version (kind ∷ kinds)))
    by (inl same) rest = subst (λ k. Among s.origin (origins_in run (events_from id version (k ∷ kinds)))) same (inl refl)
    by (inr k) rest = behind (signal_of run id version kind) (rest k)

stray-copied : (run : RunId) (id : ℕ) (at : StateValue) (version : ℕ) (list : List Stray) (s : Stray) → Among s list → Among s.origin (origins_in run (events_from id version (reapplied at version list)))
unfolding reapplied
stray-copied run id at version list s h =
    copy-origin run id version (failover_close at version ++ map copy_of list ++ wake at) s
    (among-left (copy_of s) (failover_close at version ++ map copy_of list) (wake at) (among-right (copy_of s) (failover_close at version) (map copy_of list) (among-map copy_of list s h)))

-- where the same is learned, the same is to be applied again
pub applied-same : (home : Desk) (domain workflow : Name) (one two : Cell) → learned_of domain workflow two ≡ learned_of domain workflow one → HasApplied home domain workflow one → HasApplied home domain workflow two
unfolding may_write
applied-same home domain workflow one two same applied version may =
    subst HasNoStray (sym same) (applied version (sym (ap (may_write_by home (record_of home.table domain)) same) ∙ may))

module _ (header : Header) (lines : ℕ) (w : World) (is : IsReached header lines w) (cluster : ClusterNo) (known : IsCluster header cluster) (b : Batch)
    (below : shard_of b.domain b.workflow header.shards < header.shards) where
  abbrev at : ℕ
  at = shard_of b.domain b.workflow header.shards

  abbrev home : Desk
  home = home_at header cluster w

  abbrev cell : Cell
  cell = cell_at cluster at w

  abbrev all : List Batch
  all = written_of header b.domain b.workflow w

  abbrev part : List Batch
  part = learned_of b.domain b.workflow cell

  abbrev held : List Batch
  held = arrived_of b.domain b.workflow cell

  held-set : IsSet held
  held-set = arrived-set header lines w is cluster known at below b.domain b.workflow

  held-in : IsPart held all
  held-in = arrived-part header lines w is cluster known at below b.domain b.workflow

  -- a batch below the tip of what is learned, with a copy of each stray
  module _ (version : ℕ) (with : WritesWith home b.domain part version) (tip : Batch) (found : workflow_tip part ≡ Some tip) (x : Stray) (list : List Stray) (are : strays part ≡ x ∷ list) where
    abbrev state : StateValue
    state = state_to tip.run tip.key part

    abbrev pub new : Batch
    new = batch_below b.domain b.workflow (next_key version part) tip state (reapplied state version (x ∷ list))

    adds : MayAdd all part version
    adds = may-add header lines w is cluster known b.domain b.workflow below version with

    module _ (write : IsWrite all part b.domain b.workflow version 0 (alone new)) where
      back : PointsBack new
      back = first-back all new adds.sound write.added

      fresh : batch_at new.key part ≡ None
      fresh = none-in all part new.key adds.within write.added.fresh

      parent-learned : has_key (earlier new) part ≡ true
      parent-learned = ap is_some (tip-part all part version adds tip found)

      then-closed : IsSet (learned (arrived new held)) × IsClosed (learned (arrived new held))
      then-closed = learned_closed (arrived new held) (arrival_keeps_sets new held held-set back)

      -- it is all that becomes learned
      one-more : learned (arrived new held) ≡ arrived new part
      one-more = equal_sets (learned (arrived new held)) (arrived new part) then-closed.0 (arrival_keeps_sets new part adds.part_set back) there again
        where
          there : IsPart (learned (arrived new held)) (arrived new part)
          there c has = by (learned-more all held new adds.sound.closed held-set held-in write.added.fresh back c has)
            where
              by : (c ≡ new) ⊎ Has part c → Has (arrived new part) c
              by (inl same) = subst (λ (y : Batch). Has (arrived new part) y) (sym same) (is_there new part adds.part_set.ordered fresh)
              by (inr h) = stays new part adds.part_set.ordered c h

          again : IsPart (arrived new part) (learned (arrived new held))
          again c has = by (was_or_new new part c adds.part_set.ordered has)
            where
              by : (c ≡ new) ⊎ Has part c → Has (learned (arrived new held)) c
              by (inl same) =
                  subst (λ (y : Batch). Has (learned (arrived new held)) y) (sym same)
                  (waited_learned held new new held-set back (none-in all held new.key held-in write.added.fresh) parent-learned itself)
              by (inr h) = only_adds held new held-set back c h

      then-sound : IsSound (arrived new part)
      then-sound = part_is_sound (arrived new all) (arrived new part) write.added.sound (arrival_keeps_sets new part adds.part_set back) (subst IsClosed one-more then-closed.1) within
        where
          within : IsPart (arrived new part) (arrived new all)
          within c has = by (was_or_new new part c adds.part_set.ordered has)
            where
              by : (c ≡ new) ⊎ Has part c → Has (arrived new all) c
              by (inl same) = subst (λ (y : Batch). Has (arrived new all) y) (sym same) (is_there new all adds.sound.set.ordered write.added.fresh)
              by (inr h) = stays new all adds.sound.set.ordered c (adds.within c h)

      none : strays (arrived new part) ≡ []
      none =
          no-stray part new tip (part-sound all part version adds) then-sound fresh found refl refl (new-above all part version adds)
          (λ s h. stray-copied tip.run state.next state version (x ∷ list) s (subst (Among s) are h))

      pub written-learned : learned_of b.domain b.workflow (with_written (alone new) cell) ≡ arrived new part
      written-learned = ap learned (written_arrives b.domain b.workflow (alone new) cell (cell-is header lines w is at below cluster known) back (own-names new) tt) ∙ one-more

      pub written-settled : HasNoStray (arrived new part)
      written-settled = none-at-all (workflow_tip (arrived new part)) (arrived new part) (strays (arrived new part)) none

  -- what entries leave of the cell: no stray of the workflow, and of others what was learned
  record LeavesNone (entries : List Entry) : Type 0 where
    settled : HasNoStray (learned_of b.domain b.workflow (with_all_written entries cell))
    others : (domain workflow : Name) → is_of domain workflow b ≡ false → learned_of domain workflow (with_all_written entries cell) ≡ learned_of domain workflow cell

  nothing-leaves : HasNoStray part → LeavesNone []
  nothing-leaves none = record { settled = none; others = λ domain workflow other. refl }

  module _ (version : ℕ) (may : may_write home b.domain b.workflow cell ≡ Ok version) (tip : Batch) (found : workflow_tip part ≡ Some tip) (x : Stray) (list : List Stray) (are : strays part ≡ x ∷ list) where
    with : WritesWith home b.domain part version
    with = may-parts home b.domain b.workflow cell version may

    abbrev fresh_one : Batch
    fresh_one = new version with tip found x list are

    one-leaves : IsWrite all part b.domain b.workflow version 0 (alone fresh_one) → LeavesNone (alone fresh_one ∷ [])
    one-leaves write = record {
      settled = subst HasNoStray (sym (written-learned version with tip found x list are write)) (written-settled version with tip found x list are write);
      others = λ domain workflow other. others_learned domain workflow (alone fresh_one) cell other tt;
    }

    below-leaves : LeavesNone (reapplication_below b.domain b.workflow version (Some tip) part (x ∷ list))
    below-leaves = by (state_to tip.run tip.key part).running refl
      where
        entries : Bool → List Entry
        entries running = if running then alone fresh_one ∷ [] else []

        by : (running : Bool) → (state_to tip.run tip.key part).running ≡ running → LeavesNone (entries (state_to tip.run tip.key part).running)
        by true running =
            let may_have = may-add header lines w is cluster known b.domain b.workflow below version with in
            let n = tip-names header lines w is b tip (tip-all all part version may_have tip found) in
            let r = reapplication-writes all part version may_have (are-few header lines w is cluster known b.domain b.workflow below version with) b.domain b.workflow n.0 n.1 (Some tip) found (x ∷ list) are (alone fresh_one) [] (ap entries running) in
            subst LeavesNone (sym (ap entries running)) (one-leaves r.2)
        by false closed =
            subst LeavesNone (sym (ap entries closed))
            (nothing-leaves (subst (λ o. NoneWhereOpen o part (strays part)) (sym found) (λ running. absurd (true≢false (sym running ∙ closed)))))

  writer-leaves : (version : ℕ) → may_write home b.domain b.workflow cell ≡ Ok version → (o : Option Batch) → workflow_tip part ≡ o → (list : List Stray) → strays part ≡ list
      → LeavesNone (reapplication_below b.domain b.workflow version o part list)
  writer-leaves version may None found list are = nothing-leaves (subst (λ o. NoneWhereOpen o part (strays part)) (sym found) tt)
  writer-leaves version may (Some tip) found [] are = nothing-leaves (subst (λ o. NoneWhereOpen o part (strays part)) (sym found) (λ running. are))
  writer-leaves version may (Some tip) found (x ∷ list) are = below-leaves version may tip found x list are

  -- what reapplication leaves
  pub record IsReapplied (after : Cell) : Type 0 where
    pub applied : HasApplied home b.domain b.workflow after
    pub others : (domain workflow : Name) → is_of domain workflow b ≡ false → learned_of domain workflow after ≡ learned_of domain workflow cell

  pub reapplication-leaves : IsReapplied (with_all_written (reapplication_of home b.domain b.workflow cell) cell)
  unfolding reapplication_of
  reapplication-leaves = by (may_write home b.domain b.workflow cell) refl
    where
      by : (r : Result ℕ Refusal) → may_write home b.domain b.workflow cell ≡ r → IsReapplied (with_all_written (reapplication_by b.domain b.workflow (may_write home b.domain b.workflow cell) part) cell)
      by (Ok version) e =
          let l = writer-leaves version e (workflow_tip part) refl (strays part) refl in
          subst (λ r. IsReapplied (with_all_written (reapplication_by b.domain b.workflow r part) cell)) (sym e) (record { applied = λ other may. l.settled; others = l.others })
      by (Err why) e =
          subst (λ r. IsReapplied (with_all_written (reapplication_by b.domain b.workflow r part) cell)) (sym e)
          (record { applied = λ version may. absurd (let both : Ok version ≡ Err why = sym may ∙ e in cc); others = λ domain workflow other. refl })
