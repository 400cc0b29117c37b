-- What a reset leaves of a workflow.
use Rattle.std.proofs.Common.{◌≡◌, ◌<◌, ◌+◌, ℕ, Bool, true, false, List, [], ◌∷◌, ◌++◌, ◌⊎◌, inl, inr, Option, Some, None, Result, Ok, Err, IsOkAnd, refl, sym, ◌∙◌, subst, ap, arith, true≢false, if◌then◌else◌}
use Rattle.std.specs.Prelude.{is_some}
use Rattle.std.proofs.lemmas.List.{append-nil}
use Rattle.ndc_script_types.specs.WellFormed.{IsWellFormedHeader, IsWorkflowAt}
use Rattle.ndc_script_types.specs.declared.script.Act.TheVariants as act
use Rattle.ndc_script_types.specs.declared.script.Header.{Header}
use Rattle.ndc_model_cells.specs.Cells.{Cell, IsCell, arrived_of, learned_of}
use Rattle.ndc_model_cells.specs.Places.{is_of}
use Rattle.ndc_model_cells.specs.Shards.{shard_of}
use Rattle.ndc_model_cells.specs.Writing.{Entry, alone, as_command_error, batch_below, first_batch, is_close_full, key_behind, may_write, next_key, reset_at, reset_below, reset_close, reset_entries, reset_refused, with_all_written, with_written}
use Rattle.ndc_model_cells.specs.Jobs.{written_at}
use Rattle.ndc_model_cells.proofs.PlaceLemmas.{written_arrives, writing_keeps}
use Rattle.ndc_command.specs.declared.refusal.CommandError.TheVariants.{Refused}
use Rattle.ndc_command.specs.declared.refusal.Refusal.{Refusal}
use Rattle.ndc_command.specs.declared.refusal.Refusal.TheVariants.{HistoryFull}
use Rattle.ndc_domain.specs.declared.clusters.ClusterNo.{ClusterNo}
use Rattle.ndc_event.specs.Key.{key_lt, run_of}
use Rattle.ndc_event.specs.Outcome.{◌>>=◌}
use Rattle.ndc_event.specs.declared.batch.Batch.{Batch}
use Rattle.ndc_event.specs.declared.key.BatchKey.{BatchKey}
use Rattle.ndc_event.specs.declared.kind.EventKind.{EventKind}
use Rattle.ndc_event.specs.declared.name.Name.{Name}
use Rattle.ndc_laws_reached.proofs.LetterLemmas.{shard-below}
use Rattle.ndc_laws_reached.proofs.WrittenLemmas.{cell-is, own-names}
use Rattle.ndc_laws_reached.proofs.JoinedLemmas.{first-back}
use Rattle.ndc_laws_reached.proofs.LandLemmas.{cell-here}
use Rattle.ndc_laws_reached.proofs.MoveLemmas.{reset-kept}
use Rattle.ndc_laws_reached.proofs.OneWriterLemmas.{learned_sound}
use Rattle.ndc_laws_reached.proofs.WriterLemmas.{WritesWith, are-few, may-add, may-parts}
use Rattle.ndc_laws.specs.Promised.{IsResetFrom}
use Rattle.ndc_laws.proofs.AncestorLemmas.{arrived-part, arrived-set}
use Rattle.ndc_laws.proofs.HeadlineLemmas.{replayed}
use Rattle.ndc_model.specs.Facts.{IsReached}
use Rattle.ndc_model.specs.Fair.{written_of}
use Rattle.ndc_model.specs.Lines.{act_step}
use Rattle.ndc_model.specs.Moves.{jobs_done}
use Rattle.ndc_model.specs.Reading.{learned_at}
use Rattle.ndc_model.specs.Steps.{reset_step}
use Rattle.ndc_model.specs.World.{World, cell_at, home_at}
use Rattle.ndc_model_cells.specs.Jobs.{after_job, cells_after}
use Rattle.ndc_reset.specs.Laws.{GoesOn}
use Rattle.ndc_reset.specs.Reset.{reset_kinds, reset_of}
use Rattle.ndc_reset.specs.declared.plan.ResetError.{ResetError}
use Rattle.ndc_reset.specs.declared.plan.ResetError.TheVariants as reset
use Rattle.ndc_reset.proofs.LawProofs.{reset_goes_on}
use Rattle.ndc_model_sets.specs.Branches.{workflow_tip}
use Rattle.ndc_model_sets.specs.Current.{replayed_or_new, state_to}
use Rattle.ndc_model_sets.specs.Learned.{IsClosed, IsPart, WaitsFor, behind, has_key, itself, learned, top}
use Rattle.ndc_model_sets.specs.Paths.{events_to}
use Rattle.ndc_model_sets.specs.Sets.{Has, IsSet, PointsBack, arrived, batch_at}
use Rattle.ndc_model_sets.specs.Sound.{IsSound}
use Rattle.ndc_model_sets.proofs.ArrivalLemmas.{arrival_keeps_sets, is_there, newly_waited, stays, was_or_new}
use Rattle.ndc_model_sets.proofs.BranchLemmas.{among-has, greatest-of, has-among}
use Rattle.ndc_model_sets.proofs.CurrentLaws.{workflow_is_greatest}
use Rattle.ndc_model_sets.proofs.KeyLemmas.{before-from, before-irrefl, before-trans}
use Rattle.ndc_model_sets.proofs.LearnedLemmas.{reaches-learned}
use Rattle.ndc_model_sets.proofs.PathLemmas.{path-first}
use Rattle.ndc_model_sets.proofs.SetLemmas.{found-has, found-key}
use Rattle.ndc_model_sets.proofs.ViewLaws.{origins_of_the_path}
use Rattle.ndc_state.specs.Laws.{AreApart}
use Rattle.ndc_state.specs.Replay.{history_of, replay_of}
use Rattle.ndc_state.specs.Value.{StateValue}
use Rattle.ndc_state.specs.Written.{events_from}
use Rattle.ndc_state.specs.declared.rule.StateError.{StateError}
use Rattle.ndc_laws_cells.specs.Adding.{MayAdd}
use Rattle.ndc_laws_cells.specs.Entries.{AreFew, IsWrite}
use Rattle.ndc_laws_cells.proofs.EntryLemmas.{few-tasks}
use Rattle.ndc_laws_cells.proofs.MayLemmas.{new-above, tip-part, tip-state, part-sound}
use Rattle.ndc_laws_cells.proofs.ResetLemmas.{IsReset, behind-write, close-entry, close-write, one-write, reset-is}

-- a batch of a key that nothing in a closed set has makes nothing else of it learned
module _ (all held : List Batch) (new : Batch) (closed : IsClosed all) (set : IsSet held) (part : IsPart held all) (fresh : batch_at new.key all ≡ None) (back : PointsBack new) where
  none-waits : (b : Batch) → Has held b → WaitsFor (arrived new held) new b → ⊥
  none-waits b has itself = let both : Some b ≡ None = sym (part b has) ∙ fresh in absurd (cc)
  none-waits b has (behind _ before key there e at above) = by (was_or_new new held before set.ordered (found-has (arrived new held) key before at)) (λ h. none-waits before h above)
    where
      same : before.key ≡ key
      same = found-key (arrived new held) key before at

      nothing : before ≡ new → (o : Option Batch) → batch_at key all ≡ o → is_some o ≡ true → ⊥
      nothing e None at h = true≢false (sym h)
      nothing is_new (Some x) at h =
          let named : new.key ≡ key = ap (λ (y : Batch). y.key) (sym is_new) ∙ same in
          let both : Some x ≡ None = sym at ∙ ap (λ k. batch_at k all) (sym named) ∙ fresh in absurd (cc)

      by : (before ≡ new) ⊎ Has held before → (Has held before → ⊥) → ⊥
      by (inl is_new) rest = nothing is_new (batch_at key all) refl (ap (λ o. has_key o all) (sym e) ∙ closed b (part b has))
      by (inr h) rest = rest h

  pub learned-more : (x : Batch) → Has (learned (arrived new held)) x → (x ≡ new) ⊎ Has (learned held) x
  learned-more x has = by (newly_waited held new x set back has)
    where
      waits : (x ≡ new) ⊎ Has held x → WaitsFor (arrived new held) new x → (x ≡ new) ⊎ Has (learned held) x
      waits (inl e) w = inl e
      waits (inr h) w = absurd (none-waits x h w)

      by : Has (learned held) x ⊎ WaitsFor (arrived new held) new x → (x ≡ new) ⊎ Has (learned held) x
      by (inl h) = inr h
      by (inr w) = waits (of-wait x w) w
        where
          of-wait : (x : Batch) → WaitsFor (arrived new held) new x → (x ≡ new) ⊎ Has held x
          of-wait x itself = inl refl
          of-wait x (behind _ before key there e at above) = was_or_new new held x set.ordered there

-- nor is it in a part of it
pub none-in : (all held : List Batch) (key : BatchKey) → IsPart held all → batch_at key all ≡ None → batch_at key held ≡ None
none-in all held key part fresh = by (batch_at key held) refl
  where
    by : (o : Option Batch) → batch_at key held ≡ o → batch_at key held ≡ None
    by None e = e
    by (Some x) e =
        let there : batch_at key all ≡ Some x = subst (λ k. batch_at k all ≡ Some x) (found-key held key x e) (part x (found-has held key x e)) in
        let both : Some x ≡ None = sym there ∙ fresh in absurd (cc)

module _ (header : Header) (well : IsWellFormedHeader header) (lines : ℕ) (few_lines : lines < 100000) (w : World) (is : IsReached header lines w) (cluster : ClusterNo) (domain workflow : Name) (names : IsWorkflowAt header cluster domain workflow) (event : ℕ) where
  abbrev place : ℕ
  place = shard_of domain workflow header.shards

  abbrev here : Cell
  here = cell_at cluster place w

  abbrev all : List Batch
  all = written_of header domain workflow w

  abbrev part : List Batch
  part = learned_of domain workflow here

  abbrev held : List Batch
  held = arrived_of domain workflow here

  there : place < header.shards
  there = shard-below domain workflow header.shards well.shards_least

  abbrev v : World
  v = (act_step header (act.Reset cluster domain workflow event) w).world

  abbrev after : List Batch
  after = learned_at header cluster domain workflow v

  reached : IsReached header (lines + 1) v
  unfolding act_step
  reached = reset-kept header well lines few_lines w is cluster domain workflow names event

  later : IsSound after
  later = learned_sound header (lines + 1) v cluster domain workflow well.shards_least names.known reached

  -- what the cell has learned after these entries
  after-is : (entries : List Entry) → reset_at (home_at header cluster w) domain workflow event here ≡ Ok entries → after ≡ learned_of domain workflow (with_all_written entries here)
  unfolding act_step reset_step jobs_done cells_after after_job
  after-is entries e = ap (learned_of domain workflow) (cell-here header w is.shaped cluster names.known place there (written_at (reset_at (home_at header cluster w) domain workflow event here) here) ∙ ap (λ r. written_at r here) e)

  -- what a reset writes, by its version
  reset-by : (entries : List Entry) → reset_at (home_at header cluster w) domain workflow event here ≡ Ok entries
      → (as_command_error (may_write (home_at header cluster w) domain workflow here) >>= λ version. reset_below domain workflow event header.limit version (workflow_tip part) part) ≡ Ok entries
  unfolding reset_at
  reset-by entries e = e

  module _ (version : ℕ) (with : WritesWith (home_at header cluster w) domain part version) where
    adds : MayAdd all part version
    adds = may-add header lines w is cluster names.known domain workflow there version with

    few : AreFew all version
    few = are-few header lines w is cluster names.known domain workflow there version with

    abbrev key : BatchKey
    key = next_key version part

    module _ (tip : Batch) (found : workflow_tip part ≡ Some tip) (kinds : List EventKind) (r : IsReset (events_to tip.key part) tip.run event header.limit kinds) where
      abbrev state : StateValue
      state = state_to tip.run tip.key part

      abbrev begun : BatchKey → Batch
      begun at = first_batch domain workflow at None kinds

      -- where the new run's first batch is the greatest of what is learned
      leaves : (at : BatchKey) → Has after (begun at) → ((x : Batch) → Has after x → (x ≡ begun at) ⊎ (key_lt x.key at ≡ true)) → batch_at at part ≡ None → IsResetFrom event part after
      leaves at has most fresh = record {
        old = tip;
        was_current = found;
        new = begun at;
        is_current = workflow_is_greatest after later.set later.closed later.parents later.chains
            ∙ greatest-of after (begun at) (has-among after (begun at) has) (λ x among. most x (among-has after x later.set.ordered among));
        begins = refl;
        fresh = fresh;
        events = events;
        replays = replayed (begun at) after (later.replays (begun at) has);
        state = goes (replay_of (run_of at) (events_to at after)) refl on;
        origins = (goes (replay_of (run_of at) (events_to at after)) refl on).origins ∙ origins_of_the_path part tip (part-sound all part version adds) (tip-part all part version adds tip found);
        once = subst AreApart (sym (origins_of_the_path after (begun at) later has)) (later.origins (begun at) has);
      }
        where
          events : events_to at after ≡ events_from 1 at.version (reset_kinds tip.run event (events_to tip.key part))
          events =
              ap history_of (path-first after (begun at) later.set has refl) ∙ append-nil (events_from 1 at.version kinds)
              ∙ ap (events_from 1 at.version) (sym r.are)

          on : IsOkAnd (replay_of (run_of at) (events_to at after)) (GoesOn state (run_of at))
          on =
              subst (λ e. IsOkAnd (replay_of (run_of at) e) (GoesOn state (run_of at))) (sym events)
              (reset_goes_on tip.run (run_of at) at.version event (events_to tip.key part) state (tip-state all part version adds tip found) r.point_is)

          goes : (o : Result StateValue StateError) → replay_of (run_of at) (events_to at after) ≡ o → IsOkAnd o (GoesOn state (run_of at)) → GoesOn state (run_of at) (state_to (run_of at) at after)
          goes (Ok t) e h = subst (GoesOn state (run_of at)) (sym (ap (replayed_or_new (run_of at)) e)) h
          goes (Err error) e h = absurd h

      key-next : key_lt key (key_behind key) ≡ true
      key-next = before-from key (key_behind key) (inr (refl, omega arith))

      -- a key above all that is learned is new to it
      fresh-in : (at : BatchKey) → ((x : Batch) → Has part x → key_lt x.key at ≡ true) → batch_at at part ≡ None
      fresh-in at above = by (batch_at at part) refl
        where
          by : (o : Option Batch) → batch_at at part ≡ o → batch_at at part ≡ None
          by None e = e
          by (Some x) e = absurd (before-irrefl at (subst (λ k. key_lt k at ≡ true) (found-key part at x e) (above x (found-has part at x e))))

      held-in : IsPart held all
      held-in = arrived-part header lines w is cluster names.known place there domain workflow

      held-set : IsSet held
      held-set = arrived-set header lines w is cluster names.known place there domain workflow

      cell-fit : IsCell here
      cell-fit = cell-is header lines w is place there cluster names.known

      -- the new run alone
      alone-leaves : IsWrite all part domain workflow version 0 (alone (begun key)) → after ≡ learned_of domain workflow (with_written (alone (begun key)) here) → IsResetFrom event part after
      alone-leaves write e =
          leaves key (subst (λ l. Has l (begun key)) (sym same) (reaches-learned (arrived (begun key) held) (begun key) set (top (begun key) (is_there (begun key) held held-set.ordered new_there) refl)))
          (λ x has. most x (learned-more all held (begun key) adds.sound.closed held-set held-in write.added.fresh back x (subst (λ l. Has l x) same has)))
          (fresh-in key (new-above all part version adds))
        where
          back : PointsBack (begun key)
          back = first-back all (begun key) adds.sound write.added

          set : IsSet (arrived (begun key) held)
          set = arrival_keeps_sets (begun key) held held-set back

          new_there : batch_at key held ≡ None
          new_there = none-in all held key held-in write.added.fresh

          same : after ≡ learned (arrived (begun key) held)
          same = e ∙ ap learned (written_arrives domain workflow (alone (begun key)) here cell-fit back (own-names (begun key)) tt)

          most : (x : Batch) → (x ≡ begun key) ⊎ Has part x → (x ≡ begun key) ⊎ (key_lt x.key key ≡ true)
          most x (inl same_batch) = inl same_batch
          most x (inr has) = inr (new-above all part version adds x has)

      -- the new run after the batch that closes the old one
      behind-leaves : (closing : Batch) → closing.key ≡ key → closing.domain ≡ domain → closing.workflow ≡ workflow → IsWrite all part domain workflow version 1 (alone closing)
          → ((other : List Batch) → IsWrite (arrived closing all) other domain workflow version 0 (alone (begun (key_behind key))))
          → after ≡ learned_of domain workflow (with_written (alone (begun (key_behind key))) (with_written (alone closing) here)) → IsResetFrom event part after
      behind-leaves closing closing_key closing_domain closing_workflow close writes e =
          leaves (key_behind key)
          (subst (λ l. Has l new) (sym same) (reaches-learned (arrived new held1) new (arrival_keeps_sets new held1 set1 back) (top new (is_there new held1 set1.ordered (none-in all1 held1 (key_behind key) held-in1 write.added.fresh)) refl)))
          (λ x has. most x (learned-more all1 held1 new close.added.sound.closed set1 held-in1 write.added.fresh back x (subst (λ l. Has l x) same has)))
          (fresh-in (key_behind key) above)
        where
          new : Batch
          new = begun (key_behind key)

          all1 : List Batch
          all1 = arrived closing all

          held1 : List Batch
          held1 = arrived closing held

          write : IsWrite all1 part domain workflow version 0 (alone new)
          write = writes part

          back : PointsBack new
          back = first-back all1 new close.added.sound write.added

          back_closing : PointsBack closing
          back_closing = first-back all closing adds.sound close.added

          set1 : IsSet held1
          set1 = arrival_keeps_sets closing held held-set back_closing

          held-in1 : IsPart held1 all1
          held-in1 x has = by (was_or_new closing held x held-set.ordered has)
            where
              by : (x ≡ closing) ⊎ Has held x → Has (arrived closing all) x
              by (inl e) = subst (λ (y : Batch). Has (arrived closing all) y) (sym e) (is_there closing all adds.sound.set.ordered close.added.fresh)
              by (inr h) = stays closing all adds.sound.set.ordered x (held-in x h)

          closing-own : is_of domain workflow closing ≡ true
          closing-own = subst (λ d. is_of d workflow closing ≡ true) closing_domain (subst (λ u. is_of closing.domain u closing ≡ true) closing_workflow (own-names closing))

          arrived-closing : arrived_of domain workflow (with_written (alone closing) here) ≡ held1
          arrived-closing = written_arrives domain workflow (alone closing) here cell-fit back_closing closing-own tt

          same : after ≡ learned (arrived new held1)
          same =
              e ∙ ap learned (written_arrives domain workflow (alone new) (with_written (alone closing) here) (writing_keeps (alone closing) here cell-fit back_closing tt) back (own-names new) tt)
              ∙ ap (λ l. learned (arrived new l)) arrived-closing

          above : (x : Batch) → Has part x → key_lt x.key (key_behind key) ≡ true
          above x has = before-trans x.key key (key_behind key) (new-above all part version adds x has) key-next

          most : (x : Batch) → (x ≡ new) ⊎ Has (learned held1) x → (x ≡ new) ⊎ (key_lt x.key (key_behind key) ≡ true)
          most x (inl same_batch) = inl same_batch
          most x (inr has) = inr (by (learned-more all held closing adds.sound.closed held-set held-in close.added.fresh back_closing x has))
            where
              by : (x ≡ closing) ⊎ Has (learned held) x → key_lt x.key (key_behind key) ≡ true
              by (inl e) = subst (λ k. key_lt k (key_behind key) ≡ true) (sym (ap (λ (y : Batch). y.key) e ∙ closing_key)) key-next
              by (inr h) = above x h

      entries-leave : (entries : List Entry) → reset_at (home_at header cluster w) domain workflow event here ≡ Ok entries → reset_entries domain workflow header.limit key tip state kinds ≡ Ok entries → IsResetFrom event part after
      entries-leave entries at e = by state.running refl (is_close_full header.limit state version) refl e
        where
          closing : Batch
          closing = batch_below domain workflow key tip state (reset_close state version)

          by : (running : Bool) → state.running ≡ running → (full : Bool) → is_close_full header.limit state version ≡ full
              → (if full then Err (Refused HistoryFull)
              else Ok ((if running then alone closing ∷ [] else []) ++ alone (first_batch domain workflow (if running then key_behind key else key) None kinds) ∷ [])) ≡ Ok entries
              → IsResetFrom event part after
          by running run true f h = absurd (cc)
          by true run false f h =
              let same : alone closing ∷ alone (begun (key_behind key)) ∷ [] ≡ entries = cc in
              let write = close-write all part version adds few domain workflow names.domain_name names.workflow_name header.limit well.limit_most tip found run f in
              behind-leaves closing refl refl refl write
              (λ other. behind-write all part version adds few domain workflow names.domain_name names.workflow_name header.limit well.limit_most tip found event kinds r other
              (close-entry all part version adds (few-tasks all part version adds few) domain workflow header.limit tip found run f))
              (after-is entries at ∙ ap (λ l. learned_of domain workflow (with_all_written l here)) (sym same))
          by false run false f h =
              let same : alone (begun key) ∷ [] ≡ entries = cc in
              alone-leaves (one-write all part version adds few domain workflow names.domain_name names.workflow_name header.limit well.limit_most tip found event kinds r)
              (after-is entries at ∙ ap (λ l. learned_of domain workflow (with_all_written l here)) (sym same))

  pub reset-leaves : (entries : List Entry) → reset_at (home_at header cluster w) domain workflow event here ≡ Ok entries → IsResetFrom event part after
  reset-leaves entries at = by (may_write (home_at header cluster w) domain workflow here) refl (reset-by entries at)
    where
      planned : (version : ℕ) → WritesWith (home_at header cluster w) domain part version → (tip : Batch) → workflow_tip part ≡ Some tip → (r : Result (List EventKind) ResetError) → reset_of (events_to tip.key part) tip.run event header.limit ≡ r
          → (reset_refused r >>= λ kinds. reset_entries domain workflow header.limit (next_key version part) tip (state_to tip.run tip.key part) kinds) ≡ Ok entries → IsResetFrom event part after
      planned version with tip found (Ok kinds) r h = entries-leave version with tip found kinds (reset-is (events_to tip.key part) tip.run event header.limit kinds r) entries at h
      planned version with tip found (Err reset.NoSuchPoint) r h = absurd (cc)
      planned version with tip found (Err reset.HistoryFull) r h = absurd (cc)
      planned version with tip found (Err reset.Memory) r h = absurd (cc)

      below-tip : (version : ℕ) → WritesWith (home_at header cluster w) domain part version → (o : Option Batch) → workflow_tip part ≡ o → reset_below domain workflow event header.limit version o part ≡ Ok entries → IsResetFrom event part after
      below-tip version with None found h = absurd (cc)
      below-tip version with (Some tip) found h = planned version with tip found (reset_of (events_to tip.key part) tip.run event header.limit) refl h

      by : (o : Result ℕ Refusal) → may_write (home_at header cluster w) domain workflow here ≡ o
          → (as_command_error o >>= λ version. reset_below domain workflow event header.limit version (workflow_tip part) part) ≡ Ok entries → IsResetFrom event part after
      by (Ok version) may h = below-tip version (may-parts (home_at header cluster w) domain workflow here version may) (workflow_tip part) refl h
      by (Err why) may h = absurd (cc)
