-- What holds of every reached world of what clusters have learned.
use Rattle.std.proofs.Common.{◌≡◌, ◌<◌, ◌↔◌, ℕ, Bool, true, false, codes, List, [], ◌∷◌, Result, Ok, Err, IsOk, refl, sym, ◌∙◌, subst, ap, if◌then◌else◌}
use Rattle.ndc_script_types.specs.WellFormed.{IsCluster, IsWellFormedHeader}
use Rattle.ndc_script_types.specs.declared.script.Header.{Header}
use Rattle.ndc_domain.specs.declared.clusters.ClusterNo.{ClusterNo}
use Rattle.ndc_event.specs.declared.batch.Batch.{Batch}
use Rattle.ndc_event.specs.declared.name.Name.{Name}
use Rattle.ndc_laws_reached.specs.OneWriter.{EachHasOneCurrent}
use Rattle.ndc_laws_reached.proofs.OneWriterLemmas.{learned_sound}
use Rattle.ndc_laws.specs.Promised.{AnswerAlike, ComparesSame, LearnedTheSame, StatesAreReplays, TipsDiffer}
use Rattle.ndc_model.proofs.DumpLemmas.{shown-same}
use Rattle.ndc_model.specs.Facts.{IsReached}
use Rattle.ndc_model.specs.Lines.{act_step}
use Rattle.ndc_model.specs.Reading.{learned_at, shows_same}
use Rattle.ndc_model.specs.Texts.{ok}
use Rattle.ndc_model.specs.World.{World}
use Rattle.ndc_model.proofs.AlikeLemmas.{branches_alike, compare_same, current_alike, dump_alike, history_alike, state_alike}
use Rattle.ndc_model_sets.specs.Current.{replayed_or_new, state_to}
use Rattle.ndc_model_sets.specs.Paths.{events_to}
use Rattle.ndc_model_sets.specs.Sets.{Has}
use Rattle.ndc_model_sets.specs.Sound.{IsSound, OriginsDiffer}
use Rattle.ndc_model_sets.specs.View.{view_of}
use Rattle.ndc_model_sets.proofs.ArrivalLemmas.{equal_sets}
use Rattle.ndc_model_sets.proofs.CurrentLaws.{one_branch_leads, runs_apart}
use Rattle.ndc_laws_reached.proofs.LearnedRanges.{ranges}
use Rattle.ndc_state.specs.Replay.{replay_of}
use Rattle.ndc_state.specs.Value.{StateValue}
use Rattle.ndc_state.specs.declared.rule.StateError.{StateError}
use Rattle.ndc_text.specs.Views.{dump_text}

-- the state that is shown is that of the replay
pub replayed : (b : Batch) (batches : List Batch) → IsOk (replay_of b.run (events_to b.key batches)) → replay_of b.run (events_to b.key batches) ≡ Ok (state_to b.run b.key batches)
replayed b batches ok = by (replay_of b.run (events_to b.key batches)) refl ok
  where
    by : (r : Result StateValue StateError) → replay_of b.run (events_to b.key batches) ≡ r → IsOk r → replay_of b.run (events_to b.key batches) ≡ Ok (state_to b.run b.key batches)
    by (Ok s) e ok = e ∙ ap Ok (sym (ap (replayed_or_new b.run) e))
    by (Err error) e ok = absurd (cc)

same-word : (t : Bool) → ok ((if t then codes "same" else codes "differ") ∷ []) ≡ ok (codes "same" ∷ []) → t ≡ true
same-word true e = refl
same-word false e = absurd (cc)

module _ (header : Header) (lines : ℕ) (w : World) (fit : IsWellFormedHeader header) (is : IsReached header lines w) where
  some : 0 < header.shards
  some = fit.shards_least

  module _ (cluster : ClusterNo) (known : IsCluster header cluster) (domain workflow : Name) where
    abbrev batches : List Batch
    batches = learned_at header cluster domain workflow w

    pub sound : IsSound batches
    sound = learned_sound header lines w cluster domain workflow some known is

    pub each-current : EachHasOneCurrent batches
    each-current b has =
        let leads = one_branch_leads batches b sound.set sound.closed sound.parents sound.chains has in
        record { tip = leads.0; current = leads.1; leads = leads.2; only = leads.3 }

    pub tips-differ : TipsDiffer batches
    tips-differ one two tip other = runs_apart batches one two tip other sound.set

    pub states-replay : StatesAreReplays batches
    states-replay b has = replayed b batches (sound.replays b has)

    pub origins-differ : OriginsDiffer batches
    origins-differ = sound.origins

  module _ (one two : ClusterNo) (domain workflow : Name) (first : IsCluster header one) (second : IsCluster header two) where
    same-list : LearnedTheSame header one two domain workflow w → learned_at header one domain workflow w ≡ learned_at header two domain workflow w
    same-list same =
        equal_sets (learned_at header one domain workflow w) (learned_at header two domain workflow w) (sound one first domain workflow).set (sound two second domain workflow).set same.there same.back

    pub answers-alike : LearnedTheSame header one two domain workflow w → AnswerAlike header one two domain workflow w
    answers-alike same =
        let e = same-list same in
        record {
          history = history_alike header one two domain workflow w e;
          branches = branches_alike header one two domain workflow w e;
          current = current_alike header one two domain workflow w e;
          state = state_alike header one two domain workflow w e;
          dump = dump_alike header one two domain workflow w e;
          text = ap (λ batches. dump_text domain workflow (view_of batches)) e;
        }

    pub compares-same : ComparesSame header one two domain workflow w ↔ LearnedTheSame header one two domain workflow w
    unfolding act_step
    compares-same = (there, λ same. compare_same header one two domain workflow w (same-list same))
      where
        parts : learned_at header one domain workflow w ≡ learned_at header two domain workflow w → LearnedTheSame header one two domain workflow w
        parts e = record { there = λ b has. subst (λ l. Has l b) e has; back = λ b has. subst (λ l. Has l b) (sym e) has }

        there : ComparesSame header one two domain workflow w → LearnedTheSame header one two domain workflow w
        there e =
            parts (shown-same domain workflow (learned_at header one domain workflow w) (learned_at header two domain workflow w) (ranges header lines w fit is one first domain workflow) (ranges header lines w fit is two second domain workflow)
            (same-word (shows_same domain workflow (learned_at header one domain workflow w) (learned_at header two domain workflow w)) e))
