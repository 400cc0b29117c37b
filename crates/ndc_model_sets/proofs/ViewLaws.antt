-- Origins on paths, and views.
use Rattle.std.proofs.Common.{◌≡◌, ℕ, List, [], ◌∷◌, ◌++◌, Option, Some, None, Result, Ok, Err, IsOk, refl, sym, ◌∙◌, ap}
use Rattle.std.proofs.lemmas.List.{append-nil, append_assoc}
use Rattle.std.specs.List.{cons_option}
use Rattle.ndc_event.specs.declared.batch.Batch.{Batch}
use Rattle.ndc_event.specs.declared.batch.Event.{Event}
use Rattle.ndc_event.specs.declared.kind.EventKind.{EventKind}
use Rattle.ndc_event.specs.declared.kind.EventKind.TheVariants.{WorkflowExecutionSignaled}
use Rattle.ndc_reapply.specs.declared.stray.Stray.{Stray}
use Rattle.ndc_reapply.specs.Strays.{origins_of}
use Rattle.ndc_state.specs.declared.rule.StateError.{StateError}
use Rattle.ndc_state.specs.Laws.{AreApart}
use Rattle.ndc_state.specs.Replay.{replay, replay_of}
use Rattle.ndc_state.specs.Table.{row, after}
use Rattle.ndc_state.specs.Value.{StateValue, new_state}
use Rattle.ndc_state.proofs.ReplayLemmas.{replay-cons}
use Rattle.ndc_state.proofs.RowLemmas.{run-row}
use Rattle.ndc_model_sets.specs.Sets.{IsSet, Has}
use Rattle.ndc_model_sets.specs.Learned.{learned, IsPart}
use Rattle.ndc_model_sets.specs.Current.{replayed_or_new, state_to}
use Rattle.ndc_model_sets.specs.Origins.{signal_of, signals_in, origins_in}
use Rattle.ndc_model_sets.specs.Paths.{events_to}
use Rattle.ndc_model_sets.specs.Sound.{IsSound}
use Rattle.ndc_model_sets.specs.View.{view_of}
use Rattle.ndc_model_sets.proofs.LearnedLemmas.{IsSet-learned}
use Rattle.ndc_model_sets.proofs.ArrivalLemmas.{equal_sets}

pub apart_on_paths : (batches : List Batch) (b : Batch) → IsSound batches → Has batches b → AreApart (origins_in b.run (events_to b.key batches))
apart_on_paths batches b sound has = sound.origins b has

-- the origins that an event adds to a state
row-signal : (s : StateValue) (id version : ℕ) (kind : EventKind) → (row s id version kind).effect.origins ≡ s.origins ++ origins_of (cons_option (signal_of s.run id version kind) [])
unfolding row
row-signal s id version (WorkflowExecutionSignaled name input from) = refl
row-signal s id version _ = sym (append-nil s.origins)

origins-cons : (o : Option Stray) (rest : List Stray) → origins_of (cons_option o rest) ≡ origins_of (cons_option o []) ++ origins_of rest
origins-cons None rest = refl
origins-cons (Some stray) rest = refl

-- replay adds the origins of the events' signals
pub replay-signals : (s t : StateValue) (events : List Event) → replay s events ≡ Ok t → t.origins ≡ s.origins ++ origins_in s.run events
replay-signals s t [] h = let same : s ≡ t = cc in ap (λ (v : StateValue). v.origins) (sym same) ∙ sym (append-nil s.origins)
replay-signals s t (e ∷ es) h =
    let p = replay-cons s t e es h in
    replay-signals (after s e) t es p.1
    ∙ ap (λ run. (after s e).origins ++ origins_in run es) (run-row s e.id e.version e.kind)
    ∙ ap (λ origins. origins ++ origins_in s.run es) (row-signal s e.id e.version e.kind)
    ∙ append_assoc s.origins (origins_of (cons_option (signal_of s.run e.id e.version e.kind) [])) (origins_in s.run es)
    ∙ ap (λ l. s.origins ++ l) (sym (origins-cons (signal_of s.run e.id e.version e.kind) (signals_in s.run es)))

pub origins_of_the_path : (batches : List Batch) (b : Batch) → IsSound batches → Has batches b → (state_to b.run b.key batches).origins ≡ origins_in b.run (events_to b.key batches)
origins_of_the_path batches b sound has = by (replay_of b.run (events_to b.key batches)) refl (sound.replays b has)
  where
    by : (r : Result StateValue StateError) → replay_of b.run (events_to b.key batches) ≡ r → IsOk r → (state_to b.run b.key batches).origins ≡ origins_in b.run (events_to b.key batches)
    by (Ok s) e ok = ap (λ r. (replayed_or_new b.run r).origins) e ∙ replay-signals (new_state b.run) s (events_to b.key batches) e
    by (Err error) e ok = absurd (cc)

pub one_view : (one two : List Batch) → IsSet one → IsSet two → IsPart (learned one) (learned two) → IsPart (learned two) (learned one) → view_of (learned one) ≡ view_of (learned two)
one_view one two set other there back = ap view_of (equal_sets (learned one) (learned two) (IsSet-learned one set) (IsSet-learned two other) there back)
