-- What replay keeps, as the public laws say it.
use Rattle.std.proofs.Common.{◌≡◌, List, [], ◌++◌, Ok, IsSome, IsErr, subst, sym, arith}
use Rattle.ndc_event.specs.declared.batch.Event.{Event}
use Rattle.ndc_event.specs.declared.key.RunId.{RunId}
use Rattle.ndc_state.specs.Laws.{IsOpenFit, CountsFromOne, AreApart}
use Rattle.ndc_state.specs.Replay.{replay, replay_on, replay_of, collected}
use Rattle.ndc_state.specs.Table.{applied}
use Rattle.ndc_state.specs.Value.{StateValue, new_state}
use Rattle.ndc_state.proofs.OriginLemmas.{AreApart-collected, AreApart-none}
use Rattle.ndc_state.proofs.ReplayLemmas.{replay-append, origins-replay, follow-replay, closed-takes, IsFit-replay, IsFit-new}

pub in_parts : (s : StateValue) (front rest : List Event) → replay s (front ++ rest) ≡ replay_on (replay s front) rest
in_parts = replay-append

pub open_fit : (run : RunId) (events : List Event) (s : StateValue) → replay_of run events ≡ Ok s → IsOpenFit s
open_fit run events s h = (IsFit-replay (new_state run) s events h (IsFit-new run)).running

pub closed_takes : (run : RunId) (events : List Event) (s : StateValue) → replay_of run events ≡ Ok s → IsSome s.close → (event : Event) → IsErr (applied s event)
closed_takes run events s h closed = closed-takes s (IsFit-replay (new_state run) s events h (IsFit-new run)) closed

pub counts_from_one : (run : RunId) (events : List Event) (s : StateValue) → replay_of run events ≡ Ok s → CountsFromOne events s
counts_from_one run events s h = let f = follow-replay (new_state run) s 0 events h (omega arith) in (f.0, f.1)

pub origins_collected : (run : RunId) (events : List Event) (s : StateValue) → replay_of run events ≡ Ok s → s.origins ≡ collected run [] events
origins_collected run events s h = origins-replay (new_state run) s events h

pub origins_apart : (run : RunId) (events : List Event) (s : StateValue) → replay_of run events ≡ Ok s → AreApart s.origins
origins_apart run events s h = subst AreApart (sym (origins_collected run events s h)) (AreApart-collected run [] events AreApart-none)
