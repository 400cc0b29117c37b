use Rattle.std.proofs.Common.{◌∙◌, List, length, map, ap, sym, subst}
use Rattle.std.proofs.lemmas.List.{take-map, drop-map}
use Rattle.ndc_event.specs.declared.batch.Event.{Event}
use Rattle.ndc_state.specs.Replay.{history_of, allowed_count, CountsWithin}
use Rattle.ndc_state.specs.Value.{new_state}
use Rattle.ndc_rebuild.specs.Rebuilt.{HaveSmallIds}
use Rattle.ndc_rebuild.proofs.PathLemmas.{HaveSmallIds-drop, replay-parts, steps-parts, events_behind-none, CountsWithin-le, allowed_count-le}
use Rattle.ndc_rebuild.proofs.checkpoints.Checkpoints.restore_along.Goals as goal

-- those after it have small ids, since all have
pub replay_batches-requires : goal.replay_batches-requires
replay_batches-requires g c =
    subst HaveSmallIds (drop-map (λ b. b.now) c.in-Some.found.0 c.args.path.now ∙ ap (map (λ b. b.now)) (sym c.split_at.ensures.back))
    (HaveSmallIds-drop (map (λ b. b.now) c.args.path.now) c.in-Some.found.0 c.requires.ids)

pub returns-in-Ok-clause-answer : goal.returns-in-Ok-clause-answer
returns-in-Ok-clause-answer g c =
    replay-parts c.args.self.now (map (λ b. b.now) c.args.path.now) c.in-Some.found.0 c.in-Some.found.1.now c.requires.kept c.in-Some.ensures
    (map (λ b. b.now) c.split_at.result.0.now) (map (λ b. b.now) c.split_at.result.1.now) c.in_ok-state.state
    (ap (map (λ b. b.now)) c.split_at.ensures.front ∙ sym (take-map (λ b. b.now) c.in-Some.found.0 c.args.path.now))
    (ap (map (λ b. b.now)) c.split_at.ensures.back ∙ sym (drop-map (λ b. b.now) c.in-Some.found.0 c.args.path.now)) c.in_ok-state.ensures
    ∙ c.in-Ok.ensures.answer

pub returns-in-Err-clause-answer : goal.returns-in-Err-clause-answer
returns-in-Err-clause-answer g c = λ e.
    replay-parts c.args.self.now (map (λ b. b.now) c.args.path.now) c.in-Some.found.0 c.in-Some.found.1.now c.requires.kept c.in-Some.ensures
    (map (λ b. b.now) c.split_at.result.0.now) (map (λ b. b.now) c.split_at.result.1.now) c.in_ok-state.state
    (ap (map (λ b. b.now)) c.split_at.ensures.front ∙ sym (take-map (λ b. b.now) c.in-Some.found.0 c.args.path.now))
    (ap (map (λ b. b.now)) c.split_at.ensures.back ∙ sym (drop-map (λ b. b.now) c.in-Some.found.0 c.args.path.now)) c.in_ok-state.ensures
    ∙ c.in-Err.ensures.answer e

pub returns-in-Ok-clause-most_steps : goal.returns-in-Ok-clause-most_steps
returns-in-Ok-clause-most_steps g c =
    steps-parts c.args.self.now (map (λ b. b.now) c.args.path.now) c.in-Some.found.0 c.in-Some.found.1.now c.requires.kept c.in-Some.ensures
    c.args.steps.now c.replay_batches.new.steps (map (λ b. b.now) c.split_at.result.1.now) c.in_ok-state.state
    (ap (map (λ b. b.now)) c.split_at.ensures.back ∙ sym (drop-map (λ b. b.now) c.in-Some.found.0 c.args.path.now)) c.in-Ok.ensures.most_steps

pub returns-in-Err-clause-most_steps : goal.returns-in-Err-clause-most_steps
returns-in-Err-clause-most_steps g c =
    steps-parts c.args.self.now (map (λ b. b.now) c.args.path.now) c.in-Some.found.0 c.in-Some.found.1.now c.requires.kept c.in-Some.ensures
    c.args.steps.now c.replay_batches.new.steps (map (λ b. b.now) c.split_at.result.1.now) c.in_ok-state.state
    (ap (map (λ b. b.now)) c.split_at.ensures.back ∙ sym (drop-map (λ b. b.now) c.in-Some.found.0 c.args.path.now)) c.in-Err.ensures.most_steps

-- nothing is kept, so all events come after it
pub returns-in-None-clause-most_steps : goal.returns-in-None-clause-most_steps
returns-in-None-clause-most_steps g c =
    subst (λ (es : List Event). CountsWithin c.args.steps.now (length es) c.rebuild_along.new.steps) (sym (events_behind-none c.args.self.now.states (map (λ b. b.now) c.args.path.now) c.in-None.ensures))
    (CountsWithin-le c.args.steps.now (allowed_count (new_state c.self.inside.run) (history_of (map (λ b. b.now) c.args.path.now))) (length (history_of (map (λ b. b.now) c.args.path.now))) c.rebuild_along.new.steps
    (allowed_count-le (new_state c.self.inside.run) (history_of (map (λ b. b.now) c.args.path.now))) c.rebuild_along.ensures.most_steps)
