use Rattle.std.proofs.Common.{◌≡◌, List, Ok, IfSome, sym, subst}
use Rattle.ndc_event.specs.declared.batch.Event.{Event}
use Rattle.ndc_model_sets.specs.Paths.{path_from}
use Rattle.ndc_model_sets.proofs.BranchLemmas.{has-among}
use Rattle.ndc_model_sets.proofs.Lists.{all-among}
use Rattle.ndc_state.specs.Replay.{history_of, replay}
use Rattle.ndc_dump_causes.specs.Causes.{has_origin_twice}
use Rattle.ndc_dump_causes.specs.Given.{HasSmallIds}
use Rattle.ndc_dump_causes.specs.Replaying.{AreKept, IsStateAt, IsStateOf}
use Rattle.ndc_dump_causes.specs.declared.error.KeyCause.TheVariants.{OriginTwice}
use Rattle.ndc_dump_causes.specs.declared.replaying.Kept.{Kept}
use Rattle.ndc_dump_causes.proofs.NoCause.{holds-not}
use Rattle.ndc_dump_causes.proofs.ReplayLemmas.{all-push, state-next, state-replays}
use Rattle.ndc_dump_causes.proofs.Walking.{all-small}
use Rattle.ndc_dump_causes.proofs.replaying.replay_one.Goals as goal

pub apply_all-requires : goal.apply_all-requires
apply_all-requires c =
    rw c.as_slice.ensures (all-among HasSmallIds c.args.batches.now c.args.batch.now (all-small c.args.batches.now c.requires.read.range) (has-among c.args.batches.now c.args.batch.now c.requires.has))

pub returns-in_ok-push-clause-kept : goal.returns-in_ok-push-clause-kept
returns-in_ok-push-clause-kept c =
    subst (AreKept c.args.batches.now) (sym c.in_ok-push.ensures.items)
    (all-push (λ (one : Kept). IsStateAt c.args.batches.now one.key one.state) c.state_before.new.kept.items _ c.in_ok-state.ensures.kept
    (record {
      batch = c.args.batch.now;
      at = c.requires.has;
      state = state-next c.args.batches.now c.args.batch.now c.in-Some.state c.apply_all.new.self c.requires.read c.requires.has
          (holds-not OriginTwice (has_origin_twice c.args.batches.now) c.args.batches.now tt c.requires.once c.args.batch.now c.requires.has)
          (subst (λ o. IfSome o (λ s. IsStateOf s c.args.batch.now.run (history_of (path_from c.args.batch.now.parent c.args.batches.now)))) c.in-Some.is c.in_ok-state.ensures.state)
          (subst (λ (es : List Event). replay c.in-Some.state es ≡ Ok c.apply_all.new.self) c.as_slice.ensures c.in-Ok.ensures.answer);
    }))

pub returns-in_ok-push-clause-replays : goal.returns-in_ok-push-clause-replays
returns-in_ok-push-clause-replays c = λ _.
    state-replays c.args.batches.now c.args.batch.now c.apply_all.new.self
    (state-next c.args.batches.now c.args.batch.now c.in-Some.state c.apply_all.new.self c.requires.read c.requires.has
    (holds-not OriginTwice (has_origin_twice c.args.batches.now) c.args.batches.now tt c.requires.once c.args.batch.now c.requires.has)
    (subst (λ o. IfSome o (λ s. IsStateOf s c.args.batch.now.run (history_of (path_from c.args.batch.now.parent c.args.batches.now)))) c.in-Some.is c.in_ok-state.ensures.state)
    (subst (λ (es : List Event). replay c.in-Some.state es ≡ Ok c.apply_all.new.self) c.as_slice.ensures c.in-Ok.ensures.answer))

pub returns-else-step-clause-replays : goal.returns-else-step-clause-replays
returns-else-step-clause-replays c = λ _.
    state-replays c.args.batches.now c.args.batch.now c.apply_all.new.self
    (state-next c.args.batches.now c.args.batch.now c.in-Some.state c.apply_all.new.self c.requires.read c.requires.has
    (holds-not OriginTwice (has_origin_twice c.args.batches.now) c.args.batches.now tt c.requires.once c.args.batch.now c.requires.has)
    (subst (λ o. IfSome o (λ s. IsStateOf s c.args.batch.now.run (history_of (path_from c.args.batch.now.parent c.args.batches.now)))) c.in-Some.is c.in_ok-state.ensures.state)
    (subst (λ (es : List Event). replay c.in-Some.state es ≡ Ok c.apply_all.new.self) c.as_slice.ensures c.in-Ok.ensures.answer))
