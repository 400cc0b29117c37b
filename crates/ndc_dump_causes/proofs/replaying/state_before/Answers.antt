use Rattle.std.proofs.Common.{sym, subst}
use Rattle.ndc_model_sets.specs.Paths.{path_from}
use Rattle.ndc_state.specs.Replay.{history_of}
use Rattle.ndc_state.specs.Value.{new_state}
use Rattle.ndc_dump_causes.specs.Causes.{is_ill_formed}
use Rattle.ndc_dump_causes.specs.Replaying.{IsStateOf}
use Rattle.ndc_dump_causes.specs.declared.error.KeyCause.TheVariants.{NotWellFormed}
use Rattle.ndc_dump_causes.proofs.NoCause.{fit-from, holds-not}
use Rattle.ndc_dump_causes.proofs.ReplayLemmas.{state-none, states-below}
use Rattle.ndc_dump_causes.proofs.replaying.state_before.Goals as goal

pub returns-in-None-clause-state : goal.returns-in-None-clause-state
returns-in-None-clause-state c =
    subst (λ s. IsStateOf s c.args.batch.now.run (history_of (path_from c.args.batch.now.parent c.args.batches.now))) (sym c.new.ensures)
    (subst (λ o. IsStateOf (new_state c.args.batch.now.run) c.args.batch.now.run (history_of (path_from o c.args.batches.now))) (sym c.in-None.is) (state-none c.args.batches.now c.args.batch.now.run))

pub returns-in-Some-clause-state : goal.returns-in-Some-clause-state
returns-in-Some-clause-state c =
    states-below c.args.batches.now c.args.batch.now c.in-Some.key c.kept_at.result
    (fit-from c.args.batches.now (holds-not NotWellFormed (is_ill_formed c.args.batches.now) c.args.batches.now tt c.requires.formed)) c.requires.has c.in-Some.is c.kept_at.ensures.state
