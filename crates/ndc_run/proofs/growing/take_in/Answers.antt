use Rattle.std.proofs.Common.{◌∙◌, ap}
use Rattle.ndc_rebuild.specs.Kept.{without_kept}
use Rattle.ndc_run.proofs.KeptLemmas.{forgotten}
use Rattle.ndc_run.proofs.growing.take_in.Goals as goal

-- what was kept is forgotten
pub returns-in-Err-clause-kept_err : goal.returns-in-Err-clause-kept_err
returns-in-Err-clause-kept_err c =
    c.forget.ensures.states ∙ ap (without_kept c.args.batch.now.key) c.in_ok-keep_marked.ensures.states
    ∙ forgotten c.args.batch.now.key _ c.args.state.now.current c.args.kept.now.states c.requires.fresh
