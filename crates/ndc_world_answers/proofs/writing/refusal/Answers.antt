use Rattle.std.proofs.Common.{None, Some, sym, ◌∙◌}
use Rattle.ndc_world_answers.proofs.RefusalLemmas.{answered}
use Rattle.ndc_world_answers.proofs.writing.refusal.Goals as goal

pub returns-in-None : goal.returns-in-None
returns-in-None c =
    answered (λ text. text) c.refused.result c.args.refusal c.refusal_name.result.now None c.refusal_name.ensures (sym c.carried_version.ensures ∙ c.in-None.is) c.refused.ensures

pub returns-in-Some : goal.returns-in-Some
returns-in-Some c =
    answered (λ text. text) c.refused-in-Some.result c.args.refusal c.refusal_name.result.now (Some c.in-Some.version) c.refusal_name.ensures (sym c.carried_version.ensures ∙ c.in-Some.is)
    c.refused-in-Some.ensures
