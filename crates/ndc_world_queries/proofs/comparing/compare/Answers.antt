use Rattle.std.proofs.Common.{◌≡◌, Bool, codes, [], ◌∷◌, option_copied, if◌then◌else◌, subst}
use Rattle.std.specs.Prelude.{IfOk}
use Rattle.ndc_model.specs.Texts.{ok}
use Rattle.ndc_world_replication.specs.Found.{batches_or_none}
use Rattle.ndc_world_queries.proofs.CompareLemmas.{compared}
use Rattle.ndc_world_queries.proofs.comparing.compare.Goals as goal

pub returns : goal.returns
returns c =
    subst (λ (same : Bool). IfOk c.compared.result (λ text. text ≡ ok ((if same then codes "same" else codes "differ") ∷ [])))
    (compared c.args.domain.now c.args.workflow.now (batches_or_none (option_copied c.args.one)) (batches_or_none (option_copied c.args.two)) c.in_ok-is_same.is_same c.requires.one c.requires.two c.in_ok-is_same.ensures)
    c.compared.ensures
