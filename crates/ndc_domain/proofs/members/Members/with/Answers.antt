use Rattle.std.proofs.Common.{ℕ, List, ◌∙◌, ap, arith}
use Rattle.ndc_domain.specs.Members.{with_member}
use Rattle.ndc_domain.proofs.FlagEdits.{flagged-set}
use Rattle.ndc_domain.proofs.members.Members.with.Goals as goal

pub returns : goal.returns
returns c =
    flagged-set c.self.inside.flags c.args.cluster.number (omega arith)
    ∙ ap (λ (members : List ℕ). with_member members c.args.cluster.number) c.self.view_is
