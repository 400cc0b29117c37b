use Rattle.std.proofs.Common.{◌∙◌, ap, sym}
use Rattle.ndc_history.specs.Common.{common_of}
use Rattle.ndc_history.specs.Shared.{items_shared}
use Rattle.ndc_history.proofs.CommonLemmas.{common-none_two}
use Rattle.ndc_history.proofs.history.VersionHistory.common.Goals as goal

-- nothing is in common with a history of no version
pub returns-in_default-shared : goal.returns-in_default-shared
returns-in_default-shared c = sym (ap (common_of c.args.self.now) (sym c.other.view_is ∙ ap items_shared c.in_default-shared.is) ∙ common-none_two c.args.self.now)
