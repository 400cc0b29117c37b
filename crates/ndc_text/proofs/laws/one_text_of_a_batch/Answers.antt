use Rattle.std.proofs.Common.{sym, ◌∙◌}
use Rattle.ndc_text.proofs.Exact.{found}
use Rattle.ndc_text.proofs.laws.one_text_of_a_batch.Goals as goal

pub returns : goal.returns
returns c b form other bytes more e f = (found form bytes b e).1 ∙ sym (found other more b f).1
