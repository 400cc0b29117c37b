use Rattle.std.proofs.Common.{◌∷◌}
use Rattle.ndc_dump.proofs.Printed.{bare-again}
use Rattle.ndc_explain_union.specs.Unions.{united}
use Rattle.ndc_explain_union.proofs.laws.a_sound_union_is_explained.Goals as goal

pub returns : goal.returns
returns c = λ workflow one two others can. bare-again workflow.domain workflow.workflow (united (one ∷ two ∷ others)) can
