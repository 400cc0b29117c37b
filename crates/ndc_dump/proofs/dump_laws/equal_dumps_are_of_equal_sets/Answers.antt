use Rattle.std.proofs.Common.{ap}
use Rattle.ndc_model_sets.specs.View.{view_of}
use Rattle.ndc_text.specs.Views.{dump_text}
use Rattle.ndc_dump.proofs.Apart.{one_set}
use Rattle.ndc_dump.proofs.dump_laws.equal_dumps_are_of_equal_sets.Goals as goal

pub returns : goal.returns
returns c domain workflow one two h k = (one_set domain workflow one two h k, ap (λ batches. dump_text domain workflow (view_of batches)))
