use Rattle.ndc_explain_union.proofs.MergeLemmas.{united-has}
use Rattle.ndc_explain_union.proofs.laws.a_union_has_what_its_dumps_have.Goals as goal

pub returns : goal.returns
returns c = λ takings key. united-has key takings
