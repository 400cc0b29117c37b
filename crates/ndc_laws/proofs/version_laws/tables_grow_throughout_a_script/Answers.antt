use Rattle.ndc_laws.proofs.ScriptLemmas.{script-grows}
use Rattle.ndc_laws.proofs.version_laws.tables_grow_throughout_a_script.Goals as goal

pub returns : goal.returns
returns c = λ header front back is. script-grows header back front is
