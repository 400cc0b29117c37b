-- What is promised of every script holds.
use Rattle.std.proofs.Common.{List, subst}
use Rattle.ndc_script_types.specs.WellFormed.{IsWellFormed}
use Rattle.ndc_script_types.specs.declared.script.Line.{Line}
use Rattle.ndc_script_types.specs.declared.script.Script.{Script}
use Rattle.ndc_laws_program.specs.Promises.{KeepsPromises}
use Rattle.ndc_laws_program.proofs.LinePromiseLemmas.{ends-old-versions, keeps-behind-lines}
use Rattle.ndc_laws_program.proofs.ToldLemmas.{reports-told}
use Rattle.ndc_laws_program.proofs.WorldPromiseLemmas.{keeps-in-worlds}
use Rattle.ndc_model.specs.Laws.{script_of}

pub keeps_promises : (script : Script) → IsWellFormed script → KeepsPromises script
keeps_promises script fit = record {
  worlds = keeps-in-worlds script fit;
  lines = keeps-behind-lines script fit;
  ended = ends-old-versions script fit;
  told = λ front back parts. reports-told script.header front back (subst (λ (lines : List Line). IsWellFormed (script_of script.header lines)) parts fit);
}
