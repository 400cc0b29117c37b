use Rattle.ndc_laws.proofs.MergeLettersLemmas.{merged-come}
use Rattle.ndc_laws.proofs.letter_laws.behind_mergeletters_the_batch_of_each_letter_has_arrived.Goals as goal

pub returns : goal.returns
returns c = λ header lines w cluster fit is known. merged-come header fit lines w is cluster known
