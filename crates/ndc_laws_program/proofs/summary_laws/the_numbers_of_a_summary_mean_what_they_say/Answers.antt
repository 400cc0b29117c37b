use Rattle.std.proofs.Common.{arith}
use Rattle.ndc_laws_program.proofs.SummedLemmas.{sums-up}
use Rattle.ndc_laws_program.proofs.summary_laws.the_numbers_of_a_summary_mean_what_they_say.Goals as goal

pub returns : goal.returns
returns c = λ header lines w sound is. let least = sound.shards_least in sums-up header lines w is (omega (arith, least)) sound.clusters.count_least
