use Rattle.ndc_laws_program.proofs.DumpLemmas.{all-can-dump}
use Rattle.ndc_laws_program.proofs.dump_laws.what_clusters_learn_can_be_dumped.Goals as goal

pub returns : goal.returns
returns c = all-can-dump
