use Rattle.std.proofs.Common.{List, sym, subst}
use Rattle.ndc_tree.specs.Tree.{TreeValue}
use Rattle.ndc_shard_runs.specs.Index.{AreIndexed}
use Rattle.ndc_shard_runs.proofs.IndexLemmas.{indexed-left}
use Rattle.ndc_shard_runs.proofs.index.take_in.Goals as goal

pub returns-in-Err-clause-indexed : goal.returns-in-Err-clause-indexed
returns-in-Err-clause-indexed g c =
    subst (λ (l : List TreeValue). AreIndexed l c.leave.new.places) (sym c.in-Err.ensures.err)
    (subst (λ o. AreIndexed c.args.runs.now o) (sym c.leave.ensures) (indexed-left c.args.batch.now c.args.runs.now c.requires.fresh c.enter.new.places c.in_ok-enter.ensures.ok))
