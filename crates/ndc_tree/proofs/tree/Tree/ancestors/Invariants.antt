use Rattle.std.specs.Prelude.{Some, map}
use Rattle.std.specs.Option.{option_copied}
use Rattle.ndc_model_sets.specs.Reading.{path_of}
use Rattle.ndc_tree.proofs.VersionLemmas.{rank}
use Rattle.ndc_tree.proofs.ReadingLemmas.{Walks}
use Rattle.ndc_tree.proofs.tree.Tree.ancestors.Given as goal

-- the path to the next batch, and after it the batches gone over, newest first
abbrev pub invariant-loop-next : goal.invariant-loop-next
invariant-loop-next l = Walks l.self.batches path_of (option_copied l.next) (map (λ b. b.now) l.path.items) (path_of (Some l.batch) l.self.batches)

abbrev pub decreases-loop-next : goal.decreases-loop-next
decreases-loop-next l = rank (option_copied l.next)
