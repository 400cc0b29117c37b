use Rattle.std.specs.Prelude.{Some}
use Rattle.std.specs.Option.{option_copied}
use Rattle.ndc_model_sets.specs.Reading.{items_of}
use Rattle.ndc_tree.proofs.VersionLemmas.{rank}
use Rattle.ndc_tree.proofs.ReadingLemmas.{Walks}
use Rattle.ndc_tree.proofs.tree.Tree.items_by_walk.Given as goal

-- the items up to the next batch, and after them those gone over, newest first
abbrev pub invariant-loop-next : goal.invariant-loop-next
invariant-loop-next l = Walks l.self.batches items_of (option_copied l.next) l.items.items (items_of (Some l.batch) l.self.batches)

abbrev pub decreases-loop-next : goal.decreases-loop-next
decreases-loop-next l = rank (option_copied l.next)
