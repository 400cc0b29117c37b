use Rattle.std.specs.Prelude.{length, map}
use Rattle.std.specs.Option.{option_copied}
use Rattle.ndc_model_sets.specs.Paths.{path_to}
use Rattle.ndc_resend.specs.Gaps.{end_behind}
use Rattle.ndc_shard.proofs.EndLemmas.{Ascends, end_of}
use Rattle.ndc_shard.proofs.serving.path_behind.Given as goal

-- what is left of the end, and after it those gone over, newest first
abbrev pub invariant-loop-next : goal.invariant-loop-next
invariant-loop-next l = Ascends l.id l.runs (option_copied l.next) (map (λ b. b.now) l.list.items) (end_behind l.id (path_to l.fn.key l.runs))

abbrev pub decreases-loop-next : goal.decreases-loop-next
decreases-loop-next l = length (end_of l.id (option_copied l.next) l.runs)
