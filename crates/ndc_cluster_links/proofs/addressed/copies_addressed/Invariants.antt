use Rattle.std.proofs.Common.{◌≡◌, ◌++◌, drop}
use Rattle.std.specs.List.{filter}
use Rattle.ndc_model.specs.Queues.{is_addressed}
use Rattle.ndc_cluster_links.proofs.addressed.copies_addressed.Given as goal

abbrev pub invariant-loop-entry : goal.invariant-loop-entry
invariant-loop-entry l = l.list.items ++ filter (is_addressed l.reader l.table) (drop l.entry-index l.entries) ≡ filter (is_addressed l.reader l.table) l.entries
