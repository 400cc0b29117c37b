use Rattle.std.proofs.Common.{◌≡◌, drop}
use Rattle.ndc_node_lanes.specs.Told.{are_in_turn}
use Rattle.ndc_node_lanes.proofs.told.are_in_turn.Given as goal

-- the entries that are left are in turn from the next place on where all are from the first
abbrev pub invariant-loop-entry : goal.invariant-loop-entry
invariant-loop-entry l = are_in_turn l.least l.next (drop l.entry-index l.entries) ≡ are_in_turn l.from l.next l.entries
