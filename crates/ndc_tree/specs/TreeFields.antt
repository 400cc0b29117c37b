-- The fields of a tree, as the run and its batches.
use Rattle.std.specs.Prelude.{◌≡◌}
use Rattle.ndc_tree.specs.declared.tree.Tree.TheInside.{Inside}
use Rattle.ndc_tree.specs.Noted.{IsNoted}
use Rattle.ndc_tree.specs.Tips.{tip_keys}
use Rattle.ndc_tree.specs.Tree.{TreeValue, IsTree}

abbrev pub tree_of : Inside → TreeValue
tree_of t = record { run = t.run; batches = t.batches }

-- the batches are a tree of the run, the tips are known, and a version history is noted
abbrev pub IsTreeInside : Inside → Type 0
IsTreeInside t = IsTree t.run t.batches × ((t.tips ≡ tip_keys t.run t.batches) × IsNoted t.batches t.noted_to t.noted.items)
