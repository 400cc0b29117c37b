use Rattle.std.proofs.Common.{◌≡◌, ◌++◌, map, drop}
use Rattle.ndc_script_types.specs.Print.{lines_text, cluster_line_of}
use Rattle.ndc_script.proofs.printing.push_clusters.Given as goal

-- the text so far, with the lines of the clusters that are left, is the whole
abbrev pub invariant-loop-number : goal.invariant-loop-number
invariant-loop-number l =
    l.text.items ++ lines_text (map cluster_line_of (drop l.number l.clusters.members))
    ≡ l.fn.text.items ++ lines_text (map cluster_line_of l.clusters.members)
