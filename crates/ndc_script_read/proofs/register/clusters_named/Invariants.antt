use Rattle.std.proofs.Common.{◌≡◌, All, map, drop, length}
use Rattle.ndc_script_types.specs.WellFormed.{IsCluster}
use Rattle.ndc_script_read.specs.Register.{clusters_named}
use Rattle.ndc_script_read.proofs.LineLists.{behind}
use Rattle.ndc_script_read.proofs.register.clusters_named.Given as goal

-- the clusters so far, before those of the names that are left, are those of the names
abbrev pub invariant-loop-word : goal.invariant-loop-word
invariant-loop-word l = record {
  named :
      behind l.clusters.items (clusters_named l.header l.line (map (λ word. word.now) (drop l.word-index l.words)))
      ≡ clusters_named l.header l.line (map (λ word. word.now) l.words);
  below : All (IsCluster l.header) l.clusters.items;
  count : length l.clusters.items ≡ l.word-index;
}
