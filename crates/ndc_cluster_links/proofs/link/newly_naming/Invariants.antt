use Rattle.std.proofs.Common.{◌≡◌, ◌++◌, drop}
use Rattle.ndc_model.specs.World.{newly_naming}
use Rattle.ndc_cluster_links.proofs.link.newly_naming.Given as goal

abbrev pub invariant-loop-record : goal.invariant-loop-record
invariant-loop-record l = l.names.items ++ newly_naming l.reader (drop l.record-index l.before) l.after ≡ newly_naming l.reader l.before l.after
