use Rattle.std.proofs.Common.{◌≡◌, ◌≤◌, ◌*◌}
use Rattle.ndc_world_replication.specs.Own.{blocks}
use Rattle.ndc_world_replication.proofs.own.own_places.Given as goal

-- the links of the readers so far
abbrev pub invariant-loop-before : goal.invariant-loop-before
invariant-loop-before l = record {
  sum : l.first ≡ blocks l._before l.others;
  most : l.first ≤ 8 * l._before;
}
