use Rattle.std.proofs.Common.{arith, sym, subst}
use Rattle.ndc_script_types.specs.declared.script.Header.{Header}
use Rattle.ndc_model.specs.Sometime.{IsReachedSometime}
use Rattle.ndc_model.proofs.FairLemmas.{opening_reached}
use Rattle.ndc_model.specs.Facts.{IsReached}
use Rattle.ndc_model.specs.World.{opening_world}
use Rattle.ndc_world_replication.proofs.OrderlyLemmas.{orderly_fair}
use Rattle.ndc_world_replication.specs.Orderly.{IsOrderly}
use Rattle.ndc_tests_cluster.proofs.replication.in_the_beginning.Goals as goal

pub returns-clause-reached : goal.returns-clause-reached
returns-clause-reached c = subst (IsReached (record { clusters = c.in_ok-build.field-0; shards = 1; limit = 100 }) 0) (sym c.in_ok-replication.ensures) (opening_reached (record { clusters = c.in_ok-build.field-0; shards = 1; limit = 100 }))

pub returns-clause-orderly : goal.returns-clause-orderly
returns-clause-orderly c =
    let header : Header = record { clusters = c.in_ok-build.field-0; shards = 1; limit = 100 } in
    let is : IsReached header 0 (opening_world header) = opening_reached header in
    subst (IsOrderly header) (sym c.in_ok-replication.ensures) (orderly_fair header (opening_world header) is.shaped is.fair.lanes)

pub returns-clause-sometime : goal.returns-clause-sometime
returns-clause-sometime c =
    let header : Header = record { clusters = c.in_ok-build.field-0; shards = 1; limit = 100 } in
    subst (IsReachedSometime header) (sym c.in_ok-replication.ensures) (record { lines = 0; most = omega arith; reached = opening_reached header })
