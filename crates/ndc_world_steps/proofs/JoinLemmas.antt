-- A member that may not join.
use Rattle.std.proofs.Common.{◌≡◌, List, Result, Ok, Err, ap}
use Rattle.ndc_domain.specs.declared.clusters.ClusterNo.{ClusterNo}
use Rattle.ndc_domain.specs.declared.record.DomainRecord.{DomainRecord}
use Rattle.ndc_domain.specs.declared.record.JoinError.{JoinError}
use Rattle.ndc_model.specs.Steps.{answered}
use Rattle.ndc_model.specs.Tables.{join_step, join_words}
use Rattle.ndc_model.specs.Texts.{refused}
use Rattle.ndc_model.specs.World.{World}
use Rattle.ndc_world_replication.specs.Tables.{table_left}

-- a refused call is a refused line
pub join_refuses : (at : ClusterNo) (w : World) (error : JoinError) (r : Result (List DomainRecord) JoinError) → table_left at w r ≡ Err error → answered w (refused (join_words error)) ≡ join_step at w r
join_refuses at w error (Ok table) e = absurd (cc)
join_refuses at w error (Err other) e = ap (λ (why : JoinError). answered w (refused (join_words why))) same
  where
    same : error ≡ other
    same = cc
