-- Settlement and resending of scripts.
use Rattle.std.proofs.Common.{◌<◌, ◌+◌, ℕ, List, ◌∷◌, ◌++◌}
use Rattle.ndc_script_types.specs.WellFormed.{IsWellFormed, IsWellFormedHeader}
use Rattle.ndc_script_types.specs.declared.script.Act.TheVariants as act
use Rattle.ndc_script_types.specs.declared.script.Header.{Header}
use Rattle.ndc_script_types.specs.declared.script.Line.{Line}
use Rattle.ndc_domain.specs.declared.clusters.ClusterNo.{ClusterNo}
use Rattle.ndc_laws_reached.proofs.ResendLemmas.{resent_whole}
use Rattle.ndc_laws_reached.specs.Settled.{IsSettled}
use Rattle.ndc_laws_reached.proofs.SettledLemmas.{settlement_settled}
use Rattle.ndc_laws_reached.proofs.WorkflowApplyLemmas.{applying-kept}
use Rattle.ndc_laws.specs.Promised.{NothingPutOff, line, world_before}
use Rattle.ndc_laws.proofs.LinesBefore.{runs-reached}
use Rattle.ndc_laws.proofs.SettlesLemmas.{applying-settles}
use Rattle.ndc_model.specs.Facts.{IsReached}
use Rattle.ndc_model.specs.Laws.{script_of}
use Rattle.ndc_model.specs.Lines.{act_step}
use Rattle.ndc_model.specs.Moves.{after_settlement}
use Rattle.ndc_model.specs.World.{World}

pub settled-world : (header : Header) (lines : ℕ) (w : World) → IsWellFormedHeader header → lines < 100000 → IsReached header lines w → IsSettled header (after_settlement header w).world
settled-world header lines w fit less is = settlement_settled header lines w fit less (applying-kept header (lines + 1)) (applying-settles header (lines + 1)) is

pub settle-line : (header : Header) (front back : List Line) (number : ℕ) → IsWellFormed (script_of header (front ++ line number act.Settle ∷ back)) → IsSettled header (act_step header act.Settle (world_before header front)).world
unfolding act_step
settle-line header front back number is =
    let r = runs-reached header front back (line number act.Settle) is in
    settled-world header r.lines (world_before header front) is.header r.most r.reached

pub resend-line : (header : Header) (front back : List Line) (number : ℕ) (cluster : ClusterNo) → IsWellFormed (script_of header (front ++ line number (act.Resend cluster) ∷ back))
    → NothingPutOff header cluster (act_step header (act.Resend cluster) (world_before header front)).world
unfolding act_step
resend-line header front back number cluster is shard below =
    let r = runs-reached header front back (line number (act.Resend cluster)) is in
    resent_whole header r.lines cluster (world_before header front) shard r.fit r.reached below
