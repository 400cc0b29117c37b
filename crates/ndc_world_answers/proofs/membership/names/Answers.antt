use Rattle.std.proofs.Common.{map, inr}
use Rattle.ndc_world_answers.proofs.MemberLemmas.{ended, next-name}
use Rattle.ndc_world_answers.proofs.membership.names.Goals as goal

pub loop-number-preserved : goal.loop-number-preserved
loop-number-preserved c = (
  next-name c.args.clusters.now c.args.members c.loop-number.number (map (λ name. name.now) c.loop-number.names.items) _ _ c.loop-number-test.true c.in_ok-push_member.ensures.name c.loop-number.invariant.0,
  inr c.push_member.ensures.ascending,
)

pub returns : goal.returns
returns c = ended c.args.clusters.now c.args.members c.loop-number.number (map (λ name. name.now) c.loop-number.names.items) c.loop-number.auto.number-end c.loop-number-test.false c.loop-number.invariant.0 c.loop-number.invariant.1
