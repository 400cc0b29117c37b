use Rattle.std.proofs.Common.{ℕ, ◌<◌, sym}
use Rattle.ndc_domain.specs.Clusters.{count_of}
use Rattle.ndc_world_answers.proofs.MemberLemmas.{member-all}
use Rattle.ndc_world_answers.proofs.membership.push_member.Goals as goal

pub name-requires : goal.name-requires
name-requires c = member-all (λ (n : ℕ). n < count_of c.args.clusters.now) c.args.members c.args.number c.requires (sym c.if-has.ensures.has)
