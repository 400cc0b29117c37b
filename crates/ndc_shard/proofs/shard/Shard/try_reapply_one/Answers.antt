use Rattle.std.proofs.Common.{◌≡◌, Option, subst}
use Rattle.std.specs.Prelude.{IfSome}
use Rattle.ndc_shard.proofs.TriedLemmas.{once-passed}
use Rattle.ndc_shard.specs.Trying.{IsPassedOver}
use Rattle.ndc_shard.specs.declared.error.TryError.{TryError}
use Rattle.ndc_shard.proofs.shard.Shard.try_reapply_one.Goals as goal

pub returns-in_ok-push-in-Some-clause-ok : goal.returns-in_ok-push-in-Some-clause-ok
returns-in_ok-push-in-Some-clause-ok g c =
    once-passed c.args.desk.now c.args.domain c.args.workflow c.in-Some.cause c.args.self.now c.try_reapply_in.new.self c.args.told.now.written.items c.try_reapply_in.new.written.items
    c.args.told.now.skipped.items c.push.new.self.items
    (subst (λ (o : Option TryError). IfSome o (λ why. IsPassedOver why c.args.desk.now (c.args.domain, c.args.workflow) c.args.self.now)) c.in-Some.is c.in_ok-try_reapply_in.ensures.why)
    (subst (λ (o : Option TryError). IfSome o (λ _. c.try_reapply_in.new.self ≡ c.args.self.now)) c.in-Some.is c.in_ok-try_reapply_in.ensures.same)
    (subst (λ (o : Option TryError). IfSome o (λ _. c.try_reapply_in.new.written.items ≡ c.args.told.now.written.items)) c.in-Some.is c.in_ok-try_reapply_in.ensures.none)
    c.in_ok-push-in-Some.ensures.items
