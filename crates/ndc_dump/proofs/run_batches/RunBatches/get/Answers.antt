use Rattle.std.proofs.Common.{◌≡◌, [], List, map, IfNone, IfSome, subst}
use Rattle.ndc_event.specs.declared.batch.Batch.{Batch}
use Rattle.ndc_event.specs.declared.key.RunId.{RunId}
use Rattle.ndc_dump.specs.Groups.{listed}
use Rattle.ndc_dump.proofs.Grouping.{lent-none, lent-some}
use Rattle.ndc_dump.proofs.run_batches.RunBatches.get.Goals as goal

pub returns-clause-some : goal.returns-clause-some
returns-clause-some c =
    subst (λ (lists : List (RunId × List Batch)). IfSome c.get.result (λ list. map (λ b. b.now) list.now.items ≡ listed c.args.run lists)) c.self.view_is
    (lent-some (λ list. map (λ b. b.now) list.items) (λ x. x.now) c.args.run c.self.inside.lists.entries c.get.result c.get.ensures.value)

pub returns-clause-none : goal.returns-clause-none
returns-clause-none c =
    subst (λ (lists : List (RunId × List Batch)). IfNone c.get.result (listed c.args.run lists ≡ [])) c.self.view_is
    (lent-none (λ list. map (λ b. b.now) list.items) (λ x. x.now) c.args.run c.self.inside.lists.entries c.get.result c.get.ensures.value)
