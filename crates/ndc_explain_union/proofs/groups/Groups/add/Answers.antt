use Rattle.std.proofs.Common.{◌≡◌, ◌++◌, ◌∷◌, [], List, ap, ◌∙◌}
use Rattle.indexmap.specs.IndexMap.{insert_entry}
use Rattle.ndc_explain_union.specs.Groupings.{Grouped, same_workflow}
use Rattle.ndc_explain_union.specs.Takings.{Taking}
use Rattle.ndc_explain_union.proofs.Puts.{taken-in}
use Rattle.ndc_explain_union.proofs.groups.Groups.add.Goals as goal

pub returns : goal.returns
returns c =
    let put : c.insert.new.self.entries ≡ insert_entry same_workflow c.take_dumps.new.self c.in_ok-again.again (c.in_ok-dumps.dumps.items ++ c.args.taken ∷ []) =
    c.in_ok-insert.ensures.entries
    ∙ ap (λ (takings : List Taking). insert_entry same_workflow c.self.inside.dumps.entries c.in_ok-again.again takings) (c.new.ensures ∙ c.in_ok-push.ensures.items)
    ∙ ap (λ (groups : Grouped). insert_entry same_workflow groups c.in_ok-again.again (c.in_ok-dumps.dumps.items ++ c.args.taken ∷ [])) c.self.view_is in
    taken-in c.args.taken c.in_ok-workflow.workflow c.in_ok-again.again c.in_ok-dumps.dumps.items c.args.self.now c.take_dumps.new.self c.insert.new.self.entries
    c.in_ok-workflow.ensures c.in_ok-again.ensures c.in_ok-dumps.ensures.dumps c.in_ok-dumps.ensures.none put
