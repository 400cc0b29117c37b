use Rattle.std.proofs.Common.{◌≡◌, false, List, length, sym, ap, ◌∙◌, subst}
use Rattle.ndc_event.specs.declared.batch.Event.{Event}
use Rattle.ndc_model_sets.specs.Origins.{origins_in}
use Rattle.ndc_state.specs.Replay.{collected}
use Rattle.ndc_dump_causes.specs.Causes.{comes_again}
use Rattle.ndc_dump_causes.specs.Trails.{TrailValue}
use Rattle.ndc_dump_causes.proofs.TrailLemmas.{listed-next, listed-once, trail-kept, trail-more}
use Rattle.ndc_dump_causes.proofs.trail.Trail.open.Goals as goal

pub returns-then-branch-clause-trail : goal.returns-then-branch-clause-trail
returns-then-branch-clause-trail c =
    trail-kept c.args.batches.now c.go_back.new.self c.self-2.inside.opened.items c.self-2.inside.origins.keys c.truncate.new.self.keys c.len-before.result c.args.batch.now.run c.as_slice.result.now
    c.in_ok-go_back.ensures.trail
    (ap (λ (t : TrailValue). t.opened) c.self-2.view_is ∙ c.in_ok-list_all.ensures.opened)
    (ap (λ (t : TrailValue). t.listed) c.self-2.view_is ∙ c.in_ok-list_all.ensures.listed)
    (c.len-before.ensures.len ∙ ap (λ (t : TrailValue). length t.listed) c.self.view_is)
    c.truncate.ensures.keys

pub returns-clause-trail : goal.returns-clause-trail
returns-clause-trail c =
    let listed = listed-next c.args.batches.now c.requires.read c.requires.formed c.args.batch.now c.go_back.new.self.listed c.requires.has
    (c.in_ok-go_back.ensures.at c.if-not-branch.false)
    (subst (λ (es : List Event). comes_again c.go_back.new.self.listed (origins_in c.args.batch.now.run es) ≡ false) c.as_slice.ensures (sym c.in_ok-list_all.ensures.again ∙ c.if-branch.false)) in
    trail-more c.args.batches.now c.go_back.new.self c.self-2.inside.opened.items c.push.new.self.items c.self-2.inside.origins.keys _ c.args.batch.now.run c.args.batch.now.events
    c.in_ok-go_back.ensures.trail
    (ap (λ (t : TrailValue). t.opened) c.self-2.view_is ∙ c.in_ok-list_all.ensures.opened)
    (ap (λ (t : TrailValue). t.listed) c.self-2.view_is ∙ c.in_ok-list_all.ensures.listed ∙ ap (collected c.args.batch.now.run c.go_back.new.self.listed) c.as_slice.ensures)
    c.len.ensures.len listed c.in_ok-push.ensures.items

pub returns-clause-once : goal.returns-clause-once
returns-clause-once c = λ _.
    listed-once c.args.batches.now (collected c.args.batch.now.run c.go_back.new.self.listed c.args.batch.now.events) c.args.batch.now c.requires.has
    (listed-next c.args.batches.now c.requires.read c.requires.formed c.args.batch.now c.go_back.new.self.listed c.requires.has
    (c.in_ok-go_back.ensures.at c.if-not-branch.false)
    (subst (λ (es : List Event). comes_again c.go_back.new.self.listed (origins_in c.args.batch.now.run es) ≡ false) c.as_slice.ensures (sym c.in_ok-list_all.ensures.again ∙ c.if-branch.false)))
