use Rattle.ndc_explain_top.proofs.Sectionings.{section-next}
use Rattle.ndc_explain_top.proofs.report.sections_of.Goals as goal

pub loop-place-preserved : goal.loop-place-preserved
loop-place-preserved c =
    section-next c.args.request.now c.args.named.now c.args.groups.now c.loop-place.place c.loop-place.sections.items c.push_section_at.new.sections.items _
    (rw c.count-place-end.ensures at c.loop-place-test.true) c.in_ok-push_section_at.ensures c.loop-place.invariant
