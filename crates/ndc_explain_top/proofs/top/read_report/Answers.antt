use Rattle.std.proofs.Common.{sym}
use Rattle.ndc_explain_top.proofs.Refusals.{reading-fails}
use Rattle.ndc_explain_top.proofs.top.read_report.Goals as goal

pub returns-clause-fault : goal.returns-clause-fault
returns-clause-fault g c =
    reading-fails c.args.request.now (g.S.Source.left c.args.source.now) c.as_slice.result.now
    (rw (c.as_slice.ensures.value, sym c.limit_of.ensures) c.in-Ok.ensures.within) (rw c.as_slice.ensures.value c.in-Ok.ensures.all) _ _ c.report_of.result c.report_of.ensures
