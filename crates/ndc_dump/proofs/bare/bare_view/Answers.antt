use Rattle.std.proofs.Common.{ap, rules}
use Rattle.ndc_model_sets.specs.View.{view_of}
use Rattle.ndc_dump.specs.Migrated.{standing_for}
use Rattle.ndc_dump.specs.Read.{shown_or}
use Rattle.ndc_dump.proofs.ViewLines.{first-too-many}
use Rattle.ndc_dump.proofs.bare.bare_view.Goals as goal

pub returns-in-len1-up : goal.returns-in-len1-up
returns-in-len1-up c = λ _.
    ap (shown_or (view_of (standing_for c.args.form c.args.batches.items))) (first-too-many (λ line. line.now) c.args.number c.args.lines.now (search rules))
