use Rattle.std.proofs.Common.{map, ap, ◌∙◌}
use Rattle.ndc_dump.proofs.Dumped.{given-sound}
use Rattle.ndc_dump.proofs.ShownView.{given-shown}
use Rattle.ndc_dump.proofs.read.read_dump.Goals as goal

pub returns-clause-shown : goal.returns-clause-shown
returns-clause-shown c = given-shown (map (λ line. line.now) c.as_slice.result.now) c.dump_on.result c.dump_on.ensures

pub returns-clause-sound : goal.returns-clause-sound
returns-clause-sound c =
    given-sound c.args.bytes.now (map (λ line. line.now) c.as_slice.result.now) c.dump_on.result
    (ap (λ l. map (λ line. line.now) l) c.as_slice.ensures.value ∙ c.in_ok-lines.ensures) c.dump_on.ensures
