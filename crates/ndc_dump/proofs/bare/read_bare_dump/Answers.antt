use Rattle.std.proofs.Common.{map}
use Rattle.ndc_dump.proofs.BareDumps.{bare-shown, bare-sound}
use Rattle.ndc_dump.proofs.bare.read_bare_dump.Goals as goal

pub returns-clause-shown : goal.returns-clause-shown
returns-clause-shown c = bare-shown (map (λ line. line.now) c.as_slice.result.now) c.bare_dump_on.result c.bare_dump_on.ensures

pub returns-clause-sound : goal.returns-clause-sound
returns-clause-sound c = bare-sound (map (λ line. line.now) c.as_slice.result.now) c.bare_dump_on.result c.bare_dump_on.ensures
