use Rattle.std.proofs.Common.{sym}
use Rattle.uuid.specs.Text.{parsed}
use Rattle.ndc_text.proofs.Values.{run_none}
use Rattle.ndc_text.proofs.member.run_in.Goals as goal

pub returns-in-Err : goal.returns-in-Err
returns-in-Err c = sym (run_none (parsed c.args.text.now) c.in-Err.ensures.ok.1)
