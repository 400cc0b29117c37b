use Rattle.serde_json.specs.View.{view}
use Rattle.ndc_text.proofs.Values.{json_some, json_none}
use Rattle.ndc_text.proofs.read.json_at.Goals as goal

pub returns-in-Ok : goal.returns-in-Ok
returns-in-Ok c = json_some c.args.bytes.now (view c.in-Ok.value) c.in-Ok.ensures.ok.0 c.in-Ok.ensures.ok.1

pub returns-else-is_memory : goal.returns-else-is_memory
returns-else-is_memory c _ = json_none c.args.bytes.now (c.in-Err.ensures.err (λ m. let t = c.is_memory.ensures.1 m in cc))
