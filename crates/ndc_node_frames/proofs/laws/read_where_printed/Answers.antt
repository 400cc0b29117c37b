use Rattle.std.proofs.Common.{ap, ◌∙◌}
use Rattle.ndc_node_frames.specs.Frames.{frame_at}
use Rattle.ndc_node_frames.proofs.FrameLaws.{frame_again, frame_only}
use Rattle.ndc_node_frames.proofs.laws.read_where_printed.Goals as goal

pub returns : goal.returns
returns c frame bytes = (frame_only frame bytes, λ h. ap frame_at h.1 ∙ frame_again frame h.0)
