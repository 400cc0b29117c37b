use Rattle.ndc_node_frames.proofs.FrameLaws.{frame_plain}
use Rattle.ndc_node_frames.proofs.laws.a_frame_is_one_line.Goals as goal

pub returns : goal.returns
returns c = frame_plain
