use Rattle.std.proofs.Common.{sym, ◌∙◌}
use Rattle.ndc_node_frames.proofs.FrameLaws.{frame_only}
use Rattle.ndc_node_frames.proofs.laws.one_text_of_a_frame.Goals as goal

pub returns : goal.returns
returns c frame bytes more h k = (frame_only frame bytes h).1 ∙ sym (frame_only frame more k).1
