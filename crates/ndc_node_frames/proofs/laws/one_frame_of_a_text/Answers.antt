use Rattle.ndc_node_frames.proofs.BackToFrames.{one_frame}
use Rattle.ndc_node_frames.proofs.laws.one_frame_of_a_text.Goals as goal

pub returns : goal.returns
returns c = one_frame
