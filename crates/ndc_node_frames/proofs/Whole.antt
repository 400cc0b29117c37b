-- The text of a frame, as it is pushed.
use Rattle.std.proofs.Common.{◌≡◌, ℕ, List, [], codes, refl, ap, ◌∙◌}
use Rattle.ndc_node_frames.specs.Frames.{body_onto, body_shape, body_value, kind_of, frame_shape, frame_value, frame_text, tail_shape, tail_value}
use Rattle.ndc_node_frames.specs.declared.frame.Body.{Body}
use Rattle.ndc_node_frames.specs.declared.frame.Body.TheVariants.{Poll, Entries, Records, Handover, Gap, Served, Bootstrap, Recall, Recalled, Progress}
use Rattle.ndc_node_frames.specs.declared.frame.Frame.{Frame}
use Rattle.ndc_node_shapes.specs.Bytes.{first_key}
use Rattle.ndc_node_shapes.specs.Text.{onto}
use Rattle.ndc_node_shapes.proofs.Onto.{at_the_end}

-- the body alone
body_is : (old : List ℕ) (b : Body) → body_onto old b ≡ onto (body_shape (kind_of b)) old (body_value b)
body_is old (Poll poll) = refl
body_is old (Entries entries) = refl
body_is old (Records records) = refl
body_is old (Handover offer) = refl
body_is old (Gap gap) = refl
body_is old (Served served) = refl
body_is old (Bootstrap piece) = refl
body_is old (Recall recall) = refl
body_is old (Recalled piece) = refl
body_is old (Progress held) = refl

pub pushed : (frame : Frame) → onto tail_shape (body_onto (first_key (codes "body")) frame.body) (tail_value frame) ≡ frame_text frame
pushed frame =
    ap (λ (z : List ℕ). onto tail_shape z (tail_value frame)) (body_is (first_key (codes "body")) frame.body)
    ∙ at_the_end (frame_shape (kind_of frame.body)) [] (frame_value frame)
