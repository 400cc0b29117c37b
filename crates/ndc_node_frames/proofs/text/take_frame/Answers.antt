use Rattle.std.proofs.Common.{◌≡◌, Ok, rules, ap, sym, ◌∙◌}
use Rattle.ndc_node_frames.specs.Frames.{content_of, content_at, kind_word, tail_seen, frame_at}
use Rattle.ndc_node_frames.specs.Parts.{header_value}
use Rattle.ndc_node_frames.proofs.FrameLaws.{content_kind}
use Rattle.ndc_node_frames.proofs.KindNames.{kind_again}
use Rattle.ndc_node_frames.proofs.text.take_frame.Goals as goal

pub returns : goal.returns
unfolding frame_at
returns c =
    let tail = c.in_ok-tail.tail in
    let body = c.in_ok-body.body in
    let read_body : content_at tail.kind c.in_ok-left.left.now ≡ Ok (content_of body) = search rules in
    let kind = content_kind tail.kind c.in_ok-left.left.now (content_of body) read_body in
    let read : frame_at c.args.bytes.now ≡ Ok (content_of body, tail_seen tail) = search (rules, kind_again) in
    read ∙ ap (λ k. Ok (content_of body, (1, (tail.from, (header_value tail.header, (kind_word k, (tail.to, tt))))))) (sym kind)
