use Rattle.ndc_probe.proofs.CommentLemmas.{are_comments}
use Rattle.ndc_probe.proofs.comments.what_is_told_beside_is_comments_alone.Goals as goal

pub returns : goal.returns
returns c = are_comments
