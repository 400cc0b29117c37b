use Rattle.std.proofs.Common.{arith, ap, length, sym}
use Rattle.ndc_script_words.proofs.HeaderNames.{clusters_named}
use Rattle.ndc_script_words.proofs.Members.{length-members_of}
use Rattle.ndc_script_words.proofs.header.clusters_read.Goals as goal

pub split_at-requires : goal.split_at-requires
split_at-requires c = omega (arith, c.len.ensures, c.in_ok-members.members.ok, ap length c.in_ok-members.ensures, length-members_of c.args.lines.now)

-- the clusters are sound and have names
pub returns-clause-well_formed : goal.returns-clause-well_formed
returns-clause-well_formed c = record {
  clusters = c.in-Ok.ensures.sound;
  names = clusters_named c.increment.inside.value c.args.lines.now c.in-Ok.clusters (sym (rw c.in_ok-members.ensures at c.in-Ok.ensures.answer));
  shards_least = c.requires.shards_least;
  shards_most = c.requires.shards_most;
  limit_least = c.requires.limit_least;
  limit_most = c.requires.limit_most;
}
