-- What the laws say of lanes.
use Rattle.std.proofs.Common.{ℕ, ◌<◌, List, [], ◌∷◌, length}
use Rattle.std.specs.List.{AllByRecursion}
use Rattle.ndc_script_types.specs.declared.script.Header.{Header}
use Rattle.ndc_domain.specs.declared.clusters.ClusterNo.{ClusterNo}
use Rattle.ndc_laws_reached.specs.Laws.{AreInTurn, LevelsAreTrue}
use Rattle.ndc_laws_reached.proofs.LaneLemmas.{emptied, lost, moved-on, pulled, pulled-some, renewed-all, repeated, rewound-all}
use Rattle.ndc_laws_reached.proofs.LinkLemmas.{IsLinkFit, links-fit}
use Rattle.ndc_laws_reached.proofs.TrimLemmas.{trimmed}
use Rattle.ndc_model.specs.Facts.{IsReached}
use Rattle.ndc_model.specs.Moves.{pulled_all, pulled_shard, renewed, rewound, trimmed_all, without_flights}
use Rattle.ndc_model.specs.Sending.{lose_step, move_step, repeat_step}
use Rattle.ndc_model.specs.World.{Link, World, lane_in, queue_at, trimmed_at}

pub levels_true : (header : Header) (lines : ℕ) (w : World) → IsReached header lines w → LevelsAreTrue header w
levels_true header lines w is = each w.links (links-fit header lines w is)
  where
    each : (links : List Link) → AllByRecursion (IsLinkFit header w) links
        → AllByRecursion (λ link. (shard : ℕ) → shard < header.shards
        → AreInTurn (trimmed_at link.source w shard) (lane_in link shard).levels.done (lane_in link shard).levels.read (length (queue_at link.source shard w))) links
    each [] all = tt
    each (link ∷ links) all =
        ((λ shard below. let t = (all.0.lanes shard below).is_true in record { trimmed_most = t.trimmed_most; done_most = t.levels.done_most; read_most = t.levels.read_most }), each links all.1)

pub pulled_kept : (header : Header) (lines : ℕ) (reader source : ClusterNo) (w : World) → IsReached header lines w → IsReached header lines (pulled_all reader source w)
pulled_kept header lines reader source w is = pulled header lines w is reader source

pub pulled_some_kept : (header : Header) (lines : ℕ) (reader source : ClusterNo) (shard count : ℕ) (w : World) → IsReached header lines w → IsReached header lines (pulled_shard reader source shard count w)
pulled_some_kept header lines reader source shard count w is = pulled-some header lines w is reader source shard count

pub renewed_kept : (header : Header) (lines : ℕ) (reader : ClusterNo) (w : World) → IsReached header lines w → IsReached header lines (renewed w reader)
renewed_kept header lines reader w is = renewed-all header lines w is reader

pub rewound_kept : (header : Header) (lines : ℕ) (reader source : ClusterNo) (w : World) → IsReached header lines w → IsReached header lines (rewound reader source w)
rewound_kept header lines reader source w is = rewound-all header lines w is reader source

pub trimmed_kept : (header : Header) (lines : ℕ) (source : ClusterNo) (w : World) → IsReached header lines w → IsReached header lines (trimmed_all header source w)
trimmed_kept header lines source w is = trimmed header lines source w is

pub emptied_kept : (header : Header) (lines : ℕ) (w : World) → IsReached header lines w → IsReached header lines (without_flights w)
emptied_kept header lines w is = emptied header lines w is

pub lost_kept : (header : Header) (lines : ℕ) (reader source : ClusterNo) (shard place : ℕ) (w : World) → IsReached header lines w → IsReached header lines (lose_step reader source shard place w).world
lost_kept header lines reader source shard place w is = lost header lines w is reader source shard place

pub repeated_kept : (header : Header) (lines : ℕ) (reader source : ClusterNo) (shard place : ℕ) (w : World) → IsReached header lines w → IsReached header lines (repeat_step reader source shard place w).world
repeated_kept header lines reader source shard place w is = repeated header lines w is reader source shard place

pub moved_kept : (header : Header) (lines : ℕ) (reader source : ClusterNo) (shard place to : ℕ) (w : World) → IsReached header lines w → IsReached header lines (move_step reader source shard place to w).world
moved_kept header lines reader source shard place to w is = moved-on header lines w is reader source shard place to
