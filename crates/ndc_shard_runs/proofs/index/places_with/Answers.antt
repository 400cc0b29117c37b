use Rattle.std.proofs.Common.{◌∙◌, ap, sym}
use Rattle.ndc_shard_runs.specs.Places.{places_of}
use Rattle.ndc_shard_runs.proofs.IndexLemmas.{indexed-with}
use Rattle.ndc_shard_runs.proofs.index.places_with.Goals as goal

pub returns : goal.returns
returns c =
    indexed-with c.args.batch.now c.args.runs.now c.requires.fresh c.in_ok-places.places c.put.new.self (c.in_ok-places.ensures ∙ ap places_of (sym c.in-Some.ensures.all)) c.in_ok-put.ensures.ok
