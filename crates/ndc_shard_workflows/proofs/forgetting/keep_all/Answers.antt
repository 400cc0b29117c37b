use Rattle.std.proofs.Common.{Bor, List, ◌+◌, ◌∷◌, drop, map, sym, ◌∙◌, ap, arith}
use Rattle.std.proofs.lemmas.List.{drop_all, drop_more}
use Rattle.ndc_event.specs.declared.batch.Batch.{Batch}
use Rattle.ndc_shard_workflows.proofs.ForgetLemmas.{kept-last, kept-next, may-keep}
use Rattle.ndc_shard_workflows.proofs.forgetting.keep_all.Goals as goal

pub keep-requires : goal.keep-requires
keep-requires c =
    may-keep c.args.key c.args.waiting.now c.requires.waiting (map (λ b. b.now) (drop c.loop-batch.batch-index c.args.batches.now)) (map (λ b. b.now) (drop (c.loop-batch.batch-index + 1) c.args.batches.now))
    c.batch-item.result.now c.loop-batch.kept
    (ap (λ (l : List (Bor Batch)). map (λ b. b.now) l) (drop_more c.args.batches.now c.loop-batch.batch-index c.batch-item.result (omega arith)
    ∙ ap (λ (b : Bor Batch). b ∷ drop (c.loop-batch.batch-index + 1) c.args.batches.now) (sym c.batch-item.is)))
    c.loop-batch.invariant

pub loop-batch-preserved : goal.loop-batch-preserved
loop-batch-preserved c =
    kept-next c.args.key c.args.waiting.now c.requires.waiting (map (λ b. b.now) (drop c.loop-batch.batch-index c.args.batches.now)) (map (λ b. b.now) (drop (c.loop-batch.batch-index + 1) c.args.batches.now))
    c.batch-item.result.now c.loop-batch.kept
    (ap (λ (l : List (Bor Batch)). map (λ b. b.now) l) (drop_more c.args.batches.now c.loop-batch.batch-index c.batch-item.result (omega arith)
    ∙ ap (λ (b : Bor Batch). b ∷ drop (c.loop-batch.batch-index + 1) c.args.batches.now) (sym c.batch-item.is)))
    c.loop-batch.invariant c.keep.new.kept c.in_ok-keep.ensures

pub returns : goal.returns
returns c =
    kept-last c.args.key c.args.waiting.now (map (λ b. b.now) (drop c.loop-batch.batch-index c.args.batches.now)) c.loop-batch.kept
    (ap (λ (l : List (Bor Batch)). map (λ b. b.now) l) (drop_all c.loop-batch.batch-index c.args.batches.now (omega arith))) c.loop-batch.invariant
