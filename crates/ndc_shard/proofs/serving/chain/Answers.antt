use Rattle.std.proofs.Common.{Bor, List, [], ◌∷◌, ◌++◌, map, reverse, sym, ◌∙◌, ap}
use Rattle.std.specs.Option.{option_copied}
use Rattle.std.proofs.lemmas.List.{map-append}
use Rattle.ndc_event.specs.declared.batch.Batch.{Batch}
use Rattle.ndc_model_sets.specs.Reading.{named}
use Rattle.ndc_tree.proofs.ReadingLemmas.{map-reversed, none-of}
use Rattle.ndc_resend.specs.Serving.{chain_to}
use Rattle.ndc_resend.proofs.ChainLemmas.{chain_of, climbs-less, climbs-more, climbs-start}
use Rattle.ndc_shard.proofs.serving.chain.Goals as goal

pub loop-next-init : goal.loop-next-init
loop-next-init c =
    climbs-start c.args.runs.now c.args.wanted (option_copied c.named-next.result) (map (λ b. b.now) c.new-list.result.items) c.named-next.ensures
    (ap (λ (l : List (Bor Batch)). map (λ b. b.now) l) c.new-list.ensures.items)

pub loop-next-smaller : goal.loop-next-smaller
loop-next-smaller c =
    climbs-less c.args.runs.now c.requires c.in-Some.one.now (option_copied c.loop-next.next) (option_copied c.named-next-in-Some.result) (map (λ b. b.now) c.loop-next.list.items)
    (chain_to c.args.wanted c.args.runs.now) (ap option_copied c.in-Some.is) c.loop-next.invariant (c.named-next-in-Some.ensures ∙ ap (λ k. named k c.args.runs.now) c.earlier_key.ensures)

pub loop-next-preserved : goal.loop-next-preserved
loop-next-preserved c =
    climbs-more c.args.runs.now c.requires c.in-Some.one.now (option_copied c.loop-next.next) (option_copied c.named-next-in-Some.result) (map (λ b. b.now) c.loop-next.list.items)
    (chain_to c.args.wanted c.args.runs.now) (ap option_copied c.in-Some.is) c.loop-next.invariant (c.named-next-in-Some.ensures ∙ ap (λ k. named k c.args.runs.now) c.earlier_key.ensures)
    (map (λ b. b.now) c.push.new.self.items) (ap (map (λ b. b.now)) c.in_ok-push.ensures.items ∙ map-append (λ b. b.now) c.loop-next.list.items (c.in-Some.one ∷ []))

pub returns : goal.returns
returns c =
    ap (map (λ b. b.now)) c.reverse.ensures.items ∙ map-reversed (λ b. b.now) c.loop-next.list.items
    ∙ sym (ap (λ o. chain_of (option_copied o) c.args.runs.now ++ reverse (map (λ b. b.now) c.loop-next.list.items)) (none-of c.loop-next.next c.in_default.not-Some))
    ∙ c.loop-next.invariant.rest
