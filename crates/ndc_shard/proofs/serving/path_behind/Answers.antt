use Rattle.std.proofs.Common.{Bor, List, [], ◌∷◌, ◌++◌, map, reverse, sym, ◌∙◌, ap}
use Rattle.std.specs.Option.{option_copied}
use Rattle.std.proofs.lemmas.List.{map-append}
use Rattle.ndc_event.specs.declared.batch.Batch.{Batch}
use Rattle.ndc_model_sets.specs.Paths.{path_to}
use Rattle.ndc_resend.specs.Gaps.{end_behind}
use Rattle.ndc_tree.proofs.ReadingLemmas.{map-reversed, none-of}
use Rattle.ndc_shard.proofs.EndLemmas.{ascends-less, ascends-more, ascends-start, end_of}
use Rattle.ndc_shard.proofs.serving.path_behind.Goals as goal

pub loop-next-init : goal.loop-next-init
loop-next-init c =
    ascends-start c.args.id c.args.runs.now c.args.key (option_copied c.named.result) (option_copied c.behind-next.result) (map (λ b. b.now) c.new-list.result.items) c.requires c.named.ensures c.behind-next.ensures
    (ap (λ (l : List (Bor Batch)). map (λ b. b.now) l) c.new-list.ensures.items)

pub loop-next-smaller : goal.loop-next-smaller
loop-next-smaller c =
    ascends-less c.args.id c.args.runs.now c.requires c.in-Some.one.now (option_copied c.loop-next.next) (option_copied c.named-in-Some.result) (option_copied c.behind-next-in-Some.result) (map (λ b. b.now) c.loop-next.list.items)
    (end_behind c.args.id (path_to c.args.key c.args.runs.now)) (ap option_copied c.in-Some.is) c.loop-next.invariant c.named-in-Some.ensures c.behind-next-in-Some.ensures

pub loop-next-preserved : goal.loop-next-preserved
loop-next-preserved c =
    ascends-more c.args.id c.args.runs.now c.requires c.in-Some.one.now (option_copied c.loop-next.next) (option_copied c.named-in-Some.result) (option_copied c.behind-next-in-Some.result) (map (λ b. b.now) c.loop-next.list.items)
    (end_behind c.args.id (path_to c.args.key c.args.runs.now)) (ap option_copied c.in-Some.is) c.loop-next.invariant c.named-in-Some.ensures c.behind-next-in-Some.ensures
    (map (λ b. b.now) c.push.new.self.items) (ap (map (λ b. b.now)) c.in_ok-push.ensures.items ∙ map-append (λ b. b.now) c.loop-next.list.items (c.in-Some.one ∷ []))

pub returns : goal.returns
returns c =
    ap (map (λ b. b.now)) c.reverse.ensures.items ∙ map-reversed (λ b. b.now) c.loop-next.list.items
    ∙ sym (ap (λ o. end_of c.args.id (option_copied o) c.args.runs.now ++ reverse (map (λ b. b.now) c.loop-next.list.items)) (none-of c.loop-next.next c.in_default.not-Some))
    ∙ c.loop-next.invariant.rest
