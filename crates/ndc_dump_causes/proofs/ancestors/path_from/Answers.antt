use Rattle.std.proofs.Common.{◌∷◌, [], ◌++◌, reverse, ◌∙◌, ap, sym, subst, map}
use Rattle.std.specs.Option.{option_copied}
use Rattle.std.proofs.lemmas.List.{map-append}
use Rattle.std.specs.List.{AllByRecursion}
use Rattle.ndc_model_sets.specs.Paths.{path_from}
use Rattle.ndc_model_sets.specs.Reading.{path_of}
use Rattle.ndc_tree.proofs.ReadingLemmas.{map-reversed, none-of}
use Rattle.ndc_dump_causes.proofs.Walking.{walks-begin, walks-up, walks-less, path-small}
use Rattle.ndc_dump_causes.specs.Given.{HasSmallIds}
use Rattle.ndc_dump_causes.proofs.ancestors.path_from.Goals as goal

pub loop-next-init : goal.loop-next-init
loop-next-init c =
    walks-begin c.args.batches.now c.args.wanted (option_copied c.named-next.result) (map (λ b. b.now) c.new-path.result.items) c.named-next.ensures (ap (map (λ b. b.now)) c.new-path.ensures.items)

pub loop-next-smaller : goal.loop-next-smaller
loop-next-smaller c =
    walks-less c.args.batches.now c.in-Some.batch.now (option_copied c.loop-next.next) (option_copied c.named-next-in-Some.result) (map (λ b. b.now) c.loop-next.path.items)
    (path_from c.args.wanted c.args.batches.now) c.requires (ap option_copied c.in-Some.is) c.loop-next.invariant c.named-next-in-Some.ensures

pub loop-next-preserved : goal.loop-next-preserved
loop-next-preserved c =
    walks-up c.args.batches.now c.in-Some.batch.now (option_copied c.loop-next.next) (option_copied c.named-next-in-Some.result) (map (λ b. b.now) c.loop-next.path.items)
    (map (λ b. b.now) c.push.new.self.items) (path_from c.args.wanted c.args.batches.now) c.requires (ap option_copied c.in-Some.is) c.loop-next.invariant c.named-next-in-Some.ensures
    (ap (map (λ b. b.now)) c.in_ok-push.ensures.items ∙ map-append (λ b. b.now) c.loop-next.path.items (c.in-Some.batch ∷ []))

pub returns-clause-path : goal.returns-clause-path
returns-clause-path c =
    ap (map (λ b. b.now)) c.reverse.ensures.items ∙ map-reversed (λ b. b.now) c.loop-next.path.items
    ∙ sym (ap (λ o. path_of (option_copied o) c.args.batches.now ++ reverse (map (λ b. b.now) c.loop-next.path.items)) (none-of c.loop-next.next c.in_default.not-Some))
    ∙ c.loop-next.invariant.rest

pub returns-clause-small : goal.returns-clause-small
returns-clause-small c =
    subst (AllByRecursion HasSmallIds)
    (sym (ap (map (λ b. b.now)) c.reverse.ensures.items ∙ map-reversed (λ b. b.now) c.loop-next.path.items
    ∙ sym (ap (λ o. path_of (option_copied o) c.args.batches.now ++ reverse (map (λ b. b.now) c.loop-next.path.items)) (none-of c.loop-next.next c.in_default.not-Some))
    ∙ c.loop-next.invariant.rest))
    (path-small c.args.batches.now c.args.wanted c.requires)
