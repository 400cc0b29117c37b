use Rattle.std.proofs.Common.{◌∷◌, [], ◌++◌, reverse, ◌∙◌, Some, ap, sym, subst, map}
use Rattle.std.specs.Option.{option_copied}
use Rattle.std.proofs.lemmas.List.{map-append}
use Rattle.ndc_model_sets.specs.Reading.{path_of}
use Rattle.ndc_tree.specs.Tree.{TreeValue, IsTree}
use Rattle.ndc_tree.proofs.ReadingLemmas.{path-walks, path-less, map-reversed, none-of}
use Rattle.ndc_tree.proofs.tree.Tree.ancestors.Goals as goal

pub loop-next-smaller : goal.loop-next-smaller
loop-next-smaller c =
    let v = c.args.self.now in
    path-less v.run v.batches c.in-Some.one.now (option_copied c.loop-next.next) (option_copied c.named-next.result) (map (λ b. b.now) c.loop-next.path.items) (path_of (Some c.args.batch.now) v.batches)
    (subst (λ (t : TreeValue). IsTree t.run t.batches) c.self.view_is c.self.invariant.0) (ap option_copied c.in-Some.is) c.loop-next.invariant c.named-next.ensures

pub loop-next-preserved : goal.loop-next-preserved
loop-next-preserved c =
    let v = c.args.self.now in
    path-walks v.run v.batches c.in-Some.one.now (option_copied c.loop-next.next) (option_copied c.named-next.result) (map (λ b. b.now) c.loop-next.path.items)
    (map (λ b. b.now) c.push.new.self.items) (path_of (Some c.args.batch.now) v.batches)
    (subst (λ (t : TreeValue). IsTree t.run t.batches) c.self.view_is c.self.invariant.0) (ap option_copied c.in-Some.is) c.loop-next.invariant c.named-next.ensures
    (ap (map (λ b. b.now)) c.in_ok-push.ensures.items ∙ map-append (λ b. b.now) c.loop-next.path.items (c.in-Some.one ∷ []))

pub returns : goal.returns
returns c =
    ap (map (λ b. b.now)) c.reverse.ensures.items ∙ map-reversed (λ b. b.now) c.loop-next.path.items
    ∙ sym (ap (λ o. path_of (option_copied o) c.args.self.now.batches ++ reverse (map (λ b. b.now) c.loop-next.path.items)) (none-of c.loop-next.next c.in_default.not-Some))
    ∙ c.loop-next.invariant.rest
