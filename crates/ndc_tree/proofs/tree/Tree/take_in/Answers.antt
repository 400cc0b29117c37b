use Rattle.std.proofs.Common.{◌≡◌, List, ◌∙◌, ap, sym, subst}
use Rattle.ndc_event.specs.declared.batch.Batch.{Batch}
use Rattle.ndc_model_sets.specs.Sets.{arrived}
use Rattle.ndc_tree.specs.Noted.{IsNoted}
use Rattle.ndc_tree.specs.Tips.{tip_keys, without_parent}
use Rattle.ndc_model_sets.specs.Keys.{with_key, without_key}
use Rattle.ndc_tree.specs.Tree.{TreeValue, IsTree, Joins}
use Rattle.ndc_tree.proofs.GrowLemmas.{grown_is_tree}
use Rattle.ndc_tree.proofs.NotedLemmas.{noted_grown}
use Rattle.ndc_tree.proofs.TipLemmas.{tips-grown, with-without, fresh-no-tip}
use Rattle.ndc_tree.proofs.tree.Tree.take_in.Goals as goal

pub invariant_of-self-in-Ok : goal.invariant_of-self-in-Ok
invariant_of-self-in-Ok c =
    let run = c.self.inside.run in
    let old = c.self.inside.batches in
    let b = c.args.batch.now in
    let j : Joins run old b = subst (λ (v : TreeValue). Joins v.run v.batches b) (sym c.self.view_is) c.requires in
    let new : c.insert.new.self ≡ arrived b old = c.in-Ok.ensures.ok ∙ ap (λ (x : Batch). arrived x old) c.in_ok-copy.ensures in (
      subst (IsTree run) (sym new) (grown_is_tree run old b c.self.invariant.0 j),
      (
        c.take_parent.ensures ∙ ap (without_parent b.parent) (c.in_ok-put.ensures.ok ∙ ap (with_key b.key) c.self.invariant.1.0)
            ∙ sym (tips-grown run old b c.self.invariant.0 j) ∙ ap (tip_keys run) (sym new),
        subst (λ (l : List Batch). IsNoted l c.self.inside.noted_to c.self.inside.noted.items) (sym new) (noted_grown run old b c.self.inside.noted_to c.self.inside.noted.items c.self.invariant.0 j c.self.invariant.1.1),
      ),
    )

pub invariant_of-self-in-Err : goal.invariant_of-self-in-Err
invariant_of-self-in-Err c =
    let run = c.self.inside.run in
    let old = c.self.inside.batches in
    let b = c.args.batch.now in
    let j : Joins run old b = subst (λ (v : TreeValue). Joins v.run v.batches b) (sym c.self.view_is) c.requires in
    let same : c.insert.new.self ≡ old = c.in-Err.ensures.err in (
      subst (IsTree run) (sym same) c.self.invariant.0,
      (
        c.take.ensures ∙ ap (without_key b.key) (c.in_ok-put.ensures.ok ∙ ap (with_key b.key) c.self.invariant.1.0)
            ∙ with-without b.key (tip_keys run old) (fresh-no-tip run old b.key c.self.invariant.0.set.ordered j.fresh) ∙ ap (tip_keys run) (sym same),
        subst (λ (l : List Batch). IsNoted l c.self.inside.noted_to c.self.inside.noted.items) (sym same) c.self.invariant.1.1,
      ),
    )
