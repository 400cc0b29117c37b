use Rattle.std.proofs.Common.{◌++◌, [], List, sym, ◌∙◌, subst, ap, arith}
use Rattle.std.specs.List.Sorted.{IsStrictlySortedBy}
use Rattle.std.proofs.lemmas.List.{append-nil, append_assoc, nil_from_length}
use Rattle.std.proofs.lemmas.Map.Keys.{sorted_tail}
use Rattle.ndc_domain.specs.Records.{names_cmp}
use Rattle.ndc_event.specs.declared.name.Name.{Name}
use Rattle.ndc_shard.specs.Again.{AreReappliedOf}
use Rattle.ndc_shard.proofs.DueLemmas.{added, none-of, passed}
use Rattle.ndc_shard.proofs.shard.due_of.Goals as goal

pub loop-domain-preserved-then-refuses : goal.loop-domain-preserved-then-refuses
loop-domain-preserved-then-refuses c =
    let desk = c.args.desk.now in
    let cell = c.args.workflows.now in
    let left = c.next.new.self.rest.items in
    let next = c.in-Some.ensures.steps.0 in (
      sorted_tail names_cmp c.in-Some.domain left (subst (IsStrictlySortedBy names_cmp) next c.loop-domain.invariant.0),
      λ rest are. c.loop-domain.invariant.1 rest (subst (λ (ds : List Name). AreReappliedOf desk ds rest cell) (sym next)
          (passed desk cell c.in-Some.domain left rest are (λ w. c.refuses.ensures c.if-refuses.true w cell))),
    )

pub loop-domain-preserved : goal.loop-domain-preserved
loop-domain-preserved c =
    let desk = c.args.desk.now in
    let cell = c.args.workflows.now in
    let left = c.next.new.self.rest.items in
    let next = c.in-Some.ensures.steps.0 in
    let sorted = subst (IsStrictlySortedBy names_cmp) next c.loop-domain.invariant.0 in (
      sorted_tail names_cmp c.in-Some.domain left sorted,
      λ rest are.
          subst (λ (l : List (Name × Name)). AreReappliedOf desk c.args.domains.items l cell)
          (sym (append_assoc c.loop-domain.list.items c.in_ok-more.more.items rest) ∙ ap (λ (l : List (Name × Name)). l ++ rest) (sym c.in_ok-append.ensures.items))
          (c.loop-domain.invariant.1 (c.in_ok-more.more.items ++ rest) (subst (λ (ds : List Name). AreReappliedOf desk ds (c.in_ok-more.more.items ++ rest) cell) (sym next)
          (added desk cell c.in-Some.domain left rest are c.in_ok-more.more.items sorted c.in_ok-more.ensures))),
    )

pub returns : goal.returns
returns c =
    let desk = c.args.desk.now in
    let cell = c.args.workflows.now in
    let left = c.loop-domain.domain-iterator.rest in
    let none = nil_from_length left.items (omega (arith, left.ok, c.in-None.ensures.steps.0)) in
    subst (λ (l : List (Name × Name)). AreReappliedOf desk c.args.domains.items l cell) (append-nil c.loop-domain.list.items)
    (c.loop-domain.invariant.1 [] (subst (λ (ds : List Name). AreReappliedOf desk ds [] cell) (sym none) (none-of desk cell)))
