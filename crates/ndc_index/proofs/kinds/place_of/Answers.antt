use Rattle.std.proofs.Common.{◌≡◌, ◌∙◌, length, ap, sym, refl, arith}
use Rattle.ndc_domain.specs.Records.{names_cmp}
use Rattle.ndc_index.proofs.KindLemmas.{uncounted_at, counted_at, before_more, uncounted_last}
use Rattle.ndc_index.proofs.kinds.place_of.Goals as goal

pub returns-in-Less-clause-uncounted : goal.returns-in-Less-clause-uncounted
returns-in-Less-clause-uncounted c = uncounted_at _ c.args.name.now c.args.counts.now c.loop-place.place c.loop-place.invariant c.index-counts-place.result c.loop-place-test.true (ap (λ entry. names_cmp c.args.name.now entry.name) (sym c.index-counts-place.is) ∙ sym c.compare.ensures ∙ c.in-Less.is)

pub returns-in-Equal-clause-counted : goal.returns-in-Equal-clause-counted
returns-in-Equal-clause-counted c = counted_at _ c.args.name.now c.args.counts.now c.loop-place.place c.loop-place.invariant c.index-counts-place.result c.loop-place-test.true (ap (λ entry. names_cmp c.args.name.now entry.name) (sym c.index-counts-place.is) ∙ sym c.compare.ensures ∙ c.in-Equal.is)

pub loop-place-preserved : goal.loop-place-preserved
loop-place-preserved c = before_more _ c.args.name.now c.args.counts.now c.loop-place.place c.loop-place.invariant c.index-counts-place.result c.loop-place-test.true (ap (λ entry. names_cmp c.args.name.now entry.name) (sym c.index-counts-place.is) ∙ sym c.compare.ensures ∙ c.in-Greater.is)

pub returns-clause-uncounted : goal.returns-clause-uncounted
returns-clause-uncounted c =
    let end : c.loop-place.place ≡ length c.args.counts.now = omega (arith, c.loop-place-test.false, c.loop-place.auto.place-end) in
    uncounted_last _ c.args.name.now c.args.counts.now c.loop-place.place c.loop-place.invariant (length c.args.counts.now) end refl
