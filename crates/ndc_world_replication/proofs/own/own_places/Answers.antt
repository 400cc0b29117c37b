use Rattle.std.proofs.Common.{◌≡◌, ◌+◌, ◌-◌, ℕ, suc, ap, ◌∙◌, arith}
use Rattle.ndc_domain.specs.Clusters.{count_of}
use Rattle.ndc_world_replication.proofs.OwnLemmas.{back_others, front_others, own_inside}
use Rattle.ndc_world_replication.specs.Own.{blocks}
use Rattle.ndc_world_replication.proofs.own.own_places.Goals as goal

pub overflow_add-first : goal.overflow_add-first
overflow_add-first c = omega (arith, c.loop-before.invariant.most, c.loop-before-test.true, c.count.ensures.count, c.count.ensures.sound.count_most, c.requires)

pub loop-before-preserved : goal.loop-before-preserved
loop-before-preserved c =
    let next : suc c.loop-before._before ≡ c.loop-before._before + 1 = omega arith in
    record {
      sum = ap (λ (n : ℕ). n + (c.count.result - 1)) c.loop-before.invariant.sum ∙ ap (λ (k : ℕ). blocks k (c.count.result - 1)) next;
      most = omega (arith, c.loop-before.invariant.most, c.count.ensures.count, c.count.ensures.sound.count_most);
    }

pub returns-clause-front : goal.returns-clause-front
returns-clause-front c = λ w shaped.
    let one : (c.count.result - 1) + 1 ≡ count_of c.args.header.now.clusters = omega (arith, c.count.ensures.count, c.count.ensures.sound.count_least) in
    let end : c.loop-before._before ≡ c.args.reader.number = omega (arith, c.loop-before-test.false, c.loop-before.auto._before-end) in
    front_others c.args.header.now w shaped c.args.reader c.requires (c.count.result - 1) one c.loop-before.first (c.loop-before.invariant.sum ∙ ap (λ (k : ℕ). blocks k (c.count.result - 1)) end)

pub returns-clause-back : goal.returns-clause-back
returns-clause-back c = λ w shaped.
    let one : (c.count.result - 1) + 1 ≡ count_of c.args.header.now.clusters = omega (arith, c.count.ensures.count, c.count.ensures.sound.count_least) in
    let end : c.loop-before._before ≡ c.args.reader.number = omega (arith, c.loop-before-test.false, c.loop-before.auto._before-end) in
    back_others c.args.header.now w shaped c.args.reader c.requires (c.count.result - 1) one (c.loop-before.first + (c.count.result - 1))
    (ap (λ (n : ℕ). n + (c.count.result - 1)) (c.loop-before.invariant.sum ∙ ap (λ (k : ℕ). blocks k (c.count.result - 1)) end))

pub returns-clause-within : goal.returns-clause-within
returns-clause-within c = λ w shaped.
    let one : (c.count.result - 1) + 1 ≡ count_of c.args.header.now.clusters = omega (arith, c.count.ensures.count, c.count.ensures.sound.count_least) in
    let end : c.loop-before._before ≡ c.args.reader.number = omega (arith, c.loop-before-test.false, c.loop-before.auto._before-end) in
    omega (
      arith,
      own_inside c.args.header.now w shaped c.args.reader c.requires (c.count.result - 1) one,
      c.loop-before.invariant.sum ∙ ap (λ (k : ℕ). blocks k (c.count.result - 1)) end,
    )
