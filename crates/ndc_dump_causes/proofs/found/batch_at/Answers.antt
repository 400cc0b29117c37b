use Rattle.std.proofs.Common.{◌≡◌, true, false, sym, rules}
use Rattle.ndc_event.specs.Key.{key_lt, key_eq}
use Rattle.ndc_model_sets.proofs.KeyLemmas.{same-keys}
use Rattle.ndc_dump_causes.proofs.Finding.{left-front, left-back, found-middle}
use Rattle.ndc_dump_causes.proofs.found.batch_at.Goals as goal

pub returns-then-eq : goal.returns-then-eq
returns-then-eq c =
    let same : key_eq c.in-Some.middle.now.key c.args.key ≡ true = search rules in
    sym (found-middle c.args.key c.loop-front.rest.now c.args.batches.now c.in-Some.front.now c.in-Some.middle.now c.in-Some.behind.now c.in-Some.ensures.some c.loop-front.invariant (same-keys c.in-Some.middle.now.key c.args.key same))

pub loop-front-preserved-then-is_before : goal.loop-front-preserved-then-is_before
loop-front-preserved-then-is_before c =
    let less : key_lt c.args.key c.in-Some.middle.now.key ≡ true = search rules in
    left-front c.args.key c.loop-front.rest.now c.args.batches.now c.in-Some.front.now c.in-Some.middle.now c.in-Some.behind.now c.in-Some.ensures.some c.loop-front.invariant less

pub loop-front-preserved : goal.loop-front-preserved
loop-front-preserved c =
    let not_less : key_lt c.args.key c.in-Some.middle.now.key ≡ false = search rules in
    let other : key_eq c.in-Some.middle.now.key c.args.key ≡ false = search rules in
    left-back c.args.key c.loop-front.rest.now c.args.batches.now c.in-Some.front.now c.in-Some.middle.now c.in-Some.behind.now c.in-Some.ensures.some c.loop-front.invariant not_less other
