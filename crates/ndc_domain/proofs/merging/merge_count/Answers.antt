use Rattle.std.proofs.Common.{◌≡◌, ◌≤◌, ◌-◌, ℕ, Bool, true, false, cond, drop, length, length-drop, sym, ◌∙◌, arith}
use Rattle.std.proofs.lemmas.List.{drop_all}
use Rattle.std.specs.declared.cmp.Ordering.TheVariants.{Less, Equal, Greater}
use Rattle.ndc_domain.specs.declared.record.DomainRecord.{DomainRecord}
use Rattle.ndc_domain.specs.Merge.{brings}
use Rattle.ndc_domain.specs.Records.{names_cmp}
use Rattle.ndc_domain.proofs.Counts.{end_ours, end_theirs, ours_left, step_equal, step_greater, step_less, theirs_left}
use Rattle.ndc_domain.proofs.merging.merge_count.Goals as goal
use Rattle.ndc_domain.proofs.merging.merge_count.Goals.{then-loop-ours-test+else-theirs-others, else-loop-ours-test}

-- none or one
most-one : (b : Bool) → cond {A = ℕ} b 1 0 ≤ 1
most-one true = omega arith
most-one false = omega arith

pub loop-ours-preserved-in-Less : goal.loop-ours-preserved-in-Less
loop-ours-preserved-in-Less c =
    let one : DomainRecord = c.index-records-ours.result in
    let other : DomainRecord = c.index-others-theirs.result in
    let less : names_cmp one.name other.name ≡ Less = sym c.cmp.ensures ∙ c.in-Less.is in
    let step = step_less c.args.records.now c.args.others.now c.loop-ours.ours c.loop-ours.theirs one other c.loop-ours-test.true c.if-theirs-others.true c.index-records-ours.is
    c.index-others-theirs.is c.loop-ours.invariant.ours_rise c.loop-ours.invariant.theirs_rise less in
    record {
      few = c.loop-ours.invariant.few;
      ours = omega (arith, c.loop-ours-test.true);
      theirs = c.loop-ours.invariant.theirs;
      ours_rise = ours_left c.args.records.now c.args.others.now c.loop-ours.ours c.loop-ours.theirs one other c.loop-ours-test.true c.if-theirs-others.true c.index-records-ours.is
          c.index-others-theirs.is c.loop-ours.invariant.ours_rise c.loop-ours.invariant.theirs_rise;
      theirs_rise = c.loop-ours.invariant.theirs_rise;
      counted = omega (arith, step, c.loop-ours.invariant.counted);
    }

pub loop-ours-preserved-in-Equal : goal.loop-ours-preserved-in-Equal
loop-ours-preserved-in-Equal c =
    let one : DomainRecord = c.index-records-ours.result in
    let other : DomainRecord = c.index-others-theirs.result in
    let equal : names_cmp one.name other.name ≡ Equal = sym c.cmp.ensures ∙ c.in-Equal.is in
    let step = step_equal c.args.records.now c.args.others.now c.loop-ours.ours c.loop-ours.theirs one other c.loop-ours-test.true c.if-theirs-others.true c.index-records-ours.is
    c.index-others-theirs.is c.loop-ours.invariant.ours_rise c.loop-ours.invariant.theirs_rise equal in
    let told : c.change_count-count.result ≡ cond {A = ℕ} (brings one other) 1 0 = c.change_count-count.ensures in
    record {
      few = omega (arith, told, most-one (brings one other), c.loop-ours.invariant.few);
      ours = omega (arith, c.loop-ours-test.true);
      theirs = omega (arith, c.if-theirs-others.true);
      ours_rise = ours_left c.args.records.now c.args.others.now c.loop-ours.ours c.loop-ours.theirs one other c.loop-ours-test.true c.if-theirs-others.true c.index-records-ours.is
          c.index-others-theirs.is c.loop-ours.invariant.ours_rise c.loop-ours.invariant.theirs_rise;
      theirs_rise = theirs_left c.args.records.now c.args.others.now c.loop-ours.ours c.loop-ours.theirs one other c.loop-ours-test.true c.if-theirs-others.true c.index-records-ours.is
          c.index-others-theirs.is c.loop-ours.invariant.ours_rise c.loop-ours.invariant.theirs_rise;
      counted = omega (arith, told, step, c.loop-ours.invariant.counted);
    }

pub loop-ours-preserved : goal.loop-ours-preserved
loop-ours-preserved c =
    let one : DomainRecord = c.index-records-ours.result in
    let other : DomainRecord = c.index-others-theirs.result in
    let greater : names_cmp one.name other.name ≡ Greater = sym c.cmp.ensures ∙ c.in-Greater.is in
    let step = step_greater c.args.records.now c.args.others.now c.loop-ours.ours c.loop-ours.theirs one other c.loop-ours-test.true c.if-theirs-others.true c.index-records-ours.is
    c.index-others-theirs.is c.loop-ours.invariant.ours_rise c.loop-ours.invariant.theirs_rise greater in
    record {
      few = omega (arith, c.loop-ours.invariant.few);
      ours = c.loop-ours.invariant.ours;
      theirs = omega (arith, c.if-theirs-others.true);
      ours_rise = c.loop-ours.invariant.ours_rise;
      theirs_rise = theirs_left c.args.records.now c.args.others.now c.loop-ours.ours c.loop-ours.theirs one other c.loop-ours-test.true c.if-theirs-others.true c.index-records-ours.is
          c.index-others-theirs.is c.loop-ours.invariant.ours_rise c.loop-ours.invariant.theirs_rise;
      counted = omega (arith, step, c.loop-ours.invariant.counted);
    }

pub returns : goal.returns
returns c =
    let records = c.args.records.now in
    let others = c.args.others.now in
    let i = c.loop-ours.ours in
    let j = c.loop-ours.theirs in
    let last : length (drop j others) ≡ length others - j = length-drop j others in
    elim c.loop-ours-test.branch [
      | then-loop-ours-test+else-theirs-others w ↦
          let none = drop_all j others w.if-theirs-others.false in
          omega (arith, c.loop-ours.invariant.counted, c.loop-ours.invariant.theirs, w.if-theirs-others.false, end_theirs records others i j none)
      | else-loop-ours-test w ↦
          let none = drop_all i records w.loop-ours-test.false in
          omega (arith, c.loop-ours.invariant.counted, c.loop-ours.invariant.theirs, last, end_ours records others i j none)
    ]
