use Rattle.std.proofs.Common.{◌<◌, ℕ, List, [], length, Bor, sym, ◌∙◌, arith}
use Rattle.std.proofs.Math.ListN.{get_or}
use Rattle.std.specs.BTreeSet.{contains}
use Rattle.ndc_script_read.proofs.Differing.{word_cmp, put_in, empty_has, none_before, fresh_step}
use Rattle.ndc_script_read.proofs.register.all_differ.Goals as goal

pub loop-word-init : goal.loop-word-init
loop-word-init c = none_before (contains word_cmp c.new-seen.result) c.args.words.now (empty_has c.new-seen.result c.new-seen.ensures.empty)

pub loop-word-preserved : goal.loop-word-preserved
loop-word-preserved c =
    let words = c.args.words.now in
    let i = c.loop-word.word-index in
    let within : i < length words = omega arith in
    let none : Bor (List ℕ) = record { ref_ptr = (0, 0); now = [] } in
    sym (fresh_step (contains word_cmp c.loop-word.seen) (contains word_cmp c.insert.new.self) words i none within
    (sym c.in_ok-insert.ensures.added ∙ c.if-not-branch.false)
    (put_in c.loop-word.seen c.insert.new.self (get_or words i none) c.in_ok-insert.ensures.updates))
    ∙ c.loop-word.invariant
