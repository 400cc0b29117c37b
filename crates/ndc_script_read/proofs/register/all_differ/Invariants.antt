use Rattle.std.proofs.Common.{◌≡◌, map, drop}
use Rattle.std.specs.BTreeSet.{contains}
use Rattle.ndc_script_read.specs.Register.{all_differ}
use Rattle.ndc_script_read.proofs.Differing.{differ_behind, word_cmp}
use Rattle.ndc_script_read.proofs.register.all_differ.Given as goal

-- the words so far differ; all do exactly where the rest do, and none of the rest came before
abbrev pub invariant-loop-word : goal.invariant-loop-word
invariant-loop-word l = differ_behind (contains word_cmp l.seen) (drop l.word-index l.words) ≡ all_differ (map (λ word. word.now) l.words)
