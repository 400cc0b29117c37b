use Rattle.std.proofs.Common.{map, decimal}
use Rattle.ndc_script.proofs.PrintSteps.{line-joined}
use Rattle.ndc_script.proofs.printing.push_line.Goals as goal

pub returns : goal.returns
returns c =
    rw (c.in_ok-extend_from_slice-2.ensures.items, c.in_ok-push_numbers.ensures, c.in_ok-push_words.ensures, c.in_ok-extend_from_slice.ensures.items)
    (line-joined c.args.text.now.items c.args.word.now (map (λ word. word.now) c.args.words.now) (map decimal c.args.numbers.now))
