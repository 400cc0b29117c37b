use Rattle.std.proofs.Common.{List, ap, ◌∙◌}
use Rattle.ndc_letters.specs.declared.letter.Letter.{Letter}
use Rattle.ndc_letters.specs.Letters.{with_letter}
use Rattle.ndc_model.specs.Letters.{with_letters}
use Rattle.ndc_model.specs.World.{World}
use Rattle.ndc_world_steps.proofs.DamageLemmas.{letters_again}
use Rattle.ndc_world_steps.proofs.letters.take.Goals as goal

pub returns-clause-letters : goal.returns-clause-letters
returns-clause-letters g c =
    c.replace_letters.ensures.replaced
    ∙ ap (λ (w : World). with_letters c.args.reader c.take.new.self w) c.replace_letters-letters.ensures.replaced
    ∙ letters_again c.args.reader c.new.result c.take.new.self c.args.replication.now
    ∙ ap (λ (l : List Letter). with_letters c.args.reader l c.args.replication.now) (c.in_ok-taken.ensures.list ∙ ap (with_letter c.args.letter) c.replace_letters-letters.ensures.given)
