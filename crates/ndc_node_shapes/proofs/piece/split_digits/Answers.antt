use Rattle.std.proofs.Common.{◌≡◌, true, take, drop, ap, sym, subst, ◌∙◌, ℕ, List, arith}
use Rattle.std.specs.List.{list_all}
use Rattle.ndc_node_shapes.specs.Bytes.{is_digit}
use Rattle.ndc_node_shapes.proofs.Numbers.{are_digits, leading_taken, leading_within}
use Rattle.ndc_node_shapes.proofs.piece.split_digits.Goals as goal

pub split_at-requires : goal.split_at-requires
split_at-requires c = omega (arith, leading_within c.args.left.now, c.count_digits.ensures)

pub returns-clause-digits : goal.returns-clause-digits
returns-clause-digits c = c.split_at.ensures.front ∙ ap (λ n. take n c.args.left.now) c.count_digits.ensures ∙ leading_taken c.args.left.now

pub returns-clause-rest : goal.returns-clause-rest
returns-clause-rest c = c.split_at.ensures.back ∙ ap (λ n. drop n c.args.left.now) c.count_digits.ensures

pub returns-clause-all : goal.returns-clause-all
returns-clause-all c =
    let same = c.split_at.ensures.front ∙ ap (λ n. take n c.args.left.now) c.count_digits.ensures ∙ leading_taken c.args.left.now in
    subst (λ (ds : List ℕ). list_all is_digit ds ≡ true) (sym same) (are_digits c.args.left.now)
