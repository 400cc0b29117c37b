use Rattle.std.proofs.Common.{ℕ, List, ◌∙◌, ap}
use Rattle.std.specs.Prelude.{nat_eq}
use Rattle.std.specs.Cmp.Lexicographic.{pointwise}
use Rattle.ndc_domain.specs.Members.{members_flagged}
use Rattle.ndc_domain.proofs.FlagEdits.{flagged_eq}
use Rattle.ndc_domain.proofs.members.MembersPartialEq.eq.Goals as goal

pub returns : goal.returns
returns c =
    c.eq.ensures ∙ flagged_eq c.self.inside.flags c.other.inside.flags c.self.told c.other.told
    ∙ ap (λ (members : List ℕ). pointwise nat_eq members (members_flagged c.other.inside.flags)) c.self.view_is
    ∙ ap (λ (members : List ℕ). pointwise nat_eq c.args.self.now members) c.other.view_is
