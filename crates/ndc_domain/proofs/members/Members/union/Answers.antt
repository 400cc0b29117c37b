use Rattle.std.proofs.Common.{◌≡◌, ℕ, Bool, true, false, ◌||◌, ◌&&◌, List, get_or, sym, ◌∙◌, ap, arith}
use Rattle.std.specs.Prelude.{nat_lt}
use Rattle.std.proofs.lemmas.Bool.{lt-ltb}
use Rattle.ndc_domain.specs.Members.{has_member, members_flagged, union_of}
use Rattle.ndc_domain.specs.Flags.{has-where}
use Rattle.ndc_domain.proofs.FlagEdits.{flagged_where}
use Rattle.ndc_domain.proofs.members.Members.union.Goals as goal

pub returns : goal.returns
returns c =
    let ours : List Bool = c.self.inside.flags in
    let theirs : List Bool = c.other.inside.flags in
    flagged_where c.loop-place.flags (λ k. has_member (members_flagged ours) k || has_member (members_flagged theirs) k)
    (λ k below.
    let past : nat_lt k c.loop-place.place ≡ true = lt-ltb k c.loop-place.place (omega arith) in
    c.loop-place.invariant.set k below
    ∙ ap (λ (t : Bool). get_or ours k false || (t && get_or theirs k false)) past
    ∙ ap (λ (t : Bool). t || get_or theirs k false) (sym (has-where (λ n. get_or ours n false) k below))
    ∙ ap (λ (t : Bool). has_member (members_flagged ours) k || t) (sym (has-where (λ n. get_or theirs n false) k below)))
    ∙ ap (λ (members : List ℕ). union_of members (members_flagged theirs)) c.self.view_is
    ∙ ap (λ (members : List ℕ). union_of c.args.self members) c.other.view_is
