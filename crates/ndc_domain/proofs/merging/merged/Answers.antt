use Rattle.std.proofs.Common.{◌≡◌, ◌-◌, ◌++◌, ◌⊎◌, List, [], length, take, drop, append_assoc, sym, ◌∙◌, ap, inl, inr}
use Rattle.std.proofs.lemmas.List.{take_rest, drop_all}
use Rattle.ndc_domain.specs.declared.record.DomainRecord.{DomainRecord}
use Rattle.ndc_domain.proofs.BothTables.{merged_end}
use Rattle.ndc_domain.proofs.merging.merged.Goals as goal
use Rattle.ndc_domain.proofs.merging.merged.Goals.{then-loop-ours-test+else-theirs-others, else-loop-ours-test}

-- the records left of one list, and none of the other
pub returns : goal.returns
returns c =
    let ours : List DomainRecord = drop c.loop-ours.ours c.args.records.now in
    let theirs : List DomainRecord = drop c.loop-ours.theirs c.args.others.now in
    let ours_left : take (length c.args.records.now - c.loop-ours.ours) ours ≡ ours = take_rest c.args.records.now c.loop-ours.ours in
    let theirs_left : take (length c.args.others.now - c.loop-ours.theirs) theirs ≡ theirs = take_rest c.args.others.now c.loop-ours.theirs in
    let first : c.push_copies.new.all.items ≡ c.loop-ours.all.items ++ ours =
    c.in_ok-push_copies.ensures ∙ ap (λ (rs : List DomainRecord). c.loop-ours.all.items ++ rs) ours_left in
    let second : c.push_copies-2.new.all.items ≡ c.push_copies.new.all.items ++ theirs =
    c.in_ok-push_copies-2.ensures ∙ ap (λ (rs : List DomainRecord). c.push_copies.new.all.items ++ rs) theirs_left in
    let end : (ours ≡ []) ⊎ (theirs ≡ []) =
    elim c.loop-ours-test.branch [
      | then-loop-ours-test+else-theirs-others w ↦ inr (drop_all c.loop-ours.theirs c.args.others.now w.if-theirs-others.false)
      | else-loop-ours-test w ↦ inl (drop_all c.loop-ours.ours c.args.records.now w.loop-ours-test.false)
    ] in
    second
    ∙ ap (λ (rs : List DomainRecord). rs ++ theirs) first
    ∙ append_assoc c.loop-ours.all.items ours theirs
    ∙ ap (λ (rs : List DomainRecord). c.loop-ours.all.items ++ rs) (sym (merged_end ours theirs end))
    ∙ c.loop-ours.invariant.done
