use Rattle.std.proofs.Common.{◌≡◌, ◌-◌, ◌++◌, ◌⊎◌, Bor, List, [], length, map, take, drop, append_assoc, sym, ◌∙◌, ap, inl, inr}
use Rattle.std.proofs.lemmas.List.{take_rest, drop_all}
use Rattle.ndc_event.specs.declared.batch.Batch.{Batch}
use Rattle.ndc_explain_union.proofs.Merged.{merged_end}
use Rattle.ndc_explain_union.proofs.merging.merged.Goals as goal
use Rattle.ndc_explain_union.proofs.merging.merged.Goals.{then-loop-place-test+else-other-theirs, else-loop-place-test}

abbrev seen : List (Bor Batch) → List Batch
seen batches = map (λ b. b.now) batches

-- the batches left of one list, and none of the other
pub returns : goal.returns
returns c =
    let ours : List (Bor Batch) = drop c.loop-place.place c.args.ours.now in
    let theirs : List (Bor Batch) = drop c.loop-place.other c.args.theirs.now in
    let ours_left : take (length c.args.ours.now - c.loop-place.place) ours ≡ ours = take_rest c.args.ours.now c.loop-place.place in
    let theirs_left : take (length c.args.theirs.now - c.loop-place.other) theirs ≡ theirs = take_rest c.args.theirs.now c.loop-place.other in
    let first : seen c.push_all.new.all.items ≡ seen c.loop-place.all.items ++ seen ours =
    c.in_ok-push_all.ensures ∙ ap (λ (bs : List (Bor Batch)). seen c.loop-place.all.items ++ seen bs) ours_left in
    let second : seen c.push_all-2.new.all.items ≡ seen c.push_all.new.all.items ++ seen theirs =
    c.in_ok-push_all-2.ensures ∙ ap (λ (bs : List (Bor Batch)). seen c.push_all.new.all.items ++ seen bs) theirs_left in
    let end : (seen ours ≡ []) ⊎ (seen theirs ≡ []) =
    elim c.loop-place-test.branch [
      | then-loop-place-test+else-other-theirs w ↦ inr (ap seen (drop_all c.loop-place.other c.args.theirs.now w.if-other-theirs.false))
      | else-loop-place-test w ↦ inl (ap seen (drop_all c.loop-place.place c.args.ours.now w.loop-place-test.false))
    ] in
    second
    ∙ ap (λ (bs : List Batch). bs ++ seen theirs) first
    ∙ append_assoc (seen c.loop-place.all.items) (seen ours) (seen theirs)
    ∙ ap (λ (bs : List Batch). seen c.loop-place.all.items ++ bs) (sym (merged_end (seen ours) (seen theirs) end))
    ∙ c.loop-place.invariant.done
