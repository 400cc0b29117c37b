use Rattle.std.proofs.Common.{true, IsOk, ◌≡◌, List, [], None, ◌∙◌, ap, sym, subst, max, not, ◌&&◌}
use Rattle.std.specs.Option.{option_map}
use Rattle.ndc_event.specs.Key.{key_lt}
use Rattle.ndc_event.specs.declared.batch.Batch.{Batch}
use Rattle.ndc_run.specs.Learning.{learned}
use Rattle.ndc_tree.specs.Tree.{TreeValue}
use Rattle.ndc_model_sets.specs.Current.{current_state}
use Rattle.ndc_model_sets.specs.Sets.{arrived, batch_at}
use Rattle.ndc_model_sets.specs.Reading.{current_key}
use Rattle.ndc_model_sets.specs.Sound.{CopiesNamed}
use Rattle.ndc_model_sets.specs.Writing.{CopiesFitWith}
use Rattle.ndc_shard_runs.specs.Copies.{are_named_copies}
use Rattle.ndc_shard_runs.proofs.NamedLemmas.{named-both}
use Rattle.ndc_shard_runs.specs.Fitting.{ComesNext, IsCarrierFit, both_joined, both_learned}
use Rattle.ndc_shard_runs.specs.Kept.{follows, is_open, lies_beside}
use Rattle.ndc_shard_runs.specs.RunMap.{all_of, batches_of, part_of, run_at}
use Rattle.ndc_shard_runs.proofs.FitLemmas.{taken-is-sound}
use Rattle.ndc_shard_runs.proofs.IndexLemmas.{none-in-run}
use Rattle.ndc_shard_runs.proofs.InsideLemmas.{second-none, second-apart, other-run, second-run, all-both, inside-both, known-both}
use Rattle.ndc_shard_runs.proofs.JudgeLemmas.{first-ok, is-ok, placed-fine}
use Rattle.ndc_shard_runs.proofs.PartLemmas.{part-key}
use Rattle.ndc_shard_runs.proofs.runs.Runs.try_learn_both.Goals as goal

pub judge-requires-clause-fresh : goal.judge-requires-clause-fresh
judge-requires-clause-fresh g c =
    let b = c.args.batch.now in
    none-in-run b.key b.run c.self.inside.runs (subst (λ (l : List Batch). batch_at b.key l ≡ None) (sym c.self.view_is) c.requires.next.fresh)

pub judge-requires-clause-faultless : goal.judge-requires-clause-faultless
judge-requires-clause-faultless g c = c.requires.next.faultless

pub try_learn_both-requires-clause-fresh : goal.try_learn_both-requires-clause-fresh
try_learn_both-requires-clause-fresh g c = subst (λ (l : List Batch). batch_at c.args.batch.now.key l ≡ None) (sym c.self.view_is) c.requires.next.fresh

pub try_learn_both-requires-clause-second_fresh : goal.try_learn_both-requires-clause-second_fresh
try_learn_both-requires-clause-second_fresh g c =
    let b = c.args.batch.now in
    let second = c.args.second.now in
    let none = subst (λ (l : List Batch). batch_at b.key l ≡ None) (sym c.self.view_is) c.requires.next.fresh in
    let fresh = subst (λ (l : List Batch). batch_at second.key (arrived b l) ≡ None) (sym c.self.view_is) c.requires.second_next.fresh in
    let begins = subst (λ (l : List Batch). part_of second.run (arrived b l) ≡ []) (sym c.self.view_is) c.requires.begins in
    second-none c.self.inside c.self.invariant b second none fresh begins

pub try_learn_both-requires-clause-other_key : goal.try_learn_both-requires-clause-other_key
try_learn_both-requires-clause-other_key g c =
    let b = c.args.batch.now in
    let second = c.args.second.now in
    let none = subst (λ (l : List Batch). batch_at b.key l ≡ None) (sym c.self.view_is) c.requires.next.fresh in
    let fresh = subst (λ (l : List Batch). batch_at second.key (arrived b l) ≡ None) (sym c.self.view_is) c.requires.second_next.fresh in
    let begins = subst (λ (l : List Batch). part_of second.run (arrived b l) ≡ []) (sym c.self.view_is) c.requires.begins in
    second-apart c.self.inside c.self.invariant b second none fresh begins

pub try_learn_both-requires-clause-second_run : goal.try_learn_both-requires-clause-second_run
try_learn_both-requires-clause-second_run g c =
    let b = c.args.batch.now in
    let second = c.args.second.now in
    let none = subst (λ (l : List Batch). batch_at b.key l ≡ None) (sym c.self.view_is) c.requires.next.fresh in
    let fresh = subst (λ (l : List Batch). batch_at second.key (arrived b l) ≡ None) (sym c.self.view_is) c.requires.second_next.fresh in
    let begins = subst (λ (l : List Batch). part_of second.run (arrived b l) ≡ []) (sym c.self.view_is) c.requires.begins in
    second-run c.self.inside c.self.invariant b second none fresh begins

pub try_learn_both-requires-clause-other_run : goal.try_learn_both-requires-clause-other_run
try_learn_both-requires-clause-other_run g c =
    let b = c.args.batch.now in
    let second = c.args.second.now in
    let none = subst (λ (l : List Batch). batch_at b.key l ≡ None) (sym c.self.view_is) c.requires.next.fresh in
    let fresh = subst (λ (l : List Batch). batch_at second.key (arrived b l) ≡ None) (sym c.self.view_is) c.requires.second_next.fresh in
    let begins = subst (λ (l : List Batch). part_of second.run (arrived b l) ≡ []) (sym c.self.view_is) c.requires.begins in
    other-run c.self.inside c.self.invariant b second none fresh begins

pub try_learn_both-requires-clause-faultless : goal.try_learn_both-requires-clause-faultless
try_learn_both-requires-clause-faultless g c = c.requires.next.faultless

pub try_learn_both-requires-clause-second_faultless : goal.try_learn_both-requires-clause-second_faultless
try_learn_both-requires-clause-second_faultless g c = c.requires.second_next.faultless

pub invariant_of-self : goal.invariant_of-self
invariant_of-self g c =
    let b = c.args.batch.now in
    let second = c.args.second.now in
    let all = all_of c.self.inside.runs in
    let next : ComesNext all b = subst (λ (l : List Batch). ComesNext l b) (sym c.self.view_is) c.requires.next in
    let carrier : IsCarrierFit all b = subst (λ (l : List Batch). IsCarrierFit l b) (sym c.self.view_is) c.requires.carrier in
    let second_next : ComesNext (arrived b all) second = subst (λ (l : List Batch). ComesNext (arrived b l) second) (sym c.self.view_is) c.requires.second_next in
    let second_carrier : IsCarrierFit (arrived b all) second = subst (λ (l : List Batch). IsCarrierFit (arrived b l) second) (sym c.self.view_is) c.requires.second_carrier in
    let begins : part_of second.run (arrived b all) ≡ [] = subst (λ (l : List Batch). part_of second.run (arrived b l) ≡ []) (sym c.self.view_is) c.requires.begins in
    let both_ok = first-ok (learned second.run [] second) (learned b.run (batches_of (run_at b.run c.self.inside.runs)) b) c.in-Ok-try_learn_both.learned c.in-Ok-try_learn_both.ensures.answer in
    let taken : IsOk (learned b.run (part_of b.run all) b) =
    subst (λ (l : List Batch). IsOk (learned b.run l b)) (c.self.invariant.parts b.run) (is-ok (learned b.run (batches_of (run_at b.run c.self.inside.runs)) b) c.in-Ok-try_learn_both.learned both_ok.2) in
    let second_taken : IsOk (learned second.run (part_of second.run (arrived b all)) second) =
    subst (λ (l : List Batch). IsOk (learned second.run l second)) (sym begins) (is-ok (learned second.run [] second) both_ok.0 both_ok.1) in
    let joined : IsOk (both_joined (batches_of (run_at b.run c.self.inside.runs)) b second) =
    is-ok (both_joined (batches_of (run_at b.run c.self.inside.runs)) b second) c.in-Ok-try_learn_both.learned c.in-Ok-try_learn_both.ensures.answer in
    let fine : IsOk (both_learned (part_of b.run all) b second) =
    placed-fine (part_of b.run all) b second taken (subst (λ (l : List Batch). IsOk (both_joined l b second)) (c.self.invariant.parts b.run) joined) in
    let copies : CopiesFitWith all b = subst (λ (l : List Batch). IsOk (both_learned (part_of b.run l) b second) → CopiesFitWith l b) (sym c.self.view_is) c.requires.copies fine in
    let second_copies : CopiesFitWith (arrived b all) second =
    subst (λ (l : List Batch). IsOk (both_learned (part_of b.run l) b second) → CopiesFitWith (arrived b l) second) (sym c.self.view_is) c.requires.second_copies fine in
    let sound = taken-is-sound all b c.self.invariant.sound next taken copies carrier in
    let both = taken-is-sound (arrived b all) second sound second_next second_taken second_copies second_carrier in
    let told = c.follows-follows.ensures ∙ ap (λ (l : List Batch). follows l b) (sym c.self.view_is) in
    let tells = c.is_left-both_follow.ensures
    ∙ ap (λ (l : List TreeValue). c.follows-follows.result && (key_lt b.key second.key && not (is_open (option_map (λ v. current_state v.run v.batches) (run_at b.run l))))) c.in-Ok-try_learn_both.ensures.ok in
    inside-both c.self.inside c.self.invariant b second next.fresh second_next.fresh begins _ both
    (known-both c.self.inside c.self.invariant b second next.fresh second_next.fresh begins c.lies_beside-beside.result c.follows-follows.result c.is_left-both_follow.result c.pass.new.self c.pass-in-Ok-try_learn_both.new.self sound both c.requires.first
    (c.lies_beside-beside.ensures ∙ ap (λ (l : List Batch). lies_beside l b) (sym c.self.view_is)) told tells c.pass.ensures c.pass-in-Ok-try_learn_both.ensures)
    c.in-Ok-try_learn_both.ensures.ok (c.greater-greatest.ensures.greater ∙ ap (λ n. max n b.key.task) c.greater-before.ensures.greater)
    (λ t. let n = subst (λ (l : List Batch). CopiesNamed l × (are_named_copies l b ≡ true) × (are_named_copies l second ≡ true)) (sym c.self.view_is) (c.both_will_be_named-named.ensures t) in
    named-both all b second c.self.invariant.sound sound both next.fresh second_next.fresh next.faultless second_next.faultless n.0 n.1 n.2)

pub returns-in-Ok-try_learn_both-clause-ok : goal.returns-in-Ok-try_learn_both-clause-ok
returns-in-Ok-try_learn_both-clause-ok g c =
    let b = c.args.batch.now in
    let second = c.args.second.now in
    let none = subst (λ (l : List Batch). batch_at b.key l ≡ None) (sym c.self.view_is) c.requires.next.fresh in
    let fresh = subst (λ (l : List Batch). batch_at second.key (arrived b l) ≡ None) (sym c.self.view_is) c.requires.second_next.fresh in
    let begins = subst (λ (l : List Batch). part_of second.run (arrived b l) ≡ []) (sym c.self.view_is) c.requires.begins in
    ap all_of c.in-Ok-try_learn_both.ensures.ok ∙ all-both c.self.inside c.self.invariant b second none fresh begins ∙ ap (λ (l : List Batch). arrived second (arrived b l)) c.self.view_is

pub returns-in-Ok-try_learn_both-clause-extend_steps : goal.returns-in-Ok-try_learn_both-clause-extend_steps
returns-in-Ok-try_learn_both-clause-extend_steps g c = λ e.
    let b = c.args.batch.now in
    c.in-Ok-try_learn_both.ensures.extend_steps
    (e ∙ ap (current_key b.run) (sym c.self.view_is) ∙ sym (part-key (all_of c.self.inside.runs) c.self.invariant.sound b.run) ∙ ap (current_key b.run) (sym (c.self.invariant.parts b.run)))
