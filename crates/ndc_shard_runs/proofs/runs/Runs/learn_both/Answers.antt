use Rattle.std.proofs.Common.{true, IsOk, ◌<◌, ◌^◌, arith, ◌≡◌, List, [], None, ◌∙◌, ap, sym, subst, max, not, ◌&&◌}
use Rattle.ndc_event.specs.declared.batch.Batch.{Batch}
use Rattle.ndc_run.specs.Learning.{learned}
use Rattle.ndc_shard_runs.proofs.TakenLemmas.{taken-small, taken-second}
use Rattle.ndc_model_sets.specs.Sets.{arrived, batch_at}
use Rattle.ndc_model_sets.specs.Sound.{CopiesNamed, IsSound}
use Rattle.ndc_shard_runs.specs.Copies.{are_named_copies}
use Rattle.ndc_model_sets.specs.Reading.{current_key}
use Rattle.std.specs.Option.{option_map}
use Rattle.ndc_event.specs.Key.{key_lt}
use Rattle.ndc_model_sets.specs.Current.{current_state}
use Rattle.ndc_tree.specs.Tree.{TreeValue}
use Rattle.ndc_shard_runs.specs.Kept.{follows, is_open, lies_beside}
use Rattle.ndc_shard_runs.specs.RunMap.{all_of, batches_of, part_of, run_at}
use Rattle.ndc_shard_runs.proofs.InsideLemmas.{second-none, second-apart, other-run, second-run, all-both, inside-both, known-both}
use Rattle.ndc_shard_runs.proofs.JudgeLemmas.{both-fine}
use Rattle.ndc_shard_runs.proofs.NamedLemmas.{named-both}
use Rattle.ndc_shard_runs.proofs.ReadLemmas.{new-faultless}
use Rattle.ndc_shard_runs.proofs.PartLemmas.{part-key}
use Rattle.ndc_shard_runs.proofs.runs.Runs.learn_both.Goals as goal

pub learn_both-requires-clause-fresh : goal.learn_both-requires-clause-fresh
learn_both-requires-clause-fresh g c = subst (λ (l : List Batch). batch_at c.args.batch.now.key l ≡ None) (sym c.self.view_is) c.requires.fresh

pub learn_both-requires-clause-second_fresh : goal.learn_both-requires-clause-second_fresh
learn_both-requires-clause-second_fresh g c =
    let b = c.args.batch.now in
    let second = c.args.second.now in
    let none = subst (λ (l : List Batch). batch_at b.key l ≡ None) (sym c.self.view_is) c.requires.fresh in
    let fresh = subst (λ (l : List Batch). batch_at second.key (arrived b l) ≡ None) (sym c.self.view_is) c.requires.second_fresh in
    let begins = subst (λ (l : List Batch). part_of second.run (arrived b l) ≡ []) (sym c.self.view_is) c.requires.begins in
    second-none c.self.inside c.self.invariant b second none fresh begins

pub learn_both-requires-clause-other_key : goal.learn_both-requires-clause-other_key
learn_both-requires-clause-other_key g c =
    let b = c.args.batch.now in
    let second = c.args.second.now in
    let none = subst (λ (l : List Batch). batch_at b.key l ≡ None) (sym c.self.view_is) c.requires.fresh in
    let fresh = subst (λ (l : List Batch). batch_at second.key (arrived b l) ≡ None) (sym c.self.view_is) c.requires.second_fresh in
    let begins = subst (λ (l : List Batch). part_of second.run (arrived b l) ≡ []) (sym c.self.view_is) c.requires.begins in
    second-apart c.self.inside c.self.invariant b second none fresh begins

pub learn_both-requires-clause-second_run : goal.learn_both-requires-clause-second_run
learn_both-requires-clause-second_run g c =
    let b = c.args.batch.now in
    let second = c.args.second.now in
    let none = subst (λ (l : List Batch). batch_at b.key l ≡ None) (sym c.self.view_is) c.requires.fresh in
    let fresh = subst (λ (l : List Batch). batch_at second.key (arrived b l) ≡ None) (sym c.self.view_is) c.requires.second_fresh in
    let begins = subst (λ (l : List Batch). part_of second.run (arrived b l) ≡ []) (sym c.self.view_is) c.requires.begins in
    second-run c.self.inside c.self.invariant b second none fresh begins

pub learn_both-requires-clause-other_run : goal.learn_both-requires-clause-other_run
learn_both-requires-clause-other_run g c =
    let b = c.args.batch.now in
    let second = c.args.second.now in
    let none = subst (λ (l : List Batch). batch_at b.key l ≡ None) (sym c.self.view_is) c.requires.fresh in
    let fresh = subst (λ (l : List Batch). batch_at second.key (arrived b l) ≡ None) (sym c.self.view_is) c.requires.second_fresh in
    let begins = subst (λ (l : List Batch). part_of second.run (arrived b l) ≡ []) (sym c.self.view_is) c.requires.begins in
    other-run c.self.inside c.self.invariant b second none fresh begins

pub learn_both-requires-clause-faultless : goal.learn_both-requires-clause-faultless
learn_both-requires-clause-faultless g c =
    let b = c.args.batch.now in
    let second = c.args.second.now in
    let none = subst (λ (l : List Batch). batch_at b.key l ≡ None) (sym c.self.view_is) c.requires.fresh in
    let sound = subst (λ (l : List Batch). IsSound (arrived b l)) (sym c.self.view_is) c.requires.sound in
    new-faultless b (all_of c.self.inside.runs) c.self.invariant.sound sound none

pub learn_both-requires-clause-second_faultless : goal.learn_both-requires-clause-second_faultless
learn_both-requires-clause-second_faultless g c =
    let b = c.args.batch.now in
    let second = c.args.second.now in
    new-faultless second (arrived b c.args.self.now) c.requires.sound c.requires.sound_both c.requires.second_fresh

pub invariant_of-self-2 : goal.invariant_of-self-2
invariant_of-self-2 g c =
    let b = c.args.batch.now in
    let second = c.args.second.now in
    let none = subst (λ (l : List Batch). batch_at b.key l ≡ None) (sym c.self.view_is) c.requires.fresh in
    let fresh = subst (λ (l : List Batch). batch_at second.key (arrived b l) ≡ None) (sym c.self.view_is) c.requires.second_fresh in
    let begins = subst (λ (l : List Batch). part_of second.run (arrived b l) ≡ []) (sym c.self.view_is) c.requires.begins in
    let sound = subst (λ (l : List Batch). IsSound (arrived b l)) (sym c.self.view_is) c.requires.sound in
    let both = subst (λ (l : List Batch). IsSound (arrived second (arrived b l))) (sym c.self.view_is) c.requires.sound_both in
    let told = c.follows-follows.ensures ∙ ap (λ (l : List Batch). follows l b) (sym c.self.view_is) in
    let tells = c.is_left-both_follow.ensures ∙ ap (λ (l : List TreeValue). c.follows-follows.result && (key_lt b.key second.key && not (is_open (option_map (λ v. current_state v.run v.batches) (run_at b.run l))))) c.in-Ok.ensures.ok in
    inside-both c.self.inside c.self.invariant b second none fresh begins _ both
    (known-both c.self.inside c.self.invariant b second none fresh begins c.lies_beside-beside.result c.follows-follows.result c.is_left-both_follow.result c.pass.new.self c.pass-2.new.self sound both c.requires.first
    (c.lies_beside-beside.ensures ∙ ap (λ (l : List Batch). lies_beside l b) (sym c.self.view_is)) told tells c.pass.ensures c.pass-2.ensures)
    c.in-Ok.ensures.ok (c.greater-greatest.ensures.greater ∙ ap (λ n. max n b.key.task) c.greater-before.ensures.greater)
    (λ t. let n = subst (λ (l : List Batch). CopiesNamed l × (are_named_copies l b ≡ true) × (are_named_copies l second ≡ true)) (sym c.self.view_is) (c.both_stay_named-named.ensures t) in
    named-both (all_of c.self.inside.runs) b second c.self.invariant.sound sound both none fresh (new-faultless b (all_of c.self.inside.runs) c.self.invariant.sound sound none)
    (new-faultless second (arrived b (all_of c.self.inside.runs)) sound both fresh) n.0 n.1 n.2)

pub returns-clause-ok : goal.returns-clause-ok
returns-clause-ok g c =
    let b = c.args.batch.now in
    let second = c.args.second.now in
    let none = subst (λ (l : List Batch). batch_at b.key l ≡ None) (sym c.self.view_is) c.requires.fresh in
    let fresh = subst (λ (l : List Batch). batch_at second.key (arrived b l) ≡ None) (sym c.self.view_is) c.requires.second_fresh in
    let begins = subst (λ (l : List Batch). part_of second.run (arrived b l) ≡ []) (sym c.self.view_is) c.requires.begins in
    ap all_of c.in-Ok.ensures.ok ∙ all-both c.self.inside c.self.invariant b second none fresh begins ∙ ap (λ (l : List Batch). arrived second (arrived b l)) c.self.view_is

pub returns-clause-extend_steps : goal.returns-clause-extend_steps
returns-clause-extend_steps g c = λ e.
    let b = c.args.batch.now in
    let second = c.args.second.now in
    c.in-Ok.ensures.extend_steps
    (e ∙ ap (current_key b.run) (sym c.self.view_is) ∙ sym (part-key (all_of c.self.inside.runs) c.self.invariant.sound b.run) ∙ ap (current_key b.run) (sym (c.self.invariant.parts b.run)))

pub learn_both-requires-clause-fits : goal.learn_both-requires-clause-fits
learn_both-requires-clause-fits g c =
    let b = c.args.batch.now in
    let second = c.args.second.now in
    let none = subst (λ (l : List Batch). batch_at b.key l ≡ None) (sym c.self.view_is) c.requires.fresh in
    let sound = subst (λ (l : List Batch). IsSound (arrived b l)) (sym c.self.view_is) c.requires.sound in
    let most = subst (λ n. max (max n second.key.task) b.key.task < 2 ^ 64) c.self.invariant.task (subst (λ n. max n b.key.task < 2 ^ 64) c.greater-before.ensures.greater c.greater-greatest.ensures.small) in
    subst (λ (l : List Batch). IsOk (learned b.run l b)) (sym (c.self.invariant.parts b.run))
    (taken-small (all_of c.self.inside.runs) b c.self.invariant.sound sound none (omega (arith, most)) (omega (arith, most)))

pub learn_both-requires-clause-fits_both : goal.learn_both-requires-clause-fits_both
learn_both-requires-clause-fits_both g c =
    let b = c.args.batch.now in
    let second = c.args.second.now in
    let none = subst (λ (l : List Batch). batch_at b.key l ≡ None) (sym c.self.view_is) c.requires.fresh in
    let fresh = subst (λ (l : List Batch). batch_at second.key (arrived b l) ≡ None) (sym c.self.view_is) c.requires.second_fresh in
    let begins = subst (λ (l : List Batch). part_of second.run (arrived b l) ≡ []) (sym c.self.view_is) c.requires.begins in
    let sound = subst (λ (l : List Batch). IsSound (arrived b l)) (sym c.self.view_is) c.requires.sound in
    let both = subst (λ (l : List Batch). IsSound (arrived second (arrived b l))) (sym c.self.view_is) c.requires.sound_both in
    let most = subst (λ n. max (max n second.key.task) b.key.task < 2 ^ 64) c.self.invariant.task (subst (λ n. max n b.key.task < 2 ^ 64) c.greater-before.ensures.greater c.greater-greatest.ensures.small) in
    let runs = c.self.inside.runs in
    both-fine (learned second.run [] second) (learned b.run (batches_of (run_at b.run runs)) b) (taken-second (all_of c.self.inside.runs) b second sound both none fresh begins most)
    (learn_both-requires-clause-fits g c)
