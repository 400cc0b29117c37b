use Rattle.std.proofs.Common.{◌≡◌, ◌<◌, ◌^◌, true, Some, IfSome, ap, sym, subst, ◌∙◌}
use Rattle.std.specs.Map.{values_of}
use Rattle.ndc_progress.proofs.HeldLemmas.{lookup_held, put_joins, put_keyed}
use Rattle.ndc_progress.proofs.MergeLemmas.{held_beat, next_replaces}
use Rattle.indexmap.specs.IndexMap.{insert_entry}
use Rattle.ndc_progress.specs.Keyed.{AreKeyed}
use Rattle.ndc_progress.specs.Reports.{held, next_beat, replaces, same_activity, with_report}
use Rattle.ndc_progress.specs.declared.report.Report.{Report}
use Rattle.ndc_progress.proofs.progress.Progress.tell.Goals as goal

-- src/progress.rt:122:13
pub beat_behind-beat-requires : goal.beat_behind-beat-requires
beat_behind-beat-requires c =
    let found = c.get.ensures.value ∙ lookup_held c.args.activity c.self.inside.reports.entries c.self.invariant ∙ ap (held c.args.activity) c.self.view_is in
    subst (λ o. IfSome o (λ report. report.beat < 10 ^ 12)) (sym found) (held_beat c.args.version (held c.args.activity c.args.self.now) c.requires)

-- src/progress.rt:111:5
pub invariant_of-self-2 : goal.invariant_of-self-2
invariant_of-self-2 c =
    let told : Report = record { activity = c.args.activity; version = c.args.version; beat = c.beat_behind-beat.result; details = c.args.details } in
    let put = c.in_ok-insert.ensures.entries ∙ ap (λ key. insert_entry same_activity c.self.inside.reports.entries key told) c.in_ok-key.ensures in
    subst AreKeyed (sym put) (put_keyed c.self.inside.reports.entries told c.self.invariant)

-- src/progress.rt:111:5
pub returns-clause-beat : goal.returns-clause-beat
returns-clause-beat c =
    let found = c.get.ensures.value ∙ lookup_held c.args.activity c.self.inside.reports.entries c.self.invariant ∙ ap (held c.args.activity) c.self.view_is in
    c.beat_behind-beat.ensures ∙ ap (next_beat c.args.version) found

-- src/progress.rt:111:5
pub returns-clause-told : goal.returns-clause-told
returns-clause-told c =
    let told : Report = record { activity = c.args.activity; version = c.args.version; beat = c.beat_behind-beat.result; details = c.args.details } in
    let put = c.in_ok-insert.ensures.entries ∙ ap (λ key. insert_entry same_activity c.self.inside.reports.entries key told) c.in_ok-key.ensures in
    let greater : replaces (held c.args.activity c.args.self.now) (Some told) ≡ true =
    subst (λ beat. replaces (held c.args.activity c.args.self.now) (Some (record { activity = c.args.activity; version = c.args.version; beat = beat; details = c.args.details })) ≡ true)
    (sym (returns-clause-beat c)) (next_replaces c.args.version c.args.activity c.args.details (held c.args.activity c.args.self.now) c.requires) in
    let replacing = subst (λ own. replaces (held c.args.activity own) (Some told) ≡ true) (sym c.self.view_is) greater in
    ap values_of put ∙ put_joins c.self.inside.reports.entries told c.self.invariant replacing ∙ ap (λ own. with_report own told) c.self.view_is
    ∙ ap (λ beat. with_report c.args.self.now (record { activity = c.args.activity; version = c.args.version; beat = beat; details = c.args.details })) (returns-clause-beat c)
