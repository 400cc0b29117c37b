use Rattle.std.proofs.Common.{◌≡◌, sym, subst, ap, ◌∙◌}
use Rattle.std.specs.List.{fold}
use Rattle.ndc_model.specs.Moves.{Trace, all_reapply, due_arrived, quietly, reapplied_all, settled_once}
use Rattle.ndc_model.specs.World.{World, all_clusters}
use Rattle.ndc_model.specs.Conditions.{EachStep, MayBootstrap, MayDoAll, all_bootstrapped, all_due_arrived, due_jobs, reader_bootstrapped, tables_merged}
use Rattle.ndc_world_replication.specs.Dones.{trace_of}
use Rattle.ndc_world_replication.proofs.replication.Replication.settle_once.Goals as goal

pub bootstrap_all-requires-clause-allowed : goal.bootstrap_all-requires-clause-allowed
bootstrap_all-requires-clause-allowed g c κs within =
    subst (λ (w : World). EachStep (MayBootstrap g.C.Cell.allows c.args.header.now) (reader_bootstrapped c.args.header.now) (trace_of w c.args.dones.now.items) (all_clusters c.args.header.now)) (sym c.in_ok-merge_tables.ensures.merged) c.requires.allowed.bootstrap

pub arrive_all_due-requires-clause-allowed : goal.arrive_all_due-requires-clause-allowed
arrive_all_due-requires-clause-allowed g c κs within =
    let brought : trace_of c.bootstrap_all.new.self c.bootstrap_all.new.dones.items ≡ all_bootstrapped c.args.header.now (quietly (tables_merged c.args.header.now) (trace_of c.args.self.now c.args.dones.now.items)) =
    c.in_ok-bootstrap_all.ensures.bootstrapped ∙ ap (λ (w : World). all_bootstrapped c.args.header.now (trace_of w c.args.dones.now.items)) c.in_ok-merge_tables.ensures.merged in
    subst (λ (t : Trace). EachStep (λ v reader. MayDoAll g.C.Cell.allows c.args.header.now reader (due_jobs c.args.header.now reader v.world) v.world) (due_arrived c.args.header.now) t (all_clusters c.args.header.now)) (sym brought) c.requires.allowed.due

pub reapply_each-requires-clause-allowed : goal.reapply_each-requires-clause-allowed
reapply_each-requires-clause-allowed g c κs within =
    let brought : trace_of c.bootstrap_all.new.self c.bootstrap_all.new.dones.items ≡ all_bootstrapped c.args.header.now (quietly (tables_merged c.args.header.now) (trace_of c.args.self.now c.args.dones.now.items)) =
    c.in_ok-bootstrap_all.ensures.bootstrapped ∙ ap (λ (w : World). all_bootstrapped c.args.header.now (trace_of w c.args.dones.now.items)) c.in_ok-merge_tables.ensures.merged in
    subst (λ (t : Trace). EachStep (λ v cluster. MayDoAll g.C.Cell.allows c.args.header.now cluster (all_reapply c.args.header.now) v.world) (reapplied_all c.args.header.now) t (all_clusters c.args.header.now))
    (sym (c.in_ok-arrive_all_due.ensures.arrived ∙ ap (all_due_arrived c.args.header.now) brought)) c.requires.allowed.reapply

pub returns-clause-settled : goal.returns-clause-settled
unfolding settled_once
returns-clause-settled g c =
    let brought : trace_of c.bootstrap_all.new.self c.bootstrap_all.new.dones.items ≡ all_bootstrapped c.args.header.now (quietly (tables_merged c.args.header.now) (trace_of c.args.self.now c.args.dones.now.items)) =
    c.in_ok-bootstrap_all.ensures.bootstrapped ∙ ap (λ (w : World). all_bootstrapped c.args.header.now (trace_of w c.args.dones.now.items)) c.in_ok-merge_tables.ensures.merged in
    c.in_ok-reapply_each.ensures.reapplied
    ∙ ap (λ (t : Trace). fold (reapplied_all c.args.header.now) t (all_clusters c.args.header.now)) (c.in_ok-arrive_all_due.ensures.arrived ∙ ap (all_due_arrived c.args.header.now) brought)
