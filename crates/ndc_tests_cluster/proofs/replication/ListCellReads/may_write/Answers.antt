use Rattle.std.proofs.Common.{◌≡◌, ℕ, List, [], Option, None, Result, Ok, Err, refl, sym, subst, ◌∙◌, ap, arith}
use Rattle.ndc_cluster.specs.Homes.{HomeValue, desk_of}
use Rattle.std.specs.Prelude.{if◌then◌else◌}
use Rattle.std.proofs.lemmas.Bool.{le-ltb}
use Rattle.ndc_command.specs.declared.refusal.Refusal.{Refusal}
use Rattle.ndc_command.specs.declared.refusal.Refusal.TheVariants.{Behind, NoWorkflow}
use Rattle.ndc_domain.specs.Records.{record_of}
use Rattle.ndc_domain.specs.declared.record.DomainRecord.{DomainRecord}
use Rattle.ndc_event.specs.Outcome.{◌>>=◌}
use Rattle.ndc_model_cells.specs.Writing.{Desk, may_write, may_write_by, where_begun}
use Rattle.ndc_shard_entries.specs.Writer.{unless_behind, writes_to}
use Rattle.ndc_shard_entries.proofs.WriterLemmas.{both_tests}
use Rattle.ndc_tests_cluster.proofs.replication.ListCellReads.may_write.Goals as goal

-- a workflow that has not begun
abbrev nothing : ℕ → Result ℕ Refusal
nothing version = Err NoWorkflow

-- where nothing is learned, none has begun
none-begun : (home : Desk) (one : Option DomainRecord) (r : Result ℕ Refusal) → r ≡ writes_to home one → (may_write_by home one [] >>= where_begun None) ≡ (r >>= nothing)
none-begun home one r e = ap (λ (q : Result ℕ Refusal). q >>= where_begun None) (both_tests home one [] ∙ ap (λ (q : Result ℕ Refusal). q >>= λ version. unless_behind version []) (sym e)) ∙ by r
  where
    by : (q : Result ℕ Refusal) → ((q >>= λ version. unless_behind version []) >>= where_begun None) ≡ (q >>= nothing)
    by (Ok version) = ap (λ t. (if t then Err (Behind 0) else Ok version) >>= where_begun None) (le-ltb version 0 (omega arith))
    by (Err why) = refl

pub returns-in-Ok : goal.returns-in-Ok
unfolding may_write
returns-in-Ok c =
    let at = c.home.inside in
    let home : Desk = record { clusters = at.clusters.now; me = at.me; limit = at.limit; table = c.args.table.now } in
    let found : c.writes_to.result ≡ writes_to home (record_of c.args.table.now c.args.domain.now) = c.writes_to.ensures at.limit c.args.table.now ∙ ap (writes_to home) c.find.ensures.found in
    subst (λ (h : HomeValue). nothing 0 ≡ (may_write_by (desk_of h c.args.table.now) (record_of c.args.table.now c.args.domain.now) [] >>= where_begun None)) c.home.view_is
    (sym (none-begun home (record_of c.args.table.now c.args.domain.now) c.writes_to.result found ∙ ap (λ (q : Result ℕ Refusal). q >>= nothing) c.in-Ok.is))

pub returns-in-Err : goal.returns-in-Err
unfolding may_write
returns-in-Err c =
    let at = c.home.inside in
    let home : Desk = record { clusters = at.clusters.now; me = at.me; limit = at.limit; table = c.args.table.now } in
    let found : c.writes_to.result ≡ writes_to home (record_of c.args.table.now c.args.domain.now) = c.writes_to.ensures at.limit c.args.table.now ∙ ap (writes_to home) c.find.ensures.found in
    subst (λ (h : HomeValue). Err c.in-Err.why ≡ (may_write_by (desk_of h c.args.table.now) (record_of c.args.table.now c.args.domain.now) [] >>= where_begun None)) c.home.view_is
    (sym (none-begun home (record_of c.args.table.now c.args.domain.now) c.writes_to.result found ∙ ap (λ (q : Result ℕ Refusal). q >>= nothing) c.in-Err.is))
