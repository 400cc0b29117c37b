use Rattle.std.proofs.Common.{◌∙◌, ap, sym, subst, IsTrue, Option, Some, List}
use Rattle.ndc_event.specs.declared.name.Name.{Name}
use Rattle.ndc_state.specs.Marked.{Marked}
use Rattle.ndc_state.specs.declared.pendings.Pending.{Pending}
use Rattle.ndc_state.specs.Pendings.{is_waiting, pending_of, remaining}
use Rattle.ndc_state.proofs.PlaceLemmas.{with_started-at, marked_of-started, IsCountWithin-started}
use Rattle.ndc_state.proofs.RemovedLemmas.{found_remaining, remaining_started, waits-there, never-absent}
use Rattle.ndc_state.proofs.held.Held.start.Goals as goal

pub invariant_of-self-2 : goal.invariant_of-self-2
invariant_of-self-2 c =
    IsCountWithin-started c.self.inside.kept c.self.inside.count c.self.inside.entries.entries c.in-Some.place _ c.self.invariant

pub returns-clause-current : goal.returns-clause-current
returns-clause-current c =
    let names = c.self.inside.removed.keys in
    let name = c.args.name.now in
    let es = c.self.inside.entries.entries in
    let waits = subst (λ (v : Marked (List (Name × Pending))). IsTrue (is_waiting (pending_of name v.current))) (sym c.self.view_is) c.requires in
    rw (← c.self.view_is)
    (ap (remaining names) (with_started-at name c.args.id es c.in-Some.place c.index_mut.result.now c.index_mut.ensures.value (sym c.in-Some.ensures.index))
    ∙ remaining_started names name c.args.id es (waits-there names name es waits))

-- the entry waited, so the mark has it unstarted
pub returns-clause-marked : goal.returns-clause-marked
returns-clause-marked c =
    let names = c.self.inside.removed.keys in
    let name = c.args.name.now in
    let es = c.self.inside.entries.entries in
    let waits = subst (λ (v : Marked (List (Name × Pending))). IsTrue (is_waiting (pending_of name v.current))) (sym c.self.view_is) c.requires in
    let waiting : IsTrue (is_waiting (Some c.index_mut.result.now)) =
    subst (λ (p : Option Pending). IsTrue (is_waiting p)) (sym c.in-Some.ensures.value ∙ c.index_mut.ensures.value)
    (subst (λ (p : Option Pending). IsTrue (is_waiting p)) (found_remaining names name es (waits-there names name es waits)) waits) in
    rw (c.in_ok-push.ensures.items, ← c.self.view_is)
    (marked_of-started c.self.inside.kept c.self.inside.count c.args.id c.self.inside.started.items es c.in-Some.place c.index_mut.result.now c.index_mut.ensures.value waiting)

-- it waits, so it has a place
pub returns-in_default-clause-current : goal.returns-in_default-clause-current
returns-in_default-clause-current c =
    let names = c.self.inside.removed.keys in
    let name = c.args.name.now in
    let es = c.self.inside.entries.entries in
    let waits = subst (λ (v : Marked (List (Name × Pending))). IsTrue (is_waiting (pending_of name v.current))) (sym c.self.view_is) c.requires in
    let waiting : IsTrue (is_waiting (pending_of name es)) = subst (λ (p : Option Pending). IsTrue (is_waiting p)) (found_remaining names name es (waits-there names name es waits)) waits in
    absurd (never-absent (pending_of name es) waiting (sym c.in_default.ensures.found))
