use Rattle.std.proofs.Common.{◌≡◌, ℕ, ◌∙◌, ◌++◌, ◌∷◌, [], ap, sym, subst, None, List}
use Rattle.ndc_event.specs.declared.name.Name.{Name}
use Rattle.ndc_state.specs.declared.pendings.Pending.{Pending}
use Rattle.ndc_state.specs.Marked.{Marked}
use Rattle.indexmap.proofs.CallerLemmas.{insert_entry-new}
use Rattle.ndc_state.specs.Pendings.{same_name, pending_of, remaining, scheduled_by}
use Rattle.ndc_state.specs.Places.{marked_of}
use Rattle.ndc_state.proofs.PlaceLemmas.{marked_of-scheduled, IsCountWithin-scheduled}
use Rattle.ndc_state.proofs.RemovedLemmas.{found_remaining, remaining_scheduled}
use Rattle.ndc_state.proofs.held.Held.schedule.Goals as goal

pub invariant_of-self-2 : goal.invariant_of-self-2
invariant_of-self-2 c =
    let name = c.args.name in
    let names = c.make_way.new.removed.keys in
    let es = c.make_way.new.entries.entries in
    let none = subst (λ (v : Marked (List (Name × Pending))). pending_of name v.current ≡ None) (sym c.self.view_is) c.requires in
    let absent : pending_of name es ≡ None = sym (found_remaining names name es c.in_ok-make_way.ensures.ok) ∙ ap (pending_of name) c.in_ok-make_way.ensures.current ∙ none in
    rw (c.in_ok-insert.ensures.entries ∙ insert_entry-new same_name c.make_way.new.entries name (scheduled_by c.args.id) absent)
    (IsCountWithin-scheduled c.make_way.new.kept c.self.inside.count es (name, scheduled_by c.args.id) c.in_ok-make_way.ensures.within)

-- the name is new, so its entry goes last
pub returns-clause-current : goal.returns-clause-current
returns-clause-current c =
    let name = c.args.name in
    let names = c.make_way.new.removed.keys in
    let es = c.make_way.new.entries.entries in
    let none = subst (λ (v : Marked (List (Name × Pending))). pending_of name v.current ≡ None) (sym c.self.view_is) c.requires in
    let absent : pending_of name es ≡ None = sym (found_remaining names name es c.in_ok-make_way.ensures.ok) ∙ ap (pending_of name) c.in_ok-make_way.ensures.current ∙ none in
    rw (← c.self.view_is)
    (ap (remaining names) (c.in_ok-insert.ensures.entries ∙ insert_entry-new same_name c.make_way.new.entries name (scheduled_by c.args.id) absent)
    ∙ remaining_scheduled names name es (scheduled_by c.args.id) c.in_ok-make_way.ensures.ok
    ∙ ap (λ (l : List (Name × Pending)). l ++ (name, scheduled_by c.args.id) ∷ []) c.in_ok-make_way.ensures.current)

pub returns-clause-marked : goal.returns-clause-marked
returns-clause-marked c =
    let name = c.args.name in
    let names = c.make_way.new.removed.keys in
    let es = c.make_way.new.entries.entries in
    let none = subst (λ (v : Marked (List (Name × Pending))). pending_of name v.current ≡ None) (sym c.self.view_is) c.requires in
    let absent : pending_of name es ≡ None = sym (found_remaining names name es c.in_ok-make_way.ensures.ok) ∙ ap (pending_of name) c.in_ok-make_way.ensures.current ∙ none in
    rw (← c.self.view_is)
    (ap (marked_of c.make_way.new.kept c.self.inside.count c.self.inside.started.items) (c.in_ok-insert.ensures.entries ∙ insert_entry-new same_name c.make_way.new.entries name (scheduled_by c.args.id) absent)
    ∙ marked_of-scheduled c.make_way.new.kept c.self.inside.count c.self.inside.started.items es (name, scheduled_by c.args.id) c.in_ok-make_way.ensures.within
    ∙ subst (λ (places : List ℕ). marked_of c.make_way.new.kept c.self.inside.count places es ≡ marked_of c.self.inside.kept c.self.inside.count places c.self.inside.entries.entries) c.as_slice.ensures.value
    c.in_ok-make_way.ensures.marked)
