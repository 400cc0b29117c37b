-- What is pending, started at a place and taken back.
use Rattle.std.proofs.Common.{◌≡◌, ℕ, zero, suc, ◌<◌, Bool, true, false, cond, is_none, List, [], ◌∷◌, ◌++◌, length, take, get_or, Option, None, Some, slice_get, IsTrue, if◌then◌else◌, refl, ap, sym, ◌∙◌, arith}
use Rattle.std.specs.List.{position}
use Rattle.std.specs.Map.{keys_of, values_of}
use Rattle.std.proofs.lemmas.List.{take-append-le, length-append}
use Rattle.std.proofs.lemmas.List.Quantifiers.{position-Some}
use Rattle.indexmap.specs.IndexMap.{IndexMap, set_value_at}
use Rattle.ndc_event.specs.declared.name.Name.{Name}
use Rattle.ndc_state.specs.declared.pendings.Pending.{Pending}
use Rattle.ndc_state.specs.Pendings.{same_name, pending_of, started_by, with_started, without, unstarted_at, unstarted, is_waiting}
use Rattle.ndc_state.specs.Places.{marked_of, IsCountWithin, IsKeptAs}

-- a write of a pending that is not started takes the place back
pub unstarted_at_write : (es : List (Name × Pending)) (i : ℕ) (p : Pending) → slice_get (values_of es) i ≡ Some p
    → set_value_at es i (record p { started = None }) ≡ unstarted_at i es
unstarted_at_write [] i p h = refl
unstarted_at_write (e ∷ es) zero p h = let same : e.1 ≡ p = cc in rw same refl
unstarted_at_write (e ∷ es) (suc i) p h = ap (λ l. e ∷ l) (unstarted_at_write es i p h)

-- past the end nothing is taken back
pub unstarted_at_beyond : (es : List (Name × Pending)) (i : ℕ) → slice_get (values_of es) i ≡ None → unstarted_at i es ≡ es
unstarted_at_beyond [] i h = refl
unstarted_at_beyond (e ∷ es) zero h = absurd (cc)
unstarted_at_beyond (e ∷ es) (suc i) h = ap (λ l. e ∷ l) (unstarted_at_beyond es i h)

-- places are taken back in any order
unstarted_at-twice : (i j : ℕ) (es : List (Name × Pending)) → unstarted_at i (unstarted_at j es) ≡ unstarted_at j (unstarted_at i es)
unstarted_at-twice i j [] = refl
unstarted_at-twice zero zero (e ∷ es) = refl
unstarted_at-twice zero (suc j) (e ∷ es) = refl
unstarted_at-twice (suc i) zero (e ∷ es) = refl
unstarted_at-twice (suc i) (suc j) (e ∷ es) = ap (λ l. e ∷ l) (unstarted_at-twice i j es)

-- one place more, taken back at once
unstarted-push : (places : List ℕ) (i : ℕ) (es : List (Name × Pending)) → unstarted (places ++ i ∷ []) es ≡ unstarted places (unstarted_at i es)
unstarted-push [] i es = refl
unstarted-push (j ∷ places) i es = unstarted-push places i (unstarted_at j es) ∙ ap (unstarted places) (unstarted_at-twice i j es)

-- what was started at a place, taken back
unstarted_at-started : (id n : ℕ) (es : List (Name × Pending)) (i : ℕ) (p : Pending) → slice_get (values_of es) i ≡ Some p → p.started ≡ None
    → unstarted_at i (take n (set_value_at es i (started_by id p))) ≡ take n es
unstarted_at-started id zero es i p h w = refl
unstarted_at-started id (suc n) [] i p h w = refl
unstarted_at-started id (suc n) (e ∷ es) zero p h w =
    let same : e.1 ≡ p = cc in
    let not_started : record p { started = None } ≡ p = sym (ap (λ s. record p { started = s }) w) in
    ap (λ v. (e.0, v) ∷ take n es) (not_started ∙ sym same)
unstarted_at-started id (suc n) (e ∷ es) (suc i) p h w = ap (λ l. e ∷ l) (unstarted_at-started id n es i p h w)

-- a pending that waits is not started
waits : (p : Pending) → IsTrue (is_waiting (Some p)) → p.started ≡ None
waits p h = by p.started h
  where
    by : (s : Option ℕ) → IsTrue (is_none s) → s ≡ None
    by None h = refl
    by (Some x) h = absurd (cc)

-- the entry of a name, at its place
started_at : (name : Name) (id : ℕ) (es : List (Name × Pending)) (i : ℕ) (p : Pending) → slice_get (values_of es) i ≡ Some p
    → same_name name (get_or (keys_of es) i name) ≡ true → ((k : ℕ) → k < i → same_name name (get_or (keys_of es) k name) ≡ false)
    → set_value_at es i (started_by id p) ≡ with_started name id es
started_at name id [] i p h here before = refl
started_at name id (e ∷ es) zero p h here before =
    let same : e.1 ≡ p = cc in rw (here, same) refl
started_at name id (e ∷ es) (suc i) p h here before =
    let other : same_name name e.0 ≡ false = before 0 (omega arith) in
    rw other (ap (λ l. e ∷ l) (started_at name id es i p h here (λ k lt. before (suc k) (omega arith))))

pub with_started-at : (name : Name) (id : ℕ) (es : List (Name × Pending)) (i : ℕ) (p : Pending) → slice_get (values_of es) i ≡ Some p
    → position (same_name name) (keys_of es) ≡ Some i → set_value_at es i (started_by id p) ≡ with_started name id es
with_started-at name id es i p h at =
    let f = position-Some (same_name name) (keys_of es) i name at in started_at name id es i p h f.1 f.2

-- a write leaves as many entries
length-write : (es : List (Name × Pending)) (i : ℕ) (p : Pending) → length (set_value_at es i p) ≡ length es
length-write [] i p = refl
length-write (e ∷ es) zero p = refl
length-write (e ∷ es) (suc i) p = ap suc (length-write es i p)

-- where a name is not pending, nothing goes with it
pub without-absent : (name : Name) (es : List (Name × Pending)) → pending_of name es ≡ None → without name es ≡ es
without-absent name [] h = refl
without-absent name (e ∷ es) h = by (same_name name e.0) h (without-absent name es)
  where
    by : (b : Bool) → cond b (Some e.1) (pending_of name es) ≡ None → (pending_of name es ≡ None → without name es ≡ es)
        → (if b then without name es else e ∷ without name es) ≡ e ∷ es
    by true h rest = absurd (cc)
    by false h rest = ap (λ l. e ∷ l) (rest h)

module _ {S : Type 0} where
  -- a start leaves the mark
  pub marked_of-started : (kept : Option (IndexMap Name Pending S)) (count id : ℕ) (places : List ℕ) (es : List (Name × Pending)) (i : ℕ) (p : Pending)
      → slice_get (values_of es) i ≡ Some p → IsTrue (is_waiting (Some p))
      → marked_of kept count (places ++ i ∷ []) (set_value_at es i (started_by id p)) ≡ marked_of kept count places es
  marked_of-started None count id places es i p h w =
      unstarted-push places i (take count (set_value_at es i (started_by id p))) ∙ ap (unstarted places) (unstarted_at-started id count es i p h (waits p w))
  marked_of-started (Some kept) count id places es i p h w = refl

  pub IsCountWithin-started : (kept : Option (IndexMap Name Pending S)) (count : ℕ) (es : List (Name × Pending)) (i : ℕ) (p : Pending)
      → IsCountWithin kept count es → IsCountWithin kept count (set_value_at es i p)
  IsCountWithin-started None count es i p h = omega (arith, h, length-write es i p)
  IsCountWithin-started (Some kept) count es i p h = tt

  -- a further entry leaves the mark
  pub marked_of-scheduled : (kept : Option (IndexMap Name Pending S)) (count : ℕ) (places : List ℕ) (es : List (Name × Pending)) (e : Name × Pending)
      → IsCountWithin kept count es → marked_of kept count places (es ++ e ∷ []) ≡ marked_of kept count places es
  marked_of-scheduled None count places es e h = ap (unstarted places) (take-append-le count es (e ∷ []) h)
  marked_of-scheduled (Some kept) count places es e h = refl

  pub IsCountWithin-scheduled : (kept : Option (IndexMap Name Pending S)) (count : ℕ) (es : List (Name × Pending)) (e : Name × Pending)
      → IsCountWithin kept count es → IsCountWithin kept count (es ++ e ∷ [])
  IsCountWithin-scheduled None count es e h = omega (arith, h, length-append es (e ∷ []))
  IsCountWithin-scheduled (Some kept) count es e h = tt

  -- where the entries at the mark are kept, they are those of the mark whatever stands there now
  pub marked_of_kept : (kept : Option (IndexMap Name Pending S)) (count : ℕ) (places : List ℕ) (es marked : List (Name × Pending)) → IsKeptAs kept marked → marked_of kept count places es ≡ marked
  marked_of_kept None count places es marked h = absurd h
  marked_of_kept (Some kept) count places es marked h = h

  pub within_kept : (kept : Option (IndexMap Name Pending S)) (count : ℕ) (es marked : List (Name × Pending)) → IsKeptAs kept marked → IsCountWithin kept count es
  within_kept None count es marked h = absurd h
  within_kept (Some kept) count es marked h = tt
