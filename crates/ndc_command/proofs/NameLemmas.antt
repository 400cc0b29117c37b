-- Names that are pending, when one is put last or taken out.
use Rattle.std.proofs.Common.{◌≡◌, Bool, true, false, cond, is_some, List, [], ◌∷◌, ◌++◌, None, Some, if◌then◌else◌, refl, ap, sym, ◌∙◌}
use Rattle.std.proofs.lemmas.Cmp.{nat_list_eq_equiv}
use Rattle.std.proofs.lemmas.Slice.Eq.{bytes_eq-Decides}
use Rattle.ndc_event.specs.declared.name.Name.{Name}
use Rattle.ndc_state.specs.declared.pendings.Pending.{Pending}
use Rattle.ndc_state.specs.Pendings.{same_name, pending_of, without}

same-is : (one two : Name) → same_name one two ≡ true → one ≡ two
same-is one two h = (bytes_eq-Decides one two).0 h

-- a name put last is pending, and the others are as they were
pub pending-put : (q name : Name) (p : Pending) (es : List (Name × Pending))
    → is_some (pending_of q (es ++ (name, p) ∷ [])) ≡ (if same_name name q then true else is_some (pending_of q es))
pending-put q name p [] = ap (λ b. is_some (cond b (Some p) None)) (nat_list_eq_equiv.symm q name) ∙ by (same_name name q)
  where
    by : (b : Bool) → is_some (cond b (Some p) None) ≡ (if b then true else false)
    by true = refl
    by false = refl
pending-put q name p (e ∷ es) = by (same_name q e.0) (same_name name q) (pending-put q name p es)
  where
    by : (b c : Bool) → is_some (pending_of q (es ++ (name, p) ∷ [])) ≡ (if c then true else is_some (pending_of q es))
        → is_some (cond b (Some e.1) (pending_of q (es ++ (name, p) ∷ []))) ≡ (if c then true else is_some (cond b (Some e.1) (pending_of q es)))
    by true true h = refl
    by true false h = refl
    by false c h = h

-- a name taken out is not pending, and the others are as they were
pub pending-without : (q name : Name) (es : List (Name × Pending))
    → is_some (pending_of q (without name es)) ≡ (if same_name name q then false else is_some (pending_of q es))
pending-without q name [] = by (same_name name q)
  where
    by : (b : Bool) → false ≡ (if b then false else false)
    by true = refl
    by false = refl
pending-without q name (e ∷ es) = by (same_name name e.0) refl (pending-without q name es)
  where
    gone : (b : Bool) → same_name q e.0 ≡ b → same_name name e.0 ≡ true
        → (if same_name name q then false else is_some (pending_of q es)) ≡ (if same_name name q then false else is_some (cond b (Some e.1) (pending_of q es)))
    gone true s a = rw (ap (λ z. same_name name z) (same-is q e.0 s) ∙ a) refl
    gone false s a = refl

    kept : (b : Bool) → same_name q e.0 ≡ b → same_name name e.0 ≡ false
        → is_some (pending_of q (without name es)) ≡ (if same_name name q then false else is_some (pending_of q es))
        → is_some (cond b (Some e.1) (pending_of q (without name es))) ≡ (if same_name name q then false else is_some (cond b (Some e.1) (pending_of q es)))
    kept true s a rest = sym (ap (λ c. if c then false else true) (ap (λ z. same_name name z) (same-is q e.0 s) ∙ a))
    kept false s a rest = rest

    by : (a : Bool) → same_name name e.0 ≡ a
        → is_some (pending_of q (without name es)) ≡ (if same_name name q then false else is_some (pending_of q es))
        → is_some (pending_of q (if a then without name es else e ∷ without name es)) ≡ (if same_name name q then false else is_some (pending_of q (e ∷ es)))
    by true a rest = rest ∙ gone (same_name q e.0) refl a
    by false a rest = kept (same_name q e.0) refl a rest
