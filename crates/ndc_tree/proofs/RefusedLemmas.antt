-- What keeps a batch out of a tree where its parent is.
use Rattle.std.proofs.Common.{◌≡◌, ◌≢◌, ℕ, ◌+◌, ◌<◌, ◌≤◌, Bool, true, false, not, ◌&&◌, ◌==◌, List, [], ◌∷◌, ◌⊎◌, inl, inr, Option, Some, None, Result, Ok, Err, if◌then◌else◌, refl, sym, ◌∙◌, subst, ap, arith, true≢false}
use Rattle.std.specs.Prelude.{◌↔◌, is_some, nat_lt}
use Rattle.std.proofs.lemmas.Bool.{and_parts, eqb-true, eq-eqb, ltb-false, cases_lt}
use Rattle.ndc_event.specs.Batch.{fault_of, is_parent_fit}
use Rattle.ndc_event.specs.Key.{key_lt}
use Rattle.ndc_event.specs.declared.batch.Batch.{Batch}
use Rattle.ndc_event.specs.declared.key.BatchKey.{BatchKey}
use Rattle.ndc_event.specs.declared.key.RunId.{RunId}
use Rattle.ndc_model_sets.specs.Sets.{batch_at, Has}
use Rattle.ndc_model_sets.specs.Learned.{has_key}
use Rattle.ndc_model_sets.specs.Last.{is_nil, first_from}
use Rattle.ndc_model_sets.specs.Paths.{first_id, last_id, path_from, path_to}
use Rattle.ndc_model_sets.specs.Branches.{same_run}
use Rattle.ndc_model_sets.proofs.BranchLemmas.{has-among, among-has, same-batch, run-same, same-run}
use Rattle.ndc_model_sets.proofs.FaultLemmas.{passes}
use Rattle.ndc_model_sets.proofs.ForkLemmas.{path-rises}
use Rattle.ndc_model_sets.proofs.KeyLemmas.{IsBefore, before-parts, before-from, key-parts}
use Rattle.ndc_model_sets.proofs.Lists.{Among, all-among}
use Rattle.ndc_model_sets.proofs.PathLemmas.{none-wanted}
use Rattle.ndc_model_sets.proofs.SetLemmas.{found-key, found-has}
use Rattle.ndc_tree.specs.declared.answer.Inserted.{Inserted}
use Rattle.ndc_tree.specs.declared.answer.TreeError.{TreeError}
use Rattle.ndc_tree.specs.declared.answer.TreeError.TheVariants.{MissingParent, NotWellFormed}
use Rattle.ndc_tree.specs.Fitting.{key_behind, is_of_version, splits_version, goes_on, is_below, fits}
use Rattle.ndc_tree.specs.Inserting.{inserted, placed}
use Rattle.ndc_tree.specs.Refused.{IsAncestorOf, SplitsVersion, DoesNotFit, other_run, same_key, second_root, other_id, split_version}
use Rattle.ndc_tree.specs.Tree.{IsTree}
use Rattle.ndc_tree.proofs.FitLemmas.{before-start}
use Rattle.ndc_tree.proofs.PathLemmas.{there, path_is, path-rise, on-own-path, chain}
use Rattle.ndc_tree.proofs.VersionLemmas.{first-among}

-- the key after a parent is of the version
behind-version : (version : ℕ) (parent : Option BatchKey) → (key_behind version parent).version ≡ version
behind-version version None = refl
behind-version version (Some key) = by (key.version == version) (key_behind version (Some key)) refl
  where
    by : (t : Bool) (k : BatchKey) → k ≡ (if t then record { version = version; task = key.task + 1 } else record { version = version; task = 0 }) → k.version ≡ version
    by true k e = ap (λ (x : BatchKey). x.version) e
    by false k e = ap (λ (x : BatchKey). x.version) e

-- a parent of no later version comes before the key after it
before-behind : (version : ℕ) (key : BatchKey) → key.version ≤ version → key_lt key (key_behind version (Some key)) ≡ true
before-behind version key le = by (key.version == version) refl
  where
    by : (t : Bool) → (key.version == version) ≡ t → key_lt key (if t then record { version = version; task = key.task + 1 } else record { version = version; task = 0 }) ≡ true
    by true e = before-from key (record { version = version; task = key.task + 1 }) (inr (eqb-true key.version version e, omega arith))
    by false e = before-from key (record { version = version; task = 0 }) (inl (less (cases_lt key.version version)))
      where
        less : (key.version < version) ⊎ (version ≤ key.version) → key.version < version
        less (inl l) = l
        less (inr g) = absurd (true≢false (sym (eq-eqb key.version version (omega (arith, le, g))) ∙ e))

-- the parent of a batch without a fault is of no later version
parent-version : (b : Batch) (parent : BatchKey) → fault_of b ≡ None → b.parent ≡ Some parent → parent.version ≤ b.key.version
parent-version b parent e at =
    let fit : is_parent_fit b.key (Some parent) ≡ true = subst (λ (o : Option BatchKey). is_parent_fit b.key o ≡ true) at (passes b e).parent in
    by (nat_lt b.key.version parent.version) refl (and_parts (not (nat_lt b.key.version parent.version)) (nat_lt parent.task b.key.task) fit).0
  where
    by : (t : Bool) → nat_lt b.key.version parent.version ≡ t → not t ≡ true → parent.version ≤ b.key.version
    by true g h = absurd (cc)
    by false g h = ltb-false b.key.version parent.version g

-- the first batch from a key on, where it is of a version
first-of-version : (version : ℕ) (o : Option Batch) → is_of_version version o ≡ true → (f : Batch) × (o ≡ Some f) × (f.key.version ≡ version)
first-of-version version None h = absurd (cc)
first-of-version version (Some f) h = (f, refl, eqb-true f.key.version version h)

module _ (run : RunId) (batches : List Batch) (tree : IsTree run batches) where
  -- all that is on the path to a parent comes before the key after it
  on-path-before : (key start : BatchKey) (one : Batch) → has_key (Some key) batches ≡ true → key_lt key start ≡ true → Has (path_to key batches) one → key_lt one.key start ≡ true
  on-path-before key start one reached less on =
      let p = there (batch_at key batches) reached in
      let own : p.0.key ≡ key = found-key batches key p.0 p.1 in
      let path = path_is run batches tree p.0 (found-has batches key p.0 p.1) in
      all-among (λ (x : Batch). key_lt x.key start ≡ true) (path_to p.0.key batches) one
      ((path-rises batches p.0 (path_to p.0.key batches) tree.set path).1 start (subst (λ (k : BatchKey). key_lt k start ≡ true) (sym own) less))
      (subst (λ (k : BatchKey). Among one (path_to k batches)) (sym own) (has-among (path_to key batches) one on))

  -- a batch of the parent's version with no greater task is on the path to the parent
  on-path : (key : BatchKey) (one : Batch) → has_key (Some key) batches ≡ true → Has batches one → one.key.version ≡ key.version → one.key.task ≤ key.task → Has (path_to key batches) one
  on-path key one reached has version le =
      let p = there (batch_at key batches) reached in
      let own : p.0.key ≡ key = found-key batches key p.0 p.1 in
      let other = found-has batches key p.0 p.1 in
      subst (λ (k : BatchKey). Has (path_to k batches) one) own
      (among-has (path_to p.0.key batches) one (path-rise run batches tree p.0 other) (by p.0 own other (cases_lt one.key.task p.0.key.task)))
    where
      by : (p : Batch) → p.key ≡ key → Has batches p → (one.key.task < p.key.task) ⊎ (p.key.task ≤ one.key.task) → Among one (path_to p.key batches)
      by p own other (inl less) = chain run batches tree one p has other (version ∙ sym (ap (λ (k : BatchKey). k.version) own)) less
      by p own other (inr more) =
          let same : one ≡ p = same-batch batches one p has other
          (key-parts one.key p.key (version ∙ sym (ap (λ (k : BatchKey). k.version) own)) (omega (arith, le, more, ap (λ (k : BatchKey). k.task) own))) in
          subst (λ (x : Batch). Among x (path_to p.key batches)) (sym same) (on-own-path run batches tree p other)

  module _ (new : Batch) (faultless : fault_of new ≡ None) (reached : has_key new.parent batches ≡ true) where
    -- what comes from the key after the parent on is not an ancestor
    no-ancestor : (one : Batch) → key_lt one.key (key_behind new.key.version new.parent) ≡ false → IsAncestorOf batches new one → ⊥
    no-ancestor one from on = by new.parent refl from on reached
      where
        by : (o : Option BatchKey) → new.parent ≡ o → key_lt one.key (key_behind new.key.version o) ≡ false → Has (path_from o batches) one → has_key o batches ≡ true → ⊥
        by None e from on there =
            let no : batch_at one.key [] ≡ Some one = subst (λ (l : List Batch). Has l one) (ap (λ w. w.path) (none-wanted batches)) on in absurd (cc)
        by (Some key) e from on there =
            true≢false (sym (on-path-before key (key_behind new.key.version (Some key)) one there (before-behind new.key.version key (parent-version new key faultless e)) on) ∙ from)

    splits : splits_version batches new.key.version new.parent ≡ true → SplitsVersion batches new
    splits h =
        let start = key_behind new.key.version new.parent in
        let f = first-of-version new.key.version (first_from start batches) h in
        let at = first-among batches start f.0 f.1 in
        record { one = f.0; has = among-has batches f.0 tree.set.ordered at.0; version = f.2; apart = no-ancestor f.0 at.1 }

    -- a batch of the version that comes before the key after the parent is an ancestor
    is-ancestor : (one : Batch) → Has batches one → one.key.version ≡ new.key.version → key_lt one.key (key_behind new.key.version new.parent) ≡ true → IsAncestorOf batches new one
    is-ancestor one has version less = by new.parent less reached
      where
        least : key_lt one.key (record { version = new.key.version; task = 0 }) ≡ true → ⊥
        least l = parts (before-parts one.key (record { version = new.key.version; task = 0 }) l)
          where
            parts : IsBefore one.key (record { version = new.key.version; task = 0 }) → ⊥
            parts (inl m) = absurd (omega (arith, m, version))
            parts (inr m) = absurd (omega (arith, m.1))

        parent_is : (key : BatchKey) → has_key (Some key) batches ≡ true → (t : Bool) → (key.version == new.key.version) ≡ t
            → key_lt one.key (if t then record { version = new.key.version; task = key.task + 1 } else record { version = new.key.version; task = 0 }) ≡ true → Has (path_to key batches) one
        parent_is key there true e l = on-path key one there has (version ∙ sym (eqb-true key.version new.key.version e))
            (parts (before-parts one.key (record { version = new.key.version; task = key.task + 1 }) l))
          where
            parts : IsBefore one.key (record { version = new.key.version; task = key.task + 1 }) → one.key.task ≤ key.task
            parts (inl m) = absurd (omega (arith, m, version))
            parts (inr m) = omega (arith, m.1)
        parent_is key there false e l = absurd (least l)

        by : (o : Option BatchKey) → key_lt one.key (key_behind new.key.version o) ≡ true → has_key o batches ≡ true → Has (path_from o batches) one
        by None l there = absurd (least l)
        by (Some key) l there = parent_is key there (key.version == new.key.version) refl l

    split : SplitsVersion batches new → splits_version batches new.key.version new.parent ≡ true
    split s = by (splits_version batches new.key.version new.parent) refl
      where
        start : BatchKey
        start = key_behind new.key.version new.parent

        by : (t : Bool) → splits_version batches new.key.version new.parent ≡ t → splits_version batches new.key.version new.parent ≡ true
        by true e = e
        by false e =
            let version : start.version ≡ new.key.version = behind-version new.key.version new.parent in
            let before : key_lt s.one.key start ≡ true = before-start batches start s.one tree.set.ordered (has-among batches s.one s.has) (s.version ∙ sym version)
            (subst (λ (n : ℕ). is_of_version n (first_from start batches) ≡ false) (sym version) e) in
            absurd (s.apart (is-ancestor s.one s.has s.version before))

    pub splits_exactly : (splits_version batches new.key.version new.parent ≡ true) ↔ SplitsVersion batches new
    splits_exactly = (splits, split)

    -- what four tests come to: of the run, the key is there, below the parent, the version is split
    abbrev of_tests : Bool → Bool → Bool → Bool → Bool
    of_tests mine taken below parted = (mine && not taken) && (below && not parted)

    failed : (mine taken below parted : Bool) → of_tests mine taken below parted ≡ false → ((mine ≡ false) ⊎ (taken ≡ true)) ⊎ ((below ≡ false) ⊎ (parted ≡ true))
    failed false taken below parted h = inl (inl refl)
    failed true true below parted h = inl (inr refl)
    failed true false false parted h = inr (inl refl)
    failed true false true true h = inr (inr refl)
    failed true false true false h = absurd (cc)

    fails : (mine taken below parted : Bool) → ((mine ≡ false) ⊎ (taken ≡ true)) ⊎ ((below ≡ false) ⊎ (parted ≡ true)) → of_tests mine taken below parted ≡ false
    fails false taken below parted h = refl
    fails true true below parted h = refl
    fails true false false parted h = refl
    fails true false true true h = refl
    fails true false true false (inl (inl h)) = absurd (cc)
    fails true false true false (inl (inr h)) = absurd (cc)
    fails true false true false (inr (inl h)) = absurd (cc)
    fails true false true false (inr (inr h)) = absurd (cc)

    not-mine : same_run new.run run ≡ false → new.run ≢ run
    not-mine e same = true≢false (sym (same-run new.run run same) ∙ e)

    mine-not : new.run ≢ run → same_run new.run run ≡ false
    mine-not other = by (same_run new.run run) refl
      where
        by : (t : Bool) → same_run new.run run ≡ t → same_run new.run run ≡ false
        by true e = absurd (other (run-same new.run run e))
        by false e = e

    not-nil : (l : List Batch) → is_nil l ≡ false → l ≢ []
    not-nil [] h e = absurd (cc)
    not-nil (b ∷ l) h e = absurd (cc)

    nil-not : (l : List Batch) → l ≢ [] → is_nil l ≡ false
    nil-not [] h = absurd (h refl)
    nil-not (b ∷ l) h = refl

    not-below : is_below batches new new.parent ≡ false → DoesNotFit run batches new
    not-below h = by new.parent refl h reached
      where
        by : (o : Option BatchKey) → new.parent ≡ o → is_below batches new o ≡ false → has_key o batches ≡ true → DoesNotFit run batches new
        by None e h at = second_root e (not-nil batches h)
        by (Some key) e h at =
            let p = there (batch_at key batches) at in
            let g : (last_id p.0.events + 1 == first_id new.events) ≡ false = subst (λ (o : Option Batch). goes_on new o ≡ false) p.1 h in
            other_id key p.0 e p.1 (λ same. true≢false (sym (eq-eqb (last_id p.0.events + 1) (first_id new.events) same) ∙ g))

    apart-from : (key : BatchKey) (before : Batch) → new.parent ≡ Some key → batch_at key batches ≡ Some before → last_id before.events + 1 ≢ first_id new.events
        → is_below batches new new.parent ≡ false
    apart-from key before e at other =
        subst (λ (o : Option BatchKey). is_below batches new o ≡ false) (sym e) (subst (λ (o : Option Batch). goes_on new o ≡ false) (sym at) (by (last_id before.events + 1 == first_id new.events) refl))
      where
        by : (t : Bool) → (last_id before.events + 1 == first_id new.events) ≡ t → (last_id before.events + 1 == first_id new.events) ≡ false
        by true e = absurd (other (eqb-true (last_id before.events + 1) (first_id new.events) e))
        by false e = e

    unfit : fits run batches new ≡ false → DoesNotFit run batches new
    unfit h = by (failed (same_run new.run run) (is_some (batch_at new.key batches)) (is_below batches new new.parent) (splits_version batches new.key.version new.parent) h)
      where
        by : ((same_run new.run run ≡ false) ⊎ (is_some (batch_at new.key batches) ≡ true))
            ⊎ ((is_below batches new new.parent ≡ false) ⊎ (splits_version batches new.key.version new.parent ≡ true)) → DoesNotFit run batches new
        by (inl (inl e)) = other_run (not-mine e)
        by (inl (inr e)) = same_key e
        by (inr (inl e)) = not-below e
        by (inr (inr e)) = split_version (splits e)

    fits-not : DoesNotFit run batches new → fits run batches new ≡ false
    fits-not d = fails (same_run new.run run) (is_some (batch_at new.key batches)) (is_below batches new new.parent) (splits_version batches new.key.version new.parent) (by d)
      where
        by : DoesNotFit run batches new → ((same_run new.run run ≡ false) ⊎ (is_some (batch_at new.key batches) ≡ true))
            ⊎ ((is_below batches new new.parent ≡ false) ⊎ (splits_version batches new.key.version new.parent ≡ true))
        by (other_run other) = inl (inl (mine-not other))
        by (same_key taken) = inl (inr taken)
        by (second_root e some) = inr (inl (subst (λ (o : Option BatchKey). is_below batches new o ≡ false) (sym e) (nil-not batches some)))
        by (other_id key before e at other) = inr (inl (apart-from key before e at other))
        by (split_version s) = inr (inr (split s))

    -- what becomes of a batch whose parent is there, by whether it fits
    abbrev judged : Bool → Result Inserted TreeError
    judged t = if not t then Err (NotWellFormed new.key) else Ok (placed run batches new.key new.parent)

    is-judged : inserted run batches new ≡ judged (fits run batches new)
    is-judged = ap (λ t. if not t then Err (MissingParent new.key) else judged (fits run batches new)) reached

    pub refused_exactly : (inserted run batches new ≡ Err (NotWellFormed new.key)) ↔ DoesNotFit run batches new
    refused_exactly = (λ e. unfit (refused (fits run batches new) (sym is-judged ∙ e)), λ d. is-judged ∙ ap judged (fits-not d))
      where
        refused : (t : Bool) → judged t ≡ Err (NotWellFormed new.key) → t ≡ false
        refused true e = absurd (cc)
        refused false e = refl
