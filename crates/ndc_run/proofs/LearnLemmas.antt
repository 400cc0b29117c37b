-- What a run is once a batch has joined it.
use Rattle.std.proofs.Common.{◌≡◌, ℕ, zero, suc, ◌+◌, ◌<◌, ◌≤◌, ◌^◌, Bool, true, false, not, ◌&&◌, All, List, [], ◌∷◌, length, get_or, ◌↔◌, inl, inr, Option, Some, None, Result, Ok, Err, IsOk, if◌then◌else◌, refl, sym, ◌∙◌, subst, ap, arith}
use Rattle.std.specs.Prelude.{is_some}
use Rattle.std.specs.Option.{option_map}
use Rattle.ndc_event.specs.Key.{key_lt, key_eq}
use Rattle.ndc_event.specs.Outcome.{◌>>=◌}
use Rattle.ndc_event.specs.declared.batch.Batch.{Batch}
use Rattle.ndc_event.specs.declared.key.BatchKey.{BatchKey}
use Rattle.ndc_event.specs.declared.key.RunId.{RunId}
use Rattle.ndc_rebuild.specs.Kept.{Kept, kept_at, with_kept, events_behind, FitsPath}
use Rattle.ndc_rebuild.specs.Rebuilt.{HaveSmallIds}
use Rattle.ndc_rebuild.proofs.PathLemmas.{counted-twice}
use Rattle.ndc_state.specs.declared.rule.StateError.{StateError}
use Rattle.ndc_state.specs.declared.rule.StateError.TheVariants as state
use Rattle.ndc_state.specs.Counted.{counted}
use Rattle.ndc_state.specs.Replay.{replay, replay_of, CountsWithin}
use Rattle.ndc_state.specs.Value.{StateValue}
use Rattle.ndc_model_sets.specs.Branches.{current_tip}
use Rattle.ndc_model_sets.specs.Current.{state_to, state_at, current_state}
use Rattle.ndc_model_sets.specs.Paths.{is_wanted, path_to, events_to}
use Rattle.ndc_model_sets.proofs.ForkLemmas.{path-run}
use Rattle.ndc_model_sets.proofs.KeyLemmas.{same-keys}
use Rattle.ndc_model_sets.proofs.Lists.{Among}
use Rattle.ndc_model_sets.specs.Sets.{batch_at, Has, arrived}
use Rattle.ndc_model_sets.proofs.SetLemmas.{found-key, found-has, has-found}
use Rattle.ndc_tree.specs.declared.answer.Inserted.{Inserted}
use Rattle.ndc_tree.specs.declared.answer.Inserted.TheVariants.{Known, Extended, Forked}
use Rattle.ndc_tree.specs.declared.answer.TreeError.{TreeError}
use Rattle.ndc_model_sets.specs.Reading.{current_key}
use Rattle.ndc_model_sets.specs.Keys.{is_key_among, is_key}
use Rattle.ndc_tree.specs.Inserting.{inserted}
use Rattle.ndc_tree.specs.Tips.{tip_keys}
use Rattle.ndc_tree.specs.Tree.{TreeValue, IsTree, Joins}
use Rattle.ndc_tree.proofs.PathLemmas.{path_is}
use Rattle.ndc_tree.proofs.TipLemmas.{fresh-no-tip}
use Rattle.ndc_tree.proofs.LastLemmas.{last-has, none-last, current_is_last}
use Rattle.ndc_run.specs.declared.answer.Learned.TheVariants.{New}
use Rattle.ndc_run.specs.declared.answer.RunError.{RunError}
use Rattle.ndc_run.specs.declared.answer.RunError.TheVariants.{MissingParent, NotWellFormed}
use Rattle.ndc_run.specs.declared.run.Branch.{Branch}
use Rattle.ndc_run.specs.declared.run.Run.TheInside.{Inside}
use Rattle.ndc_run.specs.Leading.{leading_of, beside_of}
use Rattle.ndc_run.specs.Learning.{of_state_error, of_tree_error, or_error, state_with, passes_by, joined, learned, is_known, leads_over, current_path, BeginsWith}
use Rattle.ndc_run.specs.Run.{IsRun, IsKept, state_before}
use Rattle.ndc_run.specs.RunFields.{AreRunFields, IsBeside, IsRunInside}
use Rattle.ndc_run.proofs.BehindLemmas.{few-behind}
use Rattle.ndc_run.proofs.KeptLemmas.{kept-grown, kept-fits, key_eq-flip}
use Rattle.ndc_run.proofs.StateLemmas.{state-with, parent-found, new-state, old-state, old-there, new-there, grown-run}
use Rattle.ndc_run.proofs.TipLemmas.{tip-extended, tip-leads, tip-stays, passes-extended, switched-exactly}

-- where a changed error is none, there was none
pub was-Ok : {X E F : Type 0} (f : E → F) (r : Result X E) (x : X) → or_error f r ≡ Ok x → r ≡ Ok x
was-Ok f (Ok y) x h = let same : y ≡ x = cc in ap Ok same
was-Ok f (Err e) x h = absurd (cc)

-- the tip of a run is one of its batches
pub tip-has : (run : RunId) (batches : List Batch) (m : Batch) → IsTree run batches → current_tip run batches ≡ Some m → Has batches m
tip-has run batches m tree e = last-has run batches tree m (sym (current_is_last run batches tree) ∙ e)

pub has-some : (batches : List Batch) (b : Batch) → Has batches b → is_some (batch_at b.key batches) ≡ true
has-some batches b has = ap is_some has

-- the state of the current branch is that of the path to the parent of what goes on from it
pub current-before : (run : RunId) (batches : List Batch) (parent : Option BatchKey) → parent ≡ current_key run batches → current_state run batches ≡ state_before run parent batches
current-before run batches parent e = by (current_tip run batches) ∙ sym (ap (λ o. state_before run o batches) e)
  where
    by : (o : Option Batch) → state_at run o batches ≡ state_before run (option_map (λ tip. tip.key) o) batches
    by None = refl
    by (Some m) = refl

-- a run whose fields are as they were
pub kept-same : (run : RunId) (batches : List Batch) (k after : Kept) → after.run ≡ k.run → after.states ≡ k.states → IsKept run batches k → IsKept run batches after
kept-same run batches k after run_is states kept = record {
  run_is = run_is ∙ kept.run_is;
  at = λ b has. ap (λ l. kept_at b.key l) states ∙ kept.at b has;
  none = λ key e. ap (λ l. kept_at key l) states ∙ kept.none key e;
}

module _ (run : RunId) (batches : List Batch) (new : Batch) (r : IsRun run batches) (j : Joins run batches new) where
  -- a state that is held beside stays that of its path
  beside-stays : (o : Option Branch) → IsBeside run batches o → IsBeside run (arrived new batches) o
  beside-stays None h = tt
  beside-stays (Some branch) h = by (batch_at branch.tip batches) refl h.0
    where
      by : (o : Option Batch) → batch_at branch.tip batches ≡ o → is_some o ≡ true → IsBeside run (arrived new batches) (Some branch)
      by None e k = absurd (cc)
      by (Some b) e k =
          let has : Has batches b = found-has batches branch.tip b e in
          let own : b.key ≡ branch.tip = found-key batches branch.tip b e in (
            ap is_some (has-found (arrived new batches) branch.tip b own (old-there run batches new r j b has)),
            h.1 ∙ sym (subst (λ (key : BatchKey). state_to run key (arrived new batches) ≡ state_to run key batches) own (old-state run batches new r j b has)),
          )

  -- the answer where the events are applied, and where one is forbidden
  joined-Ok : (before s : StateValue) → before ≡ state_before run new.parent batches → or_error of_state_error (replay before new.events) ≡ Ok s → joined run batches new ≡ Ok (New (passes_by new (current_tip run batches)))
  joined-Ok before s e h =
      ap (λ (x : Result StateValue RunError). x >>= (λ after. Ok (New (passes_by new (current_tip run batches)))))
      (state-with run batches new r j ∙ ap (λ t. or_error of_state_error (replay t new.events)) (sym e) ∙ h)

  pub joined-Err : (before : StateValue) (error : RunError) → before ≡ state_before run new.parent batches → or_error of_state_error (replay before new.events) ≡ Err error → joined run batches new ≡ Err error
  joined-Err before error e h =
      ap (λ (x : Result StateValue RunError). x >>= (λ after. Ok (New (passes_by new (current_tip run batches)))))
      (state-with run batches new r j ∙ ap (λ t. or_error of_state_error (replay t new.events)) (sym e) ∙ h)

  -- what goes on from the current branch
  pub joined-extended : (before s : StateValue) → new.parent ≡ current_key run batches → before ≡ current_state run batches → or_error of_state_error (replay before new.events) ≡ Ok s → joined run batches new ≡ Ok (New false)
  joined-extended before s tip e h =
      joined-Ok before s (e ∙ current-before run batches new.parent tip) h
      ∙ ap (λ t. Ok (New t)) (passes-extended run batches new r.tree j tip)

  -- what goes on from another path
  pub joined-beside : (before s : StateValue) (parent : BatchKey) → new.parent ≡ Some parent → is_key parent (current_key run batches) ≡ false → before ≡ state_to run parent batches
      → or_error of_state_error (replay before new.events) ≡ Ok s → joined run batches new ≡ Ok (New (leads_over new.key (current_key run batches)))
  joined-beside before s parent named apart e h =
      joined-Ok before s (e ∙ sym (ap (λ o. state_before run o batches) named)) h ∙ ap (λ t. Ok (New t)) (by (current_tip run batches) apart)
    where
      by : (o : Option Batch) → is_key parent (option_map (λ tip. tip.key) o) ≡ false → passes_by new o ≡ leads_over new.key (option_map (λ tip. tip.key) o)
      by None k = refl
      by (Some m) k =
          let off : is_wanted new.parent m ≡ false = ap (λ o. is_wanted o m) named ∙ flip m.key parent k in
          ap (λ w. key_lt m.key new.key && not w) off ∙ keeps (key_lt m.key new.key)
        where
          keeps : (t : Bool) → (t && true) ≡ t
          keeps true = refl
          keeps false = refl

          flip : (a b : BatchKey) → key_eq b a ≡ false → key_eq a b ≡ false
          flip a b f = key_eq-flip b a f

  module _ (small : All (λ event. event.id ≤ 10 ^ 12) new.events) (before s : StateValue) (k after : Kept) (t : TreeValue) (kept : IsKept run batches k) (from : before ≡ state_before run new.parent batches)
      (h : replay before new.events ≡ Ok s) (tree_is : t ≡ record { run = run; batches = arrived new batches }) (run_is : after.run ≡ k.run) (states : after.states ≡ with_kept new.key (length new.events) s k.states) where
    went : replay (state_before run new.parent batches) new.events ≡ Ok s
    went = ap (λ u. replay u new.events) (sym from) ∙ h

    after-run : IsRun run (arrived new batches)
    after-run = grown-run run batches new r j s went small

    own-state : state_to run new.key (arrived new batches) ≡ s
    own-state = new-state run batches new r j s went small

    after-kept : IsKept run (arrived new batches) after
    after-kept = kept-grown run batches new r j k kept s went after-run own-state after run_is states

    pub inside-extended : (beside : Option Branch) → IsBeside run batches beside → new.parent ≡ current_key run batches → AreRunFields t s beside after
    inside-extended beside b tip =
        subst (λ (v : TreeValue). AreRunFields v s beside after) (sym tree_is)
        (record {
          run = after-run;
          current = sym own-state ∙ sym (ap (λ o. state_at run o (arrived new batches)) (tip-extended run batches new r.tree j tip));
          beside = beside-stays beside b;
          kept = after-kept;
        })

    pub inside-beside : (current : StateValue) (parent : BatchKey) → new.parent ≡ Some parent → current ≡ current_state run batches
        → AreRunFields t (leading_of new.key (current_key run batches) s current) (Some (beside_of new.key (current_key run batches) s current)) after
    inside-beside current parent named c =
        subst (λ (v : TreeValue). AreRunFields v (leading_of new.key (current_key run batches) s current) (Some (beside_of new.key (current_key run batches) s current)) after) (sym tree_is)
        (by (current_tip run batches) refl)
      where
        there : is_some (batch_at new.key (arrived new batches)) ≡ true
        there = has-some (arrived new batches) new (new-there run batches new r j)

        by : (o : Option Batch) → current_tip run batches ≡ o → AreRunFields (record { run = run; batches = arrived new batches }) (leading_of new.key (option_map (λ tip. tip.key) o) s current)
            (Some (beside_of new.key (option_map (λ tip. tip.key) o) s current)) after
        by None e =
            let p = parent-found run batches new r j parent named in
            let empty : batches ≡ [] = none-last batches (sym (current_is_last run batches r.tree) ∙ e) in
            let no : Has [] p.0 = subst (λ (l : List Batch). Has l p.0) empty (found-has batches parent p.0 p.1) in absurd (cc)
        by (Some m) e = order (key_lt m.key new.key) refl
          where
            has : Has batches m
            has = tip-has run batches m r.tree e

            mine : current ≡ state_to run m.key (arrived new batches)
            mine = c ∙ ap (λ o. state_at run o batches) e ∙ sym (old-state run batches new r j m has)

            order : (b : Bool) → key_lt m.key new.key ≡ b → AreRunFields (record { run = run; batches = arrived new batches }) (if b then s else current)
                (Some (if b then record { tip = m.key; state = current } else record { tip = new.key; state = s })) after
            order true l = record {
              run = after-run;
              current = sym own-state ∙ sym (ap (λ o. state_at run o (arrived new batches)) (tip-leads run batches new r.tree j m e l));
              beside = (has-some (arrived new batches) m (old-there run batches new r j m has), mine);
              kept = after-kept;
            }
            order false l = record {
              run = after-run;
              current = mine ∙ sym (ap (λ o. state_at run o (arrived new batches)) (tip-stays run batches new r.tree j m e l));
              beside = (there, sym own-state);
              kept = after-kept;
            }

    -- the same, where the tip and the two that are left are given by equations
    pub inside-led : (current led : StateValue) (parent : BatchKey) (tip : Option BatchKey) (beside : Branch) → new.parent ≡ Some parent → current ≡ current_state run batches → tip ≡ current_key run batches
        → led ≡ leading_of new.key tip s current → beside ≡ beside_of new.key tip s current → AreRunFields t led (Some beside) after
    inside-led current led parent tip beside named c e f g =
        subst (λ (x : StateValue). AreRunFields t x (Some beside) after) (sym (f ∙ ap (λ o. leading_of new.key o s current) e))
        (subst (λ (x : Branch). AreRunFields t (leading_of new.key (current_key run batches) s current) (Some x) after) (sym (g ∙ ap (λ o. beside_of new.key o s current) e))
        (inside-beside current parent named c))

-- a run whose fields are as they were but for what is held beside
pub inside-same : (old : Inside) (t : TreeValue) (s : StateValue) (k : Kept) (beside : Option Branch) → IsRunInside old → t ≡ old.tree → s ≡ old.state → k.run ≡ old.kept.run → k.states ≡ old.kept.states
    → IsBeside old.tree.run old.tree.batches beside → AreRunFields t s beside k
inside-same old t s k beside inv tree_is state_is run_is states b =
    subst (λ (v : TreeValue). AreRunFields v s beside k) (sym tree_is)
    (record {
      run = inv.run;
      current = state_is ∙ inv.current;
      beside = b;
      kept = kept-same old.tree.run old.tree.batches old.kept k run_is states inv.kept;
    })

key-is : (key : BatchKey) (o : Option BatchKey) → is_key key o ≡ true → o ≡ Some key
key-is key None h = absurd (cc)
key-is key (Some other) h = ap Some (sym (same-keys key other h))

-- what is held beside is the state of its path
pub held-state : (run : RunId) (batches : List Batch) (o : Option Branch) (branch : Branch) (key : BatchKey) → IsBeside run batches o → o ≡ Some branch → is_key key (Some branch.tip) ≡ true → branch.state ≡ state_to run key batches
held-state run batches o branch key b e k =
    (subst (IsBeside run batches) e b).1 ∙ ap (λ i. state_to run i batches) (sym (same-keys key branch.tip k))

pub current-held : (run : RunId) (batches : List Batch) (key : BatchKey) → is_key key (current_key run batches) ≡ true → current_state run batches ≡ state_to run key batches
current-held run batches key k = current-before run batches (Some key) (sym (key-is key (current_key run batches) k))

-- no batch that the tree takes is refused as one that it does not take
pub never-missing : (run : RunId) (batches : List Batch) (b : Batch) (key : BatchKey) → joined run batches b ≡ Err (MissingParent key) → ⊥
never-missing run batches b key h = by (replay_of run (events_to b.key (arrived b batches))) h
  where
    by : (r : Result StateValue StateError) → (or_error of_state_error r >>= (λ after. Ok (New (passes_by b (current_tip run batches))))) ≡ Err (MissingParent key) → ⊥
    by (Ok s) k = absurd (cc)
    by (Err (state.Invalid id rule)) k = absurd (cc)
    by (Err state.Memory) k = absurd (cc)

pub never-ill-formed : (run : RunId) (batches : List Batch) (b : Batch) (key : BatchKey) → joined run batches b ≡ Err (NotWellFormed key) → ⊥
never-ill-formed run batches b key h = by (replay_of run (events_to b.key (arrived b batches))) h
  where
    by : (r : Result StateValue StateError) → (or_error of_state_error r >>= (λ after. Ok (New (passes_by b (current_tip run batches))))) ≡ Err (NotWellFormed key) → ⊥
    by (Ok s) k = absurd (cc)
    by (Err (state.Invalid id rule)) k = absurd (cc)
    by (Err state.Memory) k = absurd (cc)

-- one of a list is among it
at-among : {X : Type 0} (xs : List X) (k : ℕ) (d : X) → k < length xs → Among (get_or xs k d) xs
at-among [] k d l = absurd (omega (arith, l))
at-among (x ∷ xs) zero d l = inl refl
at-among (x ∷ xs) (suc k) d l = inr (at-among xs k d (omega (arith, l)))

-- the ids of a path are small
pub small-path : (run : RunId) (batches : List Batch) (b : Batch) → IsRun run batches → Has batches b → HaveSmallIds (path_to b.key batches)
small-path run batches b r has k d l =
    let x : Batch = get_or (path_to b.key batches) k d in
    r.small x (path-run batches b x (path_to b.key batches) r.tree.parents (path_is run batches r.tree b has) (at-among (path_to b.key batches) k d l)).0

-- a counter that went up twice
pub counts-both : (before between now one two most : ℕ) → one + two ≡ most → CountsWithin before one between → CountsWithin between two now → CountsWithin before most now
counts-both before between now one two most e a b =
    (a.0 + b.0, omega (arith, a.1, b.1, e), b.2 ∙ ap (λ n. counted n b.0) a.2 ∙ counted-twice before a.0 b.0)

-- a tip is one of the batches
pub tip-there : (run : RunId) (batches : List Batch) (key : BatchKey) → IsTree run batches → is_key_among key (tip_keys run batches) ≡ true → is_some (batch_at key batches) ≡ true
tip-there run batches key tree h = by (batch_at key batches) refl
  where
    by : (o : Option Batch) → batch_at key batches ≡ o → is_some (batch_at key batches) ≡ true
    by None e = let no : is_key_among key (tip_keys run batches) ≡ false = fresh-no-tip run batches key tree.set.ordered e in absurd (cc)
    by (Some b) e = ap is_some e

-- the batch of a key that is there
pub key-there : (batches : List Batch) (key : BatchKey) → is_some (batch_at key batches) ≡ true → (b : Batch) × (Has batches b) × (b.key ≡ key)
key-there batches key h = by (batch_at key batches) refl h
  where
    by : (o : Option Batch) → batch_at key batches ≡ o → is_some o ≡ true → (b : Batch) × (Has batches b) × (b.key ≡ key)
    by None e k = absurd (cc)
    by (Some b) e k = (b, found-has batches key b e, found-key batches key b e)

-- what restoring a path asks, and what it takes
pub restores : (run : RunId) (batches : List Batch) (k : Kept) (key : BatchKey) (path : List Batch) → IsRun run batches → IsKept run batches k → is_some (batch_at key batches) ≡ true → path ≡ path_to key batches
    → HaveSmallIds path × FitsPath k path × (length (events_behind k.states path) ≤ 511)
restores run batches k key path r kept there e =
    let b = key-there batches key there in
    subst (λ (l : List Batch). HaveSmallIds l × FitsPath k l × (length (events_behind k.states l) ≤ 511)) (sym (e ∙ ap (λ i. path_to i batches) (sym b.2)))
    (small-path run batches b.0 r b.1, kept-fits run batches k b.0 r kept b.1, few-behind run batches k r kept b.0 b.1)

abbrev told : Inserted → Result Inserted TreeError
told place = Ok place

-- an answer that does not tell that the batch was there
pub not-known : (place : Inserted) → is_known place ≡ false → told place ≡ told Known → ⊥
not-known place e h = by place e h
  where
    by : (p : Inserted) → is_known p ≡ false → told p ≡ told Known → ⊥
    by Known f k = absurd (cc)
    by (Extended branch) f k = absurd (cc)
    by (Forked branch at) f k = absurd (cc)

-- what becomes of a batch that the tree takes is what becomes of one that joins
pub learned_where_taken : (run : RunId) (batches : List Batch) (b : Batch) → IsOk (inserted run batches b) → joined run batches b ≡ learned run batches b
learned_where_taken run batches b taken = by (inserted run batches b) taken
  where
    by : (r : Result Inserted TreeError) → IsOk r → joined run batches b ≡ (or_error of_tree_error r >>= (λ place. joined run batches b))
    by (Ok place) ok = refl
    by (Err e) ok = absurd (cc)

-- the tree takes a batch that its run takes
pub taken_by_tree : (run : RunId) (batches : List Batch) (b : Batch) → IsOk (learned run batches b) → IsOk (inserted run batches b)
taken_by_tree run batches b taken = by (inserted run batches b) taken
  where
    by : (r : Result Inserted TreeError) → IsOk (or_error of_tree_error r >>= (λ place. joined run batches b)) → IsOk r
    by (Ok place) ok = refl
    by (Err e) ok = absurd (cc)

-- what is answered of a batch that was taken in tells whether the old current path is a prefix of the new one
pub switched-of : (run : RunId) (batches : List Batch) (new : Batch) (after : TreeValue) (switched : Bool) → IsTree run batches → Joins run batches new
    → joined run batches new ≡ Ok (New switched) → after ≡ record { run = run; batches = arrived new batches }
    → (switched ≡ false) ↔ BeginsWith (current_path after.run after.batches) (current_path run batches)
switched-of run batches new after switched tree j h grown =
    subst (λ (v : TreeValue). (switched ≡ false) ↔ BeginsWith (current_path v.run v.batches) (current_path run batches)) (sym grown)
    (subst (λ (s : Bool). (s ≡ false) ↔ BeginsWith (current_path run (arrived new batches)) (current_path run batches)) (by (state_with run batches new) h)
    (switched-exactly run batches new tree j))
  where
    by : (r : Result StateValue RunError) → (r >>= (λ after. Ok (New (passes_by new (current_tip run batches))))) ≡ Ok (New switched) → passes_by new (current_tip run batches) ≡ switched
    by (Ok s) k = cc
    by (Err e) k = absurd (cc)
