-- The current branch of a run ends with its greatest batch, and the current run has the greatest of all.
use Rattle.std.proofs.Common.{◌≡◌, ◌≢◌, ◌<◌, Bool, true, false, not, ◌&&◌, ◌||◌, nat_lt, List, [], ◌∷◌, ◌++◌, ◌⊎◌, inl, inr, Option, Some, None, refl, sym, ◌∙◌, subst, ap, true≢false, arith}
use Rattle.std.specs.List.{filter}
use Rattle.std.specs.Option.{option_or}
use Rattle.std.proofs.lemmas.Bool.{and_parts, and_from, ltb-true, lt-ltb}
use Rattle.ndc_event.specs.Key.{key_lt, key_eq}
use Rattle.ndc_event.specs.declared.batch.Batch.{Batch}
use Rattle.ndc_event.specs.declared.key.BatchKey.{BatchKey}
use Rattle.ndc_event.specs.declared.key.RunId.{RunId}
use Rattle.ndc_model_sets.specs.Sets.{PointsBack, Rise, IsSet, batch_at, Has}
use Rattle.ndc_model_sets.specs.Learned.{IsClosed}
use Rattle.ndc_model_sets.specs.Paths.{is_wanted, path_to, IsPath, first, below}
use Rattle.ndc_model_sets.specs.Branches.{same_run, has_child, tips, leads, current_tip, greatest_key, IsLeading}
use Rattle.ndc_model_sets.specs.Sound.{ParentsFit, VersionsAreChains}
use Rattle.ndc_model_sets.proofs.KeyLemmas.{IsBefore, before-parts, before-irrefl, before-trans, same-keys, key_eq-self}
use Rattle.ndc_model_sets.proofs.SetLemmas.{at-cases, found-key, found-all, at-append}
use Rattle.ndc_model_sets.proofs.Lists.{Among, among-filter, filter-among, list_all-each, each-list_all, list_any-none, list_any-one, find-only}
use Rattle.ndc_model_sets.proofs.PathLemmas.{path_is, parent-back}
use Rattle.ndc_model_sets.proofs.BranchLemmas.{has-among, among-has, same-batch, Rise-filter, run-same, same-run, greatest-among, greatest-top, greatest-some, IsUpTo}

-- what is found in a list and one more is found in the list, or is it
found-last : (front : List Batch) (b x : Batch) (key : BatchKey) → batch_at key (front ++ b ∷ []) ≡ Some x → (batch_at key front ≡ Some x) ⊎ (x ≡ b)
found-last front b x key h = by (batch_at key front) refl (sym (at-append front (b ∷ []) key) ∙ h)
  where
    last : batch_at key (b ∷ []) ≡ Some x → x ≡ b
    last = at-cases (λ o. o ≡ Some x → x ≡ b) b [] key (λ _ g. cc) (λ _ g. absurd (cc))

    by : (o : Option Batch) → batch_at key front ≡ o → option_or o (batch_at key (b ∷ [])) ≡ Some x → (batch_at key front ≡ Some x) ⊎ (x ≡ b)
    by (Some y) at g = inl (at ∙ g)
    by None at g = inr (last g)

-- a wanted parent is the batch of this key
pub wanted-key : (key : BatchKey) (b : Batch) → b.key ≡ key → is_wanted (Some key) b ≡ true
wanted-key key b e = subst (λ (k : BatchKey). key_eq b.key k ≡ true) e (key_eq-self b.key)

pub key-wanted : (wanted : Option BatchKey) (b : Batch) → is_wanted wanted b ≡ true → wanted ≡ Some b.key
key-wanted None b h = absurd (true≢false (sym h))
key-wanted (Some key) b h = ap Some (sym (same-keys b.key key h))

-- on the path to a batch each other batch has a child
pub path-child : (batches : List Batch) (m t : Batch) (path : List Batch) → IsPath batches m path → Has path t → (t ≡ m) ⊎ (has_child t batches ≡ true)
path-child batches m t path (first _ has e) h = by h
  where
    by : Has (m ∷ []) t → (t ≡ m) ⊎ (has_child t batches ≡ true)
    by = at-cases (λ o. o ≡ Some t → (t ≡ m) ⊎ (has_child t batches ≡ true)) m [] t.key (λ _ g. inl (cc)) (λ _ g. absurd (cc))
path-child batches m t path (below _ before key front has e at r) h = by (found-last front m t t.key h) (path-child batches before t front r)
  where
    child : t ≡ before → has_child t batches ≡ true
    child same =
        let named : t.key ≡ key = ap (λ (b : Batch). b.key) same ∙ found-key batches key before at in
        list_any-one (λ c. is_wanted c.parent t) batches m (has-among batches m has) (ap (λ w. is_wanted w t) e ∙ wanted-key key t named)

    by : (Has front t) ⊎ (t ≡ m) → (Has front t → (t ≡ before) ⊎ (has_child t batches ≡ true)) → (t ≡ m) ⊎ (has_child t batches ≡ true)
    by (inr same) _ = inl same
    by (inl on) rest = above (rest on)
      where
        above : (t ≡ before) ⊎ (has_child t batches ≡ true) → (t ≡ m) ⊎ (has_child t batches ≡ true)
        above (inl same) = inr (child same)
        above (inr h) = inr h

-- a path begins with a batch of the run that has no parent
pub path-begins : (batches : List Batch) (b : Batch) (path : List Batch) → ParentsFit batches → IsPath batches b path → (start : Batch) × Has batches start × (start.parent ≡ None) × (start.run ≡ b.run)
path-begins batches b path fit (first _ has e) = (b, has, e, refl)
path-begins batches b path fit (below _ before key front has e at r) =
    let rest = path-begins batches before front fit r in
    (rest.0, rest.1, rest.2, rest.3 ∙ (fit b before key has e at).run)

-- the greatest batch of a run
pub record IsGreatestOf (run : RunId) (batches : List Batch) (m : Batch) : Type 0 where
  pub has : Has batches m
  pub mine : m.run ≡ run
  pub top : (x : Batch) → Has batches x → x.run ≡ run → (x ≡ m) ⊎ (key_lt x.key m.key ≡ true)

-- the batches of a run
abbrev pub of_run : RunId → List Batch → List Batch
of_run run batches = filter (λ b. same_run b.run run) batches

pub greatest-of-run : (batches : List Batch) (run : RunId) (m : Batch) → Rise batches → greatest_key (of_run run batches) ≡ Some m → IsGreatestOf run batches m
greatest-of-run batches run m rise e =
    let k = filter-among (λ b. same_run b.run run) batches m (greatest-among (of_run run batches) m e) in
    let has : Has batches m = among-has batches m rise k.1 in
    record {
      has = has;
      mine = run-same m.run run k.0;
      top = (λ x h r.
          by x h (greatest-top (of_run run batches) m x e (among-filter (λ b. same_run b.run run) batches x (same-run x.run run r) (has-among batches x h))) has);
    }
  where
    by : (x : Batch) → Has batches x → IsUpTo m.key x.key → Has batches m → (x ≡ m) ⊎ (key_lt x.key m.key ≡ true)
    by x h (inl same) has = inl (same-batch batches x m h has same)
    by x h (inr l) has = inr l

module _ (batches : List Batch) (set : IsSet batches) (closed : IsClosed batches) (fit : ParentsFit batches) (chains : VersionsAreChains batches)
    (run : RunId) (m : Batch) (greatest : IsGreatestOf run batches m) where
  -- no batch names it as its parent
  childless : has_child m batches ≡ false
  childless = list_any-none (λ c. is_wanted c.parent m) batches (λ c h. by c (among-has batches c set.ordered h) (is_wanted c.parent m) refl)
    where
      by : (c : Batch) → Has batches c → (t : Bool) → is_wanted c.parent m ≡ t → is_wanted c.parent m ≡ false
      by c has false e = e
      by c has true e =
          let named : c.parent ≡ Some m.key = key-wanted c.parent m e in
          let l : key_lt m.key c.key ≡ true = parent-back c (found-all PointsBack batches c.key c set.back has) m.key named in
          let own : m.run ≡ c.run = (fit c m m.key has named greatest.has).run in
          absurd (up c l (greatest.top c has (sym own ∙ greatest.mine)))
        where
          up : (c : Batch) → key_lt m.key c.key ≡ true → (c ≡ m) ⊎ (key_lt c.key m.key ≡ true) → ⊥
          up c l (inl same) = before-irrefl m.key (subst (λ (b : Batch). key_lt m.key b.key ≡ true) same l)
          up c l (inr k) = before-irrefl m.key (before-trans m.key c.key m.key l k)

  is_tip : Among m (tips run batches)
  is_tip = among-filter (λ b. same_run b.run run && not (has_child b batches)) batches m
      (and_from (same_run m.run run) (not (has_child m batches)) (same-run m.run run greatest.mine) (ap not childless)) (has-among batches m greatest.has)

  -- a tip of the run is one of its batches, and has no child
  tip-parts : (t : Batch) → Among t (tips run batches) → Has batches t × (t.run ≡ run) × (has_child t batches ≡ false)
  tip-parts t h =
      let k = filter-among (λ b. same_run b.run run && not (has_child b batches)) batches t h in
      let p = and_parts (same_run t.run run) (not (has_child t batches)) k.0 in
      (among-has batches t set.ordered k.1, run-same t.run run p.0, no_child (has_child t batches) p.1)
    where
      no_child : (b : Bool) → not b ≡ true → b ≡ false
      no_child true e = absurd (true≢false (sym e))
      no_child false e = refl

  -- every other tip is of a smaller version
  pub tip-below : (t : Batch) → Among t (tips run batches) → (t ≡ m) ⊎ (t.key.version < m.key.version)
  tip-below t h = by (tip-parts t h)
    where
      by : Has batches t × (t.run ≡ run) × (has_child t batches ≡ false) → (t ≡ m) ⊎ (t.key.version < m.key.version)
      by (has, own, none) = order (greatest.top t has own)
        where
          on_path : Has (path_to m.key batches) t → (t ≡ m) ⊎ (t.key.version < m.key.version)
          on_path on = child (path-child batches m t (path_to m.key batches) (path_is batches m set closed greatest.has) on)
            where
              child : (t ≡ m) ⊎ (has_child t batches ≡ true) → (t ≡ m) ⊎ (t.key.version < m.key.version)
              child (inl same) = inl same
              child (inr some) = absurd (true≢false (sym some ∙ none))

          parts : IsBefore t.key m.key → (t ≡ m) ⊎ (t.key.version < m.key.version)
          parts (inl l) = inr l
          parts (inr p) = on_path (chains t m has greatest.has (own ∙ sym greatest.mine) p.0 p.1)

          order : (t ≡ m) ⊎ (key_lt t.key m.key ≡ true) → (t ≡ m) ⊎ (t.key.version < m.key.version)
          order (inl same) = inl same
          order (inr l) = parts (before-parts t.key m.key l)

  leads-all : leads (tips run batches) m ≡ true
  leads-all = list_all-each (λ other. key_eq other.key m.key || nat_lt other.key.version m.key.version) (tips run batches) (λ t h. by t (tip-below t h))
    where
      or_right : (a : Bool) → (a || true) ≡ true
      or_right true = refl
      or_right false = refl

      by : (t : Batch) → (t ≡ m) ⊎ (t.key.version < m.key.version) → (key_eq t.key m.key || nat_lt t.key.version m.key.version) ≡ true
      by t (inl same) = let own : key_eq t.key m.key ≡ true = subst (λ (b : Batch). key_eq t.key b.key ≡ true) same (key_eq-self t.key) in rw own refl
      by t (inr l) = rw (lt-ltb t.key.version m.key.version l) (or_right (key_eq t.key m.key))

  -- a tip that leads is it
  leads-only : (t : Batch) → Among t (tips run batches) → leads (tips run batches) t ≡ true → t ≡ m
  leads-only t h l = by (tip-below t h)
    where
      test : (key_eq m.key t.key || nat_lt m.key.version t.key.version) ≡ true
      test = each-list_all (λ other. key_eq other.key t.key || nat_lt other.key.version t.key.version) (tips run batches) m l is_tip

      or_parts : (a b : Bool) → (a || b) ≡ true → (a ≡ true) ⊎ (b ≡ true)
      or_parts true b e = inl refl
      or_parts false b e = inr e

      above : t.key.version < m.key.version → (key_eq m.key t.key ≡ true) ⊎ (nat_lt m.key.version t.key.version ≡ true) → t ≡ m
      above v (inl e) = let same : m.key ≡ t.key = same-keys m.key t.key e in
          same-batch batches t m (tip-parts t h).0 greatest.has (sym same)
      above v (inr n) = let less : m.key.version < t.key.version = ltb-true m.key.version t.key.version n in absurd (omega arith)

      by : (t ≡ m) ⊎ (t.key.version < m.key.version) → t ≡ m
      by (inl same) = same
      by (inr v) = above v (or_parts (key_eq m.key t.key) (nat_lt m.key.version t.key.version) test)

  pub current-greatest : current_tip run batches ≡ Some m
  current-greatest = find-only (leads (tips run batches)) (tips run batches) m leads-all is_tip leads-only

  pub leading-greatest : IsLeading run batches m
  leading-greatest = record { is_tip = among-has (tips run batches) m rise is_tip; above = (λ t h other. by t other (tip-below t (has-among (tips run batches) t h))) }
    where
      rise : Rise (tips run batches)
      rise = Rise-filter (λ b. same_run b.run run && not (has_child b batches)) batches set.ordered

      by : (t : Batch) → t ≢ m → (t ≡ m) ⊎ (t.key.version < m.key.version) → t.key.version < m.key.version
      by t other (inl same) = absurd (other same)
      by t other (inr l) = l

  pub leading-only : (t : Batch) → IsLeading run batches t → t ≡ m
  leading-only t leading = by (tip-below t (has-among (tips run batches) t leading.is_tip))
    where
      by : (t ≡ m) ⊎ (t.key.version < m.key.version) → t ≡ m
      by (inl same) = same
      by (inr l) =
          let above : m.key.version < t.key.version = leading.above m (among-has (tips run batches) m (Rise-filter (λ b. same_run b.run run && not (has_child b batches)) batches set.ordered) is_tip)
          (λ e. let same : t.key.version < t.key.version = subst (λ (b : Batch). t.key.version < b.key.version) (e) l in omega arith) in
          absurd (omega arith)

-- a run with a batch has a greatest one
pub run-greatest : (batches : List Batch) (b : Batch) → IsSet batches → Has batches b → (m : Batch) × (greatest_key (of_run b.run batches) ≡ Some m) × IsGreatestOf b.run batches m
run-greatest batches b set has =
    let g = greatest-some (of_run b.run batches) b (among-filter (λ x. same_run x.run b.run) batches b (same-run b.run b.run refl) (has-among batches b has)) in
    (g.0, g.1, greatest-of-run batches b.run g.0 set.ordered g.1)
