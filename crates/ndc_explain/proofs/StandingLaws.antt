-- A batch stands where it is on the current branch of a run that is not a zombie.
use Rattle.std.proofs.Common.{◌≡◌, ℕ, Bool, true, false, not, ◌&&◌, ◌||◌, List, [], ◌∷◌, ◌++◌, inl, inr, map, Option, Some, None, is_some, is_none, refl, sym, ap, subst, ◌∙◌, if◌then◌else◌}
use Rattle.std.specs.List.{list_any, cons_option, AllByRecursion}
use Rattle.std.specs.Map.{lookup}
use Rattle.std.proofs.lemmas.List.Folds.{list_any-append}
use Rattle.indexmap.specs.IndexMap.{insert_entry}
use Rattle.ndc_event.specs.Key.{key_eq, key_lt}
use Rattle.ndc_event.specs.declared.batch.Batch.{Batch}
use Rattle.ndc_event.specs.declared.batch.Event.{Event}
use Rattle.ndc_event.specs.declared.key.BatchKey.{BatchKey}
use Rattle.ndc_event.specs.declared.key.Origin.{Origin}
use Rattle.ndc_event.specs.declared.key.RunId.{RunId}
use Rattle.ndc_event.specs.declared.kind.EventKind.{EventKind}
use Rattle.ndc_event.specs.declared.kind.EventKind.TheVariants.{WorkflowExecutionSignaled}
use Rattle.ndc_model_sets.specs.Branches.{current_tip, leads, runs, tips}
use Rattle.ndc_model_sets.specs.Current.{is_zombie, origins_at, run_status, settled, settled_by, settled_by_runs, strays}
use Rattle.ndc_model_sets.specs.Origins.{origins_in, signal_of, signals, signals_in}
use Rattle.ndc_model_sets.specs.Paths.{Walk, is_wanted, path_to, walk_down, walk_over}
use Rattle.ndc_model_sets.specs.Sets.{ComeAfter, PointsBack, Rise}
use Rattle.ndc_model_sets.specs.Sound.{IsSound}
use Rattle.ndc_model_sets.specs.View.{branch_view, run_view, view_of}
use Rattle.ndc_model_sets.proofs.CurrentLaws.{current-has}
use Rattle.ndc_model_sets.proofs.ForkLemmas.{path-run}
use Rattle.ndc_model_sets.proofs.KeyLemmas.{before-irrefl, before-trans, key_eq-self, same-keys}
use Rattle.ndc_model_sets.proofs.Lists.{Among, find-among}
use Rattle.ndc_model_sets.proofs.PathLemmas.{from, parent-back, path_is}
use Rattle.ndc_reapply.specs.declared.stray.Stray.{Stray}
use Rattle.ndc_reapply.specs.Strays.{origins_of}
use Rattle.ndc_reapply.proofs.LawProofs.{unsettled_origins}
use Rattle.ndc_reapply.proofs.OrderLemmas.{same_origin-is}
use Rattle.ndc_state.specs.Origins.{is_among, origin_of, same_origin}
use Rattle.ndc_state.specs.Replay.{history_of}
use Rattle.ndc_dump.specs.Marks.{current_key}
use Rattle.ndc_dump_causes.specs.Keys.{is_listed}
use Rattle.ndc_explain.specs.declared.settlers.Settler.{Settler}
use Rattle.ndc_explain.specs.Explanation.{findings, waits}
use Rattle.ndc_explain.specs.Signals.{Settlers, with_events, with_kind, with_listed}
use Rattle.ndc_model_sets.specs.Learned.{has_key}
use Rattle.ndc_model_sets.specs.Sets.{Has}
use Rattle.ndc_text.specs.Views.{is_on_tip}
use Rattle.ndc_explain.specs.Standing.{is_kept_by, is_on_current, standing}
use Rattle.ndc_explain.specs.Standing.{with_optional, with_parent, with_parents, with_tip, with_tips}
use Rattle.ndc_explain.proofs.LawProofs.{same_origins}
use Rattle.ndc_dump_causes.proofs.KnownLemmas.{or-false}

-- ---- tests

pub or-swap : (a b : Bool) → (a || b) ≡ (b || a)
or-swap true true = refl
or-swap true false = refl
or-swap false true = refl
or-swap false false = refl

pub or-group : (a b c : Bool) → ((a || b) || c) ≡ (a || (b || c))
or-group true b c = refl
or-group false b c = refl

pub and-never : (a b : Bool) → b ≡ false → (a && b) ≡ false
and-never true b e = e
and-never false b e = refl

pub none-not-some : {A : Type 0} (o : Option A) → is_none o ≡ not (is_some o)
none-not-some None = refl
none-not-some (Some x) = refl

module _ {X : Type 0} where
  any-none : (xs : List X) → list_any (λ x. false) xs ≡ false
  any-none [] = refl
  any-none (x ∷ xs) = any-none xs

  any-or-and : (p q : X → Bool) (r : Bool) (xs : List X) → list_any (λ x. p x || (q x && r)) xs ≡ (list_any p xs || (list_any q xs && r))
  any-or-and p q r [] = refl
  any-or-and p q r (x ∷ xs) = ap (λ (t : Bool). (p x || (q x && r)) || t) (any-or-and p q r xs) ∙ by (p x) (q x) (list_any p xs) (list_any q xs) r
    where
      by : (a b c d r : Bool) → ((a || (b && r)) || (c || (d && r))) ≡ ((a || c) || ((b || d) && r))
      by true b c d r = refl
      by false true true d true = refl
      by false true true d false = refl
      by false true false d true = refl
      by false true false true false = refl
      by false true false false false = refl
      by false false true d true = refl
      by false false true d false = refl
      by false false false d true = refl
      by false false false d false = refl

  any-same : (p q : X → Bool) (xs : List X) → AllByRecursion (λ x. p x ≡ q x) xs → list_any p xs ≡ list_any q xs
  any-same p q [] same = refl
  any-same p q (x ∷ xs) same = ap (λ (t : Bool). t || list_any p xs) same.0 ∙ ap (λ (t : Bool). q x || t) (any-same p q xs same.1)

  all-map : (P Q : X → Type 0) → ((x : X) → P x → Q x) → (xs : List X) → AllByRecursion P xs → AllByRecursion Q xs
  all-map P Q f [] all = tt
  all-map P Q f (x ∷ xs) all = (f x all.0, all-map P Q f xs all.1)

-- ---- keys

-- whether the key is this one, where there is one
abbrev is_key : Option BatchKey → BatchKey → Bool
is_key None key = false
is_key (Some wanted) key = key_eq key wanted

wanted-is : (wanted : Option BatchKey) (b : Batch) → is_wanted wanted b ≡ is_key wanted b.key
wanted-is None b = refl
wanted-is (Some key) b = refl

-- what holds of the key, where there is one
abbrev pub of_key : (BatchKey → Bool) → Option BatchKey → Bool
of_key p None = false
of_key p (Some key) = p key

key-is : (key : BatchKey) (o : Option BatchKey) → of_key (key_eq key) o ≡ is_key o key
key-is key None = refl
key-is key (Some wanted) = refl

-- where a key that is listed passes a test, one of those listed does
listed-any : (p : BatchKey → Bool) (key : BatchKey) (keys : List BatchKey) → is_listed key keys ≡ true → p key ≡ true → list_any p keys ≡ true
listed-any p key [] h k = absurd (cc)
listed-any p key (x ∷ xs) h k = by (key_eq key x) refl (listed-any p key xs)
  where
    by : (t : Bool) → key_eq key x ≡ t → (is_listed key xs ≡ true → p key ≡ true → list_any p xs ≡ true) → list_any p (x ∷ xs) ≡ true
    by true e rest = ap (λ (t : Bool). t || list_any p xs) (sym (ap p (same-keys key x e)) ∙ k)
    by false e rest = ap (λ (t : Bool). p x || t) (rest (sym (ap (λ (t : Bool). t || is_listed key xs) e) ∙ h) k) ∙ or-swap (p x) true

any-optional : (p : BatchKey → Bool) (o : Option BatchKey) (keys : List BatchKey) → list_any p (with_optional o keys) ≡ (list_any p keys || of_key p o)
any-optional p None keys = sym (or-false (list_any p keys))
any-optional p (Some key) keys = by (is_listed key keys) refl
  where
    there : (t : Bool) → p key ≡ t → is_listed key keys ≡ true → list_any p keys ≡ (list_any p keys || t)
    there true e h = let all : list_any p keys ≡ true = listed-any p key keys h e in all ∙ sym (ap (λ (t : Bool). t || true) all)
    there false e h = sym (or-false (list_any p keys))

    by : (t : Bool) → is_listed key keys ≡ t → list_any p (if t then keys else keys ++ key ∷ []) ≡ (list_any p keys || p key)
    by true h = there (p key) refl h
    by false h = list_any-append p keys (key ∷ []) ∙ ap (λ (t : Bool). list_any p keys || t) (or-false (p key))

-- a key that comes before another is not it
not-it : (low high : BatchKey) → key_lt low high ≡ true → key_eq low high ≡ false
not-it low high l = by (key_eq low high) refl
  where
    by : (t : Bool) → key_eq low high ≡ t → key_eq low high ≡ false
    by true e = absurd (before-irrefl low (subst (λ (k : BatchKey). key_lt low k ≡ true) (sym (same-keys low high e)) l))
    by false e = e

not-other : (low high : BatchKey) → key_lt low high ≡ true → key_eq high low ≡ false
not-other low high l = by (key_eq high low) refl
  where
    by : (t : Bool) → key_eq high low ≡ t → key_eq high low ≡ false
    by true e = absurd (before-irrefl low (subst (λ (k : BatchKey). key_lt low k ≡ true) (same-keys high low e) l))
    by false e = e

-- a batch's parent is none that does not come before the batch
no-parent : (b : Batch) (key : BatchKey) → PointsBack b → ((low : BatchKey) → key_lt low b.key ≡ true → key_lt low key ≡ true) → is_key b.parent key ≡ false
no-parent b key back above = by b.parent refl
  where
    by : (o : Option BatchKey) → b.parent ≡ o → is_key o key ≡ false
    by None e = refl
    by (Some parent) e = not-other parent key (above parent (parent-back b back parent e))

-- ---- the walks from several tips

module _ (keys : List BatchKey) where
  -- with its parent, where a batch is listed
  parent-listed : (key : BatchKey) (c : Batch) (found : List BatchKey) → is_listed key (with_parent c found) ≡ (is_listed key found || (is_listed c.key found && is_key c.parent key))
  parent-listed key c found = by (is_listed c.key found)
    where
      by : (t : Bool) → is_listed key (if t then with_optional c.parent found else found) ≡ (is_listed key found || (t && is_key c.parent key))
      by true = any-optional (key_eq key) c.parent found ∙ ap (λ (t : Bool). is_listed key found || t) (key-is key c.parent)
      by false = sym (or-false (is_listed key found))

  -- what a walk wants after a batch
  wanted-behind : (key : BatchKey) (c : Batch) (w : Walk) → key_lt key c.key ≡ true → is_key (walk_over c w).wanted key ≡ (is_key w.wanted key || (is_key w.wanted c.key && is_key c.parent key))
  wanted-behind key c w l = by w.wanted refl
    where
      none : (o : Option BatchKey) → w.wanted ≡ o → is_key o c.key ≡ true → is_key o key ≡ false
      none None e h = refl
      none (Some x) e h = let same : c.key ≡ x = same-keys c.key x h in subst (λ (k : BatchKey). key_eq key k ≡ false) same (not-it key c.key l)

      here : (o : Option BatchKey) → w.wanted ≡ o → (t : Bool) → is_key o c.key ≡ t
          → is_key (if t then record { wanted = c.parent; path = c ∷ w.path } else w).wanted key ≡ (is_key o key || (t && is_key c.parent key))
      here o e true h = sym (ap (λ (t : Bool). t || is_key c.parent key) (none o e h))
      here o e false h = ap (λ (q : Option BatchKey). is_key q key) e ∙ sym (or-false (is_key o key))

      by : (o : Option BatchKey) → w.wanted ≡ o → is_key (walk_over c w).wanted key ≡ (is_key w.wanted key || (is_key w.wanted c.key && is_key c.parent key))
      by o e =
          ap (λ (t : Bool). is_key (if t then record { wanted = c.parent; path = c ∷ w.path } else w).wanted key) (wanted-is w.wanted c)
          ∙ here w.wanted refl (is_key w.wanted c.key) refl

  -- a key below these batches is listed exactly where one of the walks wants it
  listed-wanted : (batches : List Batch) (key : BatchKey) → Rise batches → AllByRecursion PointsBack batches → ComeAfter key batches
      → is_listed key (with_parents batches keys) ≡ list_any (λ tip. is_key (walk_down batches (from (Some tip))).wanted key) keys
  listed-wanted [] key rise back after = refl
  listed-wanted (c ∷ cs) key rise back after =
      parent-listed key c (with_parents cs keys)
      ∙ ap (λ (t : Bool). t || (is_listed c.key (with_parents cs keys) && is_key c.parent key)) (listed-wanted cs key rise.1 back.1 after.1)
      ∙ ap (λ (t : Bool). list_any (λ tip. is_key (walk_down cs (from (Some tip))).wanted key) keys || (t && is_key c.parent key)) (listed-wanted cs c.key rise.1 back.1 rise.0)
      ∙ sym (any-or-and (λ tip. is_key (walk_down cs (from (Some tip))).wanted key) (λ tip. is_key (walk_down cs (from (Some tip))).wanted c.key) (is_key c.parent key) keys)
      ∙ sym (ap (λ (p : BatchKey → Bool). list_any p keys) (λ i tip. wanted-behind key c (walk_down cs (from (Some tip))) after.0 i))

  -- what holds of a batch on the path of a walk
  path-behind : (f : Batch → Bool) (c : Batch) (w : Walk) → list_any f (walk_over c w).path ≡ (list_any f w.path || (is_key w.wanted c.key && f c))
  path-behind f c w = ap (λ (t : Bool). list_any f (if t then record { wanted = c.parent; path = c ∷ w.path } else w).path) (wanted-is w.wanted c) ∙ by (is_key w.wanted c.key)
    where
      by : (t : Bool) → list_any f (if t then record { wanted = c.parent; path = c ∷ w.path } else w).path ≡ (list_any f w.path || (t && f c))
      by true = or-swap (f c) (list_any f w.path)
      by false = sym (or-false (list_any f w.path))

  -- what holds of a listed batch is what holds of a batch on the path to a tip
  listed-paths : (f : Batch → Bool) (batches : List Batch) → Rise batches → AllByRecursion PointsBack batches
      → list_any (λ b. is_listed b.key (with_parents batches keys) && f b) batches ≡ list_any (λ tip. list_any f (path_to tip batches)) keys
  listed-paths f [] rise back = sym (any-none keys)
  listed-paths f (c ∷ cs) rise back =
      ap (λ (t : Bool). (t && f c) || list_any (λ b. is_listed b.key (with_parents (c ∷ cs) keys) && f b) cs) own
      ∙ ap (λ (t : Bool). (wanted && f c) || t) (any-same (λ b. is_listed b.key (with_parents (c ∷ cs) keys) && f b) (λ b. is_listed b.key found && f b) cs others ∙ listed-paths f cs rise.1 back.1)
      ∙ or-swap (wanted && f c) (list_any (λ tip. list_any f (path_to tip cs)) keys)
      ∙ sym (any-or-and (λ tip. list_any f (path_to tip cs)) (λ tip. is_key (walk_down cs (from (Some tip))).wanted c.key) (f c) keys)
      ∙ sym (ap (λ (p : BatchKey → Bool). list_any p keys) (λ i tip. path-behind f c (walk_down cs (from (Some tip))) i))
    where
      found : List BatchKey
      found = with_parents cs keys

      wanted : Bool
      wanted = list_any (λ tip. is_key (walk_down cs (from (Some tip))).wanted c.key) keys

      same : (key : BatchKey) → ((low : BatchKey) → key_lt low c.key ≡ true → key_lt low key ≡ true) → is_listed key (with_parents (c ∷ cs) keys) ≡ is_listed key found
      same key above =
          parent-listed key c found ∙ ap (λ (t : Bool). is_listed key found || t) (and-never (is_listed c.key found) (is_key c.parent key) (no-parent c key back.0 above)) ∙ or-false (is_listed key found)

      own : is_listed c.key (with_parents (c ∷ cs) keys) ≡ wanted
      own = same c.key (λ low l. l) ∙ listed-wanted cs c.key rise.1 back.1 rise.0

      others : AllByRecursion (λ b. (is_listed b.key (with_parents (c ∷ cs) keys) && f b) ≡ (is_listed b.key found && f b)) cs
      others =
          all-map (λ b. key_lt c.key b.key ≡ true) (λ b. (is_listed b.key (with_parents (c ∷ cs) keys) && f b) ≡ (is_listed b.key found && f b))
          (λ b l. ap (λ (t : Bool). t && f b) (same b.key (λ low m. before-trans low c.key b.key m l))) cs rise.0

-- ---- the current branches

-- the key of a tip, where there is one
abbrev pub tip_key : Option Batch → Option BatchKey
tip_key None = None
tip_key (Some tip) = Some tip.key

module _ (batches : List Batch) where
  no-current : (run : RunId) (ts : List Batch) → current_tip run batches ≡ None → current_key (map (branch_view run batches) ts) ≡ None
  no-current run [] e = refl
  no-current run (t ∷ ts) e = rw e (no-current run ts e)

  the-current : (run : RunId) (ts : List Batch) (tip : Batch) → current_tip run batches ≡ Some tip → Among tip ts → current_key (map (branch_view run batches) ts) ≡ Some tip.key
  the-current run [] tip e among = absurd among
  the-current run (t ∷ ts) tip e among = by (key_eq t.key tip.key) refl (the-current run ts tip e) among
    where
      by : (s : Bool) → key_eq t.key tip.key ≡ s → (Among tip ts → current_key (map (branch_view run batches) ts) ≡ Some tip.key) → Among tip (t ∷ ts)
          → current_key (map (branch_view run batches) (t ∷ ts)) ≡ Some tip.key
      by true f rest a = rw (e, f) (ap (λ k. Some k) (same-keys t.key tip.key f))
      by false f rest (inl same) = let g : key_eq tip.key tip.key ≡ false = subst (λ (b : Batch). key_eq b.key tip.key ≡ false) (sym same) f in let h : key_eq tip.key tip.key ≡ true = key_eq-self tip.key in absurd (cc)
      by false f rest (inr a) = rw (e, f) (rest a)

  current-branch : (run : RunId) → current_key (map (branch_view run batches) (tips run batches)) ≡ tip_key (current_tip run batches)
  current-branch run = by (current_tip run batches) refl
    where
      by : (x : Option Batch) → current_tip run batches ≡ x → current_key (map (branch_view run batches) (tips run batches)) ≡ tip_key x
      by None e = no-current run (tips run batches) e
      by (Some tip) e = the-current run (tips run batches) tip e (find-among (leads (tips run batches)) (tips run batches) tip e)

  -- whether a test holds of the current tip of a run that is not a zombie
  abbrev pub of_run : (BatchKey → Bool) → RunId → Bool
  of_run test run = not (is_zombie (run_status run batches)) && of_key test (tip_key (current_tip run batches))

  tip-any : (test : BatchKey → Bool) (run : RunId) (keys : List BatchKey) → list_any test (with_tip (run_view batches run) keys) ≡ (list_any test keys || of_run test run)
  tip-any test run keys = by (is_zombie (run_status run batches))
    where
      by : (t : Bool) → list_any test (if not t then with_optional (current_key (map (branch_view run batches) (tips run batches))) keys else keys)
          ≡ (list_any test keys || (not t && of_key test (tip_key (current_tip run batches))))
      by true = sym (or-false (list_any test keys))
      by false =
          any-optional test (current_key (map (branch_view run batches) (tips run batches))) keys
          ∙ ap (λ (t : Bool). list_any test keys || t) (ap (of_key test) (current-branch run))

  tips-any : (test : BatchKey → Bool) (list : List RunId) (keys : List BatchKey) → list_any test (with_tips (map (run_view batches) list) keys) ≡ (list_any test keys || list_any (of_run test) list)
  tips-any test [] keys = sym (or-false (list_any test keys))
  tips-any test (run ∷ list) keys =
      tips-any test list (with_tip (run_view batches run) keys)
      ∙ ap (λ (t : Bool). t || list_any (of_run test) list) (tip-any test run keys)
      ∙ or-group (list_any test keys) (of_run test run) (list_any (of_run test) list)

  -- what holds of a standing batch is what holds of one on the current branch of a run that is not a zombie
  pub standing-any : (f : Batch → Bool) → Rise batches → AllByRecursion PointsBack batches
      → list_any (λ b. is_listed b.key (standing (view_of batches)) && f b) batches ≡ list_any (of_run (λ key. list_any f (path_to key batches))) (runs batches)
  standing-any f rise back =
      listed-paths (with_tips (map (run_view batches) (runs batches)) []) f batches rise back
      ∙ tips-any (λ key. list_any f (path_to key batches)) (runs batches) []

-- ---- one batch

-- a test holds of the key of one of the batches and the key is this one exactly where it holds of this one and it is there
any-key : (test : BatchKey → Bool) (key : BatchKey) (batches : List Batch) → list_any (λ b. test b.key && key_eq b.key key) batches ≡ (test key && has_key (Some key) batches)
any-key test key [] = sym (and-never (test key) false refl)
any-key test key (b ∷ batches) = by (key_eq b.key key) refl (any-key test key batches)
  where
    both : (a t : Bool) → ((a && true) || (a && t)) ≡ (a && true)
    both true t = refl
    both false t = refl

    by : (t : Bool) → key_eq b.key key ≡ t → list_any (λ b. test b.key && key_eq b.key key) batches ≡ (test key && has_key (Some key) batches)
        → list_any (λ b. test b.key && key_eq b.key key) (b ∷ batches) ≡ (test key && has_key (Some key) (b ∷ batches))
    by true e rest =
        rw e (ap (λ (k : BatchKey). (test k && true) || list_any (λ b. test b.key && key_eq b.key key) batches) (same-keys b.key key e)
        ∙ ap (λ (t : Bool). (test key && true) || t) rest ∙ both (test key) (has_key (Some key) batches))
    by false e rest = rw e (ap (λ (t : Bool). t || list_any (λ b. test b.key && key_eq b.key key) batches) (and-never (test b.key) false refl) ∙ rest)

any-found : (key : BatchKey) (batches : List Batch) → list_any (λ b. key_eq b.key key) batches ≡ has_key (Some key) batches
any-found key [] = refl
any-found key (b ∷ batches) = by (key_eq b.key key) refl (any-found key batches)
  where
    by : (t : Bool) → key_eq b.key key ≡ t → list_any (λ b. key_eq b.key key) batches ≡ has_key (Some key) batches
        → list_any (λ b. key_eq b.key key) (b ∷ batches) ≡ has_key (Some key) (b ∷ batches)
    by true e rest = rw e refl
    by false e rest = rw e rest

and-there : (a t : Bool) → t ≡ true → (a && t) ≡ a
and-there true t e = e
and-there false t e = refl

pub stands_where_current : (batches : List Batch) → IsSound batches → (b : Batch) → Has batches b → is_listed b.key (standing (view_of batches)) ≡ is_on_current batches b
stands_where_current batches sound b has =
    let listed : Bool = is_listed b.key (standing (view_of batches)) in
    sym (and-there listed (has_key (Some b.key) batches) (ap is_some has))
    ∙ sym (any-key (λ key. is_listed key (standing (view_of batches))) b.key batches)
    ∙ standing-any batches (λ c. key_eq c.key b.key) sound.set.ordered sound.set.back
    ∙ ap (λ (p : RunId → Bool). list_any p (runs batches)) (λ i run. kept run i)
  where
    on-tip : (tip : Option Batch) → of_key (λ key. list_any (λ c. key_eq c.key b.key) (path_to key batches)) (tip_key tip) ≡ is_on_tip batches b tip
    on-tip None = refl
    on-tip (Some tip) = any-found b.key (path_to tip.key batches)

    kept : (run : RunId) → of_run batches (λ key. list_any (λ c. key_eq c.key b.key) (path_to key batches)) run ≡ is_kept_by batches b run
    kept run = ap (λ (t : Bool). not (is_zombie (run_status run batches)) && t) (on-tip (current_tip run batches))
