-- The first batch that comes after another one of its run and version that is not its parent is the first that splits a version.
use Rattle.std.proofs.Common.{◌≡◌, ℕ, zero, suc, ◌+◌, ◌<◌, Bool, true, false, not, ◌&&◌, ◌==◌, nat_lt, List, [], ◌∷◌, ◌++◌, length, drop, get_or, ◌⊎◌, inl, inr, Option, Some, None, Result, Ok, Err, find, if◌then◌else◌, refl, sym, ap, ◌∙◌, subst, arith}
use Rattle.std.specs.Prelude.{is_some}
use Rattle.std.specs.Map.{lookup}
use Rattle.std.specs.Option.{option_or}
use Rattle.std.specs.List.{AllByRecursion}
use Rattle.std.proofs.lemmas.Bool.{and_parts, and_from, eqb-true, eq-eqb, lt-ltb, ltb-true}
use Rattle.std.proofs.lemmas.List.{append_assoc}
use Rattle.indexmap.specs.IndexMap.{insert_entry}
use Rattle.ndc_event.specs.Key.{key_eq, key_lt}
use Rattle.ndc_event.specs.declared.batch.Batch.{Batch}
use Rattle.ndc_event.specs.declared.key.BatchKey.{BatchKey}
use Rattle.ndc_event.specs.declared.key.RunId.{RunId}
use Rattle.ndc_model_sets.specs.Branches.{same_run}
use Rattle.ndc_model_sets.specs.Learned.{has_key}
use Rattle.ndc_model_sets.specs.Paths.{Walk, is_wanted, path_from, path_to, walk_down}
use Rattle.ndc_model_sets.specs.Sets.{PointsBack, Rise, batch_at, Has}
use Rattle.ndc_model_sets.specs.Sound.{ParentsFit}
use Rattle.ndc_model_sets.proofs.BranchLemmas.{IsUpTo, among-has, has-among, run-same, same-run}
use Rattle.ndc_model_sets.proofs.CurrentLemmas.{key-wanted}
use Rattle.ndc_model_sets.proofs.ForkLemmas.{among-left, among-right, among-cases}
use Rattle.ndc_model_sets.proofs.KeyLemmas.{before-irrefl, before-from, before-parts, before-trans, key_eq-self, same-keys, IsBefore}
use Rattle.ndc_model_sets.proofs.Lists.{Among, all-among, list_any-none, list_any-one}
use Rattle.ndc_model_sets.proofs.PathLemmas.{from, none-wanted, parent-back, path-below, path-parent}
use Rattle.ndc_model_sets.proofs.SetLemmas.{at-append, at-first, found-all, found-has, found-key}
use Rattle.ndc_model_sets.specs.Reading.{path_of}
use Rattle.ndc_dump_causes.specs.Causes.{comes_before, holds_of_none, is_ill_formed, is_split, refused_at}
use Rattle.ndc_dump_causes.specs.Chains.{first_loose, is_loose, with_last}
use Rattle.ndc_dump_causes.specs.Given.{AreRead}
use Rattle.ndc_model_sets.specs.Keys.{is_key}
use Rattle.ndc_dump_causes.specs.declared.error.DumpError.{DumpError}
use Rattle.ndc_dump_causes.specs.declared.error.DumpError.TheVariants.{Key}
use Rattle.ndc_dump_causes.specs.declared.error.KeyCause.TheVariants.{NotWellFormed, SplitVersion}
use Rattle.ndc_dump_causes.proofs.Finding.{rise-parts}
use Rattle.ndc_dump_causes.proofs.NoCause.{fit-from, holds-not}
use Rattle.ndc_dump_causes.proofs.OnPaths.{left-one}
use Rattle.ndc_dump_causes.proofs.Walking.{wanted-path}

-- ---- the last of each run

put-found : (key other : RunId) (v : BatchKey) (es : List (RunId × BatchKey)) → lookup (same_run other) (insert_entry same_run es key v) ≡ (if same_run other key then Some v else lookup (same_run other) es)
put-found key other v [] = refl
put-found key other v (e ∷ es) = by (same_run key e.0) refl (put-found key other v es)
  where
    by : (t : Bool) → same_run key e.0 ≡ t → lookup (same_run other) (insert_entry same_run es key v) ≡ (if same_run other key then Some v else lookup (same_run other) es)
        → lookup (same_run other) (insert_entry same_run (e ∷ es) key v) ≡ (if same_run other key then Some v else lookup (same_run other) (e ∷ es))
    by true f rest = rw f (there (same_run other key) refl)
      where
        there : (s : Bool) → same_run other key ≡ s → (if same_run other e.0 then Some v else lookup (same_run other) es) ≡ (if s then Some v else (if same_run other e.0 then Some e.1 else lookup (same_run other) es))
        there true g = rw (sym (ap (same_run other) (run-same key e.0 f)) ∙ g) refl
        there false g = let h : same_run other e.0 ≡ false = sym (ap (same_run other) (run-same key e.0 f)) ∙ g in rw h refl
    by false f rest = rw f (there (same_run other e.0) refl)
      where
        there : (s : Bool) → same_run other e.0 ≡ s → (if s then Some e.1 else lookup (same_run other) (insert_entry same_run es key v)) ≡ (if same_run other key then Some v else (if s then Some e.1 else lookup (same_run other) es))
        there true g =
            let apart : same_run other key ≡ false = other-not (same_run other key) refl in rw apart refl
          where
            other-not : (u : Bool) → same_run other key ≡ u → same_run other key ≡ false
            other-not false h = h
            other-not true h =
                let k : key ≡ e.0 = sym (run-same other key h) ∙ run-same other e.0 g in
                let same : same_run key e.0 ≡ true = same-run key e.0 k in absurd (cc)
        there false g = rest

-- the next batch is the last of its run
pub next-last : (xs : List Batch) (i : ℕ) (b : Batch) (es new : List (RunId × BatchKey)) (all : Option BatchKey) → i < length xs → b ≡ get_or xs i b → first_loose (λ run. lookup (same_run run) es) (drop i xs) ≡ all
    → is_loose (lookup (same_run b.run) es) b ≡ false → new ≡ insert_entry same_run es b.run b.key → first_loose (λ run. lookup (same_run run) new) (drop (i + 1) xs) ≡ all
next-last xs i b es new all below is rest fits e =
    ap (λ l. first_loose (λ run. lookup (same_run run) l) (drop (i + 1) xs)) e
    ∙ ap (λ (f : RunId → Option BatchKey). first_loose f (drop (i + 1) xs)) (λ j run. put-found b.run run b.key es j)
    ∙ sym (ap (first_loose (λ run. lookup (same_run run) es)) (left-one xs i b below is)
    ∙ ap (λ t. if t then Some b.key else first_loose (with_last b (λ run. lookup (same_run run) es)) (drop (i + 1) xs)) fits) ∙ rest

-- a batch is loose
pub loose-now : (xs : List Batch) (i : ℕ) (b : Batch) (last : RunId → Option BatchKey) (all : Option BatchKey) → i < length xs → b ≡ get_or xs i b → first_loose last (drop i xs) ≡ all → is_loose (last b.run) b ≡ true → Some b.key ≡ all
loose-now xs i b last all below is rest loose =
    sym (ap (first_loose last) (left-one xs i b below is) ∙ ap (λ t. if t then Some b.key else first_loose (with_last b last) (drop (i + 1) xs)) loose) ∙ rest

-- ---- chains

-- the last of a run among these batches
abbrev LastOf : List Batch → RunId → Option BatchKey → Type 0
LastOf front run None = (x : Batch) → Among x front → x.run ≡ run → ⊥
LastOf front run (Some key) = (l : Batch) × Among l front × (l.run ≡ run) × (l.key ≡ key) × ((x : Batch) → Among x front → x.run ≡ run → (x ≡ l) ⊎ (key_lt x.key l.key ≡ true))

-- a batch with the last of its run before it
record IsBehind (whole : List Batch) (b : Batch) : Type 0 where
  pub key : Option BatchKey
  pub front : List Batch
  pub part : (x : Batch) → Among x front → Among x whole × (key_lt x.key b.key ≡ true)
  pub full : (x : Batch) → Among x whole → key_lt x.key b.key ≡ true → Among x front
  pub last : LastOf front b.run key

-- the same, and the batch is not loose
record IsTied (whole : List Batch) (b : Batch) : Type 0 where
  pub behind : IsBehind whole b
  pub fits : is_loose behind.key b ≡ false

before-all : (front : List Batch) (b : Batch) (rest : List Batch) → Rise (front ++ b ∷ rest) → (x : Batch) → Among x front → key_lt x.key b.key ≡ true
before-all [] b rest rise x h = absurd h
before-all (y ∷ front) b rest rise x (inl same) =
    subst (λ (z : Batch). key_lt z.key b.key ≡ true) (sym same) (all-among (λ z. key_lt y.key z.key ≡ true) (front ++ b ∷ rest) b rise.0 (among-right b front (b ∷ rest) (inl refl)))
before-all (y ∷ front) b rest rise x (inr h) = before-all front b rest rise.1 x h

not-before : (front : List Batch) (b : Batch) (rest : List Batch) → Rise (front ++ b ∷ rest) → (x : Batch) → Among x (front ++ b ∷ rest) → key_lt x.key b.key ≡ true → Among x front
not-before front b rest rise x among less = by (among-cases x front (b ∷ rest) among)
  where
    by : Among x front ⊎ Among x (b ∷ rest) → Among x front
    by (inl h) = h
    by (inr (inl same)) = absurd (before-irrefl b.key (subst (λ (z : Batch). key_lt z.key b.key ≡ true) same less))
    by (inr (inr h)) =
        let behind : key_lt b.key x.key ≡ true = all-among (λ z. key_lt b.key z.key ≡ true) rest x (rise-parts front (b ∷ rest) rise).1.0 h in
        absurd (before-irrefl x.key (before-trans x.key b.key x.key less behind))

last-more : (front : List Batch) (b : Batch) (rest : List Batch) (last : RunId → Option BatchKey) → Rise (front ++ b ∷ rest) → ((run : RunId) → LastOf front run (last run)) → (run : RunId) → LastOf (front ++ b ∷ []) run (with_last b last run)
last-more front b rest last rise lasts run = by (same_run run b.run) refl
  where
    by : (t : Bool) → same_run run b.run ≡ t → LastOf (front ++ b ∷ []) run (if t then Some b.key else last run)
    by true e = (b, among-right b front (b ∷ []) (inl refl), sym (run-same run b.run e), refl, λ x among own. above x (among-cases x front (b ∷ []) among))
      where
        above : (x : Batch) → Among x front ⊎ Among x (b ∷ []) → (x ≡ b) ⊎ (key_lt x.key b.key ≡ true)
        above x (inl h) = inr (before-all front b rest rise x h)
        above x (inr (inl same)) = inl same
        above x (inr (inr h)) = absurd h
    by false e = other (last run) (lasts run)
      where
        within : (x : Batch) → Among x (front ++ b ∷ []) → x.run ≡ run → Among x front
        within x among own = at (among-cases x front (b ∷ []) among)
          where
            at : Among x front ⊎ Among x (b ∷ []) → Among x front
            at (inl h) = h
            at (inr (inl same)) = let same_id : same_run run b.run ≡ true = same-run run b.run (sym own ∙ ap (λ (z : Batch). z.run) same) in absurd (cc)
            at (inr (inr h)) = absurd h

        other : (o : Option BatchKey) → LastOf front run o → LastOf (front ++ b ∷ []) run o
        other None none = λ x among own. none x (within x among own) own
        other (Some key) l = (l.0, among-left l.0 front (b ∷ []) l.1, l.2, l.3, λ x among own. l.4 x (within x among own) own)

has-append : (key : BatchKey) (xs ys : List Batch) → has_key (Some key) xs ≡ true → has_key (Some key) (xs ++ ys) ≡ true
has-append key xs ys h = ap is_some (at-append xs ys key) ∙ by (batch_at key xs) h
  where
    by : (o : Option Batch) → is_some o ≡ true → is_some (option_or o (batch_at key ys)) ≡ true
    by None h = absurd (cc)
    by (Some b) h = refl

has-last : (b : Batch) (xs : List Batch) → has_key (Some b.key) (xs ++ b ∷ []) ≡ true
has-last b xs = ap is_some (at-append xs (b ∷ []) b.key ∙ ap (option_or (batch_at b.key xs)) (at-first b [])) ∙ by (batch_at b.key xs)
  where
    by : (o : Option Batch) → is_some (option_or o (Some b)) ≡ true
    by None = refl
    by (Some x) = refl

-- the refusal at a key, where there is one
abbrev pub refused_key : Option BatchKey → Result (Unit {0}) DumpError
refused_key None = Ok tt
refused_key (Some key) = Err (Key key SplitVersion)

-- ---- the way up

-- what is wanted, and what was found, comes up to a key
record IsBelow (high : BatchKey) (w : Walk) : Type 0 where
  pub wanted : (key : BatchKey) → w.wanted ≡ Some key → IsUpTo high key
  pub path : AllByRecursion (λ x. IsUpTo high x.key) w.path

lower-up : (high key next : BatchKey) → IsUpTo high key → key_lt next key ≡ true → IsUpTo high next
lower-up high key next (inl same) less = inr (subst (λ (k : BatchKey). key_lt next k ≡ true) same less)
lower-up high key next (inr below) less = inr (before-trans next key high less below)

below-walk : (high : BatchKey) (batches : List Batch) (w : Walk) → AllByRecursion PointsBack batches → IsBelow high w → IsBelow high (walk_down batches w)
below-walk high [] w back h = h
below-walk high (b ∷ batches) w back h = by (is_wanted (walk_down batches w).wanted b) refl (below-walk high batches w back.1 h)
  where
    by : (t : Bool) → is_wanted (walk_down batches w).wanted b ≡ t → IsBelow high (walk_down batches w)
        → IsBelow high (if t then record { wanted = b.parent; path = b ∷ (walk_down batches w).path } else walk_down batches w)
    by true e h =
        let up : IsUpTo high b.key = h.wanted b.key (key-wanted (walk_down batches w).wanted b e) in
        record { wanted = λ key f. lower-up high b.key key up (parent-back b back.0 key f); path = (up, h.path) }
    by false e h = h

-- what is on the path that ends with a key comes up to it, and there is a batch of it
on-way-up : (batches : List Batch) → AllByRecursion PointsBack batches → (high key : BatchKey) → has_key (Some key) (path_from (Some high) batches) ≡ true
    → (p : Batch) × (batch_at high batches ≡ Some p) × IsUpTo high key
on-way-up batches back high key h = by (batch_at high batches) refl
  where
    way : IsBelow high (walk_down batches (from (Some high)))
    way = below-walk high batches (from (Some high)) back (record { wanted = λ k e. inl (same k e); path = tt })
      where
        same : (k : BatchKey) → Some high ≡ Some k → k ≡ high
        same k e = cc

    up : (o : Option Batch) → batch_at key (path_from (Some high) batches) ≡ o → is_some o ≡ true → IsUpTo high key
    up None e f = absurd (cc)
    up (Some x) e f = subst (IsUpTo high) (found-key (path_from (Some high) batches) key x e) (found-all (λ y. IsUpTo high y.key) (path_from (Some high) batches) key x way.path e)

    by : (o : Option Batch) → batch_at high batches ≡ o → (p : Batch) × (batch_at high batches ≡ Some p) × IsUpTo high key
    by None e =
        let none : has_key (Some key) (path_from (Some high) batches) ≡ false = ap (has_key (Some key)) (wanted-path batches (Some high) ∙ ap (λ o. path_of o batches) e) in absurd (cc)
    by (Some p) e = (p, e, up (batch_at key (path_from (Some high) batches)) refl h)

apart-keys : (low high : BatchKey) → key_lt low high ≡ true → key_eq high low ≡ false
apart-keys low high l = by (key_eq high low) refl
  where
    by : (t : Bool) → key_eq high low ≡ t → key_eq high low ≡ false
    by true e = absurd (before-irrefl low (subst (λ (k : BatchKey). key_lt low k ≡ true) (same-keys high low e) l))
    by false e = e

-- what is there with another batch last was there before it
has-before : (key : BatchKey) (b : Batch) (xs : List Batch) → key_eq b.key key ≡ false → has_key (Some key) (xs ++ b ∷ []) ≡ true → has_key (Some key) xs ≡ true
has-before key b xs other h = by (batch_at key xs) refl
  where
    by : (o : Option Batch) → batch_at key xs ≡ o → is_some (batch_at key xs) ≡ true
    by None e =
        let none : has_key (Some key) (xs ++ b ∷ []) ≡ false =
        ap is_some (at-append xs (b ∷ []) key ∙ ap (λ o. option_or o (batch_at key (b ∷ []))) e ∙ ap (λ t. if t then Some b else None) other) in absurd (cc)
    by (Some x) e = ap is_some e

key-named : (key : BatchKey) (o : Option BatchKey) → is_key key o ≡ true → o ≡ Some key
key-named key None h = absurd (cc)
key-named key (Some other) h = ap Some (sym (same-keys key other h))

same-version : (one l two : BatchKey) → IsBefore one l ⊎ (one ≡ l) → IsBefore l two → one.version ≡ two.version → (l.version ≡ two.version) × (l.task < two.task)
same-version one l two (inl (inl a)) (inl b) v = absurd (omega (arith, a, b, v))
same-version one l two (inl (inl a)) (inr b) v = absurd (omega (arith, a, b.0, v))
same-version one l two (inl (inr a)) (inl b) v = absurd (omega (arith, a.0, b, v))
same-version one l two (inl (inr a)) (inr b) v = b
same-version one l two (inr e) (inl b) v = let w : one.version ≡ l.version = ap (λ (k : BatchKey). k.version) e in absurd (omega (arith, b, v, w))
same-version one l two (inr e) (inr b) v = b

tied : (key : BatchKey) (b : Batch) → is_loose (Some key) b ≡ false → key.version ≡ b.key.version → is_key key b.parent ≡ true
tied key b h v = by (is_key key b.parent) refl h
  where
    by : (t : Bool) → is_key key b.parent ≡ t → ((key.version == b.key.version) && not t) ≡ false → is_key key b.parent ≡ true
    by true e h = e
    by false e h = let w : (key.version == b.key.version) ≡ true = eq-eqb key.version b.key.version v in absurd (cc)

module _ (batches : List Batch) (read : AreRead batches) where
  on-own : (b : Batch) → Has batches b → has_key (Some b.key) (path_to b.key batches) ≡ true
  on-own b has = ap (has_key (Some b.key)) (path-parent batches b read.set has) ∙ has-last b (path_from b.parent batches)

  -- a batch that comes before this one, or is it
  abbrev UpTo : Batch → Batch → Type 0
  UpTo top x = (x ≡ top) ⊎ (key_lt x.key top.key ≡ true)

  lower : (top two l : Batch) → UpTo top two → key_lt l.key two.key ≡ true → UpTo top l
  lower top two l (inl same) less = inr (subst (λ (x : Batch). key_lt l.key x.key ≡ true) same less)
  lower top two l (inr below) less = inr (before-trans l.key two.key top.key less below)

  module _ (top : Batch) (ties : (x : Batch) → Has batches x → UpTo top x → IsTied batches x) where
    chain : (n : ℕ) (one two : Batch) → two.key.task < n → Has batches one → Has batches two → UpTo top two → one.run ≡ two.run → one.key.version ≡ two.key.version → one.key.task < two.key.task
        → has_key (Some one.key) (path_to two.key batches) ≡ true
    chain zero one two l has other up run version less = absurd (omega (arith, l))
    chain (suc n) one two l has other up run version less = by b.behind.key b.behind.last b.fits (λ x m h u r v t. chain n one x m has h u r v t)
      where
        b : IsTied batches two
        b = ties two other up

        before : Among one b.behind.front
        before = b.behind.full one (has-among batches one has) (before-from one.key two.key (inr (version, less)))

        by : (o : Option BatchKey) → LastOf b.behind.front two.run o → is_loose o two ≡ false
            → ((x : Batch) → x.key.task < n → Has batches x → UpTo top x → one.run ≡ x.run → one.key.version ≡ x.key.version → one.key.task < x.key.task → has_key (Some one.key) (path_to x.key batches) ≡ true)
            → has_key (Some one.key) (path_to two.key batches) ≡ true
        by None none fits rest = absurd (none one before run)
        by (Some key) last fits rest = under (last.4 one before run)
          where
            own : Has batches last.0
            own = among-has batches last.0 read.set.ordered (b.behind.part last.0 last.1).0

            earlier : key_lt last.0.key two.key ≡ true
            earlier = (b.behind.part last.0 last.1).1

            less_two : IsBefore last.0.key two.key
            less_two = before-parts last.0.key two.key earlier

            goes_on : (last.0.key.version ≡ two.key.version) → path_to two.key batches ≡ path_to last.0.key batches ++ two ∷ []
            goes_on v = path-below batches two last.0.key read.set other
                (key-named last.0.key two.parent (tied last.0.key two (ap (λ k. is_loose (Some k) two) last.3 ∙ fits) v))

            under : (one ≡ last.0) ⊎ (key_lt one.key last.0.key ≡ true) → has_key (Some one.key) (path_to two.key batches) ≡ true
            under (inl same) =
                let v = same-version one.key last.0.key two.key (inr (ap (λ (x : Batch). x.key) same)) less_two version in
                ap (has_key (Some one.key)) (goes_on v.0)
                ∙ has-append one.key (path_to last.0.key batches) (two ∷ []) (subst (λ (x : Batch). has_key (Some x.key) (path_to last.0.key batches) ≡ true) (sym same) (on-own last.0 own))
            under (inr lower_one) =
                let low = before-parts one.key last.0.key lower_one in
                let v = same-version one.key last.0.key two.key (inl low) less_two version in
                let t = tasks low (version ∙ sym v.0) in
                ap (has_key (Some one.key)) (goes_on v.0)
                ∙ has-append one.key (path_to last.0.key batches) (two ∷ []) (rest last.0 (omega (arith, l, v.1)) own (lower top two last.0 up earlier) (run ∙ sym last.2) (version ∙ sym v.0) t)
              where
                tasks : IsBefore one.key last.0.key → one.key.version ≡ last.0.key.version → one.key.task < last.0.key.task
                tasks (inl a) w = absurd (omega (arith, a, w))
                tasks (inr a) w = a.1

    -- where no batch up to this one is loose, it has each earlier one of its run and version as an ancestor
    unsplit : Has batches top → is_split batches top ≡ false
    unsplit has = list_any-none (λ other. comes_before other top && not (has_key (Some other.key) (path_to top.key batches))) batches (λ other among. by (comes_before other top) other refl among)
      where
        by : (t : Bool) (other : Batch) → comes_before other top ≡ t → Among other batches → (t && not (has_key (Some other.key) (path_to top.key batches))) ≡ false
        by false other e among = refl
        by true other e among =
            let p = and_parts (same_run other.run top.run) ((other.key.version == top.key.version) && nat_lt other.key.task top.key.task) e in
            let q = and_parts (other.key.version == top.key.version) (nat_lt other.key.task top.key.task) p.1 in
            ap not (chain (suc top.key.task) other top (omega arith) (among-has batches other read.set.ordered among) has (inl refl) (run-same other.run top.run p.0) (eqb-true other.key.version top.key.version q.0) (ltb-true other.key.task top.key.task q.1))

  module _ (fit : ParentsFit batches) where
    -- a loose batch lacks the last of its run before it
    apart : (b : Batch) → Has batches b → (behind : IsBehind batches b) → is_loose behind.key b ≡ true → is_split batches b ≡ true
    apart b has behind loose = by behind.key behind.last loose
      where
        by : (o : Option BatchKey) → LastOf behind.front b.run o → is_loose o b ≡ true → is_split batches b ≡ true
        by None none h = absurd (cc)
        by (Some key) last h = list_any-one (λ other. comes_before other b && not (has_key (Some other.key) (path_to b.key batches))) batches l (behind.part l last.1).0
            (and_from (comes_before l b) (not (has_key (Some l.key) (path_to b.key batches))) before (ap not (lacks (has_key (Some l.key) (path_to b.key batches)) refl)))
          where
            l : Batch
            l = last.0

            parts : ((key.version == b.key.version) ≡ true) × (not (is_key key b.parent) ≡ true)
            parts = and_parts (key.version == b.key.version) (not (is_key key b.parent)) h

            version : l.key.version ≡ b.key.version
            version = ap (λ (k : BatchKey). k.version) last.3 ∙ eqb-true key.version b.key.version parts.0

            earlier : key_lt l.key b.key ≡ true
            earlier = (behind.part l last.1).1

            task : l.key.task < b.key.task
            task = tasks (before-parts l.key b.key earlier)
              where
                tasks : IsBefore l.key b.key → l.key.task < b.key.task
                tasks (inl a) = absurd (omega (arith, a, version))
                tasks (inr a) = a.1

            before : comes_before l b ≡ true
            before = and_from (same_run l.run b.run) ((l.key.version == b.key.version) && nat_lt l.key.task b.key.task) (same-run l.run b.run last.2)
                (and_from (l.key.version == b.key.version) (nat_lt l.key.task b.key.task) (eq-eqb l.key.version b.key.version version) (lt-ltb l.key.task b.key.task task))

            -- the last of the run comes up to the parent in no way
            above : (parent : BatchKey) → b.parent ≡ Some parent → (p : Batch) → batch_at parent batches ≡ Some p → IsUpTo parent l.key → ⊥
            above parent e p f (inl same) =
                let is : is_key key b.parent ≡ true = ap (is_key key) (e ∙ ap (λ k. Some k) (sym same ∙ last.3)) ∙ key_eq-self key in
                let isnt : not (is_key key b.parent) ≡ true = parts.1 in absurd (cc)
            above parent e p f (inr less) = greatest (last.4 p there (fit b p parent has e f).run)
              where
                named : p.key ≡ parent
                named = found-key batches parent p f

                lower_p : key_lt p.key b.key ≡ true
                lower_p = subst (λ (k : BatchKey). key_lt k b.key ≡ true) (sym named) (parent-back b (all-among PointsBack batches b read.set.back (has-among batches b has)) parent e)

                there : Among p behind.front
                there = behind.full p (has-among batches p (found-has batches parent p f)) lower_p

                greatest : (p ≡ l) ⊎ (key_lt p.key l.key ≡ true) → ⊥
                greatest (inl same) = before-irrefl l.key (subst (λ (k : BatchKey). key_lt l.key k ≡ true) (sym named ∙ ap (λ (x : Batch). x.key) same) less)
                greatest (inr lower_l) = before-irrefl l.key (before-trans l.key parent l.key less (subst (λ (k : BatchKey). key_lt k l.key ≡ true) named lower_l))

            over : (o : Option BatchKey) → b.parent ≡ o → has_key (Some l.key) (path_from o batches) ≡ true → ⊥
            over None e h = let none : has_key (Some l.key) (path_from None batches) ≡ false = ap (λ w. has_key (Some l.key) w.path) (none-wanted batches) in absurd (cc)
            over (Some parent) e h = let up = on-way-up batches read.set.back parent l.key h in above parent e up.0 up.1 up.2

            lacks : (t : Bool) → has_key (Some l.key) (path_to b.key batches) ≡ t → has_key (Some l.key) (path_to b.key batches) ≡ false
            lacks false e = e
            lacks true e = absurd (over b.parent refl
                (has-before l.key b (path_from b.parent batches) (apart-keys l.key b.key earlier) (sym (ap (has_key (Some l.key)) (path-parent batches b read.set has)) ∙ e)))

    -- ---- the first one

    -- the first that is loose is the first that is split
    first : (bs front : List Batch) (last : RunId → Option BatchKey) → front ++ bs ≡ batches → ((run : RunId) → LastOf front run (last run))
        → ((x : Batch) → Among x front → IsTied batches x) → refused_key (first_loose last bs) ≡ refused_at SplitVersion (find (is_split batches) bs)
    first [] front last whole lasts ties = refl
    first (b ∷ bs) front last whole lasts ties =
        by (is_loose (last b.run) b) refl (λ fits. first bs (front ++ b ∷ []) (with_last b last) (append_assoc front (b ∷ []) bs ∙ whole) (last-more front b bs last rise lasts) (more fits))
      where
        rise : Rise (front ++ b ∷ bs)
        rise = subst Rise (sym whole) read.set.ordered

        behind : IsBehind batches b
        behind = record {
          key = last b.run;
          front = front;
          part = λ x k. (subst (Among x) whole (among-left x front (b ∷ bs) k), before-all front b bs rise x k);
          full = λ x k. not-before front b bs rise x (subst (Among x) (sym whole) k);
          last = lasts b.run;
        }

        has : Has batches b
        has = among-has batches b read.set.ordered (subst (Among b) whole (among-right b front (b ∷ bs) (inl refl)))

        more : is_loose (last b.run) b ≡ false → (x : Batch) → Among x (front ++ b ∷ []) → IsTied batches x
        more fits x among = at (among-cases x front (b ∷ []) among)
          where
            at : Among x front ⊎ Among x (b ∷ []) → IsTied batches x
            at (inl k) = ties x k
            at (inr (inl same)) = subst (IsTied batches) (sym same) (record { behind = behind; fits = fits })
            at (inr (inr k)) = absurd k

        up_to : is_loose (last b.run) b ≡ false → (x : Batch) → Has batches x → UpTo b x → IsTied batches x
        up_to fits x has_x (inl same) = more fits x (subst (λ (y : Batch). Among y (front ++ b ∷ [])) (sym same) (among-right b front (b ∷ []) (inl refl)))
        up_to fits x has_x (inr less) = ties x (behind.full x (has-among batches x has_x) less)

        by : (t : Bool) → is_loose (last b.run) b ≡ t → (is_loose (last b.run) b ≡ false → refused_key (first_loose (with_last b last) bs) ≡ refused_at SplitVersion (find (is_split batches) bs))
            → refused_key (first_loose last (b ∷ bs)) ≡ refused_at SplitVersion (find (is_split batches) (b ∷ bs))
        by true e rest = let split : is_split batches b ≡ true = apart b has behind e in rw (e, split) refl
        by false e rest = let split : is_split batches b ≡ false = unsplit b (up_to e) has in rw (e, split) (rest e)

-- the first batch that is loose is the first that is split
pub first-split : (batches : List Batch) → AreRead batches → holds_of_none NotWellFormed (is_ill_formed batches) batches ≡ Ok tt
    → refused_key (first_loose (λ run. None) batches) ≡ holds_of_none SplitVersion (is_split batches) batches
first-split batches read formed =
    first batches read (fit-from batches (holds-not NotWellFormed (is_ill_formed batches) batches tt formed)) batches [] (λ run. None) refl (λ run x among own. among) (λ x among. absurd among)
