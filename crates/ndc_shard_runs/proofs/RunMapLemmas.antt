-- Where the run of an id stands among runs in the order of ids, and what changes there.
use Rattle.std.proofs.Common.{◌≡◌, ℕ, zero, suc, ◌<◌, ◌≤◌, Bool, true, false, nat_lt, ◌==◌, List, [], ◌∷◌, cond, length, set, insert, remove, get_or, slice_get, Some, None, Result, Ok, Err, OnOk, OnErr, IfOk, IfErr, Ordering, Less, Equal, Greater, nat_cmp, if◌then◌else◌, refl, ap, sym, ◌∙◌, subst, arith}
use Rattle.std.proofs.lemmas.Bool.Decides.{nat_tests}
use Rattle.std.specs.Ordering.{ordering_index}
use Rattle.std.specs.List.Sorted.{IsSearchInRange, IsBinarySearchResult}
use Rattle.ndc_event.specs.declared.key.RunId.{RunId}
use Rattle.ndc_event.specs.declared.batch.Batch.{Batch}
use Rattle.ndc_model_sets.specs.Branches.{same_run}
use Rattle.ndc_tree.specs.Tree.{TreeValue}
use Rattle.ndc_shard_runs.specs.RunMap.{AreInOrder, IsRunBefore, run_at, begun, grown, with_run, with_grown, with_batch, without_run}
use Rattle.ndc_shard_runs.specs.Standing.{IsAt, IsGap}
use Rattle.ndc_event.specs.Sorted.{Hits, Parts}
use Rattle.ndc_shard_runs.proofs.LearnLemmas.{with-there, with-begun}
use Rattle.ndc_event.proofs.SortedLemmas.{searched, hit-within, part-within, order-insert, order-remove}
use Rattle.ndc_shard_runs.proofs.OrderLemmas.{order-set}

-- how the id of a run compares with this one
abbrev pub run_cmp : RunId → TreeValue → Ordering
run_cmp run r = nat_cmp r.run.value run.value

rises : (a b n : ℕ) → nat_lt a b ≡ true → ordering_index (nat_cmp a n) ≤ ordering_index (nat_cmp b n)
rises a b n l = grind (arith, nat_tests)

before : (a b n : ℕ) → nat_lt a b ≡ true → nat_cmp b n ≡ Equal → nat_cmp a n ≡ Less
before a b n l e = grind (arith, nat_tests)

less : (a b : ℕ) → nat_cmp a b ≡ Less → nat_lt a b ≡ true
less a b e = grind (arith, nat_tests)

less-apart : (a b : ℕ) → nat_cmp a b ≡ Less → (a == b) ≡ false
less-apart a b e = grind (arith, nat_tests)

less-late : (a b : ℕ) → nat_cmp a b ≡ Less → nat_lt b a ≡ false
less-late a b e = grind (arith, nat_tests)

greater : (a b : ℕ) → nat_cmp a b ≡ Greater → nat_lt b a ≡ true
greater a b e = grind (arith, nat_tests)

greater-apart : (a b : ℕ) → nat_cmp a b ≡ Greater → (a == b) ≡ false
greater-apart a b e = grind (arith, nat_tests)

equal-same : (a b : ℕ) → nat_cmp a b ≡ Equal → (a == b) ≡ true
equal-same a b e = grind (arith, nat_tests)

-- the run at the place
module _ (run : RunId) where
  found-at : (runs : List TreeValue) (place : ℕ) → Hits (run_cmp run) runs place → run_at run runs ≡ slice_get runs place
  found-at [] place h = absurd h
  found-at (r ∷ runs) zero h = ap (λ t. cond t (Some r) (run_at run runs)) (equal-same r.run.value run.value h)
  found-at (r ∷ runs) (suc place) h = ap (λ t. cond t (Some r) (run_at run runs)) (less-apart r.run.value run.value h.0) ∙ found-at runs place h.1

  taken-at : (runs : List TreeValue) (place : ℕ) → Hits (run_cmp run) runs place → without_run run runs ≡ remove runs place
  taken-at [] place h = absurd h
  taken-at (r ∷ runs) zero h = ap (λ t. cond t runs (r ∷ without_run run runs)) (equal-same r.run.value run.value h)
  taken-at (r ∷ runs) (suc place) h =
      ap (λ t. cond t runs (r ∷ without_run run runs)) (less-apart r.run.value run.value h.0) ∙ ap (λ l. r ∷ l) (taken-at runs place h.1)

  absent-at : (runs : List TreeValue) (place : ℕ) → Parts (run_cmp run) runs place → run_at run runs ≡ None
  absent-at [] zero h = refl
  absent-at (r ∷ runs) zero h = ap (λ t. cond t (Some r) (run_at run runs)) (greater-apart r.run.value run.value h.0) ∙ absent-at runs zero h.1
  absent-at [] (suc place) h = absurd h
  absent-at (r ∷ runs) (suc place) h = ap (λ t. cond t (Some r) (run_at run runs)) (less-apart r.run.value run.value h.0) ∙ absent-at runs place h.1

-- a batch of the run at the place
learned-at : (b : Batch) (runs : List TreeValue) (place : ℕ) (old : TreeValue) → Hits (run_cmp b.run) runs place → slice_get runs place ≡ Some old
    → with_grown b runs ≡ set runs place (grown b old)
learned-at b [] place old h at = absurd h
learned-at b (r ∷ runs) zero old h at =
    let is : r ≡ old = cc in
    ap (λ t. cond t (grown b r ∷ runs) (r ∷ with_grown b runs)) (equal-same r.run.value b.run.value h) ∙ ap (λ x. grown b x ∷ runs) is
learned-at b (r ∷ runs) (suc place) old h at =
    ap (λ t. cond t (grown b r ∷ runs) (r ∷ with_grown b runs)) (less-apart r.run.value b.run.value h.0) ∙ ap (λ l. r ∷ l) (learned-at b runs place old h.1 at)

-- a new run at the place
put-at : (r : TreeValue) (runs : List TreeValue) (place : ℕ) → Parts (run_cmp r.run) runs place → with_run r runs ≡ insert runs place r
put-at r [] zero h = refl
put-at r (x ∷ runs) zero h = ap (λ t. cond t (r ∷ x ∷ runs) (if same_run x.run r.run then r ∷ runs else x ∷ with_run r runs)) (greater x.run.value r.run.value h.0)
put-at r [] (suc place) h = absurd h
put-at r (x ∷ runs) (suc place) h =
    ap (λ t. cond t (r ∷ x ∷ runs) (if same_run x.run r.run then r ∷ runs else x ∷ with_run r runs)) (less-late x.run.value r.run.value h.0)
    ∙ ap (λ t. cond t (r ∷ runs) (x ∷ with_run r runs)) (less-apart x.run.value r.run.value h.0)
    ∙ ap (λ l. x ∷ l) (put-at r runs place h.1)

is-at : (runs : List TreeValue) (run : RunId) → AreInOrder runs → (place : ℕ) → Hits (run_cmp run) runs place → IsAt runs run place
is-at runs run order place h = record {
  in_range = hit-within (run_cmp run) runs place h;
  found = found-at run runs place h;
  learned = λ b old new same at new-is.
      let hit = subst (λ id. Hits (run_cmp id) runs place) (sym same) h in
      with-there b runs old (found-at b.run runs place hit ∙ at) ∙ learned-at b runs place old hit at ∙ ap (set runs place) (sym new-is);
  kept = λ b old new at new-is.
      order-set IsRunBefore runs place old new at (λ y. subst (λ (x : TreeValue). IsRunBefore old y → IsRunBefore x y) (sym new-is) (λ less. less))
      (λ y. subst (λ (x : TreeValue). IsRunBefore y old → IsRunBefore y x) (sym new-is) (λ less. less)) order;
  taken = taken-at run runs place h;
  left = order-remove IsRunBefore runs place order;
}

without-absent : (run : RunId) (runs : List TreeValue) → run_at run runs ≡ None → without_run run runs ≡ runs
without-absent run [] none = refl
without-absent run (r ∷ runs) none = by (same_run r.run run) refl (without-absent run runs) none
  where
    by : (t : Bool) → same_run r.run run ≡ t → (run_at run runs ≡ None → without_run run runs ≡ runs) → run_at run (r ∷ runs) ≡ None → without_run run (r ∷ runs) ≡ r ∷ runs
    by true e rest n = absurd (cc)
    by false e rest n = ap (λ t. cond t runs (r ∷ without_run run runs)) e ∙ ap (λ l. r ∷ l) (rest (sym (ap (λ t. cond t (Some r) (run_at run runs)) e) ∙ n))

is-gap : (runs : List TreeValue) (run : RunId) → AreInOrder runs → (place : ℕ) → Parts (run_cmp run) runs place → IsGap runs run place
is-gap runs run order place h = record {
  in_range = part-within (run_cmp run) runs place h;
  absent = absent-at run runs place h;
  learned = λ b same.
      let gap = subst (λ id. Parts (run_cmp id) runs place) (sym same) h in
      with-begun b runs (absent-at b.run runs place gap) ∙ put-at (begun b) runs place gap;
  kept = λ b same.
      let gap = subst (λ id. Parts (run_cmp id) runs place) (sym same) h in
      order-insert IsRunBefore (run_cmp b.run) (begun b) (λ x e. less x.run.value b.run.value e) (λ x e. greater x.run.value b.run.value e) runs place gap order;
  taken = without-absent run runs (absent-at run runs place h);
}

-- a binary search by id ends at the run, or at the gap for it
pub placed : (runs : List TreeValue) → AreInOrder runs → (run : RunId) (r : Result ℕ ℕ) → IsSearchInRange r (length runs) → IsBinarySearchResult (run_cmp run) runs r
    → record { found : IfOk r (IsAt runs run); absent : IfErr r (IsGap runs run) }
placed runs order run r l e =
    by r (searched IsRunBefore (run_cmp run) (λ x y. rises x.run.value y.run.value run.value) (λ x y. before x.run.value y.run.value run.value) runs order r l e)
  where
    by : (r : Result ℕ ℕ) → record { found : IfOk r (Hits (run_cmp run) runs); absent : IfErr r (Parts (run_cmp run) runs) } → record { found : IfOk r (IsAt runs run); absent : IfErr r (IsGap runs run) }
    by (Ok place) both = record { found = is-at runs run order place both.found; absent = tt }
    by (Err place) both = record { found = tt; absent = is-gap runs run order place both.absent }

-- the run at an index
got : (runs : List TreeValue) (place : ℕ) (r : TreeValue) → place < length runs → r ≡ get_or runs place r → slice_get runs place ≡ Some r
got [] place r l e = absurd (omega arith)
got (x ∷ runs) zero r l e = ap (λ y. Some y) (sym e)
got (x ∷ runs) (suc place) r l e = got runs place r (omega arith) e

pub here : (runs : List TreeValue) (run : RunId) (place : ℕ) → IsAt runs run place → (r : TreeValue) → r ≡ get_or runs place r → run_at run runs ≡ Some r
here runs run place at r e = at.found ∙ got runs place r at.in_range e

set-back : (runs : List TreeValue) (place : ℕ) (r : TreeValue) → slice_get runs place ≡ Some r → set runs place r ≡ runs
set-back [] place r at = absurd (cc)
set-back (x ∷ runs) zero r at = let is : x ≡ r = cc in ap (λ y. y ∷ runs) (sym is)
set-back (x ∷ runs) (suc place) r at = ap (λ l. x ∷ l) (set-back runs place r at)

-- what is written back of a run to which a batch came, or did not for want of memory
module _ {X E : Type 0} (runs : List TreeValue) (b : Batch) (place : ℕ) (is_at : IsAt runs b.run place) (old new : TreeValue) (here : old ≡ get_or runs place old)
    (result : Result X E) (ok : OnOk result (new ≡ grown b old)) (err : OnErr result (new ≡ old)) (order : AreInOrder runs) where
  written : OnOk result (set runs place new ≡ with_batch b runs) × AreInOrder (set runs place new)
  written = by result ok err
    where
      at : slice_get runs place ≡ Some old
      at = got runs place old is_at.in_range here

      by : (x : Result X E) → OnOk x (new ≡ grown b old) → OnErr x (new ≡ old) → OnOk x (set runs place new ≡ with_batch b runs) × AreInOrder (set runs place new)
      by (Ok u) grew same = (sym (is_at.learned b old new refl at grew), is_at.kept b old new at grew)
      by (Err u) grew same = (tt, subst AreInOrder (sym (ap (set runs place) same ∙ set-back runs place old at)) order)

  pub written-ok : OnOk result (set runs place new ≡ with_batch b runs)
  written-ok = written.0

  pub written-order : AreInOrder (set runs place new)
  written-order = written.1

-- what holds in any case holds where all went well
pub in-any-case : {X E P : Type 0} (result : Result X E) → P → OnOk result P
in-any-case (Ok x) p = p
in-any-case (Err e) p = tt
