-- What clusters have gone over of each other stays seen, where one of them comes to hold more, and need not be looked at again.
use Rattle.std.proofs.Common.{◌≡◌, ◌≢◌, ℕ, ◌<◌, zero, suc, Bool, true, false, List, [], ◌∷◌, ◌++◌, length, replicate, take, drop, slice_index_or, slice_set, eqb, refl, sym, ap, subst, ◌∙◌, arith, length-append}
use Rattle.std.specs.List.{AllByRecursion}
use Rattle.std.proofs.lemmas.Bool.{eqb-false, eqb-true}
use Rattle.std.proofs.lemmas.List.{get_or_read, get_or-replicate, get_or-set_other, get_or-set_same, length-map, length-replicate, length-set, take-append-drop, take-append-le, take_all}
use Rattle.ndc_progress.specs.Holdings.{AreInStep, AreSeen, HoldingValue, covers, having_taken, having_told, held_by, holding_at, new_holding, unseen}
use Rattle.ndc_progress.specs.Keyed.{AreOnce, news}
use Rattle.ndc_progress.specs.Reports.{greatest_of, merge_count, merged}
use Rattle.ndc_progress.specs.declared.report.Report.{Report}
use Rattle.ndc_progress.proofs.GreatestLemmas.{merged_greatest, merged_joined}
use Rattle.ndc_progress.proofs.NewsLemmas.{count_same, merged_news}
use Rattle.ndc_progress.proofs.OrderLemmas.{all-covered, covered-merged, merged-covers, merged_once}

-- the greatest reports are of different activities
pub greatest_once : (log : List Report) → AreOnce (greatest_of log)
greatest_once log = merged_once [] log tt

-- what is seen stays so, where the log grows
seen-longer : (own log more : List Report) (count : ℕ) → AreSeen own log count → AreSeen own (log ++ more) count
seen-longer own log more count seen = record {
  within = omega (arith, seen.within, length-append log more);
  covered = subst (AllByRecursion (λ r. covers own r ≡ true)) (sym (take-append-le count log more seen.within)) seen.covered;
}

-- what is covered stays so after a merge
covered-longer : (own more list : List Report) → AllByRecursion (λ r. covers own r ≡ true) list → AllByRecursion (λ r. covers (merged own more) r ≡ true) list
covered-longer own more [] all = tt
covered-longer own more (r ∷ list) all = (merged-covers own more r all.0, covered-longer own more list all.1)

-- what is seen stays so, where more is held
seen-above : (own more log : List Report) (count : ℕ) → AreSeen (greatest_of own) log count → AreSeen (greatest_of (own ++ more)) log count
seen-above own more log count seen = record {
  within = seen.within;
  covered = subst (λ held. AllByRecursion (λ r. covers held r ≡ true) (take count log)) (sym (merged_joined [] own more)) (covered-longer (greatest_of own) more (take count log) seen.covered);
}

-- all of a log is seen, where it was merged
seen-whole : (own log : List Report) → AreSeen (merged own log) log (length log)
seen-whole own log = record {
  within = omega arith;
  covered = subst (AllByRecursion (λ r. covers (merged own log) r ≡ true)) (sym (take_all (length log) log (omega arith))) (all-covered own log);
}

-- what is after the seen reports of a log leaves the same held as all of the log
merged-behind : (own log : List Report) (count : ℕ) → AreSeen own log count → merged own (greatest_of (drop count log)) ≡ merged own (greatest_of log)
merged-behind own log count seen =
    merged_greatest own (drop count log)
    ∙ ap (λ start. merged start (drop count log)) (sym (covered-merged own (take count log) seen.covered))
    ∙ sym (merged_joined own (take count log) (drop count log))
    ∙ ap (merged own) (take-append-drop count log)
    ∙ sym (merged_greatest own log)

-- and of as many activities another report
pub count_behind : (own log : List Report) (count : ℕ) → AreSeen (greatest_of own) log count → merge_count (greatest_of own) (greatest_of (drop count log)) ≡ merge_count (greatest_of own) (greatest_of log)
count_behind own log count seen =
    count_same (greatest_of own) (greatest_of (drop count log)) (greatest_of log) (greatest_once own) (greatest_once (drop count log)) (greatest_once log) (merged-behind (greatest_of own) log count seen)

-- what is held after the reports that take the place of what was held is what is held after all
pub greatest_news : (own others : List Report) → AreOnce others → greatest_of (own ++ news (greatest_of own) others) ≡ merged (greatest_of own) others
greatest_news own others once = merged_joined [] own (news (greatest_of own) others) ∙ merged_news (greatest_of own) others (greatest_once own) once

-- a place of the list of what each cluster holds is one of the list of clusters
pub place_below : (holdings : List HoldingValue) (reports : List (List Report)) (cluster : ℕ) → held_by holdings ≡ reports → cluster < length reports → cluster < length holdings
place_below holdings reports cluster same below =
    let many = length-map holdings (λ holding. greatest_of holding.log) in
    let alike = ap (λ (l : List (List Report)). length l) same in
    omega (arith, many, alike, below)

-- what a cluster holds, by its place
pub held_at : (holdings : List HoldingValue) (cluster : ℕ) → slice_index_or (held_by holdings) cluster [] ≡ greatest_of (holding_at holdings cluster).log
held_at [] cluster = refl
held_at (holding ∷ holdings) zero = refl
held_at (holding ∷ holdings) (suc cluster) = held_at holdings cluster

pub held_place : (holdings : List HoldingValue) (reports : List (List Report)) (cluster : ℕ) → held_by holdings ≡ reports → greatest_of (holding_at holdings cluster).log ≡ slice_index_or reports cluster []
held_place holdings reports cluster is = sym (held_at holdings cluster) ∙ ap (λ (l : List (List Report)). slice_index_or l cluster []) is

-- what clusters hold, where one of them comes to hold something else
pub held_set : (holdings : List HoldingValue) (cluster : ℕ) (holding : HoldingValue) → held_by (slice_set holdings cluster holding) ≡ slice_set (held_by holdings) cluster (greatest_of holding.log)
held_set [] cluster holding = refl
held_set (first ∷ holdings) zero holding = refl
held_set (first ∷ holdings) (suc cluster) holding = ap (λ l. greatest_of first.log ∷ l) (held_set holdings cluster holding)

-- in the beginning no cluster holds anything
pub held_new : (count clusters : ℕ) → held_by (replicate count (new_holding clusters)) ≡ replicate count []
held_new zero clusters = refl
held_new (suc count) clusters = ap (λ l. [] ∷ l) (held_new count clusters)

-- nothing of a log is seen as long as none of it was looked at
seen-none : (own log : List Report) → AreSeen own log 0
seen-none own log = record { within = omega arith; covered = tt }

-- a row of zeros is zero at each place
zero-row : (count place : ℕ) → slice_index_or (replicate {A = ℕ} count 0) place 0 ≡ 0
zero-row zero place = refl
zero-row (suc count) zero = refl
zero-row (suc count) (suc place) = zero-row count place

-- the row of a new cluster is zero at each place
new-row : (count clusters to from : ℕ) → slice_index_or (holding_at (replicate count (new_holding clusters)) to).seen from 0 ≡ 0
new-row zero clusters to from = refl
new-row (suc count) clusters zero from = zero-row clusters from
new-row (suc count) clusters (suc to) from = new-row count clusters to from

-- in the beginning all are in step
pub new_in_step : (clusters : ℕ) → AreInStep (replicate clusters (new_holding clusters))
new_in_step clusters = record {
  rows = λ to below.
      let many = length-replicate clusters (new_holding clusters) in
      ap (λ holding. length holding.seen) (get_or-replicate clusters to (new_holding clusters) (new_holding 0) (omega (arith, many, below))) ∙ length-replicate clusters 0 ∙ sym many;
  seen = λ to from.
      subst
      (AreSeen (greatest_of (holding_at (replicate clusters (new_holding clusters)) to).log) (holding_at (replicate clusters (new_holding clusters)) from).log)
      (sym (new-row clusters clusters to from))
      (seen-none (greatest_of (holding_at (replicate clusters (new_holding clusters)) to).log) (holding_at (replicate clusters (new_holding clusters)) from).log);
}

-- the item at a place of a list in which one was put, by cases
at-put : {X : Type 0} (P : ℕ → X → Type 0) (list : List X) (place : ℕ) (x d : X) → place < length list → P place x → ((other : ℕ) → other ≢ place → P other (slice_index_or list other d))
    → (other : ℕ) → P other (slice_index_or (slice_set list place x) other d)
at-put P list place x d below here there other = by (eqb other place) refl
  where
    by : (t : Bool) → eqb other place ≡ t → P other (slice_index_or (slice_set list place x) other d)
    by true p = subst (λ k. P k (slice_index_or (slice_set list place x) k d)) (sym (eqb-true other place p)) (subst (P place) (sym (get_or-set_same list place x d below)) here)
    by false p = subst (P other) (sym (get_or-set_other list place other x d (eqb-false other place p))) (there other (eqb-false other place p))

-- all stay in step where one cluster comes to hold more, if it has seen what it has gone over
put-in-step : (holdings : List HoldingValue) (cluster : ℕ) (holding : HoldingValue) (more : List Report) → AreInStep holdings → cluster < length holdings
    → holding.log ≡ (holding_at holdings cluster).log ++ more → length holding.seen ≡ length holdings
    → ((from : ℕ) → AreSeen (greatest_of holding.log) (holding_at holdings from).log (slice_index_or holding.seen from 0))
    → AreInStep (slice_set holdings cluster holding)
put-in-step holdings cluster holding more step below grown row fresh = record {
  rows = at-put (λ to h. to < length (slice_set holdings cluster holding) → length h.seen ≡ length (slice_set holdings cluster holding)) holdings cluster holding (new_holding 0) below
      (λ _. row ∙ sym many)
      (λ to differ within. step.rows to (omega (arith, many, within)) ∙ sym many);
  seen = λ to from.
      at-put (λ to h. AreSeen (greatest_of h.log) (holding_at (slice_set holdings cluster holding) from).log (slice_index_or h.seen from 0)) holdings cluster holding (new_holding 0) below
      (longer (greatest_of holding.log) (slice_index_or holding.seen from 0) from (fresh from))
      (λ to differ. longer (greatest_of (holding_at holdings to).log) (slice_index_or (holding_at holdings to).seen from 0) from (step.seen to from))
      to;
}
  where
    many : length (slice_set holdings cluster holding) ≡ length holdings
    many = length-set holdings cluster holding

    longer : (own : List Report) (count from : ℕ) → AreSeen own (holding_at holdings from).log count → AreSeen own (holding_at (slice_set holdings cluster holding) from).log count
    longer own count =
        at-put (λ from h. AreSeen own (holding_at holdings from).log count → AreSeen own h.log count) holdings cluster holding (new_holding 0) below
        (λ seen. subst (λ log. AreSeen own log count) (sym grown) (seen-longer own (holding_at holdings cluster).log more count seen))
        (λ from differ seen. seen)

-- a cluster is told of an activity
pub told_in_step : (holdings : List HoldingValue) (cluster : ℕ) (report : Report) → AreInStep holdings → cluster < length holdings
    → AreInStep (slice_set holdings cluster (having_told report (holding_at holdings cluster)))
told_in_step holdings cluster report step below =
    put-in-step holdings cluster (having_told report (holding_at holdings cluster)) (report ∷ []) step below refl (step.rows cluster below)
    (λ from. seen-above (holding_at holdings cluster).log (report ∷ []) (holding_at holdings from).log (slice_index_or (holding_at holdings cluster).seen from 0) (step.seen cluster from))

-- what a cluster then holds, where it takes over what it has not seen of another one: what it would hold, had it taken over all
pub taken_held : (own other : HoldingValue) (from count : ℕ) → AreSeen (greatest_of own.log) other.log (slice_index_or own.seen from 0)
    → greatest_of (having_taken from (unseen own other from) count own).log ≡ merged (greatest_of own.log) (greatest_of other.log)
taken_held own other from count seen =
    greatest_news own.log (unseen own other from) (greatest_once (drop (slice_index_or own.seen from 0) other.log))
    ∙ merged-behind (greatest_of own.log) other.log (slice_index_or own.seen from 0) seen

-- a cluster takes over what it has not seen of another one
pub taken_in_step : (holdings : List HoldingValue) (to from : ℕ) → AreInStep holdings → to < length holdings → from < length holdings
    → AreInStep (slice_set holdings to (having_taken from (unseen (holding_at holdings to) (holding_at holdings from) from) (length (holding_at holdings from).log) (holding_at holdings to)))
taken_in_step holdings to from step below within =
    let own : HoldingValue = holding_at holdings to in
    let other : HoldingValue = holding_at holdings from in
    let fresh : List Report = unseen own other from in
    let left : HoldingValue = having_taken from fresh (length other.log) own in
    let all : greatest_of left.log ≡ merged (greatest_of own.log) other.log = taken_held own other from (length other.log) (step.seen to from) ∙ merged_greatest (greatest_of own.log) other.log in
    put-in-step holdings to left (news (greatest_of own.log) fresh) step below refl (length-set own.seen from (length other.log) ∙ step.rows to below)
    (at-put (λ place count. AreSeen (greatest_of left.log) (holding_at holdings place).log count) own.seen from (length other.log) 0 (omega (arith, step.rows to below, within))
    (subst (λ held. AreSeen held other.log (length other.log)) (sym all) (seen-whole (greatest_of own.log) other.log))
    (λ place differ. seen-above own.log (news (greatest_of own.log) fresh) (holding_at holdings place).log (slice_index_or own.seen place 0) (step.seen to place)))

-- a cluster that took over what was read of another one
pub left_taken : (holdings : List HoldingValue) (to from : ℕ) (first own other left : HoldingValue) (seen told : ℕ) (fresh : List Report) → to < length holdings → from < length holdings
    → first ≡ slice_index_or holdings to first → own ≡ slice_index_or holdings to own → other ≡ slice_index_or holdings from other
    → seen ≡ slice_index_or first.seen from 0 → told ≡ length other.log → fresh ≡ greatest_of (drop seen other.log) → left ≡ having_taken from fresh told own
    → left ≡ having_taken from (unseen (holding_at holdings to) (holding_at holdings from) from) (length (holding_at holdings from).log) (holding_at holdings to)
left_taken holdings to from first own other left seen told fresh below within a b c d e f g =
    let first-is : first ≡ holding_at holdings to = get_or_read holdings to first below a (new_holding 0) in
    let own-is : own ≡ holding_at holdings to = get_or_read holdings to own below b (new_holding 0) in
    let other-is : other ≡ holding_at holdings from = get_or_read holdings from other within c (new_holding 0) in
    let seen-is : seen ≡ slice_index_or (holding_at holdings to).seen from 0 = d ∙ ap (λ (h : HoldingValue). slice_index_or h.seen from 0) first-is in
    let fresh-is : fresh ≡ unseen (holding_at holdings to) (holding_at holdings from) from = f ∙ (λ i. greatest_of (drop (seen-is i) (other-is i).log)) in
    let told-is : told ≡ length (holding_at holdings from).log = e ∙ ap (λ (h : HoldingValue). length h.log) other-is in
    g ∙ (λ i. having_taken from (fresh-is i) (told-is i) (own-is i))
