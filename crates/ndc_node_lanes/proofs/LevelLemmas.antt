-- Levels that readers tell.
use Rattle.std.proofs.Common.{◌≡◌, ℕ, zero, suc, ◌≤◌, max, min, Bool, true, false, not, nat_lt, ◌==◌, List, [], ◌∷◌, Option, Some, None, IfSome, refl, arith}
use Rattle.std.specs.Prelude.{if◌then◌else◌, slice_index, slice_set}
use Rattle.std.specs.List.{AllByRecursion, fold, reduce}
use Rattle.std.proofs.lemmas.Bool.{ltb-false}
use Rattle.ndc_node_lanes.specs.Levels.{LevelsValue, after_telling, telling_of, trim_level}
use Rattle.ndc_node_lanes.specs.declared.told_levels.Telling.{Telling}
use Rattle.ndc_node_lanes.specs.declared.told_levels.Telling.TheVariants.{Ahead, Noted, OtherEpoch}

set-rises : (told : List ℕ) (reader level i : ℕ) → slice_index told i ≤ slice_index (slice_set told reader (max (slice_index told reader) level)) i
set-rises [] reader level i = omega arith
set-rises (t ∷ told) zero level zero = omega arith
set-rises (t ∷ told) zero level (suc i) = omega arith
set-rises (t ∷ told) (suc reader) level zero = omega arith
set-rises (t ∷ told) (suc reader) level (suc i) = set-rises told reader level i

pub level_rises : (reader level i : ℕ) (telling : Telling) (levels : LevelsValue) → slice_index levels.told i ≤ slice_index (after_telling reader level telling levels).told i
level_rises reader level i Noted levels = set-rises levels.told reader level i
level_rises reader level i OtherEpoch levels = omega arith
level_rises reader level i Ahead levels = omega arith

set-within : (most : ℕ) (told : List ℕ) (reader level : ℕ) → level ≤ most → AllByRecursion (λ t. t ≤ most) told
    → AllByRecursion (λ t. t ≤ most) (slice_set told reader (max (slice_index told reader) level))
set-within most [] reader level l all = tt
set-within most (t ∷ told) zero level l all = (omega (arith, l, all.0), all.1)
set-within most (t ∷ told) (suc reader) level l all = (all.0, set-within most told reader level l all.1)

pub levels_within : (reader epoch level entries : ℕ) (levels : LevelsValue) → AllByRecursion (λ told. told ≤ entries) levels.told
    → AllByRecursion (λ told. told ≤ entries) (after_telling reader level (telling_of epoch level entries levels) levels).told
levels_within reader epoch level entries levels all = by (not (epoch == levels.epoch)) (nat_lt entries level) refl
  where
    by : (other ahead : Bool) → nat_lt entries level ≡ ahead
        → AllByRecursion (λ told. told ≤ entries) (after_telling reader level (if other then OtherEpoch else if ahead then Ahead else Noted) levels).told
    by true ahead e = all
    by false true e = all
    by false false e = set-within entries levels.told reader level (ltb-false entries level e) all

-- the least of numbers, one of which is the least of all before
fold-least : (x : ℕ) (xs : List ℕ) → (fold min x xs ≤ x) × AllByRecursion (λ t. fold min x xs ≤ t) xs
fold-least x [] = (omega arith, tt)
fold-least x (y ∷ ys) =
    let rest = fold-least (min x y) ys in
    (omega (arith, rest.0), (omega (arith, rest.0), rest.1))

pub trim_least : (levels : LevelsValue) → IfSome (trim_level levels) (λ least. AllByRecursion (λ told. least ≤ told) levels.told)
trim_least levels = by levels.told
  where
    by : (told : List ℕ) → IfSome (reduce min told) (λ least. AllByRecursion (λ t. least ≤ t) told)
    by [] = tt
    by (x ∷ xs) = fold-least x xs

-- a number that is at most each is at most the least
least-of : (low x : ℕ) (xs : List ℕ) → low ≤ x → AllByRecursion (λ t. low ≤ t) xs → low ≤ fold min x xs
least-of low x [] l all = l
least-of low x (y ∷ ys) l all = least-of low (min x y) ys (omega (arith, l, all.0)) all.1

set-above : (low : ℕ) (told : List ℕ) (reader level : ℕ) → AllByRecursion (λ t. low ≤ t) told → AllByRecursion (λ t. low ≤ t) (slice_set told reader (max (slice_index told reader) level))
set-above low [] reader level all = tt
set-above low (t ∷ told) zero level all = (omega (arith, all.0), all.1)
set-above low (t ∷ told) (suc reader) level all = (all.0, set-above low told reader level all.1)

above : (low reader level : ℕ) (telling : Telling) (levels : LevelsValue) → AllByRecursion (λ t. low ≤ t) levels.told → AllByRecursion (λ t. low ≤ t) (after_telling reader level telling levels).told
above low reader level Noted levels all = set-above low levels.told reader level all
above low reader level OtherEpoch levels all = all
above low reader level Ahead levels all = all

least-above : (low : ℕ) (told : List ℕ) → AllByRecursion (λ t. low ≤ t) told → IfSome (reduce min told) (λ later. low ≤ later)
least-above low [] all = tt
least-above low (x ∷ xs) all = least-of low x xs all.0 all.1

pub trim_rises : (reader level : ℕ) (telling : Telling) (levels : LevelsValue)
    → IfSome (trim_level levels) (λ least. IfSome (trim_level (after_telling reader level telling levels)) (λ later. least ≤ later))
trim_rises reader level telling levels = by (trim_level levels) (trim_least levels)
  where
    by : (least : Option ℕ) → IfSome least (λ low. AllByRecursion (λ told. low ≤ told) levels.told)
        → IfSome least (λ low. IfSome (trim_level (after_telling reader level telling levels)) (λ later. low ≤ later))
    by None all = tt
    by (Some low) all = least-above low (after_telling reader level telling levels).told (above low reader level telling levels all)
