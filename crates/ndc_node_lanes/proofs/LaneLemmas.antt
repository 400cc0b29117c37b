-- A lane stays one: what is held is in turn, was told, and has room.
use Rattle.std.proofs.Common.{◌≡◌, ℕ, ◌+◌, ◌<◌, ◌≤◌, max, Bool, true, false, ◌&&◌, not, nat_le, nat_lt, List, [], ◌∷◌, ◌++◌, length, refl, arith, length-append}
use Rattle.std.specs.Prelude.{if◌then◌else◌}
use Rattle.std.specs.List.{filter}
use Rattle.std.proofs.lemmas.Bool.{and_parts, and_from, leb-true, le-leb, ltb-true, lt-ltb}
use Rattle.ndc_event.specs.declared.key.BatchKey.{BatchKey}
use Rattle.ndc_event.specs.declared.name.Name.{Name}
use Rattle.ndc_node_lanes.specs.Told.{are_in_turn, is_for}
use Rattle.ndc_node_lanes.specs.Lane.{IsLane, LaneValue, fresh, with_learned}
use Rattle.ndc_node_lanes.specs.declared.told.Told.{Told}

-- the first of entries in turn: its place, and that of the rest
pub record Turn (from next : ℕ) (entry : Told) (entries : List Told) : Type 0 where
  pub least : from ≤ entry.place
  pub below : entry.place < next
  pub rest : are_in_turn (entry.place + 1) next entries ≡ true

pub turn-parts : (from next : ℕ) (entry : Told) (entries : List Told) → are_in_turn from next (entry ∷ entries) ≡ true → Turn from next entry entries
turn-parts from next entry entries t =
    let all = and_parts (nat_le from entry.place && nat_lt entry.place next) (are_in_turn (entry.place + 1) next entries) t in
    let front = and_parts (nat_le from entry.place) (nat_lt entry.place next) all.0 in
    record { least = leb-true from entry.place front.0; below = ltb-true entry.place next front.1; rest = all.1 }

pub turn-from : (from next : ℕ) (entry : Told) (entries : List Told) → Turn from next entry entries → are_in_turn from next (entry ∷ entries) ≡ true
turn-from from next entry entries t =
    and_from (nat_le from entry.place && nat_lt entry.place next) (are_in_turn (entry.place + 1) next entries)
    (and_from (nat_le from entry.place) (nat_lt entry.place next) (le-leb from entry.place t.least) (lt-ltb entry.place next t.below)) t.rest

-- entries in turn are so from a lower number on, and up to a higher one
pub turn-lower : (lower from next : ℕ) (entries : List Told) → lower ≤ from → are_in_turn from next entries ≡ true → are_in_turn lower next entries ≡ true
turn-lower lower from next [] l t = refl
turn-lower lower from next (entry ∷ entries) l t =
    let p = turn-parts from next entry entries t in
    turn-from lower next entry entries (record { least = omega (arith, l, p.least); below = p.below; rest = p.rest })

pub turn-higher : (from next higher : ℕ) (entries : List Told) → next ≤ higher → are_in_turn from next entries ≡ true → are_in_turn from higher entries ≡ true
turn-higher from next higher [] l t = refl
turn-higher from next higher (entry ∷ entries) l t =
    let p = turn-parts from next entry entries t in
    turn-from from higher entry entries (record { least = p.least; below = omega (arith, l, p.below); rest = turn-higher (entry.place + 1) next higher entries l p.rest })

-- some of entries in turn are in turn
pub turn-some : (test : Told → Bool) (from next : ℕ) (entries : List Told) → are_in_turn from next entries ≡ true → are_in_turn from next (filter test entries) ≡ true
turn-some test from next [] t = refl
turn-some test from next (entry ∷ entries) t = by (test entry) (turn-some test (entry.place + 1) next entries (turn-parts from next entry entries t).rest)
  where
    p : Turn from next entry entries
    p = turn-parts from next entry entries t

    by : (b : Bool) → are_in_turn (entry.place + 1) next (filter test entries) ≡ true
        → are_in_turn from next (if b then entry ∷ filter test entries else filter test entries) ≡ true
    by true later = turn-from from next entry (filter test entries) (record { least = p.least; below = p.below; rest = later })
    by false later = turn-lower from (entry.place + 1) next (filter test entries) (omega (arith, p.least)) later

-- those that were not told before are in turn from there on
pub turn-fresh : (read from next : ℕ) (entries : List Told) → are_in_turn from next entries ≡ true → are_in_turn read next (fresh read entries) ≡ true
turn-fresh read from next [] t = refl
turn-fresh read from next (entry ∷ entries) t = by (nat_le read entry.place) refl (turn-fresh read (entry.place + 1) next entries (turn-parts from next entry entries t).rest)
  where
    p : Turn from next entry entries
    p = turn-parts from next entry entries t

    by : (b : Bool) → nat_le read entry.place ≡ b → are_in_turn read next (fresh read entries) ≡ true
        → are_in_turn read next (if b then entry ∷ fresh read entries else fresh read entries) ≡ true
    by true e later = turn-from read next entry (fresh read entries) (record {
      least = leb-true read entry.place e;
      below = p.below;
      rest = turn-some (λ entry. nat_le read entry.place) (entry.place + 1) next entries p.rest;
    })
    by false e later = later

-- entries up to a number, and then others from there on
pub turn-join : (from middle next : ℕ) (one two : List Told) → from ≤ middle → middle ≤ next → are_in_turn from middle one ≡ true → are_in_turn middle next two ≡ true
    → are_in_turn from next (one ++ two) ≡ true
turn-join from middle next [] two l m t u = turn-lower from middle next two l u
turn-join from middle next (entry ∷ one) two l m t u =
    let p = turn-parts from middle entry one t in
    turn-from from next entry (one ++ two) (record {
      least = p.least;
      below = omega (arith, m, p.below);
      rest = turn-join (entry.place + 1) middle next one two (omega (arith, p.below)) m p.rest u;
    })

pub fewer : {X : Type 0} → (test : X → Bool) (xs : List X) → length (filter test xs) ≤ length xs
fewer test [] = omega arith
fewer test (x ∷ xs) = by (test x) (fewer test xs)
  where
    by : (b : Bool) → length (filter test xs) ≤ length xs → length (if b then x ∷ filter test xs else filter test xs) ≤ length (x ∷ xs)
    by true less = omega (arith, less)
    by false less = omega (arith, less)

-- a lane that heard
pub lane-heard : (from next : ℕ) (entries : List Told) (lane : LaneValue) → IsLane lane → are_in_turn from next entries ≡ true
    → length lane.held + length (fresh lane.read entries) ≤ lane.most
    → IsLane (record lane { read = max lane.read next; held = lane.held ++ fresh lane.read entries })
lane-heard from next entries lane is t room = record {
  turn = turn-join 0 lane.read (max lane.read next) lane.held (fresh lane.read entries) (omega arith) (omega arith) is.turn
      (turn-higher lane.read next (max lane.read next) (fresh lane.read entries) (omega arith) (turn-fresh lane.read from next entries t));
  few = omega (arith, room, length-append lane.held (fresh lane.read entries));
}

pub lane-learned : (domain workflow : Name) (key : BatchKey) (lane : LaneValue) → IsLane lane → IsLane (with_learned domain workflow key lane)
lane-learned domain workflow key lane is = record {
  turn = turn-some (λ entry. not (is_for domain workflow key entry)) 0 lane.read lane.held is.turn;
  few = omega (arith, fewer (λ entry. not (is_for domain workflow key entry)) lane.held, is.few);
}
