-- Where a lane is done, and what it holds.
use Rattle.std.proofs.Common.{◌≡◌, ℕ, ◌+◌, ◌<◌, ◌≤◌, max, Bool, true, false, not, nat_le, nat_lt, List, [], ◌∷◌, ◌++◌, length, Result, Ok, Err, refl, ap, subst, arith}
use Rattle.std.specs.Prelude.{if◌then◌else◌, Contains}
use Rattle.std.specs.List.{AllByRecursion, filter}
use Rattle.std.proofs.lemmas.Bool.{le-leb, ltb-false}
use Rattle.std.proofs.lemmas.List.Elements.{Contains-append_left, Contains-append_right}
use Rattle.ndc_event.specs.declared.key.BatchKey.{BatchKey}
use Rattle.ndc_event.specs.declared.name.Name.{Name}
use Rattle.ndc_node_lanes.specs.Told.{are_in_turn, is_for}
use Rattle.ndc_node_lanes.specs.Lane.{IsLane, LaneValue, done_of, first_place, fresh, heard, rewound, with_fresh, with_learned}
use Rattle.ndc_node_lanes.specs.declared.read_lane.HearError.{HearError}
use Rattle.ndc_node_lanes.specs.declared.read_lane.HearError.TheVariants.{Full, Hole, OutOfTurn}
use Rattle.ndc_node_lanes.specs.declared.told.Told.{Told}
use Rattle.ndc_node_lanes.proofs.KeptLemmas.{each-at, kept}
use Rattle.ndc_node_lanes.proofs.LaneLemmas.{Turn, turn-parts, turn-some, turn-fresh, lane-heard, lane-learned}

-- a lane that hears: the entries are in turn, there is room for the fresh ones, and they are held
pub record Hears (from next : ℕ) (entries : List Told) (lane after : LaneValue) : Type 0 where
  pub turn : are_in_turn from next entries ≡ true
  pub room : length lane.held + length (fresh lane.read entries) ≤ lane.most
  pub is : record lane { read = max lane.read next; held = lane.held ++ fresh lane.read entries } ≡ after

-- where a chain of refusals comes to an answer, the first does not hold
passed : (t : Bool) (error : HearError) (rest : Result LaneValue HearError) (after : LaneValue) → (if t then Err error else rest) ≡ Ok after → (t ≡ false) × (rest ≡ Ok after)
passed true error rest after e = absurd (cc)
passed false error rest after e = (refl, e)

not-false : (t : Bool) → not t ≡ false → t ≡ true
not-false true e = refl
not-false false e = absurd (cc)

pub hears : (from next : ℕ) (entries : List Told) (lane after : LaneValue) → heard from next entries lane ≡ Ok after → Hears from next entries lane after
unfolding heard
hears from next entries lane after e =
    let one = passed (nat_lt lane.read from) Hole (if not (are_in_turn from next entries) then Err OutOfTurn else with_fresh next (fresh lane.read entries) lane) after e in
    let two = passed (not (are_in_turn from next entries)) OutOfTurn (with_fresh next (fresh lane.read entries) lane) after one.1 in
    let three = passed (nat_lt lane.most (length lane.held + length (fresh lane.read entries))) Full (Ok (record lane { read = max lane.read next; held = lane.held ++ fresh lane.read entries })) after two.1 in
    record {
      turn = not-false (are_in_turn from next entries) two.0;
      room = ltb-false lane.most (length lane.held + length (fresh lane.read entries)) three.0;
      is = cc;
    }

-- a lane that heard is one
pub heard_lane : (from next : ℕ) (entries : List Told) (lane after : LaneValue) → IsLane lane → heard from next entries lane ≡ Ok after → IsLane after
heard_lane from next entries lane after is e =
    let h = hears from next entries lane after e in subst IsLane h.is (lane-heard from next entries lane is h.turn h.room)

-- entries in turn are not below where they begin
each-from : (low from next : ℕ) (entries : List Told) → low ≤ from → are_in_turn from next entries ≡ true → AllByRecursion (λ entry. low ≤ entry.place) entries
each-from low from next [] l t = tt
each-from low from next (entry ∷ entries) l t =
    let p = turn-parts from next entry entries t in
    (omega (arith, l, p.least), each-from low (entry.place + 1) next entries (omega (arith, l, p.least)) p.rest)

first-least : (from next : ℕ) (entries : List Told) → are_in_turn from next entries ≡ true → AllByRecursion (λ entry. first_place next entries ≤ entry.place) entries
first-least from next [] t = tt
first-least from next (entry ∷ entries) t =
    (omega arith, each-from entry.place (entry.place + 1) next entries (omega arith) (turn-parts from next entry entries t).rest)

-- done is at most each place that is held
pub done_least : (lane : LaneValue) → IsLane lane → AllByRecursion (λ entry. done_of lane ≤ entry.place) lane.held
done_least lane is = first-least 0 lane.read lane.held is.turn

first-most : (from next : ℕ) (entries : List Told) → are_in_turn from next entries ≡ true → first_place next entries ≤ next
first-most from next [] t = omega arith
first-most from next (entry ∷ entries) t = omega (arith, (turn-parts from next entry entries t).below)

pub done_most : (lane : LaneValue) → IsLane lane → done_of lane ≤ lane.read
done_most lane is = first-most 0 lane.read lane.held is.turn

-- entries in turn begin at or above where they may
first-from : (low from next otherwise : ℕ) (entries : List Told) → low ≤ from → low ≤ otherwise → are_in_turn from next entries ≡ true → low ≤ first_place otherwise entries
first-from low from next otherwise [] l o t = o
first-from low from next otherwise (entry ∷ entries) l o t = omega (arith, l, (turn-parts from next entry entries t).least)

first-joined : (read next : ℕ) (held more : List Told) → are_in_turn read next more ≡ true → first_place read held ≤ first_place (max read next) (held ++ more)
first-joined read next [] more t = first-from read read next (max read next) more (omega arith) (omega arith) t
first-joined read next (entry ∷ held) more t = omega arith

pub done_heard : (from next : ℕ) (entries : List Told) (lane after : LaneValue) → heard from next entries lane ≡ Ok after → done_of lane ≤ done_of after
done_heard from next entries lane after e =
    let h = hears from next entries lane after e in
    subst (λ (l : LaneValue). done_of lane ≤ done_of l) h.is (first-joined lane.read next lane.held (fresh lane.read entries) (turn-fresh lane.read from next entries h.turn))

first-kept : (test : Told → Bool) (from next : ℕ) (entries : List Told) → are_in_turn from next entries ≡ true → first_place next entries ≤ first_place next (filter test entries)
first-kept test from next [] t = omega arith
first-kept test from next (entry ∷ entries) t = by (test entry)
  where
    p : Turn from next entry entries
    p = turn-parts from next entry entries t

    by : (b : Bool) → entry.place ≤ first_place next (if b then entry ∷ filter test entries else filter test entries)
    by true = omega arith
    by false = first-from entry.place (entry.place + 1) next next (filter test entries) (omega arith) (omega (arith, p.below)) (turn-some test (entry.place + 1) next entries p.rest)

pub done_learned : (domain workflow : Name) (key : BatchKey) (lane : LaneValue) → IsLane lane → done_of lane ≤ done_of (with_learned domain workflow key lane)
done_learned domain workflow key lane is = first-kept (λ entry. not (is_for domain workflow key entry)) 0 lane.read lane.held is.turn

pub done_rewound : (lane : LaneValue) → done_of (rewound lane) ≡ done_of lane
done_rewound lane = refl

-- what is held stays held where more is heard
pub held_heard : (from next : ℕ) (entries : List Told) (lane after : LaneValue) (entry : Told) → heard from next entries lane ≡ Ok after → Contains lane.held entry → Contains after.held entry
held_heard from next entries lane after entry e has =
    let h = hears from next entries lane after e in
    subst (λ (l : LaneValue). Contains l.held entry) h.is (Contains-append_left lane.held (fresh lane.read entries) entry has)

-- what is told for the first time is held
pub told_heard : (from next : ℕ) (entries : List Told) (lane after : LaneValue) (entry : Told) → heard from next entries lane ≡ Ok after → Contains entries entry → lane.read ≤ entry.place
    → Contains after.held entry
told_heard from next entries lane after entry e has l =
    let h = hears from next entries lane after e in
    subst (λ (l : LaneValue). Contains l.held entry) h.is
    (Contains-append_right lane.held (fresh lane.read entries) entry (kept (λ entry. nat_le lane.read entry.place) entries entry has (le-leb lane.read entry.place l)))

-- what another batch brings stays held where one is learned
pub held_learned : (domain workflow : Name) (key : BatchKey) (lane : LaneValue) (entry : Told) → Contains lane.held entry → is_for domain workflow key entry ≡ false
    → Contains (with_learned domain workflow key lane).held entry
held_learned domain workflow key lane entry has other = kept (λ entry. not (is_for domain workflow key entry)) lane.held entry has (ap not other)

-- done does not pass what is held where more is heard
pub passes_held : (from next : ℕ) (entries : List Told) (lane after : LaneValue) (entry : Told) → IsLane lane → heard from next entries lane ≡ Ok after → Contains after.held entry
    → done_of after ≤ entry.place
passes_held from next entries lane after entry is e has =
    each-at (λ entry. done_of after ≤ entry.place) after.held entry (done_least after (heard_lane from next entries lane after is e)) has

pub passes_none_held : (from next : ℕ) (entries : List Told) (lane after : LaneValue) (entry : Told) → IsLane lane → heard from next entries lane ≡ Ok after → Contains lane.held entry
    → done_of after ≤ entry.place
passes_none_held from next entries lane after entry is e has = passes_held from next entries lane after entry is e (held_heard from next entries lane after entry e has)

pub passes_none_told : (from next : ℕ) (entries : List Told) (lane after : LaneValue) (entry : Told) → IsLane lane → heard from next entries lane ≡ Ok after → Contains entries entry
    → lane.read ≤ entry.place → done_of after ≤ entry.place
passes_none_told from next entries lane after entry is e has l = passes_held from next entries lane after entry is e (told_heard from next entries lane after entry e has l)

-- what is passed where a batch is learned brings it
pub passes_learned : (domain workflow : Name) (key : BatchKey) (lane : LaneValue) (entry : Told) → IsLane lane → Contains lane.held entry
    → entry.place < done_of (with_learned domain workflow key lane) → is_for domain workflow key entry ≡ true
passes_learned domain workflow key lane entry is has l = by (is_for domain workflow key entry) refl
  where
    by : (b : Bool) → is_for domain workflow key entry ≡ b → b ≡ true
    by true e = refl
    by false e =
        let at : done_of (with_learned domain workflow key lane) ≤ entry.place =
        each-at (λ entry. done_of (with_learned domain workflow key lane) ≤ entry.place) (with_learned domain workflow key lane).held entry
        (done_least (with_learned domain workflow key lane) (lane-learned domain workflow key lane is)) (held_learned domain workflow key lane entry has e) in
        absurd (omega (arith, l, at))
