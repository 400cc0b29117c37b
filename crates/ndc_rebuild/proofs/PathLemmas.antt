-- Paths of batches: their events, the steps that they take, and the last that is kept.
use Rattle.std.proofs.Common.{◌≡◌, ℕ, zero, suc, map, ◌+◌, ◌-◌, ◌<◌, ◌≤◌, ◌^◌, List, [], ◌∷◌, ◌++◌, true, length, take, drop, get_or, None, Some, Result, Ok, Err, refl, ap, sym, ◌∙◌, subst, append_assoc, arith, add-one, length-append, length-drop, All, Bool, false, if◌then◌else◌}
use Rattle.std.proofs.lemmas.List.{take-append-drop, take_more, get_or-drop, length-map}
use Rattle.std.proofs.Math.Seq.{drop-cons}
use Rattle.ndc_event.specs.declared.batch.Batch.{Batch}
use Rattle.ndc_event.specs.declared.batch.Event.{Event}
use Rattle.ndc_event.specs.declared.key.BatchKey.{BatchKey}
use Rattle.ndc_event.specs.declared.key.Origin.{Origin}
use Rattle.ndc_event.specs.declared.key.RunId.{RunId}
use Rattle.ndc_event.specs.Key.{key_eq}
use Rattle.indexmap.specs.IndexMap.{insert_entry}
use Rattle.ndc_event.specs.Outcome.{◌>>=◌}
use Rattle.ndc_state.specs.declared.rule.StateError.{StateError}
use Rattle.ndc_state.specs.Counted.{counted}
use Rattle.ndc_state.specs.Replay.{history_of, replay, replay_of, allowed_count, one_more, collected, collected_by, CountsWithin}
use Rattle.ndc_state.specs.Table.{applied}
use Rattle.ndc_state.specs.Value.{StateValue, new_state}
use Rattle.ndc_state.proofs.ReplayLemmas.{replay-append, run-replay}
use Rattle.ndc_state.proofs.LawProofs.{origins_collected}
use Rattle.ndc_rebuild.specs.Kept.{Kept, FitsPath, batches_behind, events_behind, reaches, with_kept, kept_at, last_kept, or_earlier, behind_kept, bare}
use Rattle.ndc_rebuild.specs.Found.{IsFoundAt}
use Rattle.ndc_rebuild.specs.Rebuilt.{HaveSmallIds}

-- the events of two lists of batches
pub history_of-append : (xs ys : List Batch) → history_of (xs ++ ys) ≡ history_of xs ++ history_of ys
history_of-append [] ys = refl
history_of-append (b ∷ xs) ys = ap (λ l. b.events ++ l) (history_of-append xs ys) ∙ sym (append_assoc b.events (history_of xs) (history_of ys))

-- the origins of two lists of events
pub collected-append : (run : RunId) (origins : List Origin) (xs ys : List Event) → collected run origins (xs ++ ys) ≡ collected run (collected run origins xs) ys
collected-append run origins [] ys = refl
collected-append run origins (e ∷ xs) ys = collected-append run (collected_by run e.id e.version e.kind origins) xs ys

-- two counts, one after the other
pub counted-twice : (n a b : ℕ) → counted (counted n a) b ≡ counted n (a + b)
counted-twice n a b = omega arith

-- no more events are applied than there are
pub allowed_count-le : (s : StateValue) (es : List Event) → allowed_count s es ≤ length es
allowed_count-le s [] = omega arith
allowed_count-le s (e ∷ es) = by (applied s e) (λ t. allowed_count-le t es)
  where
    by : (r : Result StateValue StateError) → ((t : StateValue) → allowed_count t es ≤ length es) → one_more (λ t. allowed_count t es) r ≤ length (e ∷ es)
    by (Ok t) h = omega (arith, h t)
    by (Err x) h = omega arith

-- after events that replay, the others are counted from the state after them
pub allowed_count-Ok : (s t : StateValue) (xs ys : List Event) → replay s xs ≡ Ok t → allowed_count s (xs ++ ys) ≡ length xs + allowed_count t ys
allowed_count-Ok s t [] ys h = let same : s ≡ t = cc in rw same (omega arith)
allowed_count-Ok s t (e ∷ xs) ys h = by (applied s e) (λ n. allowed_count-Ok n t xs ys) h
  where
    by : (r : Result StateValue StateError) → ((n : StateValue) → replay n xs ≡ Ok t → allowed_count n (xs ++ ys) ≡ length xs + allowed_count t ys)
        → (r >>= (λ n. replay n xs)) ≡ Ok t → one_more (λ n. allowed_count n (xs ++ ys)) r ≡ length (e ∷ xs) + allowed_count t ys
    by (Ok n) rest h = omega (arith, rest n h)
    by (Err x) rest h = absurd (cc)

-- the events before the first that is forbidden are among those of the whole
pub allowed_count-front : (s : StateValue) (xs ys : List Event) → allowed_count s xs ≤ allowed_count s (xs ++ ys)
allowed_count-front s [] ys = omega arith
allowed_count-front s (e ∷ xs) ys = by (applied s e) (λ t. allowed_count-front t xs ys)
  where
    by : (r : Result StateValue StateError) → ((t : StateValue) → allowed_count t xs ≤ allowed_count t (xs ++ ys)) → one_more (λ t. allowed_count t xs) r ≤ one_more (λ t. allowed_count t (xs ++ ys)) r
    by (Ok t) h = omega (arith, h t)
    by (Err x) h = omega arith

-- the events of the batches from a place on
pub history_of-drop : (xs : List Batch) (i : ℕ) (x : Batch) → i < length xs → x ≡ get_or xs i x → history_of (drop i xs) ≡ x.events ++ history_of (drop (i + 1) xs)
history_of-drop xs i x lt at = rw (drop-cons xs i x lt, ← at, add-one i) refl

-- batches that are lent, as the batches
module _ {R : Type 0} (f : R → Batch) where
  pub lent-at : (xs : List R) (i : ℕ) (x : R) → x ≡ get_or xs i x → f x ≡ get_or (map f xs) i (f x)
  lent-at [] i x at = refl
  lent-at (y ∷ ys) zero x at = ap f at
  lent-at (y ∷ ys) (suc i) x at = lent-at ys i x at

  pub lent-drop : (xs : List R) (i : ℕ) (x : R) → i < length xs → x ≡ get_or xs i x → history_of (drop i (map f xs)) ≡ (f x).events ++ history_of (drop (i + 1) (map f xs))
  lent-drop xs i x lt at = history_of-drop (map f xs) i (f x) (omega (arith, lt, length-map xs f)) (lent-at xs i x at)

  pub lent-ids : (xs : List R) (i : ℕ) (x : R) → HaveSmallIds (map f xs) → i < length xs → x ≡ get_or xs i x → All (λ event. event.id ≤ 10 ^ 12) (f x).events
  lent-ids xs i x ids lt at =
      subst (λ (b : Batch). All (λ event. event.id ≤ 10 ^ 12) b.events) (sym (lent-at xs i x at)) (ids i (f x) (omega (arith, lt, length-map xs f)))

  -- where the batch before a place is not kept, and none from it on, none from the batch on is
  pub lent-none : (states : List (BatchKey × StateValue)) (xs : List R) (count : ℕ) (x : R) → 0 < count → count ≤ length xs → x ≡ get_or xs (count - 1) x
      → kept_at (f x).key states ≡ None → last_kept states (drop count (map f xs)) ≡ None → last_kept states (drop (count - 1) (map f xs)) ≡ None
  lent-none states xs count x some within at here none =
      let ys = map f xs in
      let one : suc (count - 1) ≡ count = omega (arith, some) in
      let cut : drop (count - 1) ys ≡ f x ∷ drop count ys =
      drop-cons ys (count - 1) (f x) (omega (arith, some, within, length-map xs f)) ∙ ap (λ b. b ∷ drop (suc (count - 1)) ys) (sym (lent-at xs (count - 1) x at))
      ∙ ap (λ n. f x ∷ drop n ys) one in
      ap (last_kept states) cut ∙ ap (λ o. or_earlier o (behind_kept (drop count ys) (kept_at (f x).key states))) none ∙ ap (behind_kept (drop count ys)) here

-- how far a replay has come: the steps done, and how many events and allowed events there are in all
pub record Counts (before now : ℕ) (s : StateValue) (rest : List Event) (total most : ℕ) : Type 0 where
  pub done : ℕ
  pub steps : now ≡ counted before done
  pub all : done + length rest ≡ total
  pub allowed : done + allowed_count s rest ≡ most

pub Counts-start : (before : ℕ) (s : StateValue) (rest : List Event) → Counts before before s rest (length rest) (allowed_count s rest)
Counts-start before s rest = record { done = 0; steps = omega arith; all = omega arith; allowed = omega arith }

-- a batch more, applied whole
pub Counts-batch : (before now after total most : ℕ) (s t : StateValue) (xs ys : List Event) → replay s xs ≡ Ok t → after ≡ counted now (length xs)
    → Counts before now s (xs ++ ys) total most → Counts before after t ys total most
Counts-batch before now after total most s t xs ys h e c = record {
  done = c.done + length xs;
  steps = e ∙ ap (λ n. counted n (length xs)) c.steps ∙ counted-twice before c.done (length xs);
  all = omega (arith, c.all, length-append xs ys);
  allowed = omega (arith, c.allowed, allowed_count-Ok s t xs ys h);
}

-- a batch that is refused
pub Counts-refused : (before now after total most : ℕ) (s : StateValue) (xs ys : List Event) → CountsWithin now (allowed_count s xs) after
    → Counts before now s (xs ++ ys) total most → CountsWithin before most after
Counts-refused before now after total most s xs ys w c =
    (c.done + w.0, omega (arith, w.1, c.allowed, allowed_count-front s xs ys), w.2 ∙ ap (λ n. counted n w.0) c.steps ∙ counted-twice before c.done w.0)

-- an error of the first events is that of the whole
pub replay-refused : (s : StateValue) (xs ys : List Event) (e : StateError) → replay s xs ≡ Err e → replay s (xs ++ ys) ≡ Err e
replay-refused s xs ys e h = replay-append s xs ys ∙ ap (λ r. r >>= (λ t. replay t ys)) h

-- the events left, after a batch that is applied
pub replay-applied : (s t : StateValue) (xs ys : List Event) → replay s xs ≡ Ok t → replay t ys ≡ replay s (xs ++ ys)
replay-applied s t xs ys h = sym (replay-append s xs ys ∙ ap (λ r. r >>= (λ u. replay u ys)) h)

-- the last that is kept of a back is that of the whole
last_kept-back : (states : List (BatchKey × StateValue)) (front back : List Batch) (found : StateValue × List Batch)
    → last_kept states back ≡ Some found → last_kept states (front ++ back) ≡ Some found
last_kept-back states [] back found h = h
last_kept-back states (b ∷ front) back found h =
    ap (λ o. or_earlier o (behind_kept (front ++ back) (kept_at b.key states))) (last_kept-back states front back found h)

-- the batch at a place is kept, and none after it
pub last_kept-at : (states : List (BatchKey × StateValue)) (path : List Batch) (i : ℕ) (x : Batch) (kept : StateValue) → i < length path → x ≡ get_or path i x
    → kept_at x.key states ≡ Some kept → last_kept states (drop (i + 1) path) ≡ None → last_kept states path ≡ Some (kept, drop (i + 1) path)
last_kept-at states path i x kept lt at here none =
    subst (λ p. last_kept states p ≡ Some (kept, drop (i + 1) path)) (take-append-drop i path)
    (last_kept-back states (take i path) (drop i path) (kept, drop (i + 1) path)
    (ap (last_kept states) (drop_here path i x lt at)
    ∙ ap (λ o. or_earlier o (behind_kept (drop (i + 1) path) (kept_at x.key states))) none ∙ ap (behind_kept (drop (i + 1) path)) here))
  where
    drop_here : (xs : List Batch) (i : ℕ) (x : Batch) → i < length xs → x ≡ get_or xs i x → drop i xs ≡ x ∷ drop (i + 1) xs
    drop_here xs i x lt at = rw (drop-cons xs i x lt, ← at, add-one i) refl

-- the last batch that is kept stands at a place
pub IsFoundAt-place : (states : List (BatchKey × StateValue)) (path : List Batch) (count : ℕ) (x : Batch) (kept : StateValue) → 0 < count → count ≤ length path
    → x ≡ get_or path (count - 1) x → kept_at x.key states ≡ Some kept → last_kept states (drop count path) ≡ None → IsFoundAt states path count kept
IsFoundAt-place states path count x kept some within at here none =
    let one : count - 1 + 1 ≡ count = omega arith in
    let lt : count - 1 < length path = omega arith in
    record {
      within = within;
      found =
          subst (λ n. last_kept states path ≡ Some (kept, drop n path)) one
          (last_kept-at states path (count - 1) x kept lt at here (subst (λ n. last_kept states (drop n path) ≡ None) (sym one) none));
      front = take (count - 1) path;
      batch = x;
      up_to = subst (λ n. take n path ≡ take (count - 1) path ++ x ∷ []) one (take_more path (count - 1) x lt ∙ ap (λ b. take (count - 1) path ++ b ∷ []) (sym at));
      at = here;
    }

-- a kept state with the origins of its events is the state
pub kept-filled : (run : RunId) (events : List Event) (kept : StateValue) (s : StateValue) → replay_of run events ≡ Ok s → kept ≡ bare s
    → (record kept { origins = collected kept.run kept.origins events }) ≡ s
kept-filled run events kept s h e =
    rw (e, run-replay (new_state run) s events h, ← origins_collected run events s h) refl

-- what is kept of a state that reaches a multiple
pub with_kept-reached : (tip : BatchKey) (events : ℕ) (s : StateValue) (states : List (BatchKey × StateValue)) → reaches events s.next ≡ true
    → insert_entry key_eq states tip (bare s) ≡ with_kept tip events s states
with_kept-reached tip events s states h = rw h refl

-- one batch more of origins
pub refilled-batch : (state copy next : StateValue) (xs rest : List Event) (all : List Origin) → next ≡ record copy { origins = collected copy.run copy.origins xs }
    → copy ≡ record state { origins = copy.origins } → collected copy.run copy.origins (xs ++ rest) ≡ all
    → (collected next.run next.origins rest ≡ all) × (next ≡ record state { origins = next.origins })
refilled-batch state copy next xs rest all h same e = (
  ap (λ (n : StateValue). collected n.run n.origins rest) h ∙ sym (collected-append copy.run copy.origins xs rest) ∙ e,
  h ∙ ap (λ (c : StateValue). record c { origins = collected copy.run copy.origins xs }) same ∙ sym (ap (λ (n : StateValue). record state { origins = n.origins }) h),
)

-- batches from a place on have small ids where all have
pub HaveSmallIds-drop : (path : List Batch) (n : ℕ) → HaveSmallIds path → HaveSmallIds (drop n path)
HaveSmallIds-drop path n h k d lt =
    let within : n + k < length path = omega (arith, length-drop n path) in
    subst (λ (b : Batch). All (λ event. event.id ≤ 10 ^ 12) b.events) (sym (get_or-drop n path k d)) (h (n + k) d within)

-- a bound on steps may be raised
pub CountsWithin-le : (before low high now : ℕ) → low ≤ high → CountsWithin before low now → CountsWithin before high now
CountsWithin-le before low high now le w = (w.0, omega (arith, w.1), w.2)

-- where nothing is kept, all events come after it
pub events_behind-none : (states : List (BatchKey × StateValue)) (path : List Batch) → last_kept states path ≡ None → events_behind states path ≡ history_of path
events_behind-none states path h = ap (λ o. history_of (batches_behind path o)) h

module _ (k : Kept) (path : List Batch) (count : ℕ) (kept : StateValue) (fits : FitsPath k path) (f : IsFoundAt k.states path count kept) where
  -- the events after the last that is kept are those of the batches from its place on
  pub events_behind-found : events_behind k.states path ≡ history_of (drop count path)
  events_behind-found = ap (λ o. history_of (batches_behind path o)) f.found

  split : path ≡ f.front ++ f.batch ∷ drop count path
  split = sym (take-append-drop count path) ∙ ap (λ l. l ++ drop count path) f.up_to ∙ append_assoc f.front (f.batch ∷ []) (drop count path)

  -- what is kept, with its origins, is the state of the batches before the place
  pub replay-filled : (filled : StateValue) → filled ≡ record kept { origins = collected kept.run kept.origins (history_of (take count path)) }
      → replay_of k.run (history_of (take count path)) ≡ Ok filled
  replay-filled filled e =
      let s = fits f.front (drop count path) f.batch kept split f.at in
      let h : replay_of k.run (history_of (take count path)) ≡ Ok s.0 = ap (λ (l : List Batch). replay_of k.run (history_of l)) f.up_to ∙ s.1 in
      h ∙ ap (λ (t : StateValue). Ok t) (sym (e ∙ kept-filled k.run (history_of (take count path)) kept s.0 h s.2))

  -- so replay of the path goes on from it
  pub replay-behind : (filled : StateValue) → filled ≡ record kept { origins = collected kept.run kept.origins (history_of (take count path)) }
      → replay_of k.run (history_of path) ≡ replay filled (history_of (drop count path))
  replay-behind filled e =
      ap (λ (l : List Batch). replay_of k.run (history_of l)) (sym (take-append-drop count path))
      ∙ ap (replay_of k.run) (history_of-append (take count path) (drop count path))
      ∙ sym (replay-applied (new_state k.run) filled (history_of (take count path)) (history_of (drop count path)) (replay-filled filled e))

  -- the same, where the two parts of the path are given
  pub replay-parts : (front behind : List Batch) (filled : StateValue) → front ≡ take count path → behind ≡ drop count path
      → filled ≡ record kept { origins = collected kept.run kept.origins (history_of front) } → replay_of k.run (history_of path) ≡ replay filled (history_of behind)
  replay-parts front behind filled a b e =
      replay-behind filled (e ∙ ap (λ (l : List Batch). record kept { origins = collected kept.run kept.origins (history_of l) }) a)
      ∙ ap (λ (l : List Batch). replay filled (history_of l)) (sym b)

  -- and no more steps are taken than there are events after the last that is kept
  pub steps-parts : (before now : ℕ) (behind : List Batch) (filled : StateValue) → behind ≡ drop count path
      → CountsWithin before (allowed_count filled (history_of behind)) now → CountsWithin before (length (events_behind k.states path)) now
  steps-parts before now behind filled b w =
      subst (λ (es : List Event). CountsWithin before (length es) now) (ap history_of b ∙ sym events_behind-found)
      (CountsWithin-le before (allowed_count filled (history_of behind)) (length (history_of behind)) now (allowed_count-le filled (history_of behind)) w)

-- a path of one batch whose state was handed to be kept
pub FitsPath-one : (run : RunId) (b : Batch) (events : ℕ) (s : StateValue) → replay_of run (history_of (b ∷ [])) ≡ Ok s
    → FitsPath (record { run = run; states = with_kept b.key events s [] }) (b ∷ [])
FitsPath-one run b events s h [] back batch kept e at =
    let same : b ≡ batch = cc in
    (s, subst (λ (x : Batch). replay_of run (history_of (x ∷ [])) ≡ Ok s) same h, value (reaches events s.next) at)
  where
    one : (c : Bool) → (if c then Some (bare s) else None) ≡ Some kept → kept ≡ bare s
    one true k = cc
    one false k = absurd (cc)

    value : (r : Bool) → kept_at batch.key (if r then (b.key, bare s) ∷ [] else []) ≡ Some kept → kept ≡ bare s
    value true k = one (key_eq batch.key b.key) k
    value false k = absurd (cc)
FitsPath-one run b events s h (f ∷ []) back batch kept e at = absurd (cc)
FitsPath-one run b events s h (f ∷ g ∷ front) back batch kept e at = absurd (cc)

-- the same, of what is kept and of a path that are these
pub FitsPath-this : (k : Kept) (path : List Batch) (run : RunId) (b : Batch) (events : ℕ) (s : StateValue) → path ≡ b ∷ [] → k.run ≡ run → k.states ≡ with_kept b.key events s []
    → replay_of run (history_of (b ∷ [])) ≡ Ok s → FitsPath k path
FitsPath-this k path run b events s path_is run_is states_are h front back batch kept e at =
    let f = FitsPath-one run b events s h front back batch kept (sym path_is ∙ e) (ap (kept_at batch.key) (sym states_are) ∙ at) in
    (f.0, ap (λ (r : RunId). replay_of r (history_of (front ++ batch ∷ []))) run_is ∙ f.1, f.2)
