-- The events of a path: ids from 1 on, versions that do not fall.
use Rattle.std.proofs.Common.{◌≡◌, ℕ, ◌+◌, ◌≤◌, Bool, true, false, not, ◌==◌, nat_lt, List, [], ◌∷◌, ◌++◌, Option, Some, refl, sym, ◌∙◌, subst, ap, arith}
use Rattle.std.proofs.lemmas.Bool.{and_parts, and_from, ltb-false, eqb-true, eq-eqb}
use Rattle.std.proofs.lemmas.List.{append-nil, append_assoc}
use Rattle.ndc_event.specs.declared.batch.Batch.{Batch}
use Rattle.ndc_event.specs.declared.batch.Event.{Event}
use Rattle.ndc_event.specs.declared.key.BatchKey.{BatchKey}
use Rattle.ndc_event.specs.Batch.{follow_from, are_of_version, is_first_fit, is_parent_fit}
use Rattle.ndc_state.specs.Replay.{history_of}
use Rattle.ndc_model_sets.specs.Paths.{IsPath, first, below, first_id, last_id, last_event, last_from}
use Rattle.ndc_model_sets.specs.Sound.{IsParentFit, ParentsFit, AreFaultless}
use Rattle.ndc_model_sets.proofs.SetLemmas.{found-key}
use Rattle.ndc_model_sets.proofs.FaultLemmas.{Passes, passes}

pub history-append : (front rest : List Batch) → history_of (front ++ rest) ≡ history_of front ++ history_of rest
history-append [] rest = refl
history-append (b ∷ front) rest = ap (λ l. b.events ++ l) (history-append front rest) ∙ sym (append_assoc b.events (history_of front) (history_of rest))

pub history-push : (front : List Batch) (b : Batch) → history_of (front ++ b ∷ []) ≡ history_of front ++ b.events
history-push front b = history-append front (b ∷ []) ∙ ap (λ l. history_of front ++ l) (append-nil b.events)

-- the id of the last event, or the one before them
abbrev pub ends : ℕ → List Event → ℕ
ends id [] = id
ends id (event ∷ events) = ends event.id events

pub follow-append : (id : ℕ) (front rest : List Event) → follow_from id front ≡ true → follow_from (ends id front) rest ≡ true → follow_from id (front ++ rest) ≡ true
follow-append id [] rest f r = r
follow-append id (e ∷ es) rest f r =
    let p = and_parts (e.id == id + 1) (follow_from e.id es) f in
    and_from (e.id == id + 1) (follow_from e.id (es ++ rest)) p.0 (follow-append e.id es rest p.1 r)

pub follow-front : (id : ℕ) (front rest : List Event) → follow_from id (front ++ rest) ≡ true → follow_from id front ≡ true
follow-front id [] rest f = refl
follow-front id (e ∷ es) rest f =
    let p = and_parts (e.id == id + 1) (follow_from e.id (es ++ rest)) f in
    and_from (e.id == id + 1) (follow_from e.id es) p.0 (follow-front e.id es rest p.1)

pub follow-rest : (id : ℕ) (front rest : List Event) → follow_from id (front ++ rest) ≡ true → follow_from (ends id front) rest ≡ true
follow-rest id [] rest f = f
follow-rest id (e ∷ es) rest f =
    let p = and_parts (e.id == id + 1) (follow_from e.id (es ++ rest)) f in follow-rest e.id es rest p.1

-- the last event of a list that is not empty gives its last id
pub ends-last : (id : ℕ) (e : Event) (es : List Event) → ends id (e ∷ es) ≡ (last_from e es).id
ends-last id e [] = refl
ends-last id e (f ∷ fs) = ends-last e.id f fs

pub last-append : (front : List Event) (e : Event) (es : List Event) → last_event (front ++ e ∷ es) ≡ last_event (e ∷ es)
last-append [] e es = refl
last-append (f ∷ fs) e es = ap Some (behind f fs)
  where
    behind : (f : Event) (fs : List Event) → last_from f (fs ++ e ∷ es) ≡ last_from e es
    behind f [] = refl
    behind f (g ∷ gs) = behind g gs

-- the versions do not fall, from this one on
abbrev pub Climbs : ℕ → List Event → Type 0
Climbs version [] = Unit {0}
Climbs version (event ∷ events) = (version ≤ event.version) × Climbs event.version events

pub climbs-weaken : (low high : ℕ) (events : List Event) → low ≤ high → Climbs high events → Climbs low events
climbs-weaken low high [] l c = tt
climbs-weaken low high (e ∷ es) l c = (omega (arith, c.0), c.1)

-- the version of the last event, or the one before them
abbrev pub tops : ℕ → List Event → ℕ
tops version [] = version
tops version (event ∷ events) = tops event.version events

pub climbs-append : (version : ℕ) (front rest : List Event) → Climbs version front → Climbs (tops version front) rest → Climbs version (front ++ rest)
climbs-append version [] rest c d = d
climbs-append version (e ∷ es) rest c d = (c.0, climbs-append e.version es rest c.1 d)

-- events of one version climb, and end with it
climbs-one : (version low : ℕ) (events : List Event) → low ≤ version → are_of_version version events ≡ true → Climbs low events
climbs-one version low [] l a = tt
climbs-one version low (e ∷ es) l a =
    let p = and_parts (e.version == version) (are_of_version version es) a in
    let same : e.version ≡ version = eqb-true e.version version p.0 in
    (omega arith, climbs-one version e.version es (omega arith) p.1)

tops-one : (version low : ℕ) (e : Event) (es : List Event) → are_of_version version (e ∷ es) ≡ true → tops low (e ∷ es) ≡ version
tops-one version low e [] a = eqb-true e.version version (and_parts (e.version == version) true a).0
tops-one version low e (f ∷ fs) a = tops-one version e.version f fs (and_parts (e.version == version) (are_of_version version (f ∷ fs)) a).1

tops-append : (version : ℕ) (front rest : List Event) → tops version (front ++ rest) ≡ tops (tops version front) rest
tops-append version [] rest = refl
tops-append version (e ∷ es) rest = tops-append e.version es rest

-- the events of a path to this batch
pub record AreEventsTo (b : Batch) (events : List Event) : Type 0 where
  pub follow : follow_from 0 events ≡ true
  pub climb : Climbs 0 events
  pub top : tops 0 events ≡ b.key.version
  pub last : last_event events ≡ last_event b.events
  pub end : ends 0 events ≡ last_id b.events

-- a last event, where there is one, has the last id
last-some : (b : Batch) → Passes b → (e : Event) × (last_event b.events ≡ Some e)
last-some b p = (last_from p.event p.events, ap last_event p.are)

pub path-events : (batches : List Batch) (b : Batch) (path : List Batch) → AreFaultless batches → ParentsFit batches → IsPath batches b path → AreEventsTo b (history_of path)
path-events batches b path faultless fit (first _ has e) = by (passes b (faultless b has))
  where
    by : Passes b → AreEventsTo b (history_of (b ∷ []))
    by p =
        let whole : history_of (b ∷ []) ≡ p.event ∷ p.events = append-nil b.events ∙ p.are in
        let one : (p.event.id == 1) ≡ true = (and_parts (p.event.id == 1) _ (subst (λ (o : Option BatchKey). is_first_fit b p.event.id o ≡ true) e p.first)).0 in
        subst (AreEventsTo b) (sym whole)
        (record {
          follow = and_from (p.event.id == 1) (follow_from p.event.id p.events) one p.consecutive;
          climb = climbs-one b.key.version 0 (p.event ∷ p.events) (omega arith) (subst (λ (l : List Event). are_of_version b.key.version l ≡ true) p.are p.versions);
          top = tops-one b.key.version 0 p.event p.events (subst (λ (l : List Event). are_of_version b.key.version l ≡ true) p.are p.versions);
          last = sym (ap last_event p.are);
          end = ends-last 0 p.event p.events ∙ sym (ap last_id p.are);
        })
path-events batches b path faultless fit (below _ before key front has e at r) = by (passes b (faultless b has)) (path-events batches before front faultless fit r)
  where
    not_below : (a c : ℕ) → not (nat_lt a c) ≡ true → c ≤ a
    not_below a c h = lower (nat_lt a c) refl h
      where
        lower : (t : Bool) → nat_lt a c ≡ t → not t ≡ true → c ≤ a
        lower true e f = absurd (cc)
        lower false e f = ltb-false a c e

    by : Passes b → AreEventsTo before (history_of front) → AreEventsTo b (history_of (front ++ b ∷ []))
    by p a =
        let own : before.key ≡ key = found-key batches key before at in
        let fits : IsParentFit before b = fit b before key has e at in
        let start : p.event.id ≡ last_id before.events + 1 = sym (fits.ids ∙ ap first_id p.are) in
        let place : (p.event.id == ends 0 (history_of front) + 1) ≡ true = eq-eqb p.event.id (ends 0 (history_of front) + 1) (start ∙ ap (λ n. n + 1) (sym a.end)) in
        let parent : is_parent_fit b.key (Some key) ≡ true = subst (λ (o : Option BatchKey). is_parent_fit b.key o ≡ true) e p.parent in
        let below_it : key.version ≤ b.key.version = not_below b.key.version key.version (and_parts (not (nat_lt b.key.version key.version)) _ parent).0 in
        let top_is : tops 0 (history_of front) ≡ key.version = a.top ∙ ap (λ (k : BatchKey). k.version) own in
        let versions : are_of_version b.key.version (p.event ∷ p.events) ≡ true = subst (λ (l : List Event). are_of_version b.key.version l ≡ true) p.are p.versions in
        let whole : history_of (front ++ b ∷ []) ≡ history_of front ++ p.event ∷ p.events = history-push front b ∙ ap (λ l. history_of front ++ l) p.are in
        subst (AreEventsTo b) (sym whole)
        (record {
          follow = follow-append 0 (history_of front) (p.event ∷ p.events) a.follow (and_from (p.event.id == ends 0 (history_of front) + 1) (follow_from p.event.id p.events) place p.consecutive);
          climb = climbs-append 0 (history_of front) (p.event ∷ p.events) a.climb (climbs-one b.key.version (tops 0 (history_of front)) (p.event ∷ p.events) (omega arith) versions);
          top = tops-append 0 (history_of front) (p.event ∷ p.events) ∙ tops-one b.key.version (tops 0 (history_of front)) p.event p.events versions;
          last = last-append (history_of front) p.event p.events ∙ sym (ap last_event p.are);
          end = ends-append 0 (history_of front) p.event p.events ∙ sym (ap last_id p.are);
        })
      where
        ends-append : (id : ℕ) (front : List Event) (e : Event) (es : List Event) → ends id (front ++ e ∷ es) ≡ (last_from e es).id
        ends-append id [] e es = ends-last id e es
        ends-append id (f ∷ fs) e es = ends-append f.id fs e es
