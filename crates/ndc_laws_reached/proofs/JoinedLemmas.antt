-- All that was written of a workflow, with an entry more.
use Rattle.std.proofs.Common.{◌≡◌, ◌≤◌, ◌+◌, ◌*◌, ◌&&◌, ℕ, Bool, true, false, is_some, List, [], ◌∷◌, length, ◌⊎◌, inl, inr, Option, Some, None, refl, sym, ◌∙◌, subst, ap, arith, IfSome, if◌then◌else◌, true≢false}
use Rattle.std.specs.List.{AllByRecursion, filter}
use Rattle.std.proofs.lemmas.Bool.{and_from, and_parts}
use Rattle.ndc_model_cells.specs.Cells.{carries}
use Rattle.ndc_model_cells.specs.Places.{is_of}
use Rattle.ndc_event.specs.Key.{key_eq}
use Rattle.ndc_event.specs.declared.batch.Batch.{Batch}
use Rattle.ndc_event.specs.declared.key.BatchKey.{BatchKey}
use Rattle.ndc_event.specs.declared.name.Name.{Name}
use Rattle.ndc_model.proofs.ListLemmas.{all-weaker}
use Rattle.ndc_model.specs.Fair.{AreNumbersSmall}
use Rattle.ndc_model_sets.specs.Learned.{has_key}
use Rattle.ndc_model_sets.specs.Paths.{is_wanted}
use Rattle.ndc_model_sets.specs.Sets.{Has, PointsBack, arrived, batch_at, earlier_of}
use Rattle.ndc_model_sets.specs.Sound.{CopiesNamed, IsSound}
use Rattle.ndc_model_sets.proofs.ArrivalLemmas.{is_there, was_or_new}
use Rattle.ndc_model_sets.proofs.BranchLemmas.{among-has}
use Rattle.ndc_model_sets.proofs.KeyLemmas.{key_eq-self, same-keys}
use Rattle.ndc_model_sets.proofs.Lists.{Among, filter-cases}
use Rattle.ndc_model_sets.proofs.SoundLemmas.{faultless-back, parent-alone}
use Rattle.ndc_laws_reached.proofs.WrittenLemmas.{own-names, wanted-some}
use Rattle.ndc_laws_cells.proofs.OrderLemmas.{filter-arrived, filter-one-more}
use Rattle.ndc_laws_cells.proofs.PairLemmas.{joined, news}
use Rattle.ndc_laws_cells.specs.Adding.{Added}
use Rattle.ndc_laws_cells.specs.Entries.{IsSecond, IsSmall, originals_in}
use Rattle.ndc_laws_cells.proofs.CountLemmas.{arrived-all, arrived-length, arrived-originals}
use Rattle.ndc_model_cells.specs.Writing.{goes_on}

-- nothing is kept where nothing passes
pub filter-none : {X : Type 0} (p : X → Bool) (xs : List X) → ((x : X) → Among x xs → p x ≡ true → ⊥) → filter p xs ≡ []
filter-none p [] none = refl
filter-none p (x ∷ xs) none = filter-cases (λ l. l ≡ []) p x xs (λ e. absurd (none x (inl refl) e)) (λ _. filter-none p xs (λ y h. none y (inr h)))

and-false : (a b : Bool) → b ≡ false → (a && b) ≡ false
and-false true b e = e
and-false false b e = refl

pub never-true : (t : Bool) → (t ≡ true → ⊥) → t ≡ false
never-true true no_way = absurd (no_way refl)
never-true false no_way = refl

-- a batch that is not carried
pub carries-none : (x b : Batch) → b.carrier ≡ None → carries x b ≡ false
carries-none x b e = and-false (is_of x.domain x.workflow b) (is_wanted b.carrier x) (ap (λ o. is_wanted o x) e)

-- a batch that is carried by one of another key
pub carries-other : (x s : Batch) (key : BatchKey) → s.carrier ≡ Some key → (x.key ≡ key → ⊥) → carries x s ≡ false
carries-other x s key e other =
    and-false (is_of x.domain x.workflow s) (is_wanted s.carrier x) (ap (λ o. is_wanted o x) e ∙ never-true (key_eq x.key key) (λ same. other (same-keys x.key key same)))

-- a batch that is new to a sound set carries none of it
pub new-carries : (bs : List Batch) (z y : Batch) → IsSound bs → batch_at z.key bs ≡ None → Among y bs → carries z y ≡ true → ⊥
new-carries bs z y sound fresh h c = by y.parent refl
  where
    has : Has bs y
    has = among-has bs y sound.set.ordered h

    carrier : y.carrier ≡ Some z.key
    carrier = wanted-some y.carrier z (and_parts (is_of z.domain z.workflow y) (is_wanted y.carrier z) c).1

    by : (o : Option BatchKey) → y.parent ≡ o → ⊥
    by (Some parent) e = parent-alone y parent z.key (sound.faultless y has) e carrier
    by None e =
        let one : has_key (earlier_of y.parent y.carrier) bs ≡ true = sound.closed y has in
        let two : is_some (batch_at z.key bs) ≡ true = sym (ap (λ o. has_key (earlier_of o y.carrier) bs) e ∙ ap (λ o. has_key o bs) carrier) ∙ one in
        true≢false (sym two ∙ ap is_some fresh)

-- what a batch of a set adds is not its key
fresh-apart : (bs : List Batch) (new x : Batch) → batch_at new.key bs ≡ None → Has bs x → x.key ≡ new.key → ⊥
fresh-apart bs new x fresh has same =
    let one : batch_at new.key bs ≡ Some x = subst (λ (k : BatchKey). batch_at k bs ≡ Some x) same has in
    let both : Some x ≡ None = sym one ∙ fresh in
    absurd (cc)

-- with an entry more
pub joined-sound : (all : List Batch) (b : Batch) (second : Option Batch) → Added all b → IfSome second (IsSecond all b) → IsSound (joined b second all)
joined-sound all b None first other = first.sound
joined-sound all b (Some s) first other = other.added.sound

pub joined-named : (all : List Batch) (b : Batch) (second : Option Batch) → Added all b → IfSome second (IsSecond all b) → CopiesNamed (joined b second all)
joined-named all b None first other = first.named
joined-named all b (Some s) first other = other.added.named

pub joined-length : (all : List Batch) (b : Batch) (second : Option Batch) → Added all b → IfSome second (IsSecond all b) → length (joined b second all) ≡ length all + length (news b second)
joined-length all b None first other = arrived-length b all first.fresh
joined-length all b (Some s) first other =
    let one = arrived-length s (arrived b all) other.added.fresh in let two = arrived-length b all first.fresh in omega (arith, one, two)

pub joined-originals : (all : List Batch) (b : Batch) (second : Option Batch) (originals tasks : ℕ) → Added all b → IsSmall originals tasks b → IfSome second (IsSecond all b)
    → originals_in (joined b second all) ≤ originals_in all + originals
joined-originals all b None originals tasks first small other = let one = arrived-originals b all first.fresh in let m = small.originals_most in omega (arith, one, m)
joined-originals all b (Some s) originals tasks first small other =
    let one = arrived-originals b all first.fresh in let m = small.originals_most in
    let two = arrived-originals s (arrived b all) other.added.fresh in let n = other.small.originals_most in
    omega (arith, one, m, two, n)

pub joined-all : (P : Batch → Type 0) (all : List Batch) (b : Batch) (second : Option Batch) → Added all b → IfSome second (IsSecond all b) → P b → IfSome second P → AllByRecursion P all → AllByRecursion P (joined b second all)
joined-all P all b None first other p q each = arrived-all P b all first.fresh p each
joined-all P all b (Some s) first other p q each = arrived-all P s (arrived b all) other.added.fresh q (arrived-all P b all first.fresh p each)

-- a batch of them was there, or is new
pub joined-either : (all : List Batch) (b : Batch) (second : Option Batch) (x : Batch) → IsSound all → Added all b → Has (joined b second all) x → Among x (news b second) ⊎ Has all x
joined-either all b None x sound first has = by (was_or_new b all x sound.set.ordered has)
  where
    by : (x ≡ b) ⊎ Has all x → Among x (b ∷ []) ⊎ Has all x
    by (inl e) = inl (inl e)
    by (inr h) = inr h
joined-either all b (Some s) x sound first has = by (was_or_new s (arrived b all) x first.sound.set.ordered has)
  where
    old : (x ≡ b) ⊎ Has all x → Among x (b ∷ s ∷ []) ⊎ Has all x
    old (inl e) = inl (inl e)
    old (inr h) = inr h

    by : (x ≡ s) ⊎ Has (arrived b all) x → Among x (b ∷ s ∷ []) ⊎ Has all x
    by (inl e) = inl (inr (inl e))
    by (inr h) = old (was_or_new b all x sound.set.ordered h)

pub first-back : (all : List Batch) (b : Batch) → IsSound all → Added all b → PointsBack b
first-back all b sound first = faultless-back b (first.sound.faultless b (is_there b all sound.set.ordered first.fresh))

pub second-back : (all : List Batch) (b : Batch) (second : Option Batch) → Added all b → IfSome second (IsSecond all b) → IfSome second PointsBack
second-back all b None first other = tt
second-back all b (Some s) first other = first-back (arrived b all) s first.sound other.added

-- numbers with an entry more, where there is room
pub joined-numbers : (lines : ℕ) (all : List Batch) (b : Batch) (second : Option Batch) (originals : ℕ) → Added all b → IsSmall originals (length all + 1) b → IfSome second (IsSecond all b)
    → length all + length (news b second) ≤ 2 * lines → originals_in all + originals ≤ lines → AreNumbersSmall lines all → AreNumbersSmall lines (joined b second all)
joined-numbers lines all b second originals first small other room signals is = record {
  tasks = tasks second other;
  batches_most = (let l = joined-length all b second first other in omega (arith, l, room));
  originals_most = (let o = joined-originals all b second originals (length all + 1) first small other in omega (arith, o, signals));
  events_most = joined-all (λ (x : Batch). length x.events ≤ 204803) all b second first other small.events_most (events second other) is.events_most;
}
  where
    events : (o : Option Batch) → IfSome o (IsSecond all b) → IfSome o (λ (x : Batch). length x.events ≤ 204803)
    events None e = tt
    events (Some s) e = e.small.events_most

    tasks : (o : Option Batch) (e : IfSome o (IsSecond all b)) → AllByRecursion (λ (x : Batch). x.key.task ≤ length (joined b o all)) (joined b o all)
    tasks None e =
        let l = joined-length all b None first tt in
        joined-all (λ (x : Batch). x.key.task ≤ length (arrived b all)) all b None first tt (let t = small.task_most in omega (arith, l, t)) tt
        (all-weaker (λ (x : Batch). x.key.task ≤ length all) (λ (x : Batch). x.key.task ≤ length (arrived b all)) (λ x t. omega (arith, l, t)) all is.tasks)
    tasks (Some s) e =
        let l = joined-length all b (Some s) first e in
        joined-all (λ (x : Batch). x.key.task ≤ length (joined b (Some s) all)) all b (Some s) first e (let t = small.task_most in omega (arith, l, t)) (let t = e.small.task_most in omega (arith, l, t))
        (all-weaker (λ (x : Batch). x.key.task ≤ length all) (λ (x : Batch). x.key.task ≤ length (joined b (Some s) all)) (λ x t. omega (arith, l, t)) all is.tasks)

-- how many batches each carries
abbrev pub CountsFit : List Batch → Batch → Type 0
CountsFit bs x = length (filter (carries x) bs) ≡ (if goes_on x then 1 else 0)

module _ (all : List Batch) (sound : IsSound all) (b : Batch) (first : Added all b) (alone : b.carrier ≡ None) (old : (x : Batch) → Has all x → CountsFit all x) where
  -- a batch that was there carries what it carried
  old-count : (second : Option Batch) → IfSome second (IsSecond all b) → (x : Batch) → Has all x → CountsFit (joined b second all) x
  old-count None e x has = ap length (filter-arrived (carries x) b all first.fresh (carries-none x b alone)) ∙ old x has
  old-count (Some s) e x has =
      ap length (filter-arrived (carries x) s (arrived b all) e.added.fresh (carries-other x s b.key e.carrier (fresh-apart all b x first.fresh has)) ∙ filter-arrived (carries x) b all first.fresh (carries-none x b alone)) ∙ old x has

  none-yet : filter (carries b) (arrived b all) ≡ []
  none-yet = filter-arrived (carries b) b all first.fresh (carries-none b b alone) ∙ filter-none (carries b) all (λ y h c. new-carries all b y sound first.fresh h c)

  -- the new one carries the one that comes with it
  first-count : (second : Option Batch) → IfSome second (IsSecond all b) → goes_on b ≡ is_some second → CountsFit (joined b second all) b
  first-count None e goes = ap length none-yet ∙ sym (ap (λ t. if t then 1 else 0) goes)
  first-count (Some s) e goes =
      filter-one-more (carries b) s (arrived b all) e.added.fresh carried ∙ ap (λ l. length l + 1) none-yet ∙ sym (ap (λ t. if t then 1 else 0) goes)
    where
      carried : carries b s ≡ true
      carried =
          and_from (is_of b.domain b.workflow s) (is_wanted s.carrier b)
          (subst (λ (d : Name). is_of d b.workflow s ≡ true) e.domain_is (subst (λ (w : Name). is_of s.domain w s ≡ true) e.workflow_is (own-names s)))
          (ap (λ o. is_wanted o b) e.carrier ∙ key_eq-self b.key)

  -- which carries none
  second-count : (s : Batch) → IsSecond all b s → CountsFit (arrived s (arrived b all)) s
  second-count s e =
      ap length (filter-arrived (carries s) s (arrived b all) e.added.fresh (carries-other s s b.key e.carrier apart)
      ∙ filter-none (carries s) (arrived b all) (λ y h c. new-carries (arrived b all) s y first.sound e.added.fresh h c))
      ∙ sym (ap (λ t. if t then 1 else 0) e.stays)
    where
      apart : s.key ≡ b.key → ⊥
      apart same = fresh-apart (arrived b all) s b e.added.fresh (is_there b all sound.set.ordered first.fresh) (sym same)

  pub joined-counts : (second : Option Batch) → IfSome second (IsSecond all b) → goes_on b ≡ is_some second → (x : Batch) → Has (joined b second all) x → CountsFit (joined b second all) x
  joined-counts second e goes x has = by second e goes (joined-either all b second x sound first has)
    where
      by : (o : Option Batch) → IfSome o (IsSecond all b) → goes_on b ≡ is_some o → Among x (news b o) ⊎ Has all x → CountsFit (joined b o all) x
      by o e goes (inr h) = old-count o e x h
      by o e goes (inl (inl same)) = subst (λ (y : Batch). CountsFit (joined b o all) y) (sym same) (first-count o e goes)
      by None e goes (inl (inr h)) = absurd h
      by (Some s) e goes (inl (inr (inl same))) = subst (λ (y : Batch). CountsFit (joined b (Some s) all) y) (sym same) (second-count s e)
      by (Some s) e goes (inl (inr (inr h))) = absurd h
