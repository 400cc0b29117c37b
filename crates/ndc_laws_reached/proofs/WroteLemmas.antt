-- An entry that is written keeps what holds of all that was written.
use Rattle.std.proofs.Common.{◌≡◌, ◌≢◌, ◌<◌, ◌≤◌, ◌+◌, ◌*◌, ℕ, Bool, true, false, cond, is_some, List, [], ◌∷◌, ◌++◌, length, map, ◌⊎◌, inl, inr, Option, Some, None, refl, sym, ◌∙◌, subst, ap, arith, IfSome, AllPairs, true≢false}
use Rattle.std.specs.List.{AllByRecursion, flat_map}
use Rattle.ndc_model_cells.specs.declared.place.Place.{Place}
use Rattle.ndc_model_cells.specs.Cells.{both}
use Rattle.ndc_model_cells.specs.Places.{batch_there, is_at, place_of}
use Rattle.ndc_model_cells.specs.Shards.{shard_of}
use Rattle.ndc_event.specs.declared.batch.Batch.{Batch}
use Rattle.ndc_event.specs.declared.name.Name.{Name}
use Rattle.ndc_model.specs.Facts.{WritingIsInRange}
use Rattle.ndc_model.specs.Fair.{AreNumbersSmall, CopiesNameOriginals, NumbersAreSmall, WritingIsSound, places_written, written_of}
use Rattle.ndc_model.specs.World.{World, all_clusters, cell_at}
use Rattle.ndc_laws_cells.proofs.FoundLemmas.{is_at-own}
use Rattle.ndc_model_sets.specs.Sets.{Has}
use Rattle.ndc_model_sets.specs.Sound.{CopiesNamed, IsSound}
use Rattle.ndc_model_sets.proofs.Lists.{Among, map-among}
use Rattle.ndc_text.specs.Ranges.{InRange}
use Rattle.ndc_laws_reached.proofs.ApartLemmas.{Differ, differ-from, differ-more, map-flat, more-mapped, pairs-from}
use Rattle.ndc_laws_reached.proofs.JoinedLemmas.{CountsFit, joined-all, joined-counts, joined-either, joined-named, joined-numbers, joined-sound}
use Rattle.ndc_laws_reached.proofs.LandLemmas.{Write, are-new, behind, flat-found, flat-here, flat-there, here, here-ordered, written-cases}
use Rattle.ndc_laws_cells.proofs.OrderLemmas.{IsMore}
use Rattle.ndc_laws_cells.proofs.PairLemmas.{AreNew, joined, new-none, news, second-apart}
use Rattle.ndc_laws_cells.specs.Entries.{IsSecond, originals_in}
use Rattle.ndc_laws_cells.proofs.NamedLemmas.{either-way}
use Rattle.ndc_model_cells.specs.Writing.{goes_on}

-- something is found at the place of a batch that is there
pub there-some : (bs : List Batch) (b : Batch) → Among b bs → batch_there bs (place_of b) ≡ None → ⊥
there-some [] b h e = h
there-some (x ∷ xs) b h e = by (is_at (place_of b) x) refl h e (there-some xs b)
  where
    by : (t : Bool) → is_at (place_of b) x ≡ t → (b ≡ x) ⊎ Among b xs → cond t (Some x) (batch_there xs (place_of b)) ≡ None → (Among b xs → batch_there xs (place_of b) ≡ None → ⊥) → ⊥
    by true at h e rest = absurd (cc)
    by false at (inl same) e rest = true≢false (sym (subst (λ (y : Batch). is_at (place_of b) y ≡ true) same (is_at-own b)) ∙ at)
    by false at (inr k) e rest = rest k e

module _ (it : Write) where
  open it use {header, lines, w, is, cluster, known, b, second, originals, below, may}

  abbrev at : ℕ
  at = shard_of b.domain b.workflow header.shards

  abbrev old : List Batch
  old = written_of header b.domain b.workflow w

  abbrev v : World
  v = behind it

  -- what is read of clusters in a shard
  abbrev read : World → ℕ → List Batch
  read x shard = flat_map (λ c. flat_map both (cell_at c shard x).written) (all_clusters header)

  abbrev grew : IsMore (read w at) (news b second) (read v at)
  grew = flat-here it

  abbrev places : IsMore (map place_of (read w at)) (map place_of (news b second)) (map place_of (read v at))
  places = more-mapped place_of (read w at) (news b second) (read v at) grew

  new-differ : (o : Option Batch) → AreNew (here it) b o → Differ (map place_of (news b o))
  new-differ None new = ((λ y h same. h), tt)
  new-differ (Some s) new = (first, ((λ y h same. h), tt))
    where
      first : (y : Place) → (y ≡ place_of s) ⊎ ⊥ → place_of b ≢ y
      first y (inl e) = λ same. second-apart b s (here it) (here-ordered it) new (same ∙ e)
      first y (inr no_way) = absurd no_way

  -- no new place was one before
  place-apart : (x : Place) → Among x (map place_of (news b second)) → Among x (places.front ++ places.back) → ⊥
  place-apart x h k =
      let one = map-among place_of (news b second) x h in
      let two = map-among place_of (read w at) x (subst (Among x) (sym places.before) k) in
      let none = new-none b second (here it) one.0 (here-ordered it)
      (are-new it) one.1 in
      there-some (read w at) two.0 two.1
      (sym (flat-found it w at (place_of two.0))
      ∙ ap (batch_there (here it)) (sym two.2 ∙ one.2) ∙ none)

  differ-here : AllPairs (λ one two. one ≢ two) (places_written header at v)
  differ-here =
      subst (AllPairs (λ one two. one ≢ two)) (sym (map-flat place_of (λ c. flat_map both (cell_at c at v).written) (all_clusters header)))
      (pairs-from (map place_of (read v at))
      (subst Differ (sym places.after)
      (differ-more places.front (map place_of (news b second)) places.back
      (subst Differ places.before (differ-from (map place_of (read w at)) (subst (AllPairs (λ one two. one ≢ two)) (map-flat place_of (λ c. flat_map both (cell_at c at w).written) (all_clusters header)) (is.fair.writing.differ at below))))
      (new-differ second (are-new it)) place-apart)))

  differ-all : (shard : ℕ) → shard < header.shards → AllPairs (λ one two. one ≢ two) (places_written header shard v)
  differ-all shard less = by (either-way shard at)
    where
      other : (shard ≡ at → ⊥) → AllPairs (λ one two. one ≢ two) (places_written header shard v)
      other apart =
          subst (AllPairs (λ one two. one ≢ two))
          (map-flat place_of (λ c. flat_map both (cell_at c shard w).written) (all_clusters header)
          ∙ ap (map place_of) (sym (flat-there it shard apart))
          ∙ sym (map-flat place_of (λ c. flat_map both (cell_at c shard v).written) (all_clusters header))) (is.fair.writing.differ shard less)

      by : (shard < at) ⊎ ((shard ≡ at) ⊎ (at < shard)) → AllPairs (λ one two. one ≢ two) (places_written header shard v)
      by (inl l) = other (λ e. omega (arith, l, e))
      by (inr (inl e)) = subst (λ n. AllPairs (λ one two. one ≢ two) (places_written header n v)) (sym e) differ-here
      by (inr (inr l)) = other (λ e. omega (arith, l, e))

  abbrev cases : (P : Name → Name → List Batch → Type 0) → P b.domain b.workflow (joined b second old) → (domain workflow : Name) → P domain workflow (written_of header domain workflow w) → P domain workflow (written_of header domain workflow v)
  cases = written-cases it

  pub old-sound : IsSound old
  old-sound = is.fair.writing.sound b.domain b.workflow

  -- a carried batch does not go on
  lone-here : (o : Option Batch) → IfSome o (IsSecond old b) → (x : Batch) → Among x (news b o) ⊎ Has old x → is_some x.carrier ≡ true → goes_on x ≡ false
  lone-here o e x (inr h) carried = is.fair.writing.lone b.domain b.workflow x h carried
  lone-here o e x (inl (inl same)) carried = absurd (true≢false (sym carried ∙ ap (λ (y : Batch). is_some y.carrier) same ∙ ap is_some may.write.carrier))
  lone-here None e x (inl (inr h)) carried = absurd h
  lone-here (Some s) e x (inl (inr (inl same))) carried = ap goes_on same ∙ e.stays
  lone-here (Some s) e x (inl (inr (inr h))) carried = absurd h

  pub writing-kept : WritingIsSound header v
  writing-kept = record {
    differ = differ-all;
    sound = λ domain workflow. cases (λ _ _ l. IsSound l) (joined-sound old b second may.write.added may.write.second) domain workflow (is.fair.writing.sound domain workflow);
    carried = λ domain workflow. cases (λ _ _ l. (x : Batch) → Has l x → CountsFit l x)
        (joined-counts old old-sound b may.write.added may.write.carrier (is.fair.writing.carried b.domain b.workflow) second may.write.second may.write.goes) domain workflow (is.fair.writing.carried domain workflow);
    lone = λ domain workflow. cases (λ _ _ l. (x : Batch) → Has l x → is_some x.carrier ≡ true → goes_on x ≡ false)
        (λ x has. lone-here second may.write.second x (joined-either old b second x old-sound may.write.added has)) domain workflow (is.fair.writing.lone domain workflow);
  }

  pub copies-kept : CopiesNameOriginals header v
  copies-kept domain workflow = cases (λ _ _ l. CopiesNamed l) (joined-named old b second may.write.added may.write.second) domain workflow (is.fair.copies domain workflow)

  pub numbers-kept : length old + length (news b second) ≤ 2 * lines → originals_in old + originals ≤ lines → NumbersAreSmall header lines v
  numbers-kept room signals = record {
    written = λ domain workflow. cases (λ _ _ l. AreNumbersSmall lines l)
        (joined-numbers lines old b second originals may.write.added may.write.small may.write.second room signals (is.fair.numbers.written b.domain b.workflow)) domain workflow (is.fair.numbers.written domain workflow);
    lines_most = is.fair.numbers.lines_most;
  }

  pub ranges-kept : WritingIsInRange header v
  ranges-kept domain workflow =
      cases (λ _ _ l. AllByRecursion InRange l) (joined-all InRange old b second may.write.added may.write.second may.write.small.range (second-range second may.write.second) (is.ranges b.domain b.workflow)) domain workflow (is.ranges domain workflow)
    where
      second-range : (o : Option Batch) → IfSome o (IsSecond old b) → IfSome o InRange
      second-range None e = tt
      second-range (Some s) e = e.small.range
