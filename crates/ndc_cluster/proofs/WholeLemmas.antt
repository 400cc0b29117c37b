-- A round as a whole: pieces that were worked, and what comes of their slots.
use Rattle.std.proofs.Common.{◌≡◌, Bool, false, List, [], ◌∷◌, ◌++◌, map, drop, length, Option, Some, None, refl, sym, ap, subst, ◌∙◌}
use Rattle.std.specs.List.{AllByRecursion}
use Rattle.std.specs.Option.{option_map}
use Rattle.std.proofs.lemmas.List.{length-map, map-append}
use Rattle.ndc_model_cells.specs.declared.job.ShardJob.{ShardJob}
use Rattle.ndc_model_cells.specs.Cells.{Cell}
use Rattle.ndc_model_cells.specs.Jobs.{cells_after, replies_to}
use Rattle.ndc_model_cells.specs.Writing.{Desk}
use Rattle.ndc_cluster.specs.Each.{Each}
use Rattle.ndc_model_cells.specs.Conditions.{Condition}
use Rattle.ndc_cluster.specs.Rounds.{AreFresh, LeftValue, SlotMay, SlotValue, dealt, fresh_slot, joined, slot_done, taken}
use Rattle.ndc_cluster.specs.declared.fresh.Fresh.{Fresh}
use Rattle.ndc_cluster.proofs.DealLemmas.{AreBelow, cells_dealt, dealt_many, replies_dealt}

-- a list that is seen is as long as what is seen
pub seen_many : {X Y : Type 0} (view : X → Y) (xs : List X) (ys : List Y) → map view xs ≡ ys → length xs ≡ length ys
seen_many view xs ys e = sym (length-map xs view) ∙ ap length e

-- a list seen in two steps
pub seen_twice : {X Y Z : Type 0} (view : X → Y) (part : Y → Z) (xs : List X) → map (λ x. part (view x)) xs ≡ map part (map view xs)
seen_twice view part [] = refl
seen_twice view part (x ∷ xs) = ap (λ zs. part (view x) ∷ zs) (seen_twice view part xs)

-- what holds of all slots holds of those before a piece, and of those of the piece
all-parts : {X : Type 0} (Q : X → Type 0) (xs ys : List X) → AllByRecursion Q (xs ++ ys) → AllByRecursion Q xs × AllByRecursion Q ys
all-parts Q [] ys all = (tt, all)
all-parts Q (x ∷ xs) ys all = let rest = all-parts Q xs ys all.1 in ((all.0, rest.0), rest.1)

-- where all slots may do their jobs, each piece is ready
pub ready_all : {P : Type 0} (held : P → List SlotValue) (desk : P → Desk) (home : Desk) (allows : Condition) (ps : List P) → AllByRecursion (SlotMay allows home) (joined (map held ps)) → AllByRecursion (λ p. desk p ≡ home) ps
    → AllByRecursion (λ p. AllByRecursion (SlotMay allows (desk p)) (held p)) ps
ready_all held desk home allows [] all desks = tt
ready_all held desk home allows (p ∷ ps) all desks =
    let parts = all-parts (SlotMay allows home) (joined (map held ps)) (held p) all in
    (subst (λ h. AllByRecursion (SlotMay allows h) (held p)) (sym desks.0) parts.1, ready_all held desk home allows ps parts.0 desks.1)

-- where all pieces were worked and none is spent, their slots are done
pub worked_joined : {P : Type 0} (held : P → List SlotValue) (desk : P → Desk) (spent : P → Bool) (home : Desk) (ps qs : List P) → Each (λ p q. spent q ≡ false → held q ≡ map (slot_done (desk p)) (held p)) ps qs
    → AllByRecursion (λ p. desk p ≡ home) ps → AllByRecursion (λ q. spent q ≡ false) qs → joined (map held qs) ≡ map (slot_done home) (joined (map held ps))
worked_joined held desk spent home [] [] worked desks whole = refl
worked_joined held desk spent home [] (q ∷ qs) worked desks whole = absurd worked
worked_joined held desk spent home (p ∷ ps) [] worked desks whole = absurd worked
worked_joined held desk spent home (p ∷ ps) (q ∷ qs) worked desks whole =
    ap (λ xs. xs ++ held q) (worked_joined held desk spent home ps qs worked.1 desks.1 whole.1)
    ∙ ap (λ ys. map (slot_done home) (joined (map held ps)) ++ ys) (worked.0 whole.0 ∙ ap (λ h. map (slot_done h) (held p)) desks.0)
    ∙ sym (map-append (slot_done home) (joined (map held ps)) (held p))

-- the slots of pieces that were cut, worked and joined are those that were dealt, done
pub whole_done : {P X : Type 0} (view : X → SlotValue) (held : P → List SlotValue) (desk : P → Desk) (spent : P → Bool) (home : Desk) (before lent after : List P) (dealt_slots : List SlotValue) (slots : List X)
    → joined (map held before) ≡ dealt_slots → lent ≡ before → AllByRecursion (λ p. desk p ≡ home) before → Each (λ p q. spent q ≡ false → held q ≡ map (slot_done (desk p)) (held p)) lent after
    → AllByRecursion (λ q. spent q ≡ false) after → map view slots ≡ joined (map held after) → map view slots ≡ map (slot_done home) dealt_slots
whole_done view held desk spent home before lent after dealt_slots slots cut same desks worked whole seen =
    seen ∙ worked_joined held desk spent home before after (subst (λ ps. Each (λ p q. spent q ≡ false → held q ≡ map (slot_done (desk p)) (held p)) ps after) same worked) desks whole ∙ ap (map (slot_done home)) cut

-- what a slot holds beside its cell is what that has written from a place on
abbrev pub HoldsFresh : SlotValue → Type 0
HoldsFresh slot = slot.sent ≡ drop slot.from slot.cell.written

-- so it is in slots that are done
done-fresh : (home : Desk) (slots : List SlotValue) → AllByRecursion HoldsFresh (map (slot_done home) slots)
done-fresh home [] = tt
done-fresh home (slot ∷ slots) = (refl, done-fresh home slots)

-- and where it is so in all slots, it is so of what is taken from them
fresh-each : {X : Type 0} (view : X → SlotValue) (fresh : X → Fresh) → ((x : X) → (view x).from ≡ (fresh x).from) → ((x : X) → (view x).sent ≡ (fresh x).messages.items) → (xs : List X)
    → AllByRecursion HoldsFresh (map view xs) → AreFresh (map fresh xs) (map (λ x. (view x).cell) xs)
fresh-each view fresh from sent [] all = tt
fresh-each view fresh from sent (x ∷ xs) all = (sym (sent x) ∙ all.0 ∙ ap (λ n. drop n (view x).cell.written) (from x), fresh-each view fresh from sent xs all.1)

-- the same lists under other names
pub fresh_moved : (made fresh : List Fresh) (now cells : List Cell) → made ≡ fresh → now ≡ cells → AreFresh fresh cells → AreFresh made now
fresh_moved made fresh now cells one two it = subst (λ fs. AreFresh fs now) (sym one) (subst (AreFresh fresh) (sym two) it)

-- a part of what slots leave, where that is the same
pub left_part : {X Y : Type 0} (left : X → LeftValue) (part : LeftValue → Y) (after before : List X) → map left after ≡ map left before → map (λ x. part (left x)) after ≡ map (λ x. part (left x)) before
left_part left part after before same = seen_twice left part after ∙ ap (map part) same ∙ sym (seen_twice left part before)

-- what comes of slots that are done
module _ {X : Type 0} (view : X → SlotValue) (home : Desk) (jobs : List ShardJob) (cells : List Cell) (slots : List X) (done : map view slots ≡ map (slot_done home) (dealt jobs (map fresh_slot cells))) where
  -- as many slots as cells
  pub slots_many : length slots ≡ length cells
  slots_many =
      seen_many view slots _ done ∙ length-map (dealt jobs (map fresh_slot cells)) (slot_done home) ∙ dealt_many jobs (map fresh_slot cells) ∙ length-map cells fresh_slot

  -- their cells
  pub slots_cells : map (λ x. (view x).cell) slots ≡ cells_after home jobs cells
  slots_cells = seen_twice view (λ (s : SlotValue). s.cell) slots ∙ ap (map (λ (s : SlotValue). s.cell)) done ∙ cells_dealt home jobs cells

  -- their replies
  pub slots_replies : AreBelow (length cells) jobs → taken jobs (map (λ x. (view x).replies) slots) ≡ Some (replies_to home jobs cells)
  slots_replies below = ap (taken jobs) (seen_twice view (λ (s : SlotValue). s.replies) slots ∙ ap (map (λ (s : SlotValue). s.replies)) done) ∙ replies_dealt home jobs cells below

  -- and what each cell has written from a place on
  pub slots_fresh : (fresh : X → Fresh) → ((x : X) → (view x).from ≡ (fresh x).from) → ((x : X) → (view x).sent ≡ (fresh x).messages.items) → AreFresh (map fresh slots) (map (λ x. (view x).cell) slots)
  slots_fresh fresh from sent = fresh-each view fresh from sent slots (subst (AllByRecursion HoldsFresh) (sym done) (done-fresh home (dealt jobs (map fresh_slot cells))))

-- what is found, where what is found is known
pub found_is : {X : Type 0} (x y : X) → Some x ≡ Some y → x ≡ y
found_is {X} x y e = ap {A = Option X} (λ o. elim o [ Some z ↦ z | None ↦ x ]) e

-- nothing is found where something is
pub none_found : {X Y : Type 0} (part : X → Y) (found : Option X) (y : Y) → found ≡ None → option_map part found ≡ Some y → ⊥
none_found part (Some x) y is e = absurd (cc)
none_found part None y is e = absurd (cc)
