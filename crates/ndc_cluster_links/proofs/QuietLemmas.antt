-- Links over which nothing is in flight.
use Rattle.std.proofs.Common.{◌≡◌, ◌<◌, ◌+◌, ℕ, zero, suc, [], ◌∷◌, List, map, drop, length, get_or, replicate, set, refl, ap, sym, subst, ◌∙◌}
use Rattle.std.proofs.Math.Seq.{map-set_same}
use Rattle.std.proofs.lemmas.List.{at_drop_more, map-set}
use Rattle.std.specs.List.{AllByRecursion}
use Rattle.ndc_model_cells.specs.declared.message.Message.{Message}
use Rattle.ndc_cluster_links.specs.Links.{flights_of}
use Rattle.ndc_model.specs.Moves.{link_without_flights, without_flight}
use Rattle.ndc_model.specs.Queues.{Lane, after_rewind, new_lane}
use Rattle.ndc_model.specs.World.{Link}

-- nothing is in flight in any of the lanes
abbrev pub AreQuiet : List Lane → Type 0
AreQuiet lanes = AllByRecursion (λ (flight : List Message). flight ≡ []) (flights_of lanes)

-- nothing is in the beginning
pub quiet_new : (count : ℕ) → AreQuiet (replicate count new_lane)
quiet_new zero = tt
quiet_new (suc count) = (refl, quiet_new count)

-- nothing is where all was taken out
pub quiet_emptied : (lanes : List Lane) → AreQuiet (map without_flight lanes)
quiet_emptied [] = tt
quiet_emptied (lane ∷ lanes) = (refl, quiet_emptied lanes)

-- where nothing is in flight, taking all out changes nothing
pub quiet_is : (lanes : List Lane) → AreQuiet lanes → map without_flight lanes ≡ lanes
quiet_is [] quiet = refl
quiet_is (lane ∷ lanes) quiet =
    ap (λ (l : Lane). l ∷ map without_flight lanes) (sym (ap (λ (flight : List Message). record lane { flight = flight }) quiet.0)) ∙ ap (λ (ls : List Lane). lane ∷ ls) (quiet_is lanes quiet.1)

-- what holds of each, and of another one, holds of each where that one takes a place
pub all_set : {X : Type 0} (P : X → Type 0) (xs : List X) (i : ℕ) (new : X) → P new → AllByRecursion P xs → AllByRecursion P (set xs i new)
all_set P [] i new it all = all
all_set P (x ∷ xs) zero new it all = (it, all.1)
all_set P (x ∷ xs) (suc i) new it all = (all.0, all_set P xs i new it all.1)

-- a lane in which nothing is in flight takes the place of one
pub quiet_still : (lanes : List Lane) (i : ℕ) (new : Lane) → new.flight ≡ [] → AreQuiet lanes → AreQuiet (set lanes i new)
quiet_still lanes i new none quiet =
    subst (AllByRecursion (λ (flight : List Message). flight ≡ [])) (sym (map-set (λ (lane : Lane). lane.flight) lanes i new)) (all_set (λ (flight : List Message). flight ≡ []) (flights_of lanes) i new.flight none quiet)

-- a lane in which as much is in flight takes the place of one
pub flights_still : (lanes : List Lane) (i : ℕ) (x new : Lane) → x ≡ get_or lanes i x → new.flight ≡ x.flight → flights_of (set lanes i new) ≡ flights_of lanes
flights_still lanes i x new is same = map-set_same (λ (lane : Lane). lane.flight) lanes i new x (same ∙ ap (λ (lane : Lane). lane.flight) is)

-- rewinding leaves what is in flight
pub flights_rewound : (lanes : List Lane) → flights_of (map after_rewind lanes) ≡ flights_of lanes
flights_rewound [] = refl
flights_rewound (lane ∷ lanes) = ap (λ (flights : List (List Message)). lane.flight ∷ flights) (flights_rewound lanes)

-- the next lane is quiet, and those after it
pub quiet_more : (lanes : List Lane) (i : ℕ) (lane : Lane) → i < length lanes → lane ≡ get_or lanes i lane → lane.flight ≡ [] → AreQuiet (drop (i + 1) lanes) → AreQuiet (drop i lanes)
quiet_more lanes i lane below is none quiet =
    subst (λ (ls : List Lane). AreQuiet ls) (sym (at_drop_more (λ (ls : List Lane). ls) lanes i lane below ∙ ap (λ (l : Lane). l ∷ drop (i + 1) lanes) (sym is))) (none, quiet)

-- a link over which nothing is in flight
pub quiet_link : (link : Link) → AreQuiet link.lanes → link_without_flights link ≡ link
quiet_link link quiet = ap (λ (lanes : List Lane). record link { lanes = lanes }) (quiet_is link.lanes quiet)
