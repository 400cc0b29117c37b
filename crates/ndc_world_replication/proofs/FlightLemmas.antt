-- What is in flight over a link, and changes of it, as those of a world.
use Rattle.std.proofs.Common.{◌≡◌, ◌≤◌, ◌<◌, ℕ, nat_lt, Bool, true, false, [], List, Option, Some, None, map, position, length, get_or, set, refl, ap, sym, subst, ◌∙◌, arith}
use Rattle.std.proofs.lemmas.Bool.{ltb-true}
use Rattle.std.proofs.lemmas.List.{get_or_past}
use Rattle.std.specs.Option.{option_map}
use Rattle.ndc_model_cells.specs.declared.message.Message.{Message}
use Rattle.ndc_domain.specs.declared.clusters.ClusterNo.{ClusterNo}
use Rattle.ndc_cluster_links.specs.Links.{flight_in, with_flight_in}
use Rattle.ndc_model.specs.Moves.{rewound}
use Rattle.ndc_model.specs.Queues.{Lane, after_rewind, new_lane}
use Rattle.ndc_model.specs.World.{Link, World, flight_at, is_link, lane_in, link_at, link_found, with_flight}
use Rattle.ndc_queue.specs.Lists.{after_move}
use Rattle.ndc_world_replication.proofs.LinkLemmas.{IsFound, changed_there, found_there, link_is}
use Rattle.ndc_world_replication.proofs.PlaceLemmas.{none_changed, none_found}

-- nothing can be moved where nothing is in flight
pub none_moved : (from to : ℕ) → after_move {X = Message} from to [] ≡ None
none_moved from to = by (nat_lt to 0) refl
  where
    by : (b : Bool) → nat_lt to 0 ≡ b → after_move {X = Message} from to [] ≡ None
    by true less = let below : to < 0 = ltb-true to 0 less in absurd (omega (arith, below))
    by false past = rw past refl

module _ (reader source : ClusterNo) (w : World) where
  -- nothing is in flight where a reader has nothing of a source
  pub flight_nowhere : (shard : ℕ) → position (is_link reader source) w.links ≡ None → flight_at reader source shard w ≡ []
  flight_nowhere shard none = ap (λ (found : Option Link). flight_in shard (link_found reader source found)) (none_found (is_link reader source) w.links none)

  pub none_nowhere : (shard : ℕ) (change : List Message → Option (List Message)) → position (is_link reader source) w.links ≡ None → change [] ≡ None → change (flight_at reader source shard w) ≡ None
  none_nowhere shard change none nothing = ap change (flight_nowhere shard none) ∙ nothing

  -- and nothing is rewound
  pub rewound_nowhere : position (is_link reader source) w.links ≡ None → w ≡ rewound reader source w
  unfolding rewound
  rewound_nowhere none = ap (λ (links : List Link). record w { links = links }) (sym (none_changed (is_link reader source) (λ (link : Link). record link { lanes = map after_rewind link.lanes }) w.links none))

  module _ (place : ℕ) (link : Link) (it : IsFound reader source w.links place link) where
    -- what is in flight
    pub flight_there : (shard : ℕ) → flight_at reader source shard w ≡ flight_in shard link
    flight_there shard = ap (flight_in shard) (link_is reader source w place link it)

    -- nothing is in flight where there is no lane
    pub flight_past : (shard : ℕ) → length link.lanes ≤ shard → flight_at reader source shard w ≡ []
    flight_past shard past = flight_there shard ∙ ap (λ (lane : Lane). lane.flight) (get_or_past link.lanes shard new_lane past)

    -- what is made of it, where there is none
    pub none_past : (shard : ℕ) (change : List Message → Option (List Message)) → length link.lanes ≤ shard → change [] ≡ None → change (flight_at reader source shard w) ≡ None
    none_past shard change past none = ap change (flight_past shard past) ∙ none

    -- what is made of it there, where this is nothing
    pub none_there : (shard : ℕ) (change : List Message → Option (List Message)) → change (flight_in shard link) ≡ None → change (flight_at reader source shard w) ≡ None
    none_there shard change none = ap change (flight_there shard) ∙ none

    -- another list in flight
    pub flight_world : (shard : ℕ) (flight : List Message) (new : Link) → new ≡ with_flight_in shard flight link → record w { links = set w.links place new } ≡ with_flight reader source shard flight w
    flight_world shard flight new same =
        ap (λ (links : List Link). record w { links = links })
        (ap (set w.links place) (same ∙ ap (λ (l : Link). record link { lanes = set link.lanes shard (record (lane_in l shard) { flight = flight }) }) (sym (link_is reader source w place link it)))
        ∙ sym (changed_there reader source w place link it (λ (l : Link). record l { lanes = set l.lanes shard (record (lane_in (link_at reader source w) shard) { flight = flight }) })))

    -- rewinding
    pub rewound_world : (new : Link) → new ≡ record link { lanes = map after_rewind link.lanes } → record w { links = set w.links place new } ≡ rewound reader source w
    unfolding rewound
    rewound_world new same =
        ap (λ (links : List Link). record w { links = links })
        (ap (set w.links place) same ∙ sym (changed_there reader source w place link it (λ (l : Link). record l { lanes = map after_rewind l.lanes })))

    -- a change of what is in flight, made of it there
    pub changed_flight : (shard : ℕ) (change : List Message → Option (List Message)) (new : Link) → change (flight_in shard link) ≡ Some (flight_in shard new) → new ≡ with_flight_in shard (flight_in shard new) link
        → option_map (λ flight. with_flight reader source shard flight w) (change (flight_at reader source shard w)) ≡ Some (record w { links = set w.links place new })
    changed_flight shard change new some rest =
        ap (λ (flight : List Message). option_map (λ f. with_flight reader source shard f w) (change flight)) (flight_there shard) ∙ ap (option_map (λ f. with_flight reader source shard f w)) some
        ∙ ap Some (sym (flight_world shard (flight_in shard new) new rest))

-- the link at its place, by the links as they are held
pub found_in : (reader source : ClusterNo) (w v : World) (links : List Link) (place : ℕ) (link : Link) → v ≡ w → v.links ≡ links → Some place ≡ position (is_link reader source) links → link ≡ get_or links place link
    → IsFound reader source w.links place link
found_in reader source w v links place link same seen found at =
    subst (λ (ls : List Link). IsFound reader source ls place link) (sym seen ∙ ap (λ (u : World). u.links) same) (found_there reader source links place link (sym found) at)

pub nowhere_in : (reader source : ClusterNo) (w v : World) (links : List Link) → v ≡ w → v.links ≡ links → None ≡ position (is_link reader source) links → position (is_link reader source) w.links ≡ None
nowhere_in reader source w v links same seen none = ap (position (is_link reader source)) (sym (sym seen ∙ ap (λ (u : World). u.links) same)) ∙ sym none
