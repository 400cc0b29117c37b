-- Lists of entries: what a pull takes, what is lost, repeated or moved in flight, and what is left of a queue that is trimmed.
use Rattle.std.specs.Prelude.{ℕ, ◌-◌, max, nat_lt, List, [], ◌∷◌, ◌++◌, length, take, drop, slice_get, Option, Some, None, if◌then◌else◌, option_map, remove, insert}

-- the entries from a level on: all of them, or at most so many
abbrev pub entries_from : {X : Type 0} → Option ℕ → ℕ → List X → List X
entries_from None level queue = drop level queue
entries_from (Some count) level queue = take count (drop level queue)

-- losing the message at a place, where there is one
abbrev pub after_loss : {X : Type 0} → ℕ → List X → Option (List X)
after_loss place flight = option_map (λ _. remove flight place) (slice_get flight place)

-- repeating the message at a place, where there is one: a copy goes last
abbrev pub after_repeat : {X : Type 0} → ℕ → List X → Option (List X)
after_repeat place flight = option_map (λ sent. flight ++ sent ∷ []) (slice_get flight place)

-- moving the message at one place so that it stands at another, where both are places of the list
abbrev pub after_move : {X : Type 0} → ℕ → ℕ → List X → Option (List X)
after_move place to flight =
    if nat_lt to (length flight) then option_map (λ sent. insert (remove flight place) to sent) (slice_get flight place) else None

-- what is left of the entries of a queue of which so many were dropped, when it is trimmed up to a level
abbrev pub kept_from : {X : Type 0} → ℕ → ℕ → List X → List X
kept_from first level kept = drop (level - first) kept

-- how many entries are dropped then
abbrev pub first_from : ℕ → ℕ → ℕ
first_from first level = max first level
