-- Levels: how far a reader has read a queue, and how far all of it is done.
use Rattle.std.specs.Prelude.{ℕ, ◌≤◌, max, min, List, length, unwrap_or}
use Rattle.std.specs.List.{reduce}

-- the levels of a reader: how far it has read a queue, and how far all of it is done
pub record LevelPair : Type 0 where
  pub read : ℕ
  pub done : ℕ

-- the levels before anything was read
abbrev pub new_levels : LevelPair
new_levels = record { read = 0; done = 0 }

-- `done` becomes this level, and `read` is not below it
abbrev pub advanced : ℕ → LevelPair → LevelPair
advanced done levels = record { read = max levels.read done; done = done }

-- what was read and is not done is read again
abbrev pub rewound : LevelPair → LevelPair
rewound levels = record levels { read = levels.done }

-- the levels of a queue: what is done was read, and what was read is in the queue
pub record AreLevels {X : Type 0} (queue : List X) (levels : LevelPair) : Type 0 where
  pub done_most : levels.done ≤ levels.read
  pub read_most : levels.read ≤ length queue

-- up to where a queue can be trimmed: the least of the levels that are done, or its length where there is none
abbrev pub trim_level : {X : Type 0} → List X → List ℕ → ℕ
trim_level queue done = unwrap_or (reduce min done) (length queue)
