-- How far the readers of one shard have told a source to be done.
use Rattle.std.specs.Prelude.{ℕ, ◌==◌, max, min, length, not, nat_lt, replicate, List, slice_index, slice_set, Option, if◌then◌else◌}
use Rattle.std.specs.List.{reduce}
use Rattle.ndc_node_lanes.specs.declared.told_levels.Telling.{Telling}
use Rattle.ndc_node_lanes.specs.declared.told_levels.Telling.TheVariants.{Ahead, Noted, OtherEpoch}

-- the epoch of the source's queue, and for each reader the greatest level that it has told under it
pub record LevelsValue : Type 0 where
  pub epoch : ℕ
  pub told : List ℕ

-- what comes of a level that is told under an epoch, where the queue has so many entries
abbrev pub telling_of : ℕ → ℕ → ℕ → LevelsValue → Telling
telling_of epoch level entries levels =
    if not (epoch == levels.epoch) then OtherEpoch
    else if nat_lt entries level then Ahead
    else Noted

-- the levels with this one of a reader, which does not fall
abbrev pub noted : ℕ → ℕ → LevelsValue → LevelsValue
noted reader level levels = record levels { told = slice_set levels.told reader (max (slice_index levels.told reader) level) }

-- the levels after what came of a level that a reader told
abbrev pub after_telling : ℕ → ℕ → Telling → LevelsValue → LevelsValue
after_telling reader level Noted levels = noted reader level levels
after_telling reader level OtherEpoch levels = levels
after_telling reader level Ahead levels = levels

-- the levels at the beginning of an epoch: all readers are where the queue is trimmed
abbrev pub at_epoch : ℕ → ℕ → LevelsValue → LevelsValue
at_epoch epoch trimmed levels = record { epoch = epoch; told = replicate (length levels.told) trimmed }

-- up to where all readers are done, where there is a reader
abbrev pub trim_level : LevelsValue → Option ℕ
trim_level levels = reduce min levels.told
