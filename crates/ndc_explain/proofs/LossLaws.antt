-- A lost event is told in one class.
use Rattle.std.proofs.Common.{◌≡◌, Bool, true, false, not, ◌&&◌, refl}

-- what is told of one class is told and is not told of the other
pub told_once : (told both : Bool) → (told && both) ≡ (told && not (told && not both))
told_once false both = refl
told_once true false = refl
told_once true true = refl
