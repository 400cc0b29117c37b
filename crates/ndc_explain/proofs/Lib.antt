mod LawProofs
mod LossLaws
mod StandingLaws
mod WaitingLaws
