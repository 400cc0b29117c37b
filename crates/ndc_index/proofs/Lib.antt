pub mod CountLemmas
pub mod SeatLemmas
pub mod KindLemmas
pub mod LawLemmas
