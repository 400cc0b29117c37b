pub mod DoneLemmas
pub mod IdleLemmas
pub mod PlaceLemmas
pub mod QueueLemmas
pub mod RestLemmas
pub mod QuietLemmas
