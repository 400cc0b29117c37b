pub mod LinkFields
pub mod Links
pub mod QueuesFields
pub mod Rest
