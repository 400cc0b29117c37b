pub mod RefusalLemmas
pub mod TallyLemmas
pub mod MemberLemmas
