pub mod IsWithinLemmas
pub mod Ipv4Lemmas
pub mod Ipv6Lemmas
pub mod SlashLemmas
pub mod PrefixLengthLemmas
pub mod BlockTextLemmas
pub mod LeavesLemmas
