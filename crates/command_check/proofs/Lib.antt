pub mod VerdictsLemmas
