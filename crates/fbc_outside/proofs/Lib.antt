pub mod LandingLemmas
pub mod RawFileLemmas
pub mod SinkLemmas
pub mod WrittenLemmas
