pub mod ClientLemmas
pub mod CrewLemmas
pub mod MadeLemmas
pub mod OwnsLemmas
pub mod PowerLemmas
pub mod SendLemmas
pub mod ServeLemmas
pub mod WorkLemmas
