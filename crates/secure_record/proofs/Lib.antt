pub mod MetadataLemmas
pub mod BodyLemmas
pub mod RecordLemmas
