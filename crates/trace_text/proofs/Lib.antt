pub mod TraceBytes
pub mod TraceFamily
pub mod TraceFields
pub mod TraceNumbers
pub mod WrittenLemmas
