pub mod Cases
pub mod CastLaws
