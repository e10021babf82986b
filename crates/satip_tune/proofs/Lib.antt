pub mod WordLaws
pub mod Places
pub mod FrequencyLemmas
pub mod Printed
