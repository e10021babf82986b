pub mod Choosing
pub mod Finding
pub mod MapOver
pub mod Numbers
pub mod Counting
pub mod Soundness
