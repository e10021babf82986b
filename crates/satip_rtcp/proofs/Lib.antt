pub mod Lengths
pub mod ReportParts
pub mod SameTexts
