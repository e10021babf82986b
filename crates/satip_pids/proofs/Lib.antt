pub mod BitSets
pub mod Packing
pub mod PidTexts
pub mod RisingLists
pub mod SetViews
pub mod Sets
