pub mod DeliveryLemmas
pub mod PausingLemmas
