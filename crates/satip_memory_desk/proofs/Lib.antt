pub mod DrawerLemmas
