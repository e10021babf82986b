mod KitLemmas
mod FreshKits
