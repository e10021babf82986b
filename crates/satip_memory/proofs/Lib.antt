mod ContentLemmas
mod ReelLemmas
