mod SetLemmas
mod WalkLemmas
