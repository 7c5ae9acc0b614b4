mod Aside
mod CandidateLemmas
mod Combining
mod Edges
mod FewLemmas
mod Rotated
mod StandingLemmas
mod Swapped
