pub mod FewLemmas
mod ShortLemmas
