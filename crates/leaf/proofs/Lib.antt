pub mod FoundBack
pub mod NoFrame
