pub mod LinesCounted
pub mod OneLine
pub mod PointsFit
pub mod ReadBack
pub mod ReplySmall
pub mod ReplyWithin
mod HeadBack
mod Replies
mod RowsBack
