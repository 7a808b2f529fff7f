pub mod AreaUnsigned
pub mod PriceCorrect
pub mod Union
