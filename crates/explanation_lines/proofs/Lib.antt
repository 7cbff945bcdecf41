pub mod ClampedEnds
pub mod SizePoured
pub mod LeftOrCut
pub mod ShortestForm
pub mod NumbersPoured
pub mod LineBounds
