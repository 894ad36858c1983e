mod RightCounts
pub mod RememberedCounts
