mod BodyExact
pub mod RowExact
mod StepsExact
