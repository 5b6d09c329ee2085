mod Growing
mod LeafExact
pub mod Leaves
pub mod Sizes
mod Texts
pub mod TypeLaws
pub mod TypedExact
mod ValueLaws
pub mod Values
mod Told
