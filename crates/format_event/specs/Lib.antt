pub mod EventRef
pub mod Leaf
pub mod LeafReading
pub mod TypedBytes
