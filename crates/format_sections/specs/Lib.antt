pub mod Kind
pub mod Form
pub mod Names
pub mod RunSections
pub mod UnreadInput
