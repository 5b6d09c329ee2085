pub mod RowReading
pub mod RowReceipts
