pub mod ReceiptReading
pub mod Receipts
