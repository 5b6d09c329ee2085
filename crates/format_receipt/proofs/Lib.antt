pub mod ReceiptExact
pub mod Room
