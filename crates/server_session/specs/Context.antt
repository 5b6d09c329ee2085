-- The context of a transaction.
pub use Rattle.store_tx.specs.declared.context.TxCtx.{TxCtx}
