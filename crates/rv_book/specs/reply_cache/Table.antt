-- Re-exported from KeptTable: the table of what is kept of each client's reply.
pub use Rattle.rv_book.specs.reply_cache.KeptTable.{KeptTable, kept_code}
