-- The book as a desk, for whoever serves one.
pub use Rattle.rv_server.specs.locked.Books.{IsStep, entry_count, shown_by}
