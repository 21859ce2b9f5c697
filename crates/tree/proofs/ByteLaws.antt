-- Laws of bytes and of tests, passed on to the crates above.
pub use Rattle.sha256.proofs.Cases.{by_bool}
pub use Rattle.sha256.proofs.Laws.{written-fits, written-length, written_twice, eqs-true}
