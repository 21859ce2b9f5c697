-- Bytes and big-endian numbers, passed on to the crates above.
unfoldable pub use Rattle.sha256.specs.Bytes.{be, number_at, written, eqs}
