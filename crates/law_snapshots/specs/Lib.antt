pub use Rattle.server_reader.specs.Answered
