pub use Rattle.spec_grammar.specs.Statements
