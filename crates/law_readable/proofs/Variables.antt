-- What is found in a table.
pub use Rattle.law_invariants.proofs.Variables.{looked_up}
