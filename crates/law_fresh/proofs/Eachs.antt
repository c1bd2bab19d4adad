-- What holds of each element of a list.
pub use Rattle.law_invariants.proofs.Eachs.{each_of_map, each_reversed, each_at}
