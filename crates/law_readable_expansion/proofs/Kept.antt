-- Expansion keeps that all can be read.
use Rattle.std.proofs.Common.{[], ◌∷◌, refl, arith}
use Rattle.std.specs.Prelude.{codes}
use Rattle.core_records.specs.Names.{record_uid}
use Rattle.law_round.specs.Readable.{IsName}
use Rattle.law_invariant_expansion.specs.Kept.{IsBuilt, IsKeptByExpansion}
use Rattle.law_invariant_expansion.proofs.RecordForms.{record-holds}
use Rattle.law_readable.specs.Readable.{readable}
use Rattle.law_readable.proofs.Steady.{readable-closed, readable-steady}
use Rattle.law_readable.proofs.Texts.{small_text}
use Rattle.law_readable.proofs.Trees.{spanned_holds, unspanned_holds, strip_holds}
use Rattle.law_readable_expansion.proofs.Records.{introduces, uid-name}

name-of-insert : IsName (118 ∷ [])
name-of-insert = (small_text (118 ∷ []) refl, omega arith)

-- the ellipsis behind splices has a name
name-of-dots : IsName (codes "...")
name-of-dots = (small_text (codes "...") refl, omega arith)

readable-built : IsBuilt readable
readable-built = record {
  closed = readable-closed;
  spanned = spanned_holds;
  unspanned = unspanned_holds;
  constants = strip_holds;
  symbols = λ s x c h. h;
}

pub readable-kept : IsKeptByExpansion readable
readable-kept = record {
  built = readable-built;
  steady = readable-steady;
  insert = λ k. name-of-insert;
  ellipsis = name-of-dots;
  records = λ fs t f place own count h. record-holds readable readable-built introduces fs t f place (record_uid own t count) (uid-name own t count) h;
  clauses = λ p A m h. h;
  inserts = λ vs A d h. h;
  templates = λ c t x A h e k. k;
}
