-- The reader gives each datum that can be read, where enough forms may be nested.
use Rattle.std.proofs.Common.{ℕ, suc, ◌+◌, arith}
use Rattle.base_data.specs.Datum.{PlainDatum, atom, symbol, pair, vector}
use Rattle.base_data.specs.declared.atom.Atom.TheVariants as a
use Rattle.law_round.specs.Readable.{IsReadable, IsRest, AreElements}
use Rattle.law_round.proofs.Reading.{more, rest_more, elements_more}
use Rattle.law_readable.specs.Readable.{IsProperDatum, ReadableDatum}
use Rattle.law_readable.specs.Laws.{ReadablesAreRead}

mutual
  pub reads : (d : PlainDatum) → ReadableDatum d → (n : ℕ) × IsReadable n d
  reads (atom s x) h = (1, h)
  reads (symbol s x) h = (0, h)
  reads (pair s d e) h =
      let p = reads d h.0 in
      let q = ends e h.1 in
      (suc (p.0 + q.0), (more d p.0 (p.0 + q.0) (omega arith) p.1, rest_more e q.0 (p.0 + q.0) (omega arith) q.1))
  reads (vector s d) h = let p = elements d h.0 h.1 in (suc p.0, p.1)

  -- behind an element of a list
  ends : (d : PlainDatum) → ReadableDatum d → (n : ℕ) × IsRest n d
  ends (atom s x) h = (0, h)
  ends (symbol s x) h = (0, h)
  ends (pair s d e) h =
      let p = reads d h.0 in
      let q = ends e h.1 in
      (p.0 + q.0, (more d p.0 (p.0 + q.0) (omega arith) p.1, rest_more e q.0 (p.0 + q.0) (omega arith) q.1))
  ends (vector s d) h = let p = elements d h.0 h.1 in (suc p.0, p.1)

  elements : (d : PlainDatum) → ReadableDatum d → IsProperDatum d → (n : ℕ) × AreElements n d
  elements (atom s a.Nil) h k = (0, tt)
  elements (atom s (a.Bool b)) h k = elim k [ ]
  elements (atom s (a.Int z)) h k = elim k [ ]
  elements (atom s (a.Spelt text)) h k = elim k [ ]
  elements (atom s (a.Char c)) h k = elim k [ ]
  elements (atom s (a.Str text)) h k = elim k [ ]
  elements (atom s (a.Bytes bytes)) h k = elim k [ ]
  elements (symbol s x) h k = elim k [ ]
  elements (pair s d e) h k =
      let p = reads d h.0 in
      let q = elements e h.1 k in
      (p.0 + q.0, (more d p.0 (p.0 + q.0) (omega arith) p.1, elements_more e q.0 (p.0 + q.0) (omega arith) q.1))
  elements (vector s d) h k = elim k [ ]

pub readables-read : ReadablesAreRead
readables-read d h = reads d h
