-- Evaluation and expansion keep what has a spelling.
use Rattle.std.proofs.Common.{◌≡◌, ◌≤◌, Bool, true, false, List, Option, None, Some, Ok, Err, refl, subst, arith, if◌then◌else◌}
use Rattle.std.specs.Prelude.{nat_le, ◌&&◌}
use Rattle.base_data.specs.Datum as datum
use Rattle.base_data.specs.Datum.{PlainDatum}
use Rattle.base_data.specs.declared.span.Span.{Span}
use Rattle.stx_tree.specs.Leaves.{strip}
use Rattle.stx_tree.specs.Measures.{size, height, max_height, max_size, too_deep, within}
use Rattle.stx_tree.specs.Tree.{Tree, atom, pair, vector, rest_of, list_of, vector_of}
use Rattle.core_language.specs.Pattern.{PlainPattern}
use Rattle.core_records.specs.Names.{record_uid}
use Rattle.base_data.specs.Elements.{Each}
use Rattle.law_invariants.specs.Closed.{IsClosed}
use Rattle.law_invariants.specs.Invariant.{DatumHolds}
use Rattle.law_invariants.specs.Steady.{IsSteady}
use Rattle.base_data.proofs.ElementLemmas.{each-implied}
use Rattle.law_invariant_expansion.specs.Kept.{IsBuilt, PatternIsKept, IsKeptByExpansion}
use Rattle.law_invariant_expansion.proofs.RecordForms.{Introduces, record-holds}
use Rattle.law_limits.proofs.Limits.{fits-lawful}
use Rattle.law_readable.specs.Readable.{ReadableTree, readable}
use Rattle.law_readable.proofs.Steady.{readable-closed, readable-steady}
use Rattle.law_readable_expansion.proofs.Kept.{readable-kept}
use Rattle.law_readable_expansion.proofs.Records.{introduces, uid-name}
use Rattle.law_levels.specs.Levels.{pattern_levels, template_levels}
use Rattle.law_spellings.specs.Rests.{HasPlainRests}
use Rattle.law_spellings.specs.Spelled.{SpelledTree, SpelledPattern, spelled}
use Rattle.law_spellings.proofs.Heights.{through}
use Rattle.law_spellings.proofs.Patterns as patterns
use Rattle.law_spellings.proofs.Rests.{rest-plain, list-plain, vector-plain, spanned-plain, unspanned-plain, changed-plain}
use Rattle.law_spellings.proofs.Templates as templates

-- Parts.

pub first-spelled : (s : Option Span) (t u : Tree) → SpelledTree (pair s t u) → SpelledTree t
first-spelled s t u h = (fits-lawful.first s t u h.0, (readable-closed.first s t u h.1.0, h.1.1.1.0))

pub rest-spelled : (s : Option Span) (t u : Tree) → SpelledTree (pair s t u) → SpelledTree u
rest-spelled s t u h = (fits-lawful.rest s t u h.0, (readable-closed.rest s t u h.1.0, h.1.1.1.1))

pub elements-spelled : (s : Option Span) (t : Tree) → SpelledTree (vector s t) → SpelledTree t
elements-spelled s t h = (fits-lawful.elements s t h.0, (readable-closed.elements s t h.1.0, h.1.1.1))

-- an identifier
leaf-fits : (1 ≤ max_height) × (1 ≤ max_size)
leaf-fits = (omega arith, omega arith)

-- Trees that are made within the limits of a tree.

same-tree : (t u : Tree) → within t ≡ Ok u → t ≡ u
unfolding within
same-tree t u e = by (nat_le (height t) max_height && nat_le (size t) max_size) e
  where
    by : (b : Bool) → (if b then Ok t else Err too_deep) ≡ Ok u → t ≡ u
    by true k = cc
    by false k = absurd (cc)

made-plain : (t u : Tree) → HasPlainRests t → within t ≡ Ok u → HasPlainRests u
made-plain t u h e = subst HasPlainRests (same-tree t u e) h

readable-each : (ts : List Tree) → Each SpelledTree ts → Each ReadableTree ts
readable-each ts h = each-implied SpelledTree ReadableTree (λ t k. k.1.0) ts h

plain-each : (ts : List Tree) → Each SpelledTree ts → Each HasPlainRests ts
plain-each ts h = each-implied SpelledTree HasPlainRests (λ t k. k.1.1) ts h

pair-plain : (t u : Tree) → HasPlainRests t → HasPlainRests u → HasPlainRests (pair None t (rest_of u))
pair-plain t u h k = let r = rest-plain u k in (r.1, (h, r.0))

-- What is asked of data is asked of their atoms and symbols, of which the same is asked as where they can be read.
same-parts : (d : PlainDatum) → DatumHolds readable d → DatumHolds spelled d
same-parts (datum.atom s x) h = h
same-parts (datum.symbol s x) h = h
same-parts (datum.pair s d e) h = (same-parts d h.0, same-parts e h.1)
same-parts (datum.vector s d) h = same-parts d h

stripped-spelled : (t : Tree) → SpelledTree t → DatumHolds spelled (strip t)
stripped-spelled t h = same-parts (strip t) (readable-closed.stripped t h.1.0)

spelled-closed : IsClosed spelled
spelled-closed = record {
  nil = readable-closed.nil;
  booleans = readable-closed.booleans;
  integers = readable-closed.integers;
  characters = readable-closed.characters;
  scalar_values = readable-closed.scalar_values;
  strings = readable-closed.strings;
  contents = readable-closed.contents;
  spellings = readable-closed.spellings;
  interned = readable-closed.interned;
  unpacked = readable-closed.unpacked;
  packed = readable-closed.packed;
  appended = readable-closed.appended;
  decimals = readable-closed.decimals;
  numerals = readable-closed.numerals;
  atom = λ x h. (fits-lawful.atoms None x, (readable-closed.atom x h, tt));
  renamed = λ s x y c h k. (fits-lawful.leaves None y c, (readable-closed.renamed s x y c h.1.0 k, tt));
  pair = λ t u w h k e. (fits-lawful.within (pair None t (rest_of u)) w e, (readable-closed.pair t u w h.1.0 k.1.0 e, made-plain (pair None t (rest_of u)) w (pair-plain t u h.1.1 k.1.1) e));
  list = λ ts t w h k e.
      (fits-lawful.within (list_of ts (Some t)) w e, (readable-closed.list ts t w (readable-each ts h) k.1.0 e, made-plain (list_of ts (Some t)) w (list-plain ts t (plain-each ts h) k.1.1) e));
  vector = λ ts w h e. (fits-lawful.within (vector_of ts) w e, (readable-closed.vector ts w (readable-each ts h) e, made-plain (vector_of ts) w (vector-plain ts (plain-each ts h)) e));
  first = first-spelled;
  rest = rest-spelled;
  elements = elements-spelled;
  stripped = stripped-spelled;
  constants = λ d h. subst (λ (e : PlainDatum). DatumHolds spelled e) h.1.1 (stripped-spelled h.0 h.1.0);
}

spelled-built : IsBuilt spelled
spelled-built = record {
  closed = spelled-closed;
  spanned = λ s t h. (fits-lawful.spanned s t h.0, (readable-kept.built.spanned s t h.1.0, spanned-plain s t h.1.1));
  unspanned = λ t h. (fits-lawful.unspanned t h.0, (readable-kept.built.unspanned t h.1.0, unspanned-plain t h.1.1));
  constants = λ t h. (t, (h, refl));
  symbols = λ s x c h. h.1.0;
}

spelled-steady : IsSteady spelled
spelled-steady = record {
  closed = spelled-closed;
  temporaries = λ n. (leaf-fits, (readable-steady.temporaries n, tt));
  changed = λ cs t h. (fits-lawful.changed cs t h.0, (readable-steady.changed cs t h.1.0, changed-plain cs t h.1.1));
  code = λ p A h. h.1;
  clauses = λ p A B f h. (h.0, f h.1);
  template = λ x A h. h.1;
  templates = λ x A B f h. (h.0, f h.1);
}

-- what record forms introduce
spelled-introduces : Introduces spelled
spelled-introduces = record {
  words = λ x c h. (fits-lawful.leaves None x c, (introduces.words x c h, tt));
  constructors = λ t h. (leaf-fits, (introduces.constructors t h.1.0, tt));
  predicates = λ t h. (leaf-fits, (introduces.predicates t h.1.0, tt));
  accessors = λ t u h k. (leaf-fits, (introduces.accessors t u h.1.0 k.1.0, tt));
  mutators = λ t u h k. (leaf-fits, (introduces.mutators t u h.1.0 k.1.0, tt));
}

-- Patterns.

pattern-spelled : (p : PlainPattern) → PatternIsKept spelled p → (pattern_levels p ≤ max_height) × SpelledPattern p
pattern-spelled p m =
    let levels = through (pattern_levels m.compiled.0.pattern) (height m.form) max_height (patterns.compiled-levels m.scope m.form m.names m.compiled m.made) m.holds.0.0 in
    let is = patterns.compiled-spelled first-spelled rest-spelled elements-spelled m.scope m.form m.names m.compiled m.made m.holds in
    subst (λ (q : PlainPattern). (pattern_levels q ≤ max_height) × SpelledPattern q) m.is (levels, is)

pub spelled-kept : IsKeptByExpansion spelled
spelled-kept = record {
  built = spelled-built;
  steady = spelled-steady;
  insert = λ k. (leaf-fits, (readable-kept.insert k, tt));
  ellipsis = (leaf-fits, (readable-kept.ellipsis, tt));
  records = λ fs t f place own count h.
      record-holds spelled spelled-built spelled-introduces fs t f place (record_uid own t count) (leaf-fits, (uid-name own t count, tt)) h;
  clauses = λ p A m h. (pattern-spelled p m, h);
  inserts = λ vs A few h. ((patterns.inserts-levels vs few, patterns.inserts-spelled vs few), h);
  templates = λ c t x A h e k. (through (template_levels x) (height t) max_height (templates.compiled-levels c t x (templates.holds-lists t h.1.0) e) h.0.0, k);
}
