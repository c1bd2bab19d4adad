-- What of a record has a spelling because its names, spans, numbers and lengths have one: 32 bits for levels, depths, counts of ellipses and the
-- ends of spans, and 64 for all others.
use Rattle.std.specs.Prelude.{◌≡◌, true, List, Option, None, Some, length}
use Rattle.base_data.specs.Datum as datum
use Rattle.base_data.specs.Datum.{PlainDatum}
use Rattle.base_data.specs.declared.atom.Atom.{Atom}
use Rattle.base_data.specs.declared.atom.Atom.TheVariants as a
use Rattle.base_data.specs.declared.name.Label.{Label}
use Rattle.base_bytes.specs.Codec.{Codec, u32, u64, text, optional, listed}
use Rattle.base_bytes.specs.Names.{span, library, label, imported_name, code_number}
use Rattle.core_codec.specs.Code.{formals, split, item_list, core_list, init_list, case_list, clause_list}
use Rattle.core_codec.specs.Contexts.{context, frame_row}
use Rattle.core_language.specs.Core as c
use Rattle.core_language.specs.Core.{PlainCore, PlainCores, PlainInits, PlainCases, PlainClauses}
use Rattle.core_language.specs.Pattern as p
use Rattle.core_language.specs.Pattern.{PlainPattern, PlainPatterns}
use Rattle.core_language.specs.Template as m
use Rattle.core_language.specs.Template.{PlainTemplate, PlainItems}
use Rattle.core_language.specs.declared.binding.Binding.{Binding}
use Rattle.core_language.specs.declared.binding.Binding.TheVariants as b
use Rattle.core_language.specs.declared.record.CompiledLibrary.{CompiledLibrary}
use Rattle.core_language.specs.declared.record.Line.{Line}
use Rattle.core_language.specs.declared.record.Line.TheVariants as l
use Rattle.base_data.specs.Elements.{Each}
use Rattle.stx_tree.specs.Tree as t
use Rattle.stx_tree.specs.Tree.{Tree}

-- it has a spelling
abbrev pub Has : {A : Type 0} → Codec A → A → Type 0
Has k x = k.fits x ≡ true

-- 64 bits hold its length
abbrev pub IsShort : {A : Type 0} → List A → Type 0
IsShort xs = u64.fits (length xs) ≡ true

abbrev pub AtomFits : Atom → Type 0
AtomFits a.Nil = Unit {0}
AtomFits (a.Bool x) = Unit {0}
AtomFits (a.Int z) = Unit {0}
AtomFits (a.Spelt x) = IsShort x
AtomFits (a.Char x) = Unit {0}
AtomFits (a.Str x) = IsShort x
AtomFits (a.Bytes x) = IsShort x

abbrev pub TreeFits : Tree → Type 0
TreeFits (t.atom s x) = Has (optional span) s × AtomFits x
TreeFits (t.leaf s x k) = Has (optional span) s × (IsShort x × Has context k)
TreeFits (t.pair s x d) = Has (optional span) s × (TreeFits x × TreeFits d)
TreeFits (t.vector s d) = Has (optional span) s × TreeFits d

abbrev pub DatumFits : PlainDatum → Type 0
DatumFits (datum.atom s x) = Has (optional span) s × AtomFits x
DatumFits (datum.symbol s x) = Has (optional span) s × IsShort x
DatumFits (datum.pair s x d) = Has (optional span) s × (DatumFits x × DatumFits d)
DatumFits (datum.vector s d) = Has (optional span) s × DatumFits d

-- The patterns before an ellipsis, and those after it, are lists of their own.
abbrev mutual
  pub PatternFits : PlainPattern → Type 0
  PatternFits p.any = Unit {0}
  PatternFits (p.variable x) = Has label x
  PatternFits (p.literal x) = TreeFits x
  PatternFits (p.atom x) = AtomFits x
  PatternFits (p.list xs x) = ((IsShort (split xs).0 × IsShort (split xs).1.1) × EachPatternFits xs) × PatternFits x
  PatternFits (p.vector xs) = (IsShort (split xs).0 × IsShort (split xs).1.1) × EachPatternFits xs

  pub EachPatternFits : PlainPatterns → Type 0
  EachPatternFits p.none = Unit {0}
  EachPatternFits (p.more x xs) = PatternFits x × EachPatternFits xs
  EachPatternFits (p.dots x xs) = PatternFits x × EachPatternFits xs

abbrev pub PatternsFit : PlainPatterns → Type 0
PatternsFit xs = (IsShort (split xs).0 × IsShort (split xs).1.1) × EachPatternFits xs

abbrev mutual
  pub TemplateFits : PlainTemplate → Type 0
  TemplateFits (m.variable x depth) = Has label x × Has u32 depth
  TemplateFits (m.constant x) = TreeFits x
  TemplateFits (m.list xs x) = (IsShort (item_list xs) × ItemsFit xs) × TemplateFits x
  TemplateFits (m.vector xs) = IsShort (item_list xs) × ItemsFit xs

  pub ItemsFit : PlainItems → Type 0
  ItemsFit m.none = Unit {0}
  ItemsFit (m.more x ellipses xs) = (TemplateFits x × Has u32 ellipses) × ItemsFit xs

abbrev mutual
  pub CoreFits : PlainCore → Type 0
  CoreFits (c.quoted d) = DatumFits d
  CoreFits (c.variable x) = Has label x
  CoreFits (c.primitive o) = Unit {0}
  CoreFits (c.one_armed x y) = CoreFits x × CoreFits y
  CoreFits (c.two_armed x y z) = CoreFits x × (CoreFits y × CoreFits z)
  CoreFits (c.assignment x y) = Has label x × CoreFits y
  CoreFits (c.sequence xs) = IsShort (core_list xs) × CoresFit xs
  CoreFits (c.procedure n xs plain) = Has code_number n × (IsShort (case_list xs) × CasesFit xs)
  CoreFits (c.letrec star is x) = (IsShort (init_list is) × InitsFit is) × CoreFits x
  CoreFits (c.call x xs) = CoreFits x × (IsShort (core_list xs) × CoresFit xs)
  CoreFits (c.instance x s) = TemplateFits x × Has span s
  CoreFits (c.matching x xs s) = CoreFits x × ((IsShort (clause_list xs) × ClausesFit xs) × Has span s)

  pub CoresFit : PlainCores → Type 0
  CoresFit c.none = Unit {0}
  CoresFit (c.more x xs) = CoreFits x × CoresFit xs

  pub InitsFit : PlainInits → Type 0
  InitsFit c.no_init = Unit {0}
  InitsFit (c.init x y is) = (Has label x × CoreFits y) × InitsFit is

  pub CasesFit : PlainCases → Type 0
  CasesFit c.no_case = Unit {0}
  CasesFit (c.case f x xs) = (Has formals f × CoreFits x) × CasesFit xs

  pub ClausesFit : PlainClauses → Type 0
  ClausesFit c.no_clause = Unit {0}
  ClausesFit (c.clause q x xs) = (PatternFits q × CoreFits x) × ClausesFit xs
  ClausesFit (c.fended q f x xs) = (PatternFits q × (CoreFits f × CoreFits x)) × ClausesFit xs

abbrev pub LineFits : Line → Type 0
LineFits (l.Define x y) = Has label x × CoreFits y
LineFits (l.Expr x) = CoreFits x

abbrev pub ExpressionFits : Option PlainCore → Type 0
ExpressionFits None = Unit {0}
ExpressionFits (Some x) = CoreFits x

abbrev pub BindingFits : Label × Binding → Type 0
BindingFits (x, b.Variable v) = Has label x × (IsShort v.symbol × (Has (optional u64) v.index × Has u32 v.level))
BindingFits (x, b.PatternVariable level depth) = Has label x × (Has u32 level × Has u32 depth)
BindingFits (x, b.Macro level e) = Has label x × (Has u32 level × ExpressionFits e)
BindingFits (x, b.Core f) = Has label x
BindingFits (x, b.Primitive o) = Has label x

-- Its path, its exports and its rows have texts, too.
pub record NumbersFit (r : CompiledLibrary) : Type 0 where
  pub path : Has text r.path
  pub name : Has library r.name
  pub version : Has (listed u64) r.version
  pub exports : Has (listed imported_name) r.exports
  pub bindings : IsShort r.bindings × Each BindingFits r.bindings
  pub rows : Has (listed frame_row) r.frames
  pub lines : IsShort r.run × Each LineFits r.run
  pub refs : Has (listed library) r.refs
