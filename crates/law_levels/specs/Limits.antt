-- The room of each part of an entry and the size of its numbers, as numbers: whether a value has a spelling, by its parts.
use Rattle.std.proofs.Common.{◌≡◌, refl}
use Rattle.std.specs.Prelude.{ℕ, suc, ◌&&◌, nat_lt, length, Option}
use Rattle.std.specs.List.{list_all}
use Rattle.base_data.specs.Datum.{PlainDatum}
use Rattle.base_data.specs.declared.name.Label.{Label}
use Rattle.base_data.specs.declared.span.Span.{Span}
use Rattle.base_bytes.specs.Codec.{u16, u32, u64, optional_fits}
use Rattle.base_bytes.specs.Names.{span, label}
use Rattle.core_codec.specs.Code.{pattern, template, template_level, core, core_level, clause_list, clauses}
use Rattle.core_codec.specs.Records.{line, binding}
use Rattle.core_codec.specs.Trees.{datum, tree}
use Rattle.core_language.specs.Core as c
use Rattle.core_language.specs.Core.{PlainCore, PlainClauses}
use Rattle.core_language.specs.Template as m
use Rattle.core_language.specs.declared.binding.Binding.TheVariants as b
use Rattle.core_language.specs.declared.record.Line.TheVariants as l
use Rattle.core_language.specs.Template.{PlainTemplate}
use Rattle.stx_tree.specs.Tree.{Tree}

pub record LimitsOfEntries : Type 0 where
  -- a number of two bytes is at most 65,535, one of four at most 4,294,967,295
  pub two_bytes : (n : ℕ) → u16.fits n ≡ nat_lt n 65536
  pub four_bytes : (n : ℕ) → u32.fits n ≡ nat_lt n 4294967296
  pub eight_bytes : (n : ℕ) → u64.fits n ≡ nat_lt n 18446744073709551616
  -- constants of code and of templates
  pub of_quote : (k : ℕ) (x : PlainDatum) → (core (suc k)).fits (c.quoted x) ≡ (datum 1000).fits x
  pub of_constant : (k : ℕ) (x : Tree) → (template (suc k)).fits (m.constant x) ≡ (tree 1000).fits x
  -- templates, and the patterns of clauses
  pub of_syntax : (k : ℕ) (x : PlainTemplate) (y : Span) → (core (suc k)).fits (c.instance x y) ≡ ((template 2000).fits x && span.fits y)
  pub of_syntax_case : (k : ℕ) (x : PlainCore) (xs : PlainClauses) (y : Span) → (core (suc k)).fits (c.matching x xs y)
      ≡ ((core k).fits x && ((u64.fits (length (clause_list xs))
      && list_all (λ z. (pattern 2000).fits z.0 && (optional_fits (core k).fits z.1.0 && (core k).fits z.1.1)) (clause_list xs)) && span.fits y))
  -- the code of a line, and of a keyword that is kept for others
  pub of_definition : (x : Label) (y : PlainCore) → line.fits (l.Define x y) ≡ (label.fits x && (core 8193).fits y)
  pub of_expression : (x : PlainCore) → line.fits (l.Expr x) ≡ (core 8193).fits x
  pub of_keyword : (x : ℕ) (y : Option PlainCore) → binding.fits (b.Macro x y) ≡ (u32.fits x && optional_fits (core 8193).fits y)

pub limits-of-entries : LimitsOfEntries
unfolding u16 u32 u64 template template_level core core_level clauses line binding
limits-of-entries = record {
  two_bytes = λ n. refl;
  four_bytes = λ n. refl;
  eight_bytes = λ n. refl;
  of_quote = λ k x. refl;
  of_constant = λ k x. refl;
  of_syntax = λ k x y. refl;
  of_syntax_case = λ k x xs y. refl;
  of_definition = λ x y. refl;
  of_expression = λ x. refl;
  of_keyword = λ x y. refl;
}
