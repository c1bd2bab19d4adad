-- The text of a datum that can be read spells this datum, and is a line of core text where the datum is a form of one.
use Rattle.std.proofs.Common.{◌≡◌, ℕ, ◌+◌, List, [], ◌∷◌, ◌++◌, length, drop, arith, refl, sym, ap, ◌∙◌, subst, Ok}
use Rattle.std.proofs.lemmas.List.{append-nil, drop_all}
use Rattle.base_data.specs.Datum.{PlainDatum, unspanned}
use Rattle.check_grammar.specs.Lines.{IsLineForm, IsLine}
use Rattle.check_grammar.specs.Text.{text_of}
use Rattle.law_check.proofs.Alike.{alike, bare_text}
use Rattle.law_check.proofs.Ends.{text_has_no_end}
use Rattle.law_grammar.specs.Reads.{Reads, SpellingsAre}
use Rattle.read_lexer.specs.Start.{start_of}
use Rattle.read_lexer.specs.Tokens.{next_lexeme}
use Rattle.law_run.proofs.Spans.{line_as}
use Rattle.read_printer.specs.DatumText.{datum_text}
use Rattle.read_reader.specs.Grammar.{no_items, item}
use Rattle.read_reader.specs.Read.{most_nesting}
use Rattle.read_reader.specs.Spells.{Spells}
use Rattle.law_round.proofs.Lexing.{lex_end}
use Rattle.law_round.proofs.Round.{spell, starts}
use Rattle.law_round.specs.Readable.{IsReadable}
use Rattle.law_round.proofs.Lines.{follow_on}

-- what the text of a datum spells: this datum, but for the spans
record IsSpelt (d : PlainDatum) : Type 0 where
  datum : PlainDatum
  reads : Reads [] (text_of d) most_nesting (datum ∷ [])
  same : unspanned datum ≡ unspanned d

spelt : SpellingsAre → (d : PlainDatum) → IsReadable most_nesting d → IsSpelt d
spelt law d h =
    let source : List ℕ = datum_text d in
    let end : ℕ = length source in
    let r = spell [] source most_nesting d h [] refl 0 end [] (omega arith) (sym (append-nil source)) (lex_end [] source end refl (drop_all end source (omega arith))) in
    let begins : start_of [] source ≡ Ok 0 = rw (append-nil source) at (starts most_nesting d h [] [] refl) in
    let f = follow_on (next_lexeme [] source) (r.us ++ []) 0 (end + 1) (λ k more. r.lexes.same k (omega (arith, more))) in
    let spells : Spells [] source most_nesting (r.e ∷ []) = record { start = 0; end = f.end; lexemes = r.us ++ []; begins = begins; tokens = f.follow; ends = f.ends; items = item r.is no_items } in
    record { datum = r.e; reads = subst (λ (x : List ℕ). Reads [] x most_nesting (r.e ∷ [])) (alike d) ((law [] source most_nesting (r.e ∷ [])).0 spells); same = r.same }

pub line_is : SpellingsAre → {d : PlainDatum} {ds bs fs : List (List ℕ)} → IsLineForm d ds bs fs → IsReadable most_nesting d → IsLine (text_of d) ds bs fs
line_is law {d} i h =
    let r = spelt law d h in
    record {
      datum = r.datum;
      whole = text_has_no_end most_nesting d h;
      spelt = r.reads;
      form = line_as i r.datum r.same;
      written = sym (bare_text d) ∙ ap text_of (sym r.same) ∙ bare_text r.datum;
    }
