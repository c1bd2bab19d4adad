-- The text of a datum that can be read is the line of this datum.
use Rattle.std.proofs.Common.{ℕ, Bool, List, [], None, sym, ap, ◌∙◌, cond}
use Rattle.std.specs.Cmp.Lexicographic.{bytes_decides}
use Rattle.base_data.specs.Datum.{PlainDatum}
use Rattle.check_verdict.specs.Lines.{line_on, read_on}
use Rattle.check_verdict.specs.Walk.{line_form}
use Rattle.check_grammar.specs.Text.{text_of}
use Rattle.law_check.specs.Texts.{TextsTellTheirData}
use Rattle.law_check.proofs.Alike.{alike, bare_text}
use Rattle.law_check.proofs.Walks.{bare_line}
use Rattle.read_reader.specs.Read.{data_of, most_nesting}
use Rattle.law_round.proofs.Round.{read_back}

pub texts_tell : TextsTellTheirData
unfolding line_on
texts_tell d s h =
    let r = read_back [] most_nesting d h in
    ap (λ o. read_on (text_of d) o s) (ap (λ (t : List ℕ). data_of [] t most_nesting) (sym (alike d)) ∙ r.read)
    ∙ ap (λ (b : Bool). cond b (line_form r.datum s) None) ((bytes_decides (text_of r.datum) (text_of d)).1 (sym (bare_text r.datum) ∙ ap text_of r.same ∙ bare_text d))
    ∙ sym (bare_line r.datum s) ∙ ap (λ (e : PlainDatum). line_form e s) r.same ∙ bare_line d s
