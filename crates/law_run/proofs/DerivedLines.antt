-- The derived library defines keywords alone, and so its record has no lines.
use Rattle.std.proofs.Common.{map, ◌≡◌, Bool, true, false, List, [], ◌∷◌, ◌++◌, Some, Result, Ok, Err, refl, sym, subst, if◌then◌else◌}
use Rattle.std.specs.Prelude.{◌&&◌, codes, nat_eq}
use Rattle.std.specs.Cmp.Lexicographic.{pointwise}
use Rattle.std.proofs.lemmas.Bool.{and_parts}
use Rattle.bstr.specs.Utf8.{pieces_from}
use Rattle.base_data.proofs.ElementLemmas.{each-append}
use Rattle.base_data.specs.Datum.{PlainDatum}
use Rattle.base_data.specs.Datum as datum
use Rattle.base_data.specs.Elements.{Each}
use Rattle.base_data.specs.Gives.{◌>>=◌}
use Rattle.base_data.specs.Same.{texts_decides}
use Rattle.base_data.specs.declared.fault.Fault.{Fault}
use Rattle.base_data.specs.declared.imported_name.ImportedName.{ImportedName}
use Rattle.base_data.specs.declared.library.LibName.TheVariants as library
use Rattle.load_builtin.specs.declared.derived.TheConstants.{DERIVED_SOURCE}
use Rattle.core_language.specs.declared.record.CompiledLibrary.{CompiledLibrary}
use Rattle.law_core.specs.Records.{same_text}
use Rattle.law_core.specs.Words.{once}
use Rattle.law_core.proofs.Decisions.{text_decides, once_decides}
use Rattle.run_derived.specs.Derived.{tree_at, trees, forms_of, record_of, derived_record, derived_body}
use Rattle.run_derived.specs.Names.{path, start, names, names_from}
use Rattle.eval_code.specs.Codes.{Codes}
use Rattle.law_expand.specs.States.{AreKeyed}
use Rattle.law_expand.proofs.Behind.{started-keyed}
use Rattle.stx_frames.specs.Scope.{label_at}
use Rattle.read_lexer.specs.Gap.{atmosphere_end}
use Rattle.read_lexer.specs.Repeat.{repeated}
use Rattle.read_lexer.specs.Strings.{string_part, string_from}
use Rattle.read_lexer.specs.Tokens.{bare_step}
use Rattle.run_prelude.specs.Prelude.{at_place}
use Rattle.read_reader.specs.Lexemes.{lexed_from, lexed}
use Rattle.read_reader.specs.Read.{run, data_of, file_nesting}
use Rattle.core_records.specs.Frame.{rows_for, record_frame}
use Rattle.read_spelling.specs.Identifiers.{letter_here, name_from}
use Rattle.read_spelling.specs.Numbers.{value_from, is_spelt}
use Rattle.read_spelling.specs.Source.{characters}
use Rattle.expand_standing.specs.Start.{first_frame, started}
use Rattle.stx_tree.specs.Context.{blank}
use Rattle.stx_tree.specs.Leaves.{tree_of}
use Rattle.stx_tree.specs.Measures.{within, fits, too_deep}
use Rattle.stx_tree.specs.Tree.{Tree}
use Rattle.law_run.proofs.Keywords.{defining, word, IsDefinition, no-lines}

abbrev is_word : PlainDatum → Bool
is_word (datum.atom s a) = false
is_word (datum.symbol s x) = pointwise nat_eq x word
is_word (datum.pair s d e) = false
is_word (datum.vector s d) = false

abbrev is_definition : PlainDatum → Bool
is_definition (datum.atom s a) = false
is_definition (datum.symbol s x) = false
is_definition (datum.pair s d e) = is_word d
is_definition (datum.vector s d) = false

abbrev all_definitions : List PlainDatum → Bool
all_definitions [] = true
all_definitions (d ∷ ds) = is_definition d && all_definitions ds

abbrev are_definitions : Result (List PlainDatum) Fault → Bool
are_definitions (Ok ds) = all_definitions ds
are_definitions (Err f) = false

-- the text of the derived library, read
derived-read : are_definitions (data_of path DERIVED_SOURCE.now file_nesting) ≡ true
unfolding pieces_from atmosphere_end repeated string_part string_from bare_step lexed_from lexed run data_of letter_here name_from value_from is_spelt characters lib.Utf8.encode
derived-read = refl

-- its forms

definition-tree : (d : PlainDatum) → is_definition d ≡ true → IsDefinition blank (tree_of blank d)
definition-tree (datum.atom s a) e = absurd (cc)
definition-tree (datum.symbol s x) e = absurd (cc)
definition-tree (datum.pair s (datum.atom q a) d) e = absurd (cc)
definition-tree (datum.pair s (datum.symbol q x) d) e = ((texts_decides x word).0 e, refl)
definition-tree (datum.pair s (datum.pair q a b) d) e = absurd (cc)
definition-tree (datum.pair s (datum.vector q a) d) e = absurd (cc)
definition-tree (datum.vector s d) e = absurd (cc)

within-tree : (t u : Tree) → at_place start (within t) ≡ Ok u → u ≡ t
unfolding within
within-tree t u e = by (fits t) e
  where
    by : (b : Bool) → at_place start (if b then Ok t else Err too_deep) ≡ Ok u → u ≡ t
    by true k = let is : t ≡ u = cc in sym is
    by false k = absurd (cc)

trees-are : (done : List Tree) (ds : List PlainDatum) (forms : List Tree) → Each (IsDefinition blank) done → all_definitions ds ≡ true → trees done ds ≡ Ok forms → Each (IsDefinition blank) forms
trees-are done [] forms h a e = let is : done ≡ forms = cc in subst (Each (IsDefinition blank)) is h
trees-are done (d ∷ ds) forms h a e =
    by (tree_at d) (λ t k. within-tree (tree_of blank d) t k) e (λ t k. trees-are (done ++ t ∷ []) ds forms (each-append (IsDefinition blank) done (t ∷ []) h (subst (IsDefinition blank) (sym k) (definition-tree d both.0), tt)) both.1)
  where
    both : (is_definition d ≡ true) × (all_definitions ds ≡ true)
    both = and_parts (is_definition d) (all_definitions ds) a

    by : (r : Result Tree Fault) → ((t : Tree) → r ≡ Ok t → t ≡ tree_of blank d) → (r >>= (λ t. trees (done ++ t ∷ []) ds)) ≡ Ok forms
        → ((t : Tree) → t ≡ tree_of blank d → trees (done ++ t ∷ []) ds ≡ Ok forms → Each (IsDefinition blank) forms) → Each (IsDefinition blank) forms
    by (Ok t) is k rest = rest t (is t refl) k
    by (Err f) is k rest = absurd (cc)

data-are : (r : Result (List PlainDatum) Fault) (forms : List Tree) → are_definitions r ≡ true → (r >>= trees []) ≡ Ok forms → Each (IsDefinition blank) forms
data-are (Ok ds) forms a e = trees-are [] ds forms tt a e
data-are (Err f) forms a e = absurd (cc)

forms-are : (forms : List Tree) → forms_of DERIVED_SOURCE.now ≡ Ok forms → Each (IsDefinition blank) forms
unfolding forms_of
forms-are forms e = data-are (data_of path DERIVED_SOURCE.now file_nesting) forms derived-read e

-- it imports each name once, and the word that defines keywords is among them

names-once : once same_text (map (λ (e : ImportedName). e.name) names) ≡ true
unfolding names_from
names-once = refl

start-keyed : (codes : Codes) → AreKeyed library.Derived (started library.Derived [] names codes).frames
start-keyed codes = started-keyed library.Derived [] names codes tt (λ a. elim a [ ]) (λ e. cc) ((once_decides same_text text_decides (map (λ (e : ImportedName). e.name) names)).0 names-once)

word-found : (codes : Codes) → label_at (started library.Derived [] names codes).frames (first_frame library.Derived) word [] ≡ Some defining
unfolding started record_frame rows_for names_from
word-found codes = refl

start-library : (codes : Codes) → (started library.Derived [] names codes).library ≡ library.Derived
unfolding started
start-library codes = refl

same-names : (codes : Codes) → (started library.Derived [] names codes).names.library ≡ (started library.Derived [] names codes).library
unfolding started
same-names codes = refl

module _ (d : CompiledLibrary) where
  codes-bare : (codes : Codes) (forms : List Tree) → Each (IsDefinition blank) forms → record_of codes forms ≡ Ok d → d.run ≡ []
  unfolding record_of
  codes-bare codes forms are e = no-lines library.Derived names (derived_body forms) codes d (word-found codes) (same-names codes) (start-library codes) (start-keyed codes) are e

  pub derived-bare : (prelude : Result Codes Fault) → derived_record prelude ≡ Ok d → d.run ≡ []
  unfolding derived_record
  derived-bare prelude e = by_forms (forms_of DERIVED_SOURCE.now) (λ forms k. forms-are forms k) e
    where
      by_codes : (forms : List Tree) → Each (IsDefinition blank) forms → (x : Result Codes Fault) → (x >>= (λ codes. record_of codes forms)) ≡ Ok d → d.run ≡ []
      by_codes forms are (Ok codes) k = codes-bare codes forms are k
      by_codes forms are (Err f) k = absurd (cc)

      by_forms : (x : Result (List Tree) Fault) → ((forms : List Tree) → x ≡ Ok forms → Each (IsDefinition blank) forms) → (x >>= (λ forms. prelude >>= (λ codes. record_of codes forms))) ≡ Ok d → d.run ≡ []
      by_forms (Ok forms) are k = by_codes forms (are forms refl) prelude k
      by_forms (Err f) are k = absurd (cc)
