-- What record forms introduce can be read.
use Rattle.std.specs.Prelude.{◌&&◌, nat_lt}
use Rattle.std.proofs.lemmas.Bool.Decides.{nat_tests}
use Rattle.std.specs.List.{list_all}
use Rattle.std.specs.Str.{IsUtf8}
use Rattle.std.proofs.lemmas.Bool.{and_parts, ltb-true}
use Rattle.std.proofs.lemmas.List.{length-append}
use Rattle.std.proofs.lemmas.Str.{IsUtf8-append, IsUtf8-nil}
use Rattle.std.proofs.Common.{◌≡◌, ◌∙◌, refl, sym, subst, append_assoc, true, length, arith, ℕ, ◌+◌, Bool, List, [], ◌∷◌, ◌++◌, codes}
use Rattle.stx_scope.specs.Stands.{symbol_of}
use Rattle.law_round.specs.Readable.{IsName}
use Rattle.base_data.specs.declared.library.LibName.{LibName}
use Rattle.core_naming.specs.Decimal.{number_text}
use Rattle.core_naming.specs.Generated.{library_text, name_part}
use Rattle.read_printer.specs.Symbols.{is_subsequent}
use Rattle.law_names.proofs.AnyName.{rest_of_name, any_rest}
use Rattle.law_names.proofs.Words.{all_weaker}
use Rattle.law_readable.specs.Readable.{ReadableTree, readable}
use Rattle.law_readable.proofs.Texts.{is_small, small_text}
use Rattle.stx_tree.specs.Tree.{Tree, atom, leaf, pair, vector}
use Rattle.core_records.specs.Names.{constructor_symbol, predicate_symbol, accessor_symbol, mutator_symbol, record_symbol, record_uid}
use Rattle.law_invariant_expansion.proofs.RecordForms.{Introduces}

abbrev is_named : List ℕ → Bool
is_named x = list_all is_small x && nat_lt 0 (length x)

named : (x : List ℕ) → is_named x ≡ true → IsName x
named x h = let p = and_parts (list_all is_small x) (nat_lt 0 (length x)) h in (small_text x p.0, omega (arith, ltb-true, p.1))

-- the symbol of a leaf, and nothing of what is no leaf
symbol-text : (t : Tree) → ReadableTree t → IsUtf8 (symbol_of t)
symbol-text (atom s a) h = IsUtf8-nil
symbol-text (leaf s x c) h = h.0
symbol-text (pair s a d) h = IsUtf8-nil
symbol-text (vector s d) h = IsUtf8-nil

constructor-name : (x : List ℕ) → IsUtf8 x → IsName (constructor_symbol x)
constructor-name x h = (IsUtf8-append (codes "make-") x (named (codes "make-") refl).0 h, omega arith)

predicate-name : (x : List ℕ) → IsUtf8 x → IsName (predicate_symbol x)
predicate-name x h = (IsUtf8-append x (codes "?") h (named (codes "?") refl).0, omega (arith, length-append x (codes "?")))

accessor-name : (x f : List ℕ) → IsUtf8 x → IsUtf8 f → IsName (accessor_symbol x f)
accessor-name x f h k =
    (IsUtf8-append (x ++ codes "-") f (IsUtf8-append x (codes "-") h (named (codes "-") refl).0) k, omega (arith, length-append (x ++ codes "-") f, length-append x (codes "-")))

mutator-name : (x f : List ℕ) → IsUtf8 x → IsUtf8 f → IsName (mutator_symbol x f)
mutator-name x f h k =
    let a = accessor-name x f h k in
    (IsUtf8-append (accessor_symbol x f) (codes "-set!") a.0 (named (codes "-set!") refl).0, omega (arith, a.1, length-append (accessor_symbol x f) (codes "-set!")))

pub introduces : Introduces readable
introduces = record {
  words = λ x c h. named x h;
  constructors = λ t h. constructor-name (symbol_of t) (symbol-text t h);
  predicates = λ t h. predicate-name (symbol_of t) (symbol-text t h);
  accessors = λ t u h k. accessor-name (symbol_of t) (symbol_of u) (symbol-text t h) (symbol-text u k);
  mutators = λ t u h k. mutator-name (symbol_of t) (symbol_of u) (symbol-text t h) (symbol-text u k);
}

-- the name that a record type has in all programs

uid-is : (own : LibName) (x : List ℕ) (n : ℕ) → library_text own ++ codes "/" ++ name_part x ++ codes "/" ++ number_text n ≡ rest_of_name own x n
uid-is own x n =
    append_assoc ((library_text own ++ (0x2F ∷ [])) ++ name_part x) (0x2F ∷ []) (number_text n) ∙ append_assoc (library_text own ++ (0x2F ∷ [])) (name_part x) (0x2F ∷ number_text n)
    ∙ append_assoc (library_text own) (0x2F ∷ []) (name_part x ++ (0x2F ∷ number_text n))

rest-name : (own : LibName) (x : List ℕ) (n : ℕ) → IsName (rest_of_name own x n)
rest-name own x n = (small_text (rest_of_name own x n) (all_weaker is_subsequent is_small subsequent-small (rest_of_name own x n) (any_rest own x n)), omega (arith, length-append (library_text own) (0x2F ∷ (name_part x ++ (0x2F ∷ number_text n)))))
  where
    subsequent-small : (b : ℕ) → is_subsequent b ≡ true → is_small b ≡ true
    subsequent-small b h = grind (arith, nat_tests)

pub uid-name : (own : LibName) (t : Tree) (n : ℕ) → IsName (record_uid own t n)
unfolding record_uid
uid-name own t n = subst IsName (sym (uid-is own (record_symbol t) n)) (rest-name own (record_symbol t) n)
