-- How fields and clauses of a record type are read is how they are written.
use Rattle.std.proofs.Common.{◌≡◌, ℕ, Bool, true, false, List, [], ◌∷◌, Option, None, Some, Ok, Err, refl, ap, sym, ◌∙◌, subst, inl, inr, if◌then◌else◌}
use Rattle.std.specs.Prelude.{◌⊎◌, nat_eq, nat_lt}
use Rattle.std.specs.Cmp.{unsigned_Decides}
use Rattle.base_data.specs.Gives.{◌>>=◌}
use Rattle.base_data.specs.Op.{name_count}
use Rattle.base_data.specs.Same.{same_library, same_library_decides}
use Rattle.base_data.specs.declared.atom.Atom.TheVariants as atoms
use Rattle.base_data.specs.declared.fault.FaultKind.TheVariants as kind
use Rattle.base_data.specs.declared.library.LibName.TheVariants as library
use Rattle.base_data.specs.declared.name.Label.{Label}
use Rattle.base_data.specs.declared.span.Span.{Span}
use Rattle.stx_tree.specs.Tree.{Tree, atom, leaf, pair, vector}
use Rattle.stx_frames.specs.Scope.{Scope}
use Rattle.stx_scope.specs.Stands.{stands}
use Rattle.core_language.specs.CoreForm.{number, first_numbered, at_number}
use Rattle.core_language.specs.declared.core_form.CoreForm.{CoreForm}
use Rattle.core_language.specs.declared.core_form.CoreForm.TheVariants as form
use Rattle.core_language.specs.declared.core_form.TheConstants.{CORE_FORMS}
use Rattle.core_shapes.specs.At.{fault_at}
use Rattle.core_shapes.specs.Lists.{is_leaf, proper_elements, if_some, all_of}
use Rattle.core_records.specs.Clauses.{numbered, labelled, keyword_of, field_with, fixed_field, immutable_field, mutable_field, field_by, field_in, field_of, fields_clause, parent_clause, parent_rtd_clause, protocol_clause, truth_of, sealed_clause, opaque_clause, nongenerative_clause, clause_by, clause_in, clause_of, with_clause, or_bad, next_clause, all_clauses}
use Rattle.core_records.specs.Names.{made_accessor, made_mutator, made_names, given_names, names_of}
use Rattle.core_records.specs.declared.clause.Clauses.{Clauses}
use Rattle.core_records.specs.declared.clause.Field.{Field}
use Rattle.core_records.specs.declared.clause.Parent.TheVariants as parents
use Rattle.core_records.specs.declared.clause.RecordClause.{RecordClause}
use Rattle.core_records.specs.declared.clause.RecordClause.TheVariants as clause
use Rattle.core_records.specs.declared.clause.Uid.TheVariants as uid
use Rattle.core_records.specs.declared.names.RecordNames.{RecordNames}
use Rattle.law_shapes.specs.Grammar.{IsId, IsList}
use Rattle.law_shapes.specs.Grammar as g
use Rattle.law_shapes.specs.Records.{keyword_label, IsKeywordIdentifier, AreNames, IsField, IsClause, IsIn}
use Rattle.law_shapes.specs.Records as r
use Rattle.law_shapes.proofs.Complete.{is-id, list-is, all-are}
use Rattle.law_shapes.proofs.Sound.{met, from, some-is, an-id, proper, all-written}

-- Words.

numbered-is : (which : CoreForm) → numbered (number which) ≡ Some which
numbered-is form.Quote = refl
numbered-is form.Lambda = refl
numbered-is form.CaseLambda = refl
numbered-is form.If = refl
numbered-is form.Set = refl
numbered-is form.Begin = refl
numbered-is form.Letrec = refl
numbered-is form.LetrecStar = refl
numbered-is form.Define = refl
numbered-is form.DefineSyntax = refl
numbered-is form.LetSyntax = refl
numbered-is form.LetrecSyntax = refl
numbered-is form.Quasiquote = refl
numbered-is form.Syntax = refl
numbered-is form.Quasisyntax = refl
numbered-is form.SyntaxCase = refl
numbered-is form.Else = refl
numbered-is form.Arrow = refl
numbered-is form.Ellipsis = refl
numbered-is form.Underscore = refl
numbered-is form.Unquote = refl
numbered-is form.UnquoteSplicing = refl
numbered-is form.Unsyntax = refl
numbered-is form.UnsyntaxSplicing = refl
numbered-is form.DefineRecordType = refl
numbered-is form.RecordTypeDescriptor = refl
numbered-is form.RecordConstructorDescriptor = refl
numbered-is form.Fields = refl
numbered-is form.Mutable = refl
numbered-is form.Immutable = refl
numbered-is form.Parent = refl
numbered-is form.Protocol = refl
numbered-is form.Sealed = refl
numbered-is form.Opaque = refl
numbered-is form.Nongenerative = refl
numbered-is form.ParentRtd = refl

pub word-is : (fs : Scope) (which : CoreForm) (t : Tree) → IsKeywordIdentifier fs which t → keyword_of fs t ≡ Some which
word-is fs which t w = ap (λ b. if b then labelled (stands fs t) else None) (is-id t w.is_id) ∙ ap labelled w.label ∙ numbered-is which

number-is : (forms : List CoreForm) (n : ℕ) (which : CoreForm) → first_numbered forms n ≡ Some which → number which ≡ n
number-is [] n which h = absurd (cc)
number-is (x ∷ xs) n which h = by (nat_eq (number x) n) refl h (number-is xs n which)
  where
    by : (b : Bool) → nat_eq (number x) n ≡ b → (if b then Some x else first_numbered xs n) ≡ Some which → (first_numbered xs n ≡ Some which → number which ≡ n) → number which ≡ n
    by true e k rest = subst (λ f. number f ≡ n) (some-is x which k) ((unsigned_Decides (number x) n).0 e)
    by false e k rest = rest k

a-word : (fs : Scope) (which : CoreForm) (t : Tree) → keyword_of fs t ≡ Some which → IsKeywordIdentifier fs which t
a-word fs which t h = met (is_leaf t) (labelled (stands fs t)) which (IsKeywordIdentifier fs which t) h (λ i k. by (stands fs t) refl k (an-id t i))
  where
    by : (o : Option Label) → stands fs t ≡ o → labelled o ≡ Some which → IsId t → IsKeywordIdentifier fs which t
    by None e k i = absurd (cc)
    by (Some l) e k i = met (same_library l.0.library library.Core) (numbered l.0.number) which (IsKeywordIdentifier fs which t) k
        (λ a k'. met (nat_lt l.0.number name_count) (at_number l.0.number) which (IsKeywordIdentifier fs which t) k'
        (λ b k''. record {
          is_id = i;
          label = e ∙ ap Some (λ j. record { 0 = record { library = (same_library_decides l.0.library library.Core).0 a j; number = sym (number-is CORE_FORMS l.0.number which k'') j } });
        }))

-- Clauses in order, each of a kind that none before it has: from what was known to what is known.
pub data Reads (fs : Scope) (name : Tree) : Clauses → List Tree → Clauses → Type 0 where
  no_more : {cs : Clauses} → Reads fs name cs [] cs
  one_more : {which : CoreForm} {x : RecordClause} {head t : Tree} {operands ts : List Tree} {cs ds es : Clauses}
      → IsList (head ∷ operands) t → IsKeywordIdentifier fs which head → IsClause fs name which x operands → with_clause cs x ≡ Some ds → Reads fs name ds ts es → Reads fs name cs (t ∷ ts) es

no-leaf : {x : Tree} {xs : List Tree} {t : Tree} → IsList (x ∷ xs) t → is_leaf t ≡ false
no-leaf (g.next h) = refl

-- What is written has its parts.

pub names-are : (ns : RecordNames) (spec : Tree) → AreNames ns spec → names_of spec ≡ Some ns
unfolding names_of
names-are _ _ (r.made g.id) = refl
names-are _ spec (r.given {name = name} {make = make} {test = test} g.id g.id g.id l) =
    ap (λ b. if b then Some (made_names spec) else if_some (proper_elements spec) given_names) (no-leaf l) ∙ ap (λ o. if_some o given_names) (list-is (name ∷ (make ∷ (test ∷ []))) spec l)

module _ (fs : Scope) (name : Tree) where
  -- a field in brackets
  field-by : (t head : Tree) (operands : List Tree) (which : CoreForm) (f : Field) → IsList (head ∷ operands) t → IsKeywordIdentifier fs which head → field_by name operands which ≡ Some f → field_of fs name t ≡ Some f
  unfolding field_of
  field-by t head operands which f l w e =
      ap (λ b. if b then Some (fixed_field name t) else if_some (proper_elements t) (field_in fs name)) (no-leaf l) ∙ ap (λ o. if_some o (field_in fs name)) (list-is (head ∷ operands) t l)
      ∙ ap (λ o. if_some o (field_by name operands)) (word-is fs which head w) ∙ e

  one-id : (x : Tree) → IsId x → immutable_field name (x ∷ []) ≡ Some (fixed_field name x)
  unfolding immutable_field
  one-id _ g.id = refl

  two-ids : (x get : Tree) → IsId x → IsId get → immutable_field name (x ∷ (get ∷ [])) ≡ Some (field_with x get None)
  unfolding immutable_field
  two-ids _ _ g.id g.id = refl

  mutable-id : (x : Tree) → IsId x → mutable_field name (x ∷ []) ≡ Some (field_with x (made_accessor name x) (Some (made_mutator name x)))
  unfolding mutable_field
  mutable-id _ g.id = refl

  three-ids : (x get put : Tree) → IsId x → IsId get → IsId put → mutable_field name (x ∷ (get ∷ (put ∷ []))) ≡ Some (field_with x get (Some put))
  unfolding mutable_field
  three-ids _ _ _ g.id g.id g.id = refl

  leaf-field : (x : Tree) → IsId x → field_of fs name x ≡ Some (fixed_field name x)
  unfolding field_of
  leaf-field _ g.id = refl

  field-is : (f : Field) (t : Tree) → IsField fs name f t → field_of fs name t ≡ Some f
  field-is _ t (r.alone i) = leaf-field t i
  field-is _ t (r.immutable {head = head} {x = x} w i l) = field-by t head (x ∷ []) form.Immutable (fixed_field name x) l w (one-id x i)
  field-is _ t (r.immutable_by {head = head} {x = x} {get = get} w i j l) = field-by t head (x ∷ (get ∷ [])) form.Immutable (field_with x get None) l w (two-ids x get i j)
  field-is _ t (r.mutable {head = head} {x = x} w i l) = field-by t head (x ∷ []) form.Mutable (field_with x (made_accessor name x) (Some (made_mutator name x))) l w (mutable-id x i)
  field-is _ t (r.mutable_by {head = head} {x = x} {get = get} {put = put} w i j k l) = field-by t head (x ∷ (get ∷ (put ∷ []))) form.Mutable (field_with x get (Some put)) l w (three-ids x get put i j k)

  pub clause-is : (which : CoreForm) (c : RecordClause) (ts : List Tree) → IsClause fs name which c ts → clause_by fs name ts which ≡ Some c
  unfolding fields_clause parent_clause parent_rtd_clause protocol_clause sealed_clause opaque_clause nongenerative_clause
  clause-is _ _ ts (r.fields {xs = xs} h) = ap (λ o. if_some o (λ ys. Some (clause.Fields ys))) (all-are (IsField fs name) (field_of fs name) field-is [] xs ts h)
  clause-is _ _ _ (r.parent g.id) = refl
  clause-is _ _ _ r.parent_rtd = refl
  clause-is _ _ _ r.protocol = refl
  clause-is _ _ _ r.sealed = refl
  clause-is _ _ _ r.opaque = refl
  clause-is _ _ _ r.generated = refl
  clause-is _ _ _ (r.nongenerative g.id) = refl

  next-is : (place : Span) (cs ds : Clauses) (t head : Tree) (operands : List Tree) (which : CoreForm) (c : RecordClause) → IsList (head ∷ operands) t → IsKeywordIdentifier fs which head → IsClause fs name which c operands → with_clause cs c ≡ Some ds
      → next_clause fs name place cs t ≡ Ok ds
  unfolding next_clause clause_of
  next-is place cs ds t head operands which c l w k e = ap (or_bad t place)
      (ap (λ o. if_some (if_some o (clause_in fs name)) (with_clause cs)) (list-is (head ∷ operands) t l)
      ∙ ap (λ o. if_some (if_some o (clause_by fs name operands)) (with_clause cs)) (word-is fs which head w)
      ∙ ap (λ o. if_some o (with_clause cs)) (clause-is which c operands k) ∙ e)

  pub clauses-are : (place : Span) (cs es : Clauses) (ts : List Tree) → Reads fs name cs ts es → all_clauses fs name place cs ts ≡ Ok es
  clauses-are place cs _ _ no_more = refl
  clauses-are place cs es _ (one_more {which = which} {x = c} {head = head} {t = t} {operands = operands} {ts = ts} {ds = ds} l w k e h) =
      ap (λ x. x >>= (λ d. all_clauses fs name place d ts)) (next-is place cs ds t head operands which c l w k e) ∙ clauses-are place ds es ts h

-- What has parts is written.

pub some-names : (spec : Tree) (ns : RecordNames) → names_of spec ≡ Some ns → AreNames ns spec
unfolding names_of
some-names spec ns h = by (is_leaf spec) refl h
  where
    by_list : (xs : List Tree) → IsList xs spec → given_names xs ≡ Some ns → AreNames ns spec
    by_list [] l k = absurd (cc)
    by_list (x ∷ []) l k = absurd (cc)
    by_list (x ∷ (y ∷ [])) l k = absurd (cc)
    by_list (x ∷ (y ∷ (z ∷ []))) l k =
        met (is_leaf x) (if is_leaf y then (if is_leaf z then Some (record { name = x; constructor = y; predicate = z }) else None) else None) ns (AreNames ns spec) k
        (λ a k'. met (is_leaf y) (if is_leaf z then Some (record { name = x; constructor = y; predicate = z }) else None) ns (AreNames ns spec) k'
        (λ b k''. met (is_leaf z) (Some (record { name = x; constructor = y; predicate = z })) ns (AreNames ns spec) k''
        (λ c e. subst (λ (m : RecordNames). AreNames m spec) (some-is (record { name = x; constructor = y; predicate = z }) ns e) (r.given (an-id x a) (an-id y b) (an-id z c) l))))
    by_list (x ∷ (y ∷ (z ∷ (w ∷ ws)))) l k = absurd (cc)

    by : (b : Bool) → is_leaf spec ≡ b → (if b then Some (made_names spec) else if_some (proper_elements spec) given_names) ≡ Some ns → AreNames ns spec
    by true e k = subst (λ (m : RecordNames). AreNames m spec) (some-is (made_names spec) ns k) (r.made (an-id spec e))
    by false e k = from given_names (proper_elements spec) ns (AreNames ns spec) k (λ xs is given. by_list xs (proper spec xs is) given)

module _ (fs : Scope) (name : Tree) where
  module _ (f : Field) (t head : Tree) where
    told : (x : Field) → Some x ≡ Some f → IsField fs name x t → IsField fs name f t
    told x e h = subst (λ (y : Field). IsField fs name y t) (some-is x f e) h

    an-immutable : (xs : List Tree) → IsKeywordIdentifier fs form.Immutable head → IsList (head ∷ xs) t → immutable_field name xs ≡ Some f → IsField fs name f t
    unfolding immutable_field
    an-immutable [] w l h = absurd (cc)
    an-immutable (x ∷ []) w l h = met (is_leaf x) (Some (fixed_field name x)) f (IsField fs name f t) h (λ a e. told (fixed_field name x) e (r.immutable w (an-id x a) l))
    an-immutable (x ∷ (y ∷ [])) w l h = met (is_leaf x) (if is_leaf y then Some (field_with x y None) else None) f (IsField fs name f t) h
        (λ a k. met (is_leaf y) (Some (field_with x y None)) f (IsField fs name f t) k (λ b e. told (field_with x y None) e (r.immutable_by w (an-id x a) (an-id y b) l)))
    an-immutable (x ∷ (y ∷ (z ∷ zs))) w l h = absurd (cc)

    a-mutable : (xs : List Tree) → IsKeywordIdentifier fs form.Mutable head → IsList (head ∷ xs) t → mutable_field name xs ≡ Some f → IsField fs name f t
    unfolding mutable_field
    a-mutable [] w l h = absurd (cc)
    a-mutable (x ∷ []) w l h = met (is_leaf x) (Some (field_with x (made_accessor name x) (Some (made_mutator name x)))) f (IsField fs name f t) h
        (λ a e. told (field_with x (made_accessor name x) (Some (made_mutator name x))) e (r.mutable w (an-id x a) l))
    a-mutable (x ∷ (y ∷ [])) w l h = absurd (cc)
    a-mutable (x ∷ (y ∷ (z ∷ []))) w l h = met (is_leaf x) (if is_leaf y then (if is_leaf z then Some (field_with x y (Some z)) else None) else None) f (IsField fs name f t) h
        (λ a k. met (is_leaf y) (if is_leaf z then Some (field_with x y (Some z)) else None) f (IsField fs name f t) k
        (λ b k'. met (is_leaf z) (Some (field_with x y (Some z))) f (IsField fs name f t) k' (λ c e. told (field_with x y (Some z)) e (r.mutable_by w (an-id x a) (an-id y b) (an-id z c) l))))
    a-mutable (x ∷ (y ∷ (z ∷ (u ∷ us)))) w l h = absurd (cc)

    by-word : (which : CoreForm) (xs : List Tree) → IsKeywordIdentifier fs which head → IsList (head ∷ xs) t → field_by name xs which ≡ Some f → IsField fs name f t
    by-word form.Immutable xs w l h = an-immutable xs w l h
    by-word form.Mutable xs w l h = a-mutable xs w l h
    by-word _ xs w l h = absurd (cc)

  a-field : (t : Tree) (f : Field) → field_of fs name t ≡ Some f → IsField fs name f t
  unfolding field_of
  a-field t f h = by (is_leaf t) refl h
    where
      by_list : (xs : List Tree) → IsList xs t → field_in fs name xs ≡ Some f → IsField fs name f t
      by_list [] l k = absurd (cc)
      by_list (head ∷ xs) l k = from (field_by name xs) (keyword_of fs head) f (IsField fs name f t) k (λ which w e. by-word f t head which xs (a-word fs which head w) l e)

      by : (b : Bool) → is_leaf t ≡ b → (if b then Some (fixed_field name t) else if_some (proper_elements t) (field_in fs name)) ≡ Some f → IsField fs name f t
      by true e k = subst (λ (y : Field). IsField fs name y t) (some-is (fixed_field name t) f k) (r.alone (an-id t e))
      by false e k = from (field_in fs name) (proper_elements t) f (IsField fs name f t) k (λ xs is given. by_list xs (proper t xs is) given)

  module _ (c : RecordClause) where
    so : (which : CoreForm) (xs : List Tree) (d : RecordClause) → Some d ≡ Some c → IsClause fs name which d xs → IsClause fs name which c xs
    so which xs d e h = subst (λ (y : RecordClause). IsClause fs name which y xs) (some-is d c e) h

    some-fields : (xs : List Tree) → fields_clause fs name xs ≡ Some c → IsClause fs name form.Fields c xs
    unfolding fields_clause
    some-fields xs h = from (λ ys. Some (clause.Fields ys)) (all_of (field_of fs name) [] xs) c (IsClause fs name form.Fields c xs) h
        (λ ys e k. so form.Fields xs (clause.Fields ys) k (r.fields (all-written (IsField fs name) (field_of fs name) a-field xs ys e)))

    a-parent : (xs : List Tree) → parent_clause xs ≡ Some c → IsClause fs name form.Parent c xs
    unfolding parent_clause
    a-parent [] h = absurd (cc)
    a-parent (x ∷ []) h = met (is_leaf x) (Some (clause.Parent (parents.Named x))) c (IsClause fs name form.Parent c (x ∷ [])) h (λ a e. so form.Parent (x ∷ []) (clause.Parent (parents.Named x)) e (r.parent (an-id x a)))
    a-parent (x ∷ (y ∷ ys)) h = absurd (cc)

    descriptors : (xs : List Tree) → parent_rtd_clause xs ≡ Some c → IsClause fs name form.ParentRtd c xs
    unfolding parent_rtd_clause
    descriptors [] h = absurd (cc)
    descriptors (x ∷ []) h = absurd (cc)
    descriptors (x ∷ (y ∷ [])) h = so form.ParentRtd (x ∷ (y ∷ [])) (clause.Parent (parents.Descriptors x y)) h r.parent_rtd
    descriptors (x ∷ (y ∷ (z ∷ zs))) h = absurd (cc)

    a-protocol : (xs : List Tree) → protocol_clause xs ≡ Some c → IsClause fs name form.Protocol c xs
    unfolding protocol_clause
    a-protocol [] h = absurd (cc)
    a-protocol (x ∷ []) h = so form.Protocol (x ∷ []) (clause.Protocol x) h r.protocol
    a-protocol (x ∷ (y ∷ ys)) h = absurd (cc)

    -- `#t` or `#f`
    truth : (P : Type 0) (make : Bool → RecordClause) (x : Tree) → if_some (truth_of x) (λ b. Some (make b)) ≡ Some c → ((s : Option Span) (b : Bool) → x ≡ atom s (atoms.Bool b) → Some (make b) ≡ Some c → P) → P
    truth P make (atom s (atoms.Bool b)) h k = k s b refl h
    truth P make (atom s _) h k = absurd (cc)
    truth P make (leaf s x y) h k = absurd (cc)
    truth P make (pair s a d) h k = absurd (cc)
    truth P make (vector s d) h k = absurd (cc)

    a-sealed : (xs : List Tree) → sealed_clause xs ≡ Some c → IsClause fs name form.Sealed c xs
    unfolding sealed_clause
    a-sealed [] h = absurd (cc)
    a-sealed (x ∷ []) h = truth (IsClause fs name form.Sealed c (x ∷ [])) clause.Sealed x h
        (λ s b is e. subst (λ (y : Tree). IsClause fs name form.Sealed c (y ∷ [])) (sym is) (so form.Sealed (atom s (atoms.Bool b) ∷ []) (clause.Sealed b) e r.sealed))
    a-sealed (x ∷ (y ∷ ys)) h = absurd (cc)

    an-opaque : (xs : List Tree) → opaque_clause xs ≡ Some c → IsClause fs name form.Opaque c xs
    unfolding opaque_clause
    an-opaque [] h = absurd (cc)
    an-opaque (x ∷ []) h = truth (IsClause fs name form.Opaque c (x ∷ [])) clause.Opaque x h
        (λ s b is e. subst (λ (y : Tree). IsClause fs name form.Opaque c (y ∷ [])) (sym is) (so form.Opaque (atom s (atoms.Bool b) ∷ []) (clause.Opaque b) e r.opaque))
    an-opaque (x ∷ (y ∷ ys)) h = absurd (cc)

    a-uid : (xs : List Tree) → nongenerative_clause xs ≡ Some c → IsClause fs name form.Nongenerative c xs
    unfolding nongenerative_clause
    a-uid [] h = so form.Nongenerative [] (clause.Nongenerative uid.Generated) h r.generated
    a-uid (x ∷ []) h = met (is_leaf x) (Some (clause.Nongenerative (uid.Given x))) c (IsClause fs name form.Nongenerative c (x ∷ [])) h
        (λ a e. so form.Nongenerative (x ∷ []) (clause.Nongenerative (uid.Given x)) e (r.nongenerative (an-id x a)))
    a-uid (x ∷ (y ∷ ys)) h = absurd (cc)

    a-clause : (which : CoreForm) (xs : List Tree) → clause_by fs name xs which ≡ Some c → IsClause fs name which c xs
    a-clause form.Fields xs h = some-fields xs h
    a-clause form.Parent xs h = a-parent xs h
    a-clause form.ParentRtd xs h = descriptors xs h
    a-clause form.Protocol xs h = a-protocol xs h
    a-clause form.Sealed xs h = a-sealed xs h
    a-clause form.Opaque xs h = an-opaque xs h
    a-clause form.Nongenerative xs h = a-uid xs h
    a-clause _ xs h = absurd (cc)

  -- a clause with its word
  record IsRead (c : RecordClause) (t : Tree) : Type 0 where
    pub which : CoreForm
    pub head : Tree
    pub operands : List Tree
    pub list : IsList (head ∷ operands) t
    pub word : IsKeywordIdentifier fs which head
    pub written : IsClause fs name which c operands

  is-read : (c : RecordClause) (t : Tree) → clause_of fs name t ≡ Some c → IsRead c t
  unfolding clause_of
  is-read c t h = from (clause_in fs name) (proper_elements t) c (IsRead c t) h (λ xs e k. by_list xs (proper t xs e) k)
    where
      by_list : (xs : List Tree) → IsList xs t → clause_in fs name xs ≡ Some c → IsRead c t
      by_list [] l k = absurd (cc)
      by_list (head ∷ xs) l k = from (clause_by fs name xs) (keyword_of fs head) c (IsRead c t) k
          (λ which w e. record { which = which; head = head; operands = xs; list = l; word = a-word fs which head w; written = a-clause c which xs e })

  module _ (place : Span) where
    pub record IsBadClause (cs : Clauses) (ts : List Tree) : Type 0 where
      pub bad : Tree
      pub among : IsIn bad ts
      pub is : all_clauses fs name place cs ts ≡ Err (fault_at kind.BadForm bad place [])

    pub record AreRead (cs : Clauses) (ts : List Tree) : Type 0 where
      pub es : Clauses
      pub are : Reads fs name cs ts es

    -- all are clauses, or one of them is at fault
    pub read-or-bad : (cs : Clauses) (ts : List Tree) → AreRead cs ts ⊎ IsBadClause cs ts
    unfolding next_clause
    read-or-bad cs [] = inl (record { es = cs; are = no_more })
    read-or-bad cs (t ∷ ts) = by (clause_of fs name t) refl (λ ds. read-or-bad ds ts)
      where
        at_fault : next_clause fs name place cs t ≡ Err (fault_at kind.BadForm t place []) → AreRead cs (t ∷ ts) ⊎ IsBadClause cs (t ∷ ts)
        at_fault e = inr (record { bad = t; among = inl refl; is = ap (λ x. x >>= (λ d. all_clauses fs name place d ts)) e })

        onward : (c : RecordClause) (ds : Clauses) → IsRead c t → with_clause cs c ≡ Some ds → next_clause fs name place cs t ≡ Ok ds → AreRead ds ts ⊎ IsBadClause ds ts → AreRead cs (t ∷ ts) ⊎ IsBadClause cs (t ∷ ts)
        onward c ds x e n (inl a) = inl (record { es = a.es; are = one_more x.list x.word x.written e a.are })
        onward c ds x e n (inr b) = inr (record { bad = b.bad; among = inr b.among; is = ap (λ y. y >>= (λ d. all_clauses fs name place d ts)) n ∙ b.is })

        by_kind : (c : RecordClause) → clause_of fs name t ≡ Some c → (o : Option Clauses) → with_clause cs c ≡ o → ((ds : Clauses) → AreRead ds ts ⊎ IsBadClause ds ts) → AreRead cs (t ∷ ts) ⊎ IsBadClause cs (t ∷ ts)
        by_kind c is None e rest = at_fault (ap (or_bad t place) (ap (λ o. if_some o (with_clause cs)) is ∙ e))
        by_kind c is (Some ds) e rest = onward c ds (is-read c t is) e (ap (or_bad t place) (ap (λ o. if_some o (with_clause cs)) is ∙ e)) (rest ds)

        by : (o : Option RecordClause) → clause_of fs name t ≡ o → ((ds : Clauses) → AreRead ds ts ⊎ IsBadClause ds ts) → AreRead cs (t ∷ ts) ⊎ IsBadClause cs (t ∷ ts)
        by None is rest = at_fault (ap (λ o. or_bad t place (if_some o (with_clause cs))) is)
        by (Some c) is rest = by_kind c is (with_clause cs c) refl rest
