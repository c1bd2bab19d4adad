-- What the definitions of a record type bind.
use Rattle.std.proofs.Common.{◌≡◌, ℕ, ◌+◌, Bool, true, false, List, [], ◌∷◌, ◌++◌, Option, None, Some, Ok, Err, refl, ap, sym, ◌∙◌, subst, append_assoc, drop}
use Rattle.std.specs.List.{flat_map}
use Rattle.std.specs.Prelude.{Result, codes, if◌then◌else◌}
use Rattle.base_data.specs.Gives.{◌>>=◌}
use Rattle.base_data.specs.declared.name.FrameNo.{FrameNo}
use Rattle.base_data.specs.declared.name.Mark.{Mark}
use Rattle.stx_tree.specs.Changes.{leave}
use Rattle.stx_tree.specs.Leaves.{marks_of}
use Rattle.stx_tree.specs.Measures.{within, fits, too_deep}
use Rattle.stx_tree.specs.Tree.{Tree, nil, chain, list_of}
use Rattle.core_shapes.specs.Lists.{elements}
use Rattle.core_records.specs.Binders.{binder_of, binders, second_of, if_there, field_names, type_names}
use Rattle.core_records.specs.Introduced.{Made, introduced, plain, list_made, list_of_two, list_of_three}
use Rattle.core_records.specs.Definitions.{rtd, rcd, definition, definition_by, type_value, constructor_value, keyword_value, keyword_definition, constructor_definition, predicate_definition, accessor_value, accessor_definition, mutator_value, mutator_definition, with_mutator, with_field, with_fields, first_definitions, definitions, or_no_fields}
use Rattle.core_records.specs.declared.clause.Clauses.{Clauses}
use Rattle.core_records.specs.declared.clause.Field.{Field}
use Rattle.core_records.specs.declared.names.RecordNames.{RecordNames}

elements_of : (ts : List Tree) → elements (chain ts nil) ≡ ts
elements_of [] = refl
elements_of (t ∷ ts) = ap (λ us. t ∷ us) (elements_of ts)

elements_listed : (ts : List Tree) → elements (list_of ts None) ≡ ts
elements_listed [] = refl
elements_listed (t ∷ ts) = elements_of (t ∷ ts)

-- a tree within the limits is the tree
within_is : (t u : Tree) → within t ≡ Ok u → t ≡ u
unfolding within
within_is t u h = go (fits t) refl h
  where
    go : (b : Bool) → fits t ≡ b → (if b then Ok t else Err too_deep) ≡ Ok u → t ≡ u
    go true e k = cc
    go false e k = absurd (cc)

-- a list that is made has its elements
made_has : (ts : List Tree) (t : Tree) → list_made ts ≡ Ok t → elements t ≡ ts
made_has ts t h = sym (ap elements (within_is (list_of ts None) t h)) ∙ elements_listed ts

module _ {A B E P : Type 0} (m : Result A E) (k : A → Result B E) (b : B) where
  from_ok : m >>= k ≡ Ok b → ((a : A) → m ≡ Ok a → k a ≡ Ok b → P) → P
  from_ok h f = go m refl h
    where
      go : (r : Result A E) → m ≡ r → r >>= k ≡ Ok b → P
      go (Ok a) e g = f a e g
      go (Err x) e g = absurd (cc)

definition_binds : (id value t : Tree) → definition id value ≡ Ok t → binder_of t ≡ id ∷ []
definition_binds id value t h = ap second_of (made_has (introduced (codes "define") ∷ (id ∷ (value ∷ []))) t h)

by_binds : (id : Tree) (value : Made) (t : Tree) → definition_by id value ≡ Ok t → binder_of t ≡ id ∷ []
by_binds id value t h = from_ok value (definition id) t h (λ v _ g. definition_binds id v t g)

keyword_binds : (id t : Tree) → keyword_definition id ≡ Ok t → binder_of t ≡ id ∷ []
keyword_binds id t h =
    from_ok (keyword_value (plain (codes "x"))) (λ value. list_of_three (introduced (codes "define-syntax")) id value) t h
    (λ v _ g. ap second_of (made_has (introduced (codes "define-syntax") ∷ (id ∷ (v ∷ []))) t g))

flat_joined : (xs ys : List Tree) → flat_map binder_of (xs ++ ys) ≡ flat_map binder_of xs ++ flat_map binder_of ys
flat_joined [] ys = refl
flat_joined (x ∷ xs) ys = ap (λ zs. binder_of x ++ zs) (flat_joined xs ys) ∙ sym (append_assoc (binder_of x) (flat_map binder_of xs) (flat_map binder_of ys))

-- the definitions `more` of these names stand behind those that were there
record Adds (done names ts : List Tree) : Type 0 where
  more : List Tree
  is : ts ≡ done ++ more
  binds : flat_map binder_of more ≡ names

one_more : (done : List Tree) (t id : Tree) → binder_of t ≡ id ∷ [] → Adds done (id ∷ []) (done ++ t ∷ [])
one_more done t id e = record { more = t ∷ []; is = refl; binds = ap (λ xs. xs ++ []) e }

none_more : (ts : List Tree) → ts ≡ ts ++ []
none_more [] = refl
none_more (t ∷ ts) = ap (λ us. t ∷ us) (none_more ts)

and_more : (done mid ts names others : List Tree) → Adds done names mid → Adds mid others ts → Adds done (names ++ others) ts
and_more done mid ts names others a b = record {
  more = a.more ++ b.more;
  is = b.is ∙ ap (λ zs. zs ++ b.more) a.is ∙ append_assoc done a.more b.more;
  binds = flat_joined a.more b.more ∙ ap (λ zs. zs ++ flat_map binder_of b.more) a.binds ∙ ap (λ zs. names ++ zs) b.binds;
}

mutator_adds : (k : ℕ) (done : List Tree) (put : Option Tree) (ts : List Tree) → with_mutator k done put ≡ Ok ts → Adds done (if_there put) ts
mutator_adds k done None ts h = let e : done ≡ ts = cc in record { more = []; is = sym e ∙ none_more done; binds = refl }
mutator_adds k done (Some put) ts h =
    from_ok (mutator_definition k put) (λ t. Ok (done ++ t ∷ [])) ts h
    (λ t e g. let is : done ++ t ∷ [] ≡ ts = cc in subst (λ us. Adds done (put ∷ []) us) is (one_more done t put (by_binds put (mutator_value k) t e)))

field_adds : (k : ℕ) (done : List Tree) (f : Field) (ts : List Tree) → with_field k done f ≡ Ok ts → Adds done (field_names f) ts
field_adds k done f ts h =
    from_ok (accessor_definition k f.accessor) (λ t. with_mutator k (done ++ t ∷ []) f.mutator) ts h
    (λ t e g. and_more done (done ++ t ∷ []) ts (f.accessor ∷ []) (if_there f.mutator) (one_more done t f.accessor (by_binds f.accessor (accessor_value k) t e)) (mutator_adds k (done ++ t ∷ []) f.mutator ts g))

fields_add : (k : ℕ) (done : List Tree) (fs : List Field) (ts : List Tree) → with_fields k done fs ≡ Ok ts → Adds done (flat_map field_names fs) ts
fields_add k done [] ts h = let e : done ≡ ts = cc in record { more = []; is = sym e ∙ none_more done; binds = refl }
fields_add k done (f ∷ fs) ts h =
    from_ok (with_field k done f) (λ us. with_fields (k + 1) us fs) ts h
    (λ us e g. and_more done us ts (field_names f) (flat_map field_names fs) (field_adds k done f us e) (fields_add (k + 1) us fs ts g))

five_bind : (own : List ℕ) (names : RecordNames) (cs : Clauses) (a b c d e : Tree)
    → definition_by rtd (type_value own names cs) ≡ Ok a → definition_by rcd (constructor_value cs) ≡ Ok b → keyword_definition names.name ≡ Ok c
    → constructor_definition names.constructor ≡ Ok d → predicate_definition names.predicate ≡ Ok e
    → flat_map binder_of (a ∷ (b ∷ (c ∷ (d ∷ (e ∷ []))))) ≡ rtd ∷ (rcd ∷ (names.name ∷ (names.constructor ∷ (names.predicate ∷ []))))
five_bind own names cs a b c d e ea eb ec ed ee =
    let fa : binder_of a ≡ rtd ∷ [] = by_binds rtd (type_value own names cs) a ea in
    let fb : binder_of b ≡ rcd ∷ [] = by_binds rcd (constructor_value cs) b eb in
    let fc : binder_of c ≡ names.name ∷ [] = keyword_binds names.name c ec in
    let fd : binder_of d ≡ names.constructor ∷ [] = by_binds names.constructor (list_of_two (introduced (codes "record-constructor")) rcd) d ed in
    let fe : binder_of e ≡ names.predicate ∷ [] = by_binds names.predicate (list_of_two (introduced (codes "record-predicate")) rtd) e ee in
    ap (λ xs. xs ++ (binder_of b ++ (binder_of c ++ (binder_of d ++ (binder_of e ++ []))))) fa
    ∙ ap (λ xs. rtd ∷ (xs ++ (binder_of c ++ (binder_of d ++ (binder_of e ++ []))))) fb
    ∙ ap (λ xs. rtd ∷ (rcd ∷ (xs ++ (binder_of d ++ (binder_of e ++ []))))) fc
    ∙ ap (λ xs. rtd ∷ (rcd ∷ (names.name ∷ (xs ++ (binder_of e ++ []))))) fd
    ∙ ap (λ xs. rtd ∷ (rcd ∷ (names.name ∷ (names.constructor ∷ (xs ++ []))))) fe

record Begins (names : RecordNames) (ts : List Tree) : Type 0 where
  begin : Tree
  more : List Tree
  is : ts ≡ begin ∷ more
  binds : flat_map binder_of more ≡ rtd ∷ (rcd ∷ (names.name ∷ (names.constructor ∷ (names.predicate ∷ []))))

-- the first definitions, behind `begin`
first_bind : (own : List ℕ) (names : RecordNames) (cs : Clauses) (ts : List Tree) → first_definitions own names cs ≡ Ok ts → Begins names ts
unfolding first_definitions
first_bind own names cs ts h =
    from_ok (definition_by rtd (type_value own names cs)) _ ts h (λ a ea h1.
    from_ok (definition_by rcd (constructor_value cs)) _ ts h1 (λ b eb h2.
    from_ok (keyword_definition names.name) _ ts h2 (λ c ec h3.
    from_ok (constructor_definition names.constructor) _ ts h3 (λ d ed h4.
    from_ok (predicate_definition names.predicate) _ ts h4 (λ e ee h5.
    let same : introduced (codes "begin") ∷ (a ∷ (b ∷ (c ∷ (d ∷ (e ∷ []))))) ≡ ts = cc in
    record { begin = introduced (codes "begin"); more = a ∷ (b ∷ (c ∷ (d ∷ (e ∷ [])))); is = sym same; binds = five_bind own names cs a b c d e ea eb ec ed ee })))))

whole_binds : (names : RecordNames) (cs : Clauses) (first ts : List Tree) (t : Tree) → Begins names first → Adds first (flat_map field_names (or_no_fields cs.fields)) ts
    → elements t ≡ ts → binders t ≡ rtd ∷ (rcd ∷ type_names names cs)
whole_binds names cs first ts t a b h =
    ap (λ us. flat_map binder_of (drop 1 us)) (h ∙ b.is ∙ ap (λ us. us ++ b.more) a.is)
    ∙ flat_joined a.more b.more
    ∙ ap (λ xs. xs ++ flat_map binder_of b.more) a.binds
    ∙ ap (λ xs. rtd ∷ (rcd ∷ (names.name ∷ (names.constructor ∷ (names.predicate ∷ xs))))) b.binds

pub record_binds : (own : List ℕ) (names : RecordNames) (cs : Clauses) (t : Tree) → definitions own names cs ≡ Ok t → binders t ≡ rtd ∷ (rcd ∷ type_names names cs)
unfolding definitions
record_binds own names cs t h =
    from_ok (first_definitions own names cs >>= (λ ts. with_fields 0 ts (or_no_fields cs.fields))) list_made t h (λ ts e g.
    from_ok (first_definitions own names cs) (λ us. with_fields 0 us (or_no_fields cs.fields)) ts e (λ first f k.
    whole_binds names cs first ts t (first_bind own names cs first f) (fields_add 0 first (or_no_fields cs.fields) ts k) (made_has ts t g)))

-- an identifier of the definitions alone has the mark of a use alone
pub left_marks : (x : List ℕ) (m : Mark) (frame : Option FrameNo) → marks_of (leave m frame (plain x)) ≡ m ∷ []
left_marks x m None = refl
left_marks x m (Some f) = refl
