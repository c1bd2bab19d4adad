-- What the clauses of a record type say, told by where they are kept.
use Rattle.std.proofs.Common.{◌≡◌, ℕ, Bool, List, [], ◌∷◌, Option, None, Some, refl, ap, sym, ◌∙◌, subst, inl, inr}
use Rattle.std.specs.Prelude.{◌⊎◌}
use Rattle.stx_tree.specs.Tree.{Tree}
use Rattle.stx_frames.specs.Scope.{Scope}
use Rattle.core_language.specs.declared.core_form.CoreForm.{CoreForm}
use Rattle.core_language.specs.declared.core_form.CoreForm.TheVariants as form
use Rattle.core_records.specs.Clauses.{no_clauses, if_free, with_clause}
use Rattle.core_records.specs.Definitions.{or_false, or_no_fields, protocol_part}
use Rattle.core_records.specs.declared.clause.Clauses.{Clauses}
use Rattle.core_records.specs.declared.clause.Field.{Field}
use Rattle.core_records.specs.declared.clause.Parent.{Parent}
use Rattle.core_records.specs.declared.clause.Parent.TheVariants as parents
use Rattle.core_records.specs.declared.clause.RecordClause.{RecordClause}
use Rattle.core_records.specs.declared.clause.RecordClause.TheVariants as clause
use Rattle.core_records.specs.declared.clause.Uid.{Uid}
use Rattle.core_records.specs.declared.clause.Uid.TheVariants as uid
use Rattle.law_shapes.specs.Grammar.{IsList}
use Rattle.law_shapes.specs.Records.{IsKeywordIdentifier, IsClause, Has, Lacks, LacksKind, AreClauses, Says}
use Rattle.law_shapes.specs.Records as r
use Rattle.law_records.specs.RecordTypes.{IsParent, IsUid, IsSealed, IsOpaque, IsProtocol, AreFields, Description, Describe}
use Rattle.law_records.specs.RecordTypes as types
use Rattle.law_shapes.proofs.Complete.{list-is}
use Rattle.law_shapes.proofs.Sound.{some-is}
use Rattle.law_shapes.proofs.RecordForms.{word-is, clause-is, Reads}
use Rattle.law_shapes.proofs.RecordForms as forms
use Rattle.law_records.proofs.RecordTrees.{parent-tree, constructor-tree, uid-tree, description}

-- Where a clause is kept, and the clauses of a keyword.

abbrev slot : RecordClause → ℕ
slot (clause.Fields x) = 0
slot (clause.Parent x) = 1
slot (clause.Protocol x) = 2
slot (clause.Sealed x) = 3
slot (clause.Opaque x) = 4
slot (clause.Nongenerative x) = 5

abbrev slot-of : CoreForm → ℕ
slot-of form.Fields = 0
slot-of form.Parent = 1
slot-of form.ParentRtd = 1
slot-of form.Protocol = 2
slot-of form.Sealed = 3
slot-of form.Opaque = 4
slot-of form.Nongenerative = 5
slot-of _ = 6

free-is : {A B : Type 0} (o : Option A) (x y : B) → if_free o x ≡ Some y → (o ≡ None) × (x ≡ y)
free-is None x y e = (refl, some-is x y e)
free-is (Some a) x y e = absurd (cc)

record Fills {A : Type 0} (get : Clauses → Option A) (put : A → RecordClause) (c : RecordClause) (cs ds : Clauses) : Type 0 where
  pub value : A
  pub is : c ≡ put value
  pub free : get cs ≡ None
  pub kept : get ds ≡ Some value

record Passes {A : Type 0} (get : Clauses → Option A) (number : ℕ) (c : RecordClause) (cs ds : Clauses) : Type 0 where
  pub same : get ds ≡ get cs
  pub other : slot c ≡ number → ⊥

-- a place: what lies there, and the clauses that are kept there
record Slot (A : Type 0) : Type 0 where
  pub get : Clauses → Option A
  pub put : A → RecordClause
  pub number : ℕ
  pub numbered : (a : A) → slot (put a) ≡ number
  pub one : (a b : A) → put a ≡ put b → a ≡ b
  pub step : (c : RecordClause) (cs ds : Clauses) → with_clause cs c ≡ Some ds → Fills get put c cs ds ⊎ Passes get number c cs ds

fields-step : (c : RecordClause) (cs ds : Clauses) → with_clause cs c ≡ Some ds → Fills (λ (s : Clauses). s.fields) clause.Fields c cs ds ⊎ Passes (λ (s : Clauses). s.fields) 0 c cs ds
unfolding with_clause
fields-step (clause.Fields x) cs ds e = let k = free-is cs.fields (record cs { fields = Some x }) ds e in inl (record { value = x; is = refl; free = k.0; kept = ap (λ (s : Clauses). s.fields) (sym k.1) })
fields-step (clause.Parent x) cs ds e = let k = free-is cs.parent (record cs { parent = Some x }) ds e in inr (record { same = ap (λ (s : Clauses). s.fields) (sym k.1); other = λ h. cc })
fields-step (clause.Protocol x) cs ds e = let k = free-is cs.protocol (record cs { protocol = Some x }) ds e in inr (record { same = ap (λ (s : Clauses). s.fields) (sym k.1); other = λ h. cc })
fields-step (clause.Sealed x) cs ds e = let k = free-is cs.sealed (record cs { sealed = Some x }) ds e in inr (record { same = ap (λ (s : Clauses). s.fields) (sym k.1); other = λ h. cc })
fields-step (clause.Opaque x) cs ds e = let k = free-is cs.opaque (record cs { opaque = Some x }) ds e in inr (record { same = ap (λ (s : Clauses). s.fields) (sym k.1); other = λ h. cc })
fields-step (clause.Nongenerative x) cs ds e = let k = free-is cs.nongenerative (record cs { nongenerative = Some x }) ds e in inr (record { same = ap (λ (s : Clauses). s.fields) (sym k.1); other = λ h. cc })

fields-one : (a b : List Field) → clause.Fields a ≡ clause.Fields b → a ≡ b
fields-one a b e = cc

abbrev fields-slot : Slot (List Field)
fields-slot = record { get = λ (s : Clauses). s.fields; put = clause.Fields; number = 0; numbered = λ a. refl; one = fields-one; step = fields-step }

parent-step : (c : RecordClause) (cs ds : Clauses) → with_clause cs c ≡ Some ds → Fills (λ (s : Clauses). s.parent) clause.Parent c cs ds ⊎ Passes (λ (s : Clauses). s.parent) 1 c cs ds
unfolding with_clause
parent-step (clause.Fields x) cs ds e = let k = free-is cs.fields (record cs { fields = Some x }) ds e in inr (record { same = ap (λ (s : Clauses). s.parent) (sym k.1); other = λ h. cc })
parent-step (clause.Parent x) cs ds e = let k = free-is cs.parent (record cs { parent = Some x }) ds e in inl (record { value = x; is = refl; free = k.0; kept = ap (λ (s : Clauses). s.parent) (sym k.1) })
parent-step (clause.Protocol x) cs ds e = let k = free-is cs.protocol (record cs { protocol = Some x }) ds e in inr (record { same = ap (λ (s : Clauses). s.parent) (sym k.1); other = λ h. cc })
parent-step (clause.Sealed x) cs ds e = let k = free-is cs.sealed (record cs { sealed = Some x }) ds e in inr (record { same = ap (λ (s : Clauses). s.parent) (sym k.1); other = λ h. cc })
parent-step (clause.Opaque x) cs ds e = let k = free-is cs.opaque (record cs { opaque = Some x }) ds e in inr (record { same = ap (λ (s : Clauses). s.parent) (sym k.1); other = λ h. cc })
parent-step (clause.Nongenerative x) cs ds e = let k = free-is cs.nongenerative (record cs { nongenerative = Some x }) ds e in inr (record { same = ap (λ (s : Clauses). s.parent) (sym k.1); other = λ h. cc })

parent-one : (a b : Parent) → clause.Parent a ≡ clause.Parent b → a ≡ b
parent-one a b e = cc

abbrev parent-slot : Slot (Parent)
parent-slot = record { get = λ (s : Clauses). s.parent; put = clause.Parent; number = 1; numbered = λ a. refl; one = parent-one; step = parent-step }

protocol-step : (c : RecordClause) (cs ds : Clauses) → with_clause cs c ≡ Some ds → Fills (λ (s : Clauses). s.protocol) clause.Protocol c cs ds ⊎ Passes (λ (s : Clauses). s.protocol) 2 c cs ds
unfolding with_clause
protocol-step (clause.Fields x) cs ds e = let k = free-is cs.fields (record cs { fields = Some x }) ds e in inr (record { same = ap (λ (s : Clauses). s.protocol) (sym k.1); other = λ h. cc })
protocol-step (clause.Parent x) cs ds e = let k = free-is cs.parent (record cs { parent = Some x }) ds e in inr (record { same = ap (λ (s : Clauses). s.protocol) (sym k.1); other = λ h. cc })
protocol-step (clause.Protocol x) cs ds e = let k = free-is cs.protocol (record cs { protocol = Some x }) ds e in inl (record { value = x; is = refl; free = k.0; kept = ap (λ (s : Clauses). s.protocol) (sym k.1) })
protocol-step (clause.Sealed x) cs ds e = let k = free-is cs.sealed (record cs { sealed = Some x }) ds e in inr (record { same = ap (λ (s : Clauses). s.protocol) (sym k.1); other = λ h. cc })
protocol-step (clause.Opaque x) cs ds e = let k = free-is cs.opaque (record cs { opaque = Some x }) ds e in inr (record { same = ap (λ (s : Clauses). s.protocol) (sym k.1); other = λ h. cc })
protocol-step (clause.Nongenerative x) cs ds e = let k = free-is cs.nongenerative (record cs { nongenerative = Some x }) ds e in inr (record { same = ap (λ (s : Clauses). s.protocol) (sym k.1); other = λ h. cc })

protocol-one : (a b : Tree) → clause.Protocol a ≡ clause.Protocol b → a ≡ b
protocol-one a b e = cc

abbrev protocol-slot : Slot (Tree)
protocol-slot = record { get = λ (s : Clauses). s.protocol; put = clause.Protocol; number = 2; numbered = λ a. refl; one = protocol-one; step = protocol-step }

sealed-step : (c : RecordClause) (cs ds : Clauses) → with_clause cs c ≡ Some ds → Fills (λ (s : Clauses). s.sealed) clause.Sealed c cs ds ⊎ Passes (λ (s : Clauses). s.sealed) 3 c cs ds
unfolding with_clause
sealed-step (clause.Fields x) cs ds e = let k = free-is cs.fields (record cs { fields = Some x }) ds e in inr (record { same = ap (λ (s : Clauses). s.sealed) (sym k.1); other = λ h. cc })
sealed-step (clause.Parent x) cs ds e = let k = free-is cs.parent (record cs { parent = Some x }) ds e in inr (record { same = ap (λ (s : Clauses). s.sealed) (sym k.1); other = λ h. cc })
sealed-step (clause.Protocol x) cs ds e = let k = free-is cs.protocol (record cs { protocol = Some x }) ds e in inr (record { same = ap (λ (s : Clauses). s.sealed) (sym k.1); other = λ h. cc })
sealed-step (clause.Sealed x) cs ds e = let k = free-is cs.sealed (record cs { sealed = Some x }) ds e in inl (record { value = x; is = refl; free = k.0; kept = ap (λ (s : Clauses). s.sealed) (sym k.1) })
sealed-step (clause.Opaque x) cs ds e = let k = free-is cs.opaque (record cs { opaque = Some x }) ds e in inr (record { same = ap (λ (s : Clauses). s.sealed) (sym k.1); other = λ h. cc })
sealed-step (clause.Nongenerative x) cs ds e = let k = free-is cs.nongenerative (record cs { nongenerative = Some x }) ds e in inr (record { same = ap (λ (s : Clauses). s.sealed) (sym k.1); other = λ h. cc })

sealed-one : (a b : Bool) → clause.Sealed a ≡ clause.Sealed b → a ≡ b
sealed-one a b e = cc

abbrev sealed-slot : Slot (Bool)
sealed-slot = record { get = λ (s : Clauses). s.sealed; put = clause.Sealed; number = 3; numbered = λ a. refl; one = sealed-one; step = sealed-step }

opaque-step : (c : RecordClause) (cs ds : Clauses) → with_clause cs c ≡ Some ds → Fills (λ (s : Clauses). s.opaque) clause.Opaque c cs ds ⊎ Passes (λ (s : Clauses). s.opaque) 4 c cs ds
unfolding with_clause
opaque-step (clause.Fields x) cs ds e = let k = free-is cs.fields (record cs { fields = Some x }) ds e in inr (record { same = ap (λ (s : Clauses). s.opaque) (sym k.1); other = λ h. cc })
opaque-step (clause.Parent x) cs ds e = let k = free-is cs.parent (record cs { parent = Some x }) ds e in inr (record { same = ap (λ (s : Clauses). s.opaque) (sym k.1); other = λ h. cc })
opaque-step (clause.Protocol x) cs ds e = let k = free-is cs.protocol (record cs { protocol = Some x }) ds e in inr (record { same = ap (λ (s : Clauses). s.opaque) (sym k.1); other = λ h. cc })
opaque-step (clause.Sealed x) cs ds e = let k = free-is cs.sealed (record cs { sealed = Some x }) ds e in inr (record { same = ap (λ (s : Clauses). s.opaque) (sym k.1); other = λ h. cc })
opaque-step (clause.Opaque x) cs ds e = let k = free-is cs.opaque (record cs { opaque = Some x }) ds e in inl (record { value = x; is = refl; free = k.0; kept = ap (λ (s : Clauses). s.opaque) (sym k.1) })
opaque-step (clause.Nongenerative x) cs ds e = let k = free-is cs.nongenerative (record cs { nongenerative = Some x }) ds e in inr (record { same = ap (λ (s : Clauses). s.opaque) (sym k.1); other = λ h. cc })

opaque-one : (a b : Bool) → clause.Opaque a ≡ clause.Opaque b → a ≡ b
opaque-one a b e = cc

abbrev opaque-slot : Slot (Bool)
opaque-slot = record { get = λ (s : Clauses). s.opaque; put = clause.Opaque; number = 4; numbered = λ a. refl; one = opaque-one; step = opaque-step }

nongenerative-step : (c : RecordClause) (cs ds : Clauses) → with_clause cs c ≡ Some ds → Fills (λ (s : Clauses). s.nongenerative) clause.Nongenerative c cs ds ⊎ Passes (λ (s : Clauses). s.nongenerative) 5 c cs ds
unfolding with_clause
nongenerative-step (clause.Fields x) cs ds e = let k = free-is cs.fields (record cs { fields = Some x }) ds e in inr (record { same = ap (λ (s : Clauses). s.nongenerative) (sym k.1); other = λ h. cc })
nongenerative-step (clause.Parent x) cs ds e = let k = free-is cs.parent (record cs { parent = Some x }) ds e in inr (record { same = ap (λ (s : Clauses). s.nongenerative) (sym k.1); other = λ h. cc })
nongenerative-step (clause.Protocol x) cs ds e = let k = free-is cs.protocol (record cs { protocol = Some x }) ds e in inr (record { same = ap (λ (s : Clauses). s.nongenerative) (sym k.1); other = λ h. cc })
nongenerative-step (clause.Sealed x) cs ds e = let k = free-is cs.sealed (record cs { sealed = Some x }) ds e in inr (record { same = ap (λ (s : Clauses). s.nongenerative) (sym k.1); other = λ h. cc })
nongenerative-step (clause.Opaque x) cs ds e = let k = free-is cs.opaque (record cs { opaque = Some x }) ds e in inr (record { same = ap (λ (s : Clauses). s.nongenerative) (sym k.1); other = λ h. cc })
nongenerative-step (clause.Nongenerative x) cs ds e = let k = free-is cs.nongenerative (record cs { nongenerative = Some x }) ds e in inl (record { value = x; is = refl; free = k.0; kept = ap (λ (s : Clauses). s.nongenerative) (sym k.1) })

nongenerative-one : (a b : Uid) → clause.Nongenerative a ≡ clause.Nongenerative b → a ≡ b
nongenerative-one a b e = cc

abbrev nongenerative-slot : Slot (Uid)
nongenerative-slot = record { get = λ (s : Clauses). s.nongenerative; put = clause.Nongenerative; number = 5; numbered = λ a. refl; one = nongenerative-one; step = nongenerative-step }

module _ (fs : Scope) (name : Tree) where
  -- no clause of these is kept at the place
  abbrev NoWord : ℕ → List Tree → Type 0
  NoWord n ts = (which : CoreForm) → slot-of which ≡ n → Has fs which ts → ⊥

  slots : (which : CoreForm) (c : RecordClause) (operands : List Tree) → IsClause fs name which c operands → slot-of which ≡ slot c
  slots _ _ _ (r.fields h) = refl
  slots _ _ _ (r.parent i) = refl
  slots _ _ _ r.parent_rtd = refl
  slots _ _ _ r.protocol = refl
  slots _ _ _ r.sealed = refl
  slots _ _ _ r.opaque = refl
  slots _ _ _ r.generated = refl
  slots _ _ _ (r.nongenerative i) = refl

  word-one : (which other : CoreForm) (head : Tree) → IsKeywordIdentifier fs which head → IsKeywordIdentifier fs other head → which ≡ other
  word-one which other head v w = some-is which other (sym (word-is fs which head v) ∙ word-is fs other head w)

  lists-one : (x y : Tree) (xs ys : List Tree) (t : Tree) → IsList (x ∷ xs) t → IsList (y ∷ ys) t → (x ≡ y) × (xs ≡ ys)
  lists-one x y xs ys t h k = let e = sym (list-is (x ∷ xs) t h) ∙ list-is (y ∷ ys) t k in (cc, cc)

  clause-one : (which : CoreForm) (c d : RecordClause) (operands : List Tree) → IsClause fs name which c operands → IsClause fs name which d operands → c ≡ d
  clause-one which c d operands h k = some-is c d (sym (clause-is fs name which c operands h) ∙ clause-is fs name which d operands k)

  no-word : (n : ℕ) (which : CoreForm) (head t : Tree) (operands ts : List Tree) → IsList (head ∷ operands) t → IsKeywordIdentifier fs which head → (slot-of which ≡ n → ⊥) → NoWord n ts → (other : CoreForm) → slot-of other ≡ n → Has fs other (t ∷ ts) → ⊥
  no-word n which head t operands ts l w lacks h other i (r.headed_here {head = x} {operands = xs} m v) =
      lacks (ap slot-of (word-one which other head w (subst (IsKeywordIdentifier fs other) (sym (lists-one head x operands xs t l m).0) v)) ∙ i)
  no-word n which head t operands ts l w lacks h other i (r.headed_behind k) = h other i k

  nothing-has : (which : CoreForm) → Has fs which [] → ⊥
  nothing-has which h = elim h [ ]

  module _ (A : Type 0) (s : Slot A) where
    record Said (cs : Clauses) (ts : List Tree) (es : Clauses) : Type 0 where
      pub value : A
      pub says : Says fs name (s.put value) ts
      pub free : s.get cs ≡ None
      pub kept : s.get es ≡ Some value

    record Unsaid (cs : Clauses) (ts : List Tree) (es : Clauses) : Type 0 where
      pub same : s.get es ≡ s.get cs
      pub none : NoWord s.number ts

    ends : (cs : Clauses) (ts : List Tree) (es : Clauses) → Reads fs name cs ts es → Said cs ts es ⊎ Unsaid cs ts es
    ends cs _ _ forms.no_more = inr (record { same = refl; none = λ which i h. nothing-has which h })
    ends cs _ es (forms.one_more {which = which} {x = c} {head = head} {t = t} {operands = operands} {ts = ts} {ds = ds} l w k e h) = by (s.step c cs ds e) (ends ds ts es h)
      where
        by : Fills s.get s.put c cs ds ⊎ Passes s.get s.number c cs ds → Said ds ts es ⊎ Unsaid ds ts es → Said cs (t ∷ ts) es ⊎ Unsaid cs (t ∷ ts) es
        by (inl f) (inl a) = absurd (let p = sym f.kept ∙ a.free in cc)
        by (inl f) (inr u) = inl (record { value = f.value; says = r.said_here l w (subst (λ d. IsClause fs name which d operands) f.is k); free = f.free; kept = u.same ∙ f.kept })
        by (inr p) (inl a) = inl (record { value = a.value; says = r.said_behind a.says; free = sym p.same ∙ a.free; kept = a.kept })
        by (inr p) (inr u) = inr (record { same = u.same ∙ p.same; none = no-word s.number which head t operands ts l w (λ i. p.other (sym (slots which c operands k) ∙ i)) u.none })

    -- behind a clause that is kept here, none is
    filled : (cs : Clauses) (ts : List Tree) (es : Clauses) (a : A) → s.get cs ≡ Some a → Reads fs name cs ts es → Unsaid cs ts es
    filled cs ts es a e h = by (ends cs ts es h)
      where
        by : Said cs ts es ⊎ Unsaid cs ts es → Unsaid cs ts es
        by (inl b) = absurd (let p = sym e ∙ b.free in cc)
        by (inr u) = u

    behind-it : (c : RecordClause) (cs ds es : Clauses) (ts : List Tree) → slot c ≡ s.number → with_clause cs c ≡ Some ds → Reads fs name ds ts es → NoWord s.number ts
    behind-it c cs ds es ts i e h = by (s.step c cs ds e)
      where
        by : Fills s.get s.put c cs ds ⊎ Passes s.get s.number c cs ds → NoWord s.number ts
        by (inl f) = (filled ds ts es f.value f.kept h).none
        by (inr p) = absurd (p.other i)

    -- what is said is kept
    said-is : (cs : Clauses) (ts : List Tree) (es : Clauses) (a : A) → Reads fs name cs ts es → Says fs name (s.put a) ts → s.get es ≡ Some a
    said-is cs _ es a (forms.one_more {which = which} {x = c} {head = head} {t = t} {operands = operands} {ts = ts} {ds = ds} l w k e h) (r.said_here {which = other} {head = y} {operands = ys} m v j) = by (s.step c cs ds e)
      where
        same-list : (head ≡ y) × (operands ≡ ys)
        same-list = lists-one head y operands ys t l m

        same-word : which ≡ other
        same-word = word-one which other head w (subst (IsKeywordIdentifier fs other) (sym same-list.0) v)

        same-clause : c ≡ s.put a
        same-clause = clause-one which c (s.put a) operands k (subst (λ f. IsClause fs name f (s.put a) operands) (sym same-word) (subst (IsClause fs name other (s.put a)) (sym same-list.1) j))

        by : Fills s.get s.put c cs ds ⊎ Passes s.get s.number c cs ds → s.get es ≡ Some a
        by (inl f) = (filled ds ts es f.value f.kept h).same ∙ f.kept ∙ ap Some (s.one f.value a (sym f.is ∙ same-clause))
        by (inr p) = absurd (p.other (ap slot same-clause ∙ s.numbered a))
    said-is cs _ es a (forms.one_more {ts = ts} {ds = ds} l w k e h) (r.said_behind b) = said-is ds ts es a h b
    said-is cs _ es a forms.no_more b = elim b [ ]

    no-says : (a : A) (ts : List Tree) → NoWord s.number ts → Says fs name (s.put a) ts → ⊥
    no-says a _ lacks (r.said_here {which = which} {operands = operands} l w k) = lacks which (slots which (s.put a) operands k ∙ s.numbered a) (r.headed_here l w)
    no-says a _ lacks (r.said_behind {ts = ts} b) = no-says a ts (λ which i h. lacks which i (r.headed_behind h)) b

    unsaid-is : (cs : Clauses) (ts : List Tree) (es : Clauses) → Reads fs name cs ts es → NoWord s.number ts → s.get es ≡ s.get cs
    unsaid-is cs ts es h lacks = by (ends cs ts es h)
      where
        by : Said cs ts es ⊎ Unsaid cs ts es → s.get es ≡ s.get cs
        by (inl b) = absurd (no-says b.value ts lacks b.says)
        by (inr u) = u.same

    -- nothing lies here, or no clause comes that is kept here
    abbrev Free : Clauses → List Tree → Type 0
    Free cs ts = (s.get cs ≡ None) ⊎ NoWord s.number ts

    free-behind : (cs ds : Clauses) (t : Tree) (ts : List Tree) → s.get ds ≡ s.get cs → Free cs (t ∷ ts) → Free ds ts
    free-behind cs ds t ts e (inl f) = inl (e ∙ f)
    free-behind cs ds t ts e (inr lacks) = inr (λ which i h. lacks which i (r.headed_behind h))

    is-free : (which : CoreForm) (a : A) (head t : Tree) (operands ts : List Tree) (cs : Clauses) → IsList (head ∷ operands) t → IsKeywordIdentifier fs which head → IsClause fs name which (s.put a) operands → Free cs (t ∷ ts) → s.get cs ≡ None
    is-free which a head t operands ts cs l w k (inl f) = f
    is-free which a head t operands ts cs l w k (inr lacks) = absurd (lacks which (slots which (s.put a) operands k ∙ s.numbered a) (r.headed_here l w))

  -- Kinds.

  lacks-fields : (ts : List Tree) → Lacks fs form.Fields ts → (which : CoreForm) → slot-of which ≡ 0 → Has fs which ts → ⊥
  lacks-fields ts lacks form.Fields i h = lacks h
  lacks-fields ts lacks _ i h = absurd (cc)

  lacks-protocol : (ts : List Tree) → Lacks fs form.Protocol ts → (which : CoreForm) → slot-of which ≡ 2 → Has fs which ts → ⊥
  lacks-protocol ts lacks form.Protocol i h = lacks h
  lacks-protocol ts lacks _ i h = absurd (cc)

  lacks-sealed : (ts : List Tree) → Lacks fs form.Sealed ts → (which : CoreForm) → slot-of which ≡ 3 → Has fs which ts → ⊥
  lacks-sealed ts lacks form.Sealed i h = lacks h
  lacks-sealed ts lacks _ i h = absurd (cc)

  lacks-opaque : (ts : List Tree) → Lacks fs form.Opaque ts → (which : CoreForm) → slot-of which ≡ 4 → Has fs which ts → ⊥
  lacks-opaque ts lacks form.Opaque i h = lacks h
  lacks-opaque ts lacks _ i h = absurd (cc)

  lacks-nongenerative : (ts : List Tree) → Lacks fs form.Nongenerative ts → (which : CoreForm) → slot-of which ≡ 5 → Has fs which ts → ⊥
  lacks-nongenerative ts lacks form.Nongenerative i h = lacks h
  lacks-nongenerative ts lacks _ i h = absurd (cc)

  lacks-parent : (ts : List Tree) → Lacks fs form.Parent ts → Lacks fs form.ParentRtd ts → (which : CoreForm) → slot-of which ≡ 1 → Has fs which ts → ⊥
  lacks-parent ts lacks none form.Parent i h = lacks h
  lacks-parent ts lacks none form.ParentRtd i h = none h
  lacks-parent ts lacks none _ i h = absurd (cc)

  kind-lacks : (which : CoreForm) (c : RecordClause) (operands ts : List Tree) → IsClause fs name which c operands → LacksKind fs which ts → NoWord (slot c) ts
  kind-lacks _ _ _ ts (r.fields h) lacks = lacks-fields ts lacks
  kind-lacks _ _ _ ts (r.parent i) lacks = lacks-parent ts lacks.0 lacks.1
  kind-lacks _ _ _ ts r.parent_rtd lacks = lacks-parent ts lacks.0 lacks.1
  kind-lacks _ _ _ ts r.protocol lacks = lacks-protocol ts lacks
  kind-lacks _ _ _ ts r.sealed lacks = lacks-sealed ts lacks
  kind-lacks _ _ _ ts r.opaque lacks = lacks-opaque ts lacks
  kind-lacks _ _ _ ts r.generated lacks = lacks-nongenerative ts lacks
  kind-lacks _ _ _ ts (r.nongenerative i) lacks = lacks-nongenerative ts lacks

  lacks-kind : (which : CoreForm) (c : RecordClause) (operands ts : List Tree) → IsClause fs name which c operands → NoWord (slot c) ts → LacksKind fs which ts
  lacks-kind _ _ _ ts (r.fields h) lacks = lacks form.Fields refl
  lacks-kind _ _ _ ts (r.parent i) lacks = (lacks form.Parent refl, lacks form.ParentRtd refl)
  lacks-kind _ _ _ ts r.parent_rtd lacks = (lacks form.Parent refl, lacks form.ParentRtd refl)
  lacks-kind _ _ _ ts r.protocol lacks = lacks form.Protocol refl
  lacks-kind _ _ _ ts r.sealed lacks = lacks form.Sealed refl
  lacks-kind _ _ _ ts r.opaque lacks = lacks form.Opaque refl
  lacks-kind _ _ _ ts r.generated lacks = lacks form.Nongenerative refl
  lacks-kind _ _ _ ts (r.nongenerative i) lacks = lacks form.Nongenerative refl

  -- What was read are clauses.

  nothing-behind : (c : RecordClause) (cs ds es : Clauses) (ts : List Tree) → with_clause cs c ≡ Some ds → Reads fs name ds ts es → NoWord (slot c) ts
  nothing-behind (clause.Fields x) cs ds es ts e h = behind-it (List Field) fields-slot (clause.Fields x) cs ds es ts refl e h
  nothing-behind (clause.Parent x) cs ds es ts e h = behind-it (Parent) parent-slot (clause.Parent x) cs ds es ts refl e h
  nothing-behind (clause.Protocol x) cs ds es ts e h = behind-it (Tree) protocol-slot (clause.Protocol x) cs ds es ts refl e h
  nothing-behind (clause.Sealed x) cs ds es ts e h = behind-it (Bool) sealed-slot (clause.Sealed x) cs ds es ts refl e h
  nothing-behind (clause.Opaque x) cs ds es ts e h = behind-it (Bool) opaque-slot (clause.Opaque x) cs ds es ts refl e h
  nothing-behind (clause.Nongenerative x) cs ds es ts e h = behind-it (Uid) nongenerative-slot (clause.Nongenerative x) cs ds es ts refl e h

  pub are-clauses : (cs : Clauses) (ts : List Tree) (es : Clauses) → Reads fs name cs ts es → AreClauses fs name ts
  are-clauses cs _ es forms.no_more = r.no_more
  are-clauses cs _ es (forms.one_more {which = which} {x = c} {operands = operands} {ts = ts} {ds = ds} l w k e h) =
      r.one_more l w k (lacks-kind which c operands ts k (nothing-behind c cs ds es ts e h)) (are-clauses ds ts es h)

  -- Clauses are read.

  record Frees (cs : Clauses) (ts : List Tree) : Type 0 where
    pub fields : Free (List Field) fields-slot cs ts
    pub parent : Free (Parent) parent-slot cs ts
    pub protocol : Free (Tree) protocol-slot cs ts
    pub sealed : Free (Bool) sealed-slot cs ts
    pub opaque : Free (Bool) opaque-slot cs ts
    pub nongenerative : Free (Uid) nongenerative-slot cs ts

  abbrev ReadTo : Clauses → List Tree → Type 0
  ReadTo cs ts = (es : Clauses) × Reads fs name cs ts es

  read-on : (which : CoreForm) (c : RecordClause) (head t : Tree) (operands ts : List Tree) (cs : Clauses) → IsList (head ∷ operands) t → IsKeywordIdentifier fs which head → IsClause fs name which c operands → LacksKind fs which ts → Frees cs (t ∷ ts)
      → (ds : Clauses) × ((with_clause cs c ≡ Some ds) × Frees ds ts)
  unfolding with_clause
  read-on which (clause.Fields x) head t operands ts cs l w k lacks free =
      let ds = record cs { fields = Some x } in (
        ds,
        (
          ap (λ o. if_free o ds) (is-free (List Field) fields-slot which x head t operands ts cs l w k free.fields),
          record {
            fields = inr (kind-lacks which (clause.Fields x) operands ts k lacks);
            parent = free-behind (Parent) parent-slot cs ds t ts refl free.parent;
            protocol = free-behind (Tree) protocol-slot cs ds t ts refl free.protocol;
            sealed = free-behind (Bool) sealed-slot cs ds t ts refl free.sealed;
            opaque = free-behind (Bool) opaque-slot cs ds t ts refl free.opaque;
            nongenerative = free-behind (Uid) nongenerative-slot cs ds t ts refl free.nongenerative;
          },
        ),
      )
  read-on which (clause.Parent x) head t operands ts cs l w k lacks free =
      let ds = record cs { parent = Some x } in (
        ds,
        (
          ap (λ o. if_free o ds) (is-free (Parent) parent-slot which x head t operands ts cs l w k free.parent),
          record {
            fields = free-behind (List Field) fields-slot cs ds t ts refl free.fields;
            parent = inr (kind-lacks which (clause.Parent x) operands ts k lacks);
            protocol = free-behind (Tree) protocol-slot cs ds t ts refl free.protocol;
            sealed = free-behind (Bool) sealed-slot cs ds t ts refl free.sealed;
            opaque = free-behind (Bool) opaque-slot cs ds t ts refl free.opaque;
            nongenerative = free-behind (Uid) nongenerative-slot cs ds t ts refl free.nongenerative;
          },
        ),
      )
  read-on which (clause.Protocol x) head t operands ts cs l w k lacks free =
      let ds = record cs { protocol = Some x } in (
        ds,
        (
          ap (λ o. if_free o ds) (is-free (Tree) protocol-slot which x head t operands ts cs l w k free.protocol),
          record {
            fields = free-behind (List Field) fields-slot cs ds t ts refl free.fields;
            parent = free-behind (Parent) parent-slot cs ds t ts refl free.parent;
            protocol = inr (kind-lacks which (clause.Protocol x) operands ts k lacks);
            sealed = free-behind (Bool) sealed-slot cs ds t ts refl free.sealed;
            opaque = free-behind (Bool) opaque-slot cs ds t ts refl free.opaque;
            nongenerative = free-behind (Uid) nongenerative-slot cs ds t ts refl free.nongenerative;
          },
        ),
      )
  read-on which (clause.Sealed x) head t operands ts cs l w k lacks free =
      let ds = record cs { sealed = Some x } in (
        ds,
        (
          ap (λ o. if_free o ds) (is-free (Bool) sealed-slot which x head t operands ts cs l w k free.sealed),
          record {
            fields = free-behind (List Field) fields-slot cs ds t ts refl free.fields;
            parent = free-behind (Parent) parent-slot cs ds t ts refl free.parent;
            protocol = free-behind (Tree) protocol-slot cs ds t ts refl free.protocol;
            sealed = inr (kind-lacks which (clause.Sealed x) operands ts k lacks);
            opaque = free-behind (Bool) opaque-slot cs ds t ts refl free.opaque;
            nongenerative = free-behind (Uid) nongenerative-slot cs ds t ts refl free.nongenerative;
          },
        ),
      )
  read-on which (clause.Opaque x) head t operands ts cs l w k lacks free =
      let ds = record cs { opaque = Some x } in (
        ds,
        (
          ap (λ o. if_free o ds) (is-free (Bool) opaque-slot which x head t operands ts cs l w k free.opaque),
          record {
            fields = free-behind (List Field) fields-slot cs ds t ts refl free.fields;
            parent = free-behind (Parent) parent-slot cs ds t ts refl free.parent;
            protocol = free-behind (Tree) protocol-slot cs ds t ts refl free.protocol;
            sealed = free-behind (Bool) sealed-slot cs ds t ts refl free.sealed;
            opaque = inr (kind-lacks which (clause.Opaque x) operands ts k lacks);
            nongenerative = free-behind (Uid) nongenerative-slot cs ds t ts refl free.nongenerative;
          },
        ),
      )
  read-on which (clause.Nongenerative x) head t operands ts cs l w k lacks free =
      let ds = record cs { nongenerative = Some x } in (
        ds,
        (
          ap (λ o. if_free o ds) (is-free (Uid) nongenerative-slot which x head t operands ts cs l w k free.nongenerative),
          record {
            fields = free-behind (List Field) fields-slot cs ds t ts refl free.fields;
            parent = free-behind (Parent) parent-slot cs ds t ts refl free.parent;
            protocol = free-behind (Tree) protocol-slot cs ds t ts refl free.protocol;
            sealed = free-behind (Bool) sealed-slot cs ds t ts refl free.sealed;
            opaque = free-behind (Bool) opaque-slot cs ds t ts refl free.opaque;
            nongenerative = inr (kind-lacks which (clause.Nongenerative x) operands ts k lacks);
          },
        ),
      )

  are-read : (cs : Clauses) (ts : List Tree) → AreClauses fs name ts → Frees cs ts → ReadTo cs ts
  are-read cs _ r.no_more free = (cs, forms.no_more)
  are-read cs _ (r.one_more {which = which} {c = c} {head = head} {t = t} {operands = operands} {ts = ts} l w k lacks h) free =
      let a = read-on which c head t operands ts cs l w k lacks free in
      let b = are-read a.0 ts h a.1.1 in
      (b.0, forms.one_more l w k a.1.0 b.1)

  pub clauses-are-read : (ts : List Tree) → AreClauses fs name ts → ReadTo no_clauses ts
  clauses-are-read ts h = are-read no_clauses ts h (record { fields = inl refl; parent = inl refl; protocol = inl refl; sealed = inl refl; opaque = inl refl; nongenerative = inl refl })

  -- What they say.

  module _ (own : List ℕ) (ts : List Tree) (es : Clauses) (h : Reads fs name no_clauses ts es) where
    parent-said : Said Parent parent-slot no_clauses ts es ⊎ Unsaid Parent parent-slot no_clauses ts es → IsParent fs name ts (parent-tree es.parent) (constructor-tree es.parent)
    parent-said (inl a) = subst (λ o. IsParent fs name ts (parent-tree o) (constructor-tree o)) (sym a.kept) (by a.value a.says)
      where
        by : (p : Parent) → Says fs name (clause.Parent p) ts → IsParent fs name ts (parent-tree (Some p)) (constructor-tree (Some p))
        by (parents.Named x) k = types.named k
        by (parents.Descriptors x y) k = types.described k
    parent-said (inr u) = subst (λ o. IsParent fs name ts (parent-tree o) (constructor-tree o)) (sym u.same) (types.no_parent (u.none form.Parent refl) (u.none form.ParentRtd refl))

    uid-said : Said Uid nongenerative-slot no_clauses ts es ⊎ Unsaid Uid nongenerative-slot no_clauses ts es → IsUid fs own name ts (uid-tree own es.nongenerative)
    uid-said (inl a) = subst (λ o. IsUid fs own name ts (uid-tree own o)) (sym a.kept) (by a.value a.says)
      where
        by : (u : Uid) → Says fs name (clause.Nongenerative u) ts → IsUid fs own name ts (uid-tree own (Some u))
        by uid.Generated k = types.generated k
        by (uid.Given x) k = types.given k
    uid-said (inr u) = subst (λ o. IsUid fs own name ts (uid-tree own o)) (sym u.same) (types.generative (u.none form.Nongenerative refl))

    sealed-said : Said Bool sealed-slot no_clauses ts es ⊎ Unsaid Bool sealed-slot no_clauses ts es → IsSealed fs name ts (or_false es.sealed)
    unfolding or_false
    sealed-said (inl a) = subst (λ o. IsSealed fs name ts (or_false o)) (sym a.kept) (types.says_sealed a.says)
    sealed-said (inr u) = subst (λ o. IsSealed fs name ts (or_false o)) (sym u.same) (types.not_sealed (u.none form.Sealed refl))

    opaque-said : Said Bool opaque-slot no_clauses ts es ⊎ Unsaid Bool opaque-slot no_clauses ts es → IsOpaque fs name ts (or_false es.opaque)
    unfolding or_false
    opaque-said (inl a) = subst (λ o. IsOpaque fs name ts (or_false o)) (sym a.kept) (types.says_opaque a.says)
    opaque-said (inr u) = subst (λ o. IsOpaque fs name ts (or_false o)) (sym u.same) (types.not_opaque (u.none form.Opaque refl))

    protocol-said : Said Tree protocol-slot no_clauses ts es ⊎ Unsaid Tree protocol-slot no_clauses ts es → IsProtocol fs name ts (protocol_part es.protocol)
    unfolding protocol_part
    protocol-said (inl a) = subst (λ o. IsProtocol fs name ts (protocol_part o)) (sym a.kept) (types.says_protocol a.says)
    protocol-said (inr u) = subst (λ o. IsProtocol fs name ts (protocol_part o)) (sym u.same) (types.no_protocol (u.none form.Protocol refl))

    fields-said : Said (List Field) fields-slot no_clauses ts es ⊎ Unsaid (List Field) fields-slot no_clauses ts es → AreFields fs name ts (or_no_fields es.fields)
    fields-said (inl a) = subst (λ o. AreFields fs name ts (or_no_fields o)) (sym a.kept) (types.says_fields a.says)
    fields-said (inr u) = subst (λ o. AreFields fs name ts (or_no_fields o)) (sym u.same) (types.no_fields (u.none form.Fields refl))

    pub describes : Describe fs own name ts (description own es)
    describes = record {
      parent = parent-said (ends Parent parent-slot no_clauses ts es h);
      uid = uid-said (ends Uid nongenerative-slot no_clauses ts es h);
      sealed = sealed-said (ends Bool sealed-slot no_clauses ts es h);
      opaque = opaque-said (ends Bool opaque-slot no_clauses ts es h);
      protocol = protocol-said (ends Tree protocol-slot no_clauses ts es h);
      fields = fields-said (ends (List Field) fields-slot no_clauses ts es h);
    }

    -- and nothing else

    parent-only : (p c : Tree) → IsParent fs name ts p c → (parent-tree es.parent ≡ p) × (constructor-tree es.parent ≡ c)
    parent-only _ _ (types.no_parent lacks none) = let e = unsaid-is Parent parent-slot no_clauses ts es h (lacks-parent ts lacks none) in (ap parent-tree e, ap constructor-tree e)
    parent-only _ _ (types.named {x = x} k) = let e = said-is Parent parent-slot no_clauses ts es (parents.Named x) h k in (ap parent-tree e, ap constructor-tree e)
    parent-only p c (types.described k) = let e = said-is Parent parent-slot no_clauses ts es (parents.Descriptors p c) h k in (ap parent-tree e, ap constructor-tree e)

    uid-only : (u : Tree) → IsUid fs own name ts u → uid-tree own es.nongenerative ≡ u
    uid-only _ (types.generative lacks) = ap (uid-tree own) (unsaid-is Uid nongenerative-slot no_clauses ts es h (lacks-nongenerative ts lacks))
    uid-only _ (types.generated k) = ap (uid-tree own) (said-is Uid nongenerative-slot no_clauses ts es uid.Generated h k)
    uid-only _ (types.given {x = x} k) = ap (uid-tree own) (said-is Uid nongenerative-slot no_clauses ts es (uid.Given x) h k)

    sealed-only : (b : Bool) → IsSealed fs name ts b → or_false es.sealed ≡ b
    unfolding or_false
    sealed-only _ (types.not_sealed lacks) = ap or_false (unsaid-is Bool sealed-slot no_clauses ts es h (lacks-sealed ts lacks))
    sealed-only b (types.says_sealed k) = ap or_false (said-is Bool sealed-slot no_clauses ts es b h k)

    opaque-only : (b : Bool) → IsOpaque fs name ts b → or_false es.opaque ≡ b
    unfolding or_false
    opaque-only _ (types.not_opaque lacks) = ap or_false (unsaid-is Bool opaque-slot no_clauses ts es h (lacks-opaque ts lacks))
    opaque-only b (types.says_opaque k) = ap or_false (said-is Bool opaque-slot no_clauses ts es b h k)

    protocol-only : (e : Tree) → IsProtocol fs name ts e → protocol_part es.protocol ≡ e
    unfolding protocol_part
    protocol-only _ (types.no_protocol lacks) = ap protocol_part (unsaid-is Tree protocol-slot no_clauses ts es h (lacks-protocol ts lacks))
    protocol-only e (types.says_protocol k) = ap protocol_part (said-is Tree protocol-slot no_clauses ts es e h k)

    fields-only : (xs : List Field) → AreFields fs name ts xs → or_no_fields es.fields ≡ xs
    fields-only _ (types.no_fields lacks) = ap or_no_fields (unsaid-is (List Field) fields-slot no_clauses ts es h (lacks-fields ts lacks))
    fields-only xs (types.says_fields k) = ap or_no_fields (said-is (List Field) fields-slot no_clauses ts es xs h k)

    pub describe-one : (d : Description) → Describe fs own name ts d → description own es ≡ d
    describe-one d k =
        let p = parent-only d.parent d.parent_constructor k.parent in
        λ i. record {
          parent = p.0 i;
          parent_constructor = p.1 i;
          uid = uid-only d.uid k.uid i;
          sealed = sealed-only d.sealed k.sealed i;
          opaque = opaque-only d.opaque k.opaque i;
          protocol = protocol-only d.protocol k.protocol i;
          fields = fields-only d.fields k.fields i;
        }
