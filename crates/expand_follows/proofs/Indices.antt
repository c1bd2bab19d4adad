-- A table of a record's own labels tells the indices of its variables.
use Rattle.std.proofs.Common.{◌≡◌, ℕ, Bool, true, false, true≢false, cond, List, [], ◌∷◌, ◌++◌, map, Option, Some, None, refl, sym, ap, ◌∙◌, append_assoc, append-nil}
use Rattle.std.specs.Prelude.{◌&&◌, ◌||◌, is_some, not, nat_eq, if◌then◌else◌}
use Rattle.std.specs.Map.{lookup}
use Rattle.indexmap.specs.IndexMap.{insert_entry}
use Rattle.base_data.specs.declared.name.Label.{Label}
use Rattle.core_language.specs.Labels.{same_label}
use Rattle.core_language.specs.declared.binding.Binding.{Binding}
use Rattle.core_language.specs.declared.binding.Binding.TheVariants as binding
use Rattle.core_language.specs.declared.record.CompiledLibrary.{CompiledLibrary}
use Rattle.law_core.specs.Follows.{index_in, index_of, is_there, same_index}
use Rattle.law_core.specs.Words.{among, each, once}
use Rattle.law_core.proofs.Decisions.{label_decides}
use Rattle.expand_follows.proofs.Tables.{insert_new}
use Rattle.expand_follows.specs.Pieces.{all_there, before, behind_all, once_there, index_if, index_in_table, index_of_binding, with_index, with_indices}

-- a row more, where there was none
pub index_row : (rows new : List (Label × Option ℕ)) (l m : Label) (b : Binding) (i : Option ℕ) → is_some (lookup (same_label l) rows) ≡ false → m ≡ l
    → i ≡ index_of_binding b → new ≡ insert_entry same_label rows m i → new ≡ with_index rows (l, b)
index_row rows new l m b i none e k is =
    is ∙ ap (λ z. insert_entry same_label rows z i) e ∙ insert_new same_label rows l i none ∙ ap (λ j. rows ++ (l, j) ∷ []) k
    ∙ sym (ap (λ c. if c then rows else rows ++ (l, index_of_binding b) ∷ []) none)

-- a row that is there, or a later one
abbrev or_row : Option (Option ℕ) → Option (Option ℕ) → Option (Option ℕ)
or_row None later = later
or_row (Some i) later = Some i

abbrev or_index : Option (Option ℕ) → Option ℕ → Option ℕ
or_index None later = later
or_index (Some i) later = i

none_behind : (o : Option (Option ℕ)) → index_if o ≡ or_index o None
none_behind None = refl
none_behind (Some i) = refl

index_is : (b : Binding) → index_of_binding b ≡ index_in (Some b)
index_is (binding.Variable v) = refl
index_is (binding.PatternVariable level depth) = refl
index_is (binding.Macro level expression) = refl
index_is (binding.Core form) = refl
index_is (binding.Primitive o) = refl

index_table_more : (bs : List (Label × Binding)) (rows : List (Label × Option ℕ)) (l : Label) → index_in_table (with_indices rows bs) l ≡ or_index (lookup (same_label l) rows) (index_in (lookup (same_label l) bs))
index_table_more [] rows l = none_behind (lookup (same_label l) rows)
index_table_more (b ∷ bs) rows l = index_table_more bs (with_index rows b) l ∙ by (is_some (lookup (same_label b.0) rows)) refl
  where
    last : (xs : List (Label × Option ℕ)) → lookup (same_label l) (xs ++ (b.0, index_of_binding b.1) ∷ []) ≡ or_row (lookup (same_label l) xs) (cond (same_label l b.0) (Some (index_of_binding b.1)) None)
    last [] = refl
    last (x ∷ xs) = by_same (same_label l x.0) (last xs)
      where
        by_same : (c : Bool) → lookup (same_label l) (xs ++ (b.0, index_of_binding b.1) ∷ []) ≡ or_row (lookup (same_label l) xs) (cond (same_label l b.0) (Some (index_of_binding b.1)) None)
            → cond c (Some x.1) (lookup (same_label l) (xs ++ (b.0, index_of_binding b.1) ∷ [])) ≡ or_row (cond c (Some x.1) (lookup (same_label l) xs)) (cond (same_label l b.0) (Some (index_of_binding b.1)) None)
        by_same true h = refl
        by_same false h = h

    there : (c : Bool) → same_label l b.0 ≡ c → (o : Option (Option ℕ)) → lookup (same_label l) rows ≡ o → is_some (lookup (same_label b.0) rows) ≡ true
        → or_index o (index_in (lookup (same_label l) bs)) ≡ or_index o (index_in (cond c (Some b.1) (lookup (same_label l) bs)))
    there false e o k h = refl
    there true e None k h = absurd (true≢false (sym h ∙ ap (λ m. is_some (lookup (same_label m) rows)) (sym ((label_decides l b.0).0 e)) ∙ ap is_some k))
    there true e (Some i) k h = refl

    new : (o : Option (Option ℕ)) (c : Bool) → or_index (or_row o (cond c (Some (index_of_binding b.1)) None)) (index_in (lookup (same_label l) bs)) ≡ or_index o (index_in (cond c (Some b.1) (lookup (same_label l) bs)))
    new None true = index_is b.1
    new None false = refl
    new (Some i) true = refl
    new (Some i) false = refl

    by : (c : Bool) → is_some (lookup (same_label b.0) rows) ≡ c
        → or_index (lookup (same_label l) (if c then rows else rows ++ (b.0, index_of_binding b.1) ∷ [])) (index_in (lookup (same_label l) bs)) ≡ or_index (lookup (same_label l) rows) (index_in (cond (same_label l b.0) (Some b.1) (lookup (same_label l) bs)))
    by true h = there (same_label l b.0) refl (lookup (same_label l) rows) refl h
    by false h = ap (λ o. or_index o (index_in (lookup (same_label l) bs))) (last rows) ∙ new (lookup (same_label l) rows) (same_label l b.0)

pub table_index : (r : CompiledLibrary) (l : Label) → index_in_table (with_indices [] r.bindings) l ≡ index_of r l
table_index r l = index_table_more r.bindings [] l

pub table_indices : (own : List (Label × Option ℕ)) (r : CompiledLibrary) → own ≡ with_indices [] r.bindings → (ls : List Label) → map (index_in_table own) ls ≡ map (index_of r) ls
table_indices own r is ls = ap (λ rows. map (index_in_table rows) ls) is ∙ (λ i. map (λ l. table_index r l i) ls)

-- ---- each index is there, and no two are the same

abbrev once_if : Option (List ℕ) → Bool
once_if None = false
once_if (Some ns) = once nat_eq ns

among_some : (ns : List ℕ) (n : ℕ) → among same_index (map (λ (m : ℕ). Some m) ns) (Some n) ≡ among nat_eq ns n
among_some [] n = refl
among_some (m ∷ ns) n = ap (λ b. nat_eq n m || b) (among_some ns n)

once_some : (ns : List ℕ) → once same_index (map (λ (m : ℕ). Some m) ns) ≡ once nat_eq ns
once_some [] = refl
once_some (n ∷ ns) = λ i. not (among_some ns n i) && once_some ns i

each_some : (ns : List ℕ) → each is_there (map (λ (m : ℕ). Some m) ns) ≡ true
each_some [] = refl
each_some (n ∷ ns) = each_some ns

record AreThere (os : List (Option ℕ)) (ns : List ℕ) : Type 0 where
  pub are : os ≡ map (λ (m : ℕ). Some m) ns

there_all : (os : List (Option ℕ)) (ns : List ℕ) → all_there os ≡ Some ns → AreThere os ns
there_all [] ns h = let e : [] ≡ ns = cc in record { are = ap (λ ms. map (λ (m : ℕ). Some m) ms) e }
there_all (None ∷ os) ns h = absurd (cc)
there_all (Some n ∷ os) ns h = by (all_there os) refl (there_all os) h
  where
    by : (o : Option (List ℕ)) → all_there os ≡ o → ((ms : List ℕ) → all_there os ≡ Some ms → AreThere os ms) → before (Some n) o ≡ Some ns → AreThere (Some n ∷ os) ns
    by None e on k = absurd (cc)
    by (Some ms) e on k =
        let same : n ∷ ms ≡ ns = cc in
        record { are = ap (λ xs. Some n ∷ xs) (on ms e).are ∙ ap (λ xs. map (λ (m : ℕ). Some m) xs) same }

not_there : (os : List (Option ℕ)) → all_there os ≡ None → each is_there os ≡ false
not_there [] h = absurd (cc)
not_there (None ∷ os) h = refl
not_there (Some n ∷ os) h = by (all_there os) refl (not_there os) h
  where
    by : (o : Option (List ℕ)) → all_there os ≡ o → (all_there os ≡ None → each is_there os ≡ false) → before (Some n) o ≡ None → each is_there os ≡ false
    by None e on k = on e
    by (Some ms) e on k = absurd (cc)

pub once_there_none : (os : List (Option ℕ)) → all_there os ≡ None → once_there os ≡ false
once_there_none os h = ap (λ b. b && once same_index os) (not_there os h)

pub once_there_some : (os : List (Option ℕ)) (ns : List ℕ) → all_there os ≡ Some ns → once_there os ≡ once nat_eq ns
once_there_some os ns h =
    let a = there_all os ns h in
    ap once_there a.are ∙ ap (λ b. b && once same_index (map (λ (m : ℕ). Some m) ns)) (each_some ns) ∙ once_some ns

-- ---- one after another

pub behind_end : (ns : List ℕ) → behind_all ns (all_there []) ≡ Some ns
behind_end ns = ap (λ ms. Some ms) (append-nil ns)

pub behind_more : (ns : List ℕ) (n : ℕ) (rest : Option (List ℕ)) → behind_all (ns ++ n ∷ []) rest ≡ behind_all ns (before (Some n) rest)
behind_more ns n None = refl
behind_more ns n (Some ms) = ap (λ ks. Some ks) (append_assoc ns (n ∷ []) ms)

pub behind_none : (ns : List ℕ) (rest : Option (List ℕ)) → behind_all ns (before None rest) ≡ None
behind_none ns rest = refl
