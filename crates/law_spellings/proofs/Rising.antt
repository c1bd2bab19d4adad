-- Records rise, because the names of a library are counted and the frames of it listed by number.
use Rattle.std.proofs.Common.{◌≡◌, ℕ, zero, suc, ◌<◌, ◌≤◌, Bool, true, List, [], ◌∷◌, ◌++◌, Option, None, Some, Result, Ok, Err, refl, sym, subst, arith, inl, inr}
use Rattle.std.specs.Prelude.{◌&&◌}
use Rattle.std.specs.Ordering.{nat_cmp, ordering_reverse}
use Rattle.std.specs.declared.cmp.Ordering.{Ordering}
use Rattle.std.specs.declared.cmp.Ordering.TheVariants.{Less, Equal, Greater}
use Rattle.std.proofs.lemmas.Bool.{and_parts, cases_lt}
use Rattle.std.proofs.lemmas.Bool.Decides.{nat_tests}
use Rattle.std.proofs.lemmas.List.{append-nil}
use Rattle.base_data.specs.Act.{after}
use Rattle.base_data.specs.NameOrder.{library_cmp, name_cmp}
use Rattle.base_data.specs.contracts.library.LibNameOrd.TheImpl.Laws.{total-law}
use Rattle.base_data.specs.declared.fault.Fault.{Fault}
use Rattle.base_data.specs.declared.library.LibName.{LibName}
use Rattle.base_data.specs.declared.name.FrameNo.{FrameNo}
use Rattle.base_data.specs.declared.name.Label.{Label}
use Rattle.core_codec.specs.Records.{is_less, is_at_most, bindings_rise_on, bindings_rise, rows_rise_on, rows_rise}
use Rattle.core_language.specs.Bindings.{bound_to}
use Rattle.core_language.specs.declared.binding.Binding.{Binding}
use Rattle.core_language.specs.declared.record.CompiledLibrary.{CompiledLibrary}
use Rattle.core_language.specs.declared.record.Line.{Line}
use Rattle.base_data.specs.Elements.{Each}
use Rattle.expand_heads.specs.declared.taken.Taken.{Taken}
use Rattle.expand_forms.specs.Body.{finish_all}
use Rattle.expand_forms.specs.Expression.{inside, full_room}
use Rattle.expand_forms.specs.Inside.{Inside}
use Rattle.expand_forms.specs.Top.{exports, record_of, give_record, record_in, second_pass, first_pass, top, top_at}
use Rattle.expand_forms.specs.declared.top.TopAt.{TopAt}
use Rattle.expand_standing.specs.Own.{completed, row_at, own_label, own_row, own_below, own_bindings}
use Rattle.expand_standing.specs.Start.{started, first_frame}
use Rattle.expand_standing.specs.State.{State, Does}
use Rattle.base_data.proofs.ElementLemmas.{each-append}
use Rattle.base_data.specs.declared.imported_name.ImportedName.{ImportedName}
use Rattle.stx_frames.specs.Listed.{rows_in, AreOrdered}
use Rattle.stx_frames.proofs.ListedLaws.{ordered_rows_in}
use Rattle.stx_tree.specs.Tree.{Tree}
use Rattle.stx_tree.specs.declared.frame_row.FrameRow.{FrameRow}
use Rattle.law_spellings.specs.Rising.{RecordRises, RecordsRise}

-- What holds of every record that the definition builds.

abbrev Of : (CompiledLibrary → Type 0) → Result (CompiledLibrary × State) Fault → Type 0
Of P (Ok p) = P p.0
Of P (Err f) = Unit {0}

of-after : {A : Type 0} (P : CompiledLibrary → Type 0) (r : Result (A × State) Fault) (k : A → Does CompiledLibrary) → ((a : A) (t : State) → Of P (k a t)) → Of P (after r k)
of-after P (Ok p) k h = h p.0 p.1
of-after P (Err f) k h = tt

of-record : (P : CompiledLibrary → Type 0) (r : CompiledLibrary) (q : Result (CompiledLibrary × State) Fault) → Of P q → record_in q ≡ Ok r → P r
of-record P r (Err f) h e = absurd (cc)
of-record P r (Ok p) h e =
    let is : p.0 ≡ r = cc in
    subst P is h

module _ (P : CompiledLibrary → Type 0) (built : (at : TopAt) (es : List ImportedName) (lines : List Line) (s : State) → P (record_of at es lines s)) where
  of-second : (go : Inside) (at : TopAt) (es : List (List ℕ × Tree)) (taken : Taken) (s : State) → Of P (second_pass go at es taken s)
  unfolding second_pass
  of-second go at es taken s =
      of-after P (exports at es s) (λ ls s'. after (finish_all go 0 taken.waiting s') (λ lines. give_record at ls lines))
      (λ ls t. of-after P (finish_all go 0 taken.waiting t) (λ lines. give_record at ls lines) (λ lines u. built at ls lines u))

  of-top : (go : Inside) (at : TopAt) (es : List (List ℕ × Tree)) (forms : List Tree) (s : State) → Of P (top go at es forms s)
  unfolding top
  of-top go at es forms s = of-after P (first_pass go at forms s) (second_pass go at es) (λ taken t. of-second go at es taken t)

-- Names of one library compare by number.

both-true : (a b : Bool) → a ≡ true → b ≡ true → (a && b) ≡ true
both-true a b h k = λ i. h i && k i

same-library : (l : LibName) → library_cmp l l ≡ Equal
same-library l = by (library_cmp l l) (total-law.antisymm l l)
  where
    by : (o : Ordering) → o ≡ ordering_reverse o → o ≡ Equal
    by Less h = absurd (cc)
    by Equal h = refl
    by Greater h = absurd (cc)

same : (m n : ℕ) → m ≡ n → nat_cmp m n ≡ Equal
same m n h = grind (arith, nat_tests)

less : (l : LibName) (m n : ℕ) → m < n → is_less (name_cmp (record { library = l; number = m }) (record { library = l; number = n })) ≡ true
less l m n h =
    let e : nat_cmp m n ≡ Less = grind (arith, nat_tests) in
    rw (same-library l, e) refl

at-most : (l : LibName) (m n : ℕ) → m ≤ n → is_at_most (name_cmp (record { library = l; number = m }) (record { library = l; number = n })) ≡ true
at-most l m n h = elim (cases_lt m n) [
  | inl lt ↦ let e : nat_cmp m n ≡ Less = grind (arith, nat_tests) in rw (same-library l, e) refl
  | inr le ↦ let e : nat_cmp m n ≡ Equal = same m n (omega (arith, h, le)) in rw (same-library l, e) refl
]

-- Bindings.

abbrev Bindings : Type 0
Bindings = List (Label × Binding)

abbrev Before : Label → Label × Binding → Type 0
Before l b = is_less (name_cmp b.0.0 l.0) ≡ true

on-snoc : (l : Label) (bs : Bindings) (b : Label × Binding) → bindings_rise_on l bs ≡ true → is_less (name_cmp l.0 b.0.0) ≡ true → Each (Before b.0) bs → bindings_rise_on l (bs ++ b ∷ []) ≡ true
on-snoc l [] b h k j = both-true (is_less (name_cmp l.0 b.0.0)) true k refl
on-snoc l (x ∷ bs) b h k j =
    let a = and_parts (is_less (name_cmp l.0 x.0.0)) (bindings_rise_on x.0 bs) h in
    both-true (is_less (name_cmp l.0 x.0.0)) (bindings_rise_on x.0 (bs ++ b ∷ [])) a.0 (on-snoc x.0 bs b a.1 j.0 j.1)

snoc : (bs : Bindings) (b : Label × Binding) → bindings_rise bs ≡ true → Each (Before b.0) bs → bindings_rise (bs ++ b ∷ []) ≡ true
snoc [] b h j = refl
snoc (x ∷ bs) b h j = on-snoc x.0 bs b h j.0 j.1

row-before : (s : State) (n m : ℕ) (o : Option Binding) → n < m → Each (Before (own_label s m)) (row_at s (own_label s n) o)
row-before s n m None h = tt
row-before s n m (Some b) h = (less s.names.library n m h, tt)

below-before : (s : State) (n m : ℕ) → n ≤ m → Each (Before (own_label s m)) (own_below s n)
below-before s zero m h = tt
below-before s (suc n) m h =
    each-append (Before (own_label s m)) (own_below s n) (own_row s n) (below-before s n m (omega (arith, h))) (row-before s n m (bound_to s.bindings (own_label s n)) (omega (arith, h)))

below-rise : (s : State) (n : ℕ) → bindings_rise (own_below s n) ≡ true
below-rise s zero = refl
below-rise s (suc n) = by (bound_to s.bindings (own_label s n)) (below-rise s n)
  where
    by : (o : Option Binding) → bindings_rise (own_below s n) ≡ true → bindings_rise (own_below s n ++ row_at s (own_label s n) o) ≡ true
    by None h = subst (λ (bs : Bindings). bindings_rise bs ≡ true) (sym (append-nil (own_below s n))) h
    by (Some b) h = snoc (own_below s n) (own_label s n, completed s (own_label s n) b) h (below-before s n n (omega arith))

own-rise : (s : State) → bindings_rise (own_bindings s) ≡ true
unfolding own_bindings
own-rise s = below-rise s s.names.number

-- Rows.

named : (f : FrameNo) (l : LibName) → f.0.library ≡ l → f.0 ≡ record { library = l; number = f.0.number }
named f l e = λ i. record { library = e i; number = f.0.number }

rows-on : (l : LibName) (f : FrameNo) (rs : List FrameRow) → f.0.library ≡ l → AreOrdered l f.0.number rs → rows_rise_on f rs ≡ true
rows-on l f [] e h = refl
rows-on l f (r ∷ rs) e h =
    let test : is_at_most (name_cmp f.0 r.frame.0) ≡ true = rw (named f l e, named r.frame l h.0) (at-most l f.0.number r.frame.0.number h.1) in
    both-true (is_at_most (name_cmp f.0 r.frame.0)) (rows_rise_on r.frame rs) test (rows-on l r.frame rs h.0 h.2)

ordered-rise : (l : LibName) (rs : List FrameRow) → AreOrdered l 0 rs → rows_rise rs ≡ true
ordered-rise l [] h = refl
ordered-rise l (r ∷ rs) h = rows-on l r.frame rs h.0 h.2

pub rise : RecordsRise
rise own records imports body codes r e =
    of-record RecordRises r (top (inside records full_room) (top_at (first_frame own) body) body.exports body.forms (started own records imports codes))
    (of-top RecordRises (λ at ls lines s. record { bindings = own-rise s; rows = ordered-rise s.library (rows_in s.library s.frames) (ordered_rows_in s.library s.frames) })
    (inside records full_room) (top_at (first_frame own) body) body.exports body.forms (started own records imports codes)) e
