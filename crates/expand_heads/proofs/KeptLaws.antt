-- Heads by symbol: none is lost, and no other can be changed by a binder.
use Rattle.std.proofs.Common.{◌≡◌, ◌≢◌, ℕ, Bool, true, false, List, [], ◌∷◌, ◌++◌, Option, None, Some, refl, sym, ap, ◌∙◌, true≢false, append_assoc, cond}
use Rattle.std.specs.Prelude.{nat_eq, is_some, if◌then◌else◌, filter, not}
use Rattle.std.specs.Cmp.{IsEquivalence, decided}
use Rattle.std.specs.Cmp.Lexicographic.{pointwise}
use Rattle.std.specs.Map.{lookup, set_value}
use Rattle.std.specs.Option.{IsSome}
use Rattle.std.proofs.lemmas.Map.{lookup-set_value}
use Rattle.std.proofs.lemmas.List.{append-nil}
use Rattle.base_data.specs.Same.{same_name, same_name_cases, texts_decides}
use Rattle.base_data.specs.Named.{Named}
use Rattle.base_data.specs.declared.name.FrameNo.{FrameNo}
use Rattle.base_data.specs.declared.name.Label.{Label}
use Rattle.base_data.specs.declared.name.Mark.{Mark}
use Rattle.stx_tree.specs.Tree.{Tree}
use Rattle.stx_tree.specs.Leaves.{stamps_of}
use Rattle.stx_tree.specs.declared.stamp.Stamp.{Stamp}
use Rattle.stx_frames.specs.Rows.{Row, label_in, is_of}
use Rattle.stx_frames.specs.Scope.{Scope, with_row, rows_at, label_by, label_at, or_else, same_frame}
use Rattle.stx_frames.proofs.FrameLaws.{rows_at-with_row, rows_at-other}
use Rattle.stx_scope.specs.Stands.{symbol_of, stands}
use Rattle.core_language.specs.declared.binding.Binding.{Binding}
use Rattle.core_language.specs.Bindings.{bound_to}
use Rattle.core_language.specs.Labels.{same_label}
use Rattle.expand_heads.specs.declared.taken.KeptHead.{KeptHead}
use Rattle.expand_heads.specs.Kept.{Heads, found, or_none, heads_of, with_head, kept_all}
use Rattle.expand_heads.specs.KeptLaws.{with_binder, AreNamed, AreOthers}
use Rattle.expand_heads.specs.Items.{is_changed, any_changed, same_standing, is_keyword_label}
use Rattle.expand_standing.specs.Standing.{label_standing, is_keyword_standing}
use Rattle.expand_standing.specs.State.{State}

abbrev same : List ℕ → List ℕ → Bool
same a b = pointwise nat_eq a b

same_equiv : IsEquivalence same
same_equiv = decided same texts_decides

-- those of a symbol among one head
abbrev one_of : List ℕ → KeptHead → List KeptHead
one_of x k = if same x k.symbol then k ∷ [] else []

-- an entry of another key at the end isn't found
lookup_skip : (hs : Heads) (x y : List ℕ) (v : List KeptHead) → same x y ≡ false → found x (hs ++ (y, v) ∷ []) ≡ found x hs
lookup_skip [] x y v h = rw h refl
lookup_skip (e ∷ hs) x y v h = ap (λ o. if same x e.0 then Some e.1 else o) (lookup_skip hs x y v h)

-- an entry at the end is found, where its key wasn't there
lookup_end : (hs : Heads) (x : List ℕ) (v : List KeptHead) → found x hs ≡ None → found x (hs ++ (x, v) ∷ []) ≡ Some v
lookup_end [] x v h = rw (same_equiv.refl x) refl
lookup_end (e ∷ hs) x v h = go (same x e.0) refl (lookup_end hs x v)
  where
    go : (b : Bool) → same x e.0 ≡ b → (found x hs ≡ None → found x (hs ++ (x, v) ∷ []) ≡ Some v) → (if same x e.0 then Some e.1 else found x (hs ++ (x, v) ∷ [])) ≡ Some v
    go true p so = let bad : Some e.1 ≡ None = sym (ap (λ c. if c then Some e.1 else found x hs) p) ∙ h in cc
    go false p so = rw p (so (sym (ap (λ c. if c then Some e.1 else found x hs) p) ∙ h))

some_if : (o : Option (List KeptHead)) (rs : List KeptHead) → o ≡ Some rs → IsSome o
some_if None rs h = cc
some_if (Some x) rs h = refl

with_new : (hs : Heads) (k : KeptHead) → found k.symbol hs ≡ None → with_head hs k ≡ hs ++ (k.symbol, k ∷ []) ∷ []
with_new hs k h = ap (λ (o : Option (List KeptHead)). if is_some o then set_value (same k.symbol) hs (or_none (found k.symbol hs) ++ k ∷ []) else hs ++ (k.symbol, k ∷ []) ∷ []) h

with_more : (hs : Heads) (k : KeptHead) (rs : List KeptHead) → found k.symbol hs ≡ Some rs → with_head hs k ≡ set_value (same k.symbol) hs (rs ++ k ∷ [])
with_more hs k rs h = ap (λ (o : Option (List KeptHead)). if is_some o then set_value (same k.symbol) hs (or_none o ++ k ∷ []) else hs ++ (k.symbol, k ∷ []) ∷ []) h

-- a look-up after a head was added
found_more : (hs : Heads) (k : KeptHead) (rs : List KeptHead) (x : List ℕ) → found k.symbol hs ≡ Some rs → found x (with_head hs k) ≡ cond (same k.symbol x) (Some (rs ++ k ∷ [])) (found x hs)
found_more hs k rs x h =
    ap (found x) (with_more hs k rs h) ∙ lookup-set_value same_equiv (same k.symbol) (λ a b. same_equiv.congr k.symbol a b) x (rs ++ k ∷ []) hs (some_if (found k.symbol hs) rs h)

heads_other : (hs : Heads) (k : KeptHead) (x : List ℕ) (o : Option (List KeptHead)) → found k.symbol hs ≡ o → same x k.symbol ≡ false → found x (with_head hs k) ≡ found x hs
heads_other hs k x None is h = ap (found x) (with_new hs k is) ∙ lookup_skip hs x k.symbol (k ∷ []) h
heads_other hs k x (Some rs) is h = found_more hs k rs x is ∙ ap (λ c. cond c (Some (rs ++ k ∷ [])) (found x hs)) (same_equiv.symm k.symbol x ∙ h)

heads_own : (hs : Heads) (k : KeptHead) (o : Option (List KeptHead)) → found k.symbol hs ≡ o → found k.symbol (with_head hs k) ≡ Some (or_none o ++ k ∷ [])
heads_own hs k None is = ap (found k.symbol) (with_new hs k is) ∙ lookup_end hs k.symbol (k ∷ []) is
heads_own hs k (Some rs) is = found_more hs k rs k.symbol is ∙ ap (λ c. cond c (Some (rs ++ k ∷ [])) (found k.symbol hs)) (same_equiv.refl k.symbol)

heads_with : (hs : Heads) (k : KeptHead) (x : List ℕ) → heads_of x (with_head hs k) ≡ heads_of x hs ++ one_of x k
heads_with hs k x = go (same x k.symbol) refl
  where
    go : (b : Bool) → same x k.symbol ≡ b → heads_of x (with_head hs k) ≡ heads_of x hs ++ (if same x k.symbol then k ∷ [] else [])
    go false p = rw p (ap or_none (heads_other hs k x (found k.symbol hs) refl p) ∙ sym (append-nil (heads_of x hs)))
    go true p =
        let is : x ≡ k.symbol = (texts_decides x k.symbol).0 p in
        rw (p, is) (ap or_none (heads_own hs k (found k.symbol hs) refl))

kept_behind : (x : List ℕ) (hs : Heads) (ks : List KeptHead) → heads_of x (kept_all hs ks) ≡ heads_of x hs ++ filter (λ k. same x k.symbol) ks
kept_behind x hs [] = sym (append-nil (heads_of x hs))
kept_behind x hs (k ∷ ks) =
    kept_behind x (with_head hs k) ks ∙ ap (λ v. v ++ filter (λ q. same x q.symbol) ks) (heads_with hs k x) ∙ append_assoc (heads_of x hs) (one_of x k) (filter (λ q. same x q.symbol) ks)
    ∙ ap (λ v. heads_of x hs ++ v) (first (same x k.symbol) refl)
  where
    first : (b : Bool) → same x k.symbol ≡ b → one_of x k ++ filter (λ q. same x q.symbol) ks ≡ filter (λ q. same x q.symbol) (k ∷ ks)
    first true p = rw p refl
    first false p = rw p refl

pub kept_found : (x : List ℕ) (ks : List KeptHead) → heads_of x (kept_all [] ks) ≡ filter (λ k. same x k.symbol) ks
kept_found x ks = kept_behind x [] ks

label_skip : (rs : List Row) (r : Row) (s : List ℕ) (ms : List Mark) → same s r.symbol ≡ false → label_in (rs ++ r ∷ []) s ms ≡ label_in rs s ms
label_skip [] r s ms h = rw h refl
label_skip (q ∷ rs) r s ms h = ap (λ v. if is_of s ms q then Some q.label else v) (label_skip rs r s ms h)

frame_is : (g f : FrameNo) → same_frame g f ≡ true → g ≡ f
frame_is g f h = ap (λ (n : Named). let x : FrameNo = record { 0 = n } in x) ((same_name_cases g.0 f.0).0 h)

at_stays : (fs : Scope) (f g : FrameNo) (r : Row) (s : List ℕ) (ms : List Mark) → same s r.symbol ≡ false → label_at (with_row fs f r) g s ms ≡ label_at fs g s ms
at_stays fs f g r s ms h = go (same_frame g f) refl
  where
    go : (b : Bool) → same_frame g f ≡ b → label_in (rows_at g (with_row fs f r)) s ms ≡ label_in (rows_at g fs) s ms
    go true p = rw (frame_is g f p, rows_at-with_row fs f r) (label_skip (rows_at f fs) r s ms h)
    go false p = ap (λ rs. label_in rs s ms) (rows_at-other fs f g r (λ e. true≢false (sym ((same_name_cases g.0 f.0).1 (ap (λ (x : FrameNo). x.0) e)) ∙ p)))

by_stays : (fs : Scope) (f : FrameNo) (r : Row) (s : List ℕ) (ts : List Stamp) → same s r.symbol ≡ false → label_by (with_row fs f r) s ts ≡ label_by fs s ts
by_stays fs f r s [] h = refl
by_stays fs f r s (t ∷ ts) h = λ i. or_else (at_stays fs f t.frame r s t.marks h i) (by_stays fs f r s ts h i)

pub stands_stays : (fs : Scope) (f : FrameNo) (r : Row) (t : Tree) → same (symbol_of t) r.symbol ≡ false → stands (with_row fs f r) t ≡ stands fs t
stands_stays fs f r t h = by_stays fs f r (symbol_of t) (stamps_of t) h

bound_skip : (bs : List (Label × Binding)) (l m : Label) (b : Binding) → same_label l m ≡ false → bound_to (bs ++ (m, b) ∷ []) l ≡ bound_to bs l
bound_skip [] l m b h = rw h refl
bound_skip (e ∷ bs) l m b h = ap (λ o. if same_label l e.0 then Some e.1 else o) (bound_skip bs l m b h)

module _ (keyword : Bool) (s : State) (f : FrameNo) (r : Row) (b : Binding) where
  keyword_stays : (o : Option Label) → o ≢ Some r.label → is_keyword_label (with_binder s f r b) o ≡ is_keyword_label s o
  unfolding label_standing
  keyword_stays None h = refl
  keyword_stays (Some l) h = go (same_label l r.label) refl
    where
      go : (c : Bool) → same_label l r.label ≡ c → is_keyword_label (with_binder s f r b) (Some l) ≡ is_keyword_label s (Some l)
      go true p = absurd (h (ap (λ (n : Named). let x : Label = record { 0 = n } in Some x) ((same_name_cases l.0 r.label.0).0 p)))
      go false p = rw (bound_skip s.bindings l r.label b p) refl

  changed_stays : (k : KeptHead) → k.symbol ≡ symbol_of k.leaf → k.label ≢ Some r.label → same r.symbol k.symbol ≡ false → is_changed keyword (with_binder s f r b) k ≡ is_changed keyword s k
  unfolding is_changed
  changed_stays k named other h =
      let apart : same (symbol_of k.leaf) r.symbol ≡ false = ap (λ x. same x r.symbol) (sym named) ∙ same_equiv.symm k.symbol r.symbol ∙ h in
      rw (keyword_stays k.label other, stands_stays s.frames f r k.leaf apart) refl

  asked : (ks : List KeptHead) → AreNamed ks → AreOthers r.label ks → any_changed keyword s ks ≡ false
      → any_changed keyword (with_binder s f r b) (filter (λ k. same r.symbol k.symbol) ks) ≡ any_changed keyword (with_binder s f r b) ks
  asked [] named others h = refl
  asked (k ∷ ks) named others h = go (same r.symbol k.symbol) (is_changed keyword s k) refl refl (asked ks named.1 others.1)
    where
      go : (c d : Bool) → same r.symbol k.symbol ≡ c → is_changed keyword s k ≡ d
          → (any_changed keyword s ks ≡ false → any_changed keyword (with_binder s f r b) (filter (λ q. same r.symbol q.symbol) ks) ≡ any_changed keyword (with_binder s f r b) ks)
          → any_changed keyword (with_binder s f r b) (filter (λ q. same r.symbol q.symbol) (k ∷ ks)) ≡ any_changed keyword (with_binder s f r b) (k ∷ ks)
      go c true p q so = absurd (true≢false (sym (ap (λ v. if v then true else any_changed keyword s ks) q) ∙ h))
      go true false p q so = rw p (ap (λ v. if is_changed keyword (with_binder s f r b) k then true else v) (so (sym (ap (λ v. if v then true else any_changed keyword s ks) q) ∙ h)))
      go false false p q so = rw (p, changed_stays k named.0 others.0 p, q) (so (sym (ap (λ v. if v then true else any_changed keyword s ks) q) ∙ h))

pub none_lost : (keyword : Bool) (s : State) (f : FrameNo) (r : Row) (b : Binding) (ks : List KeptHead) → AreNamed ks → AreOthers r.label ks → any_changed keyword s ks ≡ false
    → any_changed keyword (with_binder s f r b) (heads_of r.symbol (kept_all [] ks)) ≡ any_changed keyword (with_binder s f r b) ks
none_lost keyword s f r b ks named others h = ap (any_changed keyword (with_binder s f r b)) (kept_found r.symbol ks) ∙ asked keyword s f r b ks named others h
