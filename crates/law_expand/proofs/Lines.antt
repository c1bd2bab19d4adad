-- The lines of a body, and the core code that they make.
use Rattle.std.proofs.Common.{◌≡◌, ℕ, ◌≤◌, ◌<◌, true, List, [], ◌∷◌, ◌++◌, map, Option, None, Some, refl, sym, ◌∙◌, ap, subst, arith, inl, inr, append-nil}
use Rattle.std.specs.Prelude.{◌⊎◌}
use Rattle.std.specs.List.{flat_map}
use Rattle.std.proofs.lemmas.Grind.{flat_map-append}
use Rattle.base_data.proofs.ElementLemmas.{each-at, among-parts}
use Rattle.base_data.specs.Elements.{Each, Among, Once}
use Rattle.base_data.specs.declared.library.LibName.{LibName}
use Rattle.base_data.specs.declared.name.CodeNo.{CodeNo}
use Rattle.base_data.specs.declared.name.Label.{Label}
use Rattle.core_language.specs.Core.{PlainCore, sequence, cores}
use Rattle.core_language.specs.CoreView.{inits}
use Rattle.core_language.specs.References.{binders, all_binders, init_binders}
use Rattle.core_language.specs.declared.code.Init.{Init}
use Rattle.core_language.specs.declared.record.Line.{Line}
use Rattle.core_language.specs.declared.record.Line.TheVariants as line
use Rattle.law_core.specs.Templates.{Depths}
use Rattle.law_core.specs.Parts.{parts, all_parts, init_parts, init_labels, own_number}
use Rattle.law_core.specs.Records.{line_core}
use Rattle.expand_forms.specs.Body.{sequence_of, inits_in, values_in, with_inits, body_core}
use Rattle.law_expand.proofs.Fresh.{Made, FreshLabels, label_name, code_name, Apart, each-map, made-apart}
use Rattle.law_expand.proofs.LineLabels.{kind_labels, HasValue}
use Rattle.law_expand.proofs.Good.{Bindings, InTurn, Inner, Good, GoodCores, GoodInits, IsFrom, Before, inner-none, inner-round, good-wider, cores-wider, inits-wider, inits-none, inits-cons, cores-cons, not-between, good-letrec}

abbrev pub GoodLine : LibName → Bindings → Depths → List Label → ℕ → ℕ → Line → Type 0
GoodLine own bs vs ls a b x = Good own bs vs ls a b (line_core x)

-- the label that a line defines, if it defines one
abbrev pub line_kind : Line → Option Label
line_kind (line.Define l c) = Some l
line_kind (line.Expr c) = None

-- values of variables and expressions, which share no name
pub record GoodLines (own : LibName) (bs : Bindings) (vs : Depths) (ls labels : List Label) (a b : ℕ) (xs : List Line) : Type 0 where
  pub settings : GoodInits own bs vs ls labels a b (inits (inits_in xs))
  pub values : GoodCores own bs vs ls a b (cores (values_in xs))
  pub apart : Apart (init_binders (inits (inits_in xs))) (all_binders (cores (values_in xs)))
  pub codes : Apart (flat_map own_number (init_parts (inits (inits_in xs)))) (flat_map own_number (all_parts (cores (values_in xs))))

abbrev pub kinds : List Line → List (Option Label)
kinds xs = map line_kind xs

pub inits-kinds : (xs : List Line) → init_labels (inits (inits_in xs)) ≡ kind_labels (kinds xs)
inits-kinds [] = refl
inits-kinds (line.Define l c ∷ xs) = ap (λ ls. l ∷ ls) (inits-kinds xs)
inits-kinds (line.Expr c ∷ xs) = inits-kinds xs

module _ (own : LibName) (bs : Bindings) (vs : Depths) (ls : List Label) where
  abbrev codes_of : List PlainCore → List CodeNo
  codes_of ps = flat_map own_number ps

  apart-parts : {A : Type 0} (xs ys zs : List A) → Apart xs zs → Apart ys zs → Apart (xs ++ ys) zs
  apart-parts {A} xs ys zs h k x d e = by (among-parts xs ys x d) where
    by : Among xs x ⊎ Among ys x → ⊥
    by (inl f) = h x f e
    by (inr f) = k x f e

  apart-behind : {A : Type 0} (xs ys zs : List A) → Apart xs ys → Apart xs zs → Apart xs (ys ++ zs)
  apart-behind {A} xs ys zs h k x d e = by (among-parts ys zs x e) where
    by : Among ys x ⊎ Among zs x → ⊥
    by (inl f) = h x d f
    by (inr f) = k x d f

  pub good-lines : (first a b : ℕ) (xs : List Line) → first ≤ a → Each (Before first) (kind_labels (kinds xs)) → Once (kind_labels (kinds xs)) → InTurn (GoodLine own bs vs ls) a b xs
      → GoodLines own bs vs ls (kind_labels (kinds xs)) a b xs
  good-lines first a b [] le before once h = record {
    settings = inits-none own bs vs ls [] a b h;
    values = record { closed = tt; suits = tt; binders = record { made = tt; once = tt }; inner = inner-none own bs a b h };
    apart = λ x d e. elim d [ ];
    codes = λ x d e. elim d [ ];
  }
  good-lines first a b (line.Define l c ∷ xs) le before once (m, (h, k)) =
      let rest = good-lines first m b xs (let u = h.inner.up in omega (arith, le, u)) before.1 once.1 k in
      let values = cores (values_in xs) in
      record {
        settings = inits-cons own bs vs ls first a m b l c (kind_labels (kinds xs)) (inits (inits_in xs)) le before once h rest.settings;
        values = cores-wider own bs vs ls m b a b values h.inner.up (omega arith) rest.values;
        apart = apart-parts (l ∷ []) (binders c ++ init_binders (inits (inits_in xs))) (all_binders values)
            (λ x d e. let y = each-at (λ (n : Label). Made own m b n.0) (all_binders values) x rest.values.binders.made e in let z = first-one x d in let u = h.inner.up in omega (arith, z, y.low, le, u))
            (apart-parts (binders c) (init_binders (inits (inits_in xs))) (all_binders values) (made-apart label_name own a m m b (binders c) (all_binders values) (omega arith) h.binders.made rest.values.binders.made) rest.apart);
        codes = λ x d e. apart-parts (codes_of (parts c)) (codes_of (init_parts (inits (inits_in xs)))) (codes_of (all_parts values))
            (made-apart code_name own a m m b (codes_of (parts c)) (codes_of (all_parts values)) (omega arith) h.inner.codes.made rest.values.inner.codes.made) rest.codes
            x (subst (λ (ns : List CodeNo). Among ns x) (flat_map-append own_number (parts c) (init_parts (inits (inits_in xs)))) d) e;
      }
    where
      first-one : (x : Label) → Among (l ∷ []) x → x.0.number < first
      first-one x (inl e) = let d = ap (λ (n : Label). n.0.number) e in omega (arith, d, before.0)
      first-one x (inr d) = elim d [ ]
  good-lines first a b (line.Expr c ∷ xs) le before once (m, (h, k)) =
      let rest = good-lines first m b xs (let u = h.inner.up in omega (arith, le, u)) before once k in
      let is = inits (inits_in xs) in
      let labels = kind_labels (kinds xs) in
      record {
        settings = inits-wider own bs vs ls labels m b a b is h.inner.up (omega arith) rest.settings;
        values = cores-cons own bs vs ls a m b c (cores (values_in xs)) h rest.values;
        apart = apart-behind (init_binders is) (binders c) (all_binders (cores (values_in xs)))
            (λ x d e. not-between own bs vs ls labels first a m b x le before (each-at (IsFrom own labels m b) (init_binders is) x rest.settings.from d) (each-at (λ (n : Label). Made own a m n.0) (binders c) x h.binders.made e))
            rest.apart;
        codes = λ x d e. apart-behind (codes_of (init_parts is)) (codes_of (parts c)) (codes_of (all_parts (cores (values_in xs))))
            (λ y f g. made-apart code_name own a m m b (codes_of (parts c)) (codes_of (init_parts is)) (omega arith) h.inner.codes.made rest.settings.inner.codes.made y g f) rest.codes
            x d (subst (λ (ns : List CodeNo). Among ns x) (flat_map-append own_number (parts c) (all_parts (cores (values_in xs)))) e);
      }

  -- Expressions in sequence: one is that one.

  only-one : (a b : ℕ) (c : PlainCore) → GoodCores own bs vs ls a b (cores (c ∷ [])) → Good own bs vs ls a b c
  only-one a b c h = record {
    closed = h.closed.0;
    suits = h.suits.0;
    binders = subst (FreshLabels own a b) (append-nil (binders c)) h.binders;
    inner = subst (Inner own bs a b) (append-nil (parts c)) h.inner;
  }

  pub good-values : (a b : ℕ) (c : PlainCore) (cs : List PlainCore) → GoodCores own bs vs ls a b (cores (c ∷ cs)) → Good own bs vs ls a b (sequence_of (c ∷ cs))
  good-values a b c [] h = only-one a b c h
  good-values a b c (d ∷ cs) h = record { closed = h.closed; suits = h.suits; binders = h.binders; inner = inner-round own bs a b (sequence (cores (c ∷ (d ∷ cs)))) (all_parts (cores (c ∷ (d ∷ cs)))) refl (omega arith) h.inner }

  pub values-apart : (xs : List Label) (cs : List PlainCore) → Apart xs (all_binders (cores cs)) → Apart xs (binders (sequence_of cs))
  values-apart xs [] h = h
  values-apart xs (c ∷ []) h = subst (Apart xs) (append-nil (binders c)) h
  values-apart xs (c ∷ (d ∷ cs)) h = h

  pub values-codes : (ns : List CodeNo) (cs : List PlainCore) → Apart ns (codes_of (all_parts (cores cs))) → Apart ns (codes_of (parts (sequence_of cs)))
  values-codes ns [] h = h
  values-codes ns (c ∷ []) h = subst (λ (ps : List PlainCore). Apart ns (codes_of ps)) (append-nil (parts c)) h
  values-codes ns (c ∷ (d ∷ cs)) h = h

  values-there : (a b : ℕ) (xs : List Line) → HasValue (kinds xs) → GoodCores own bs vs ls a b (cores (values_in xs)) → Good own bs vs ls a b (sequence_of (values_in xs))
  values-there a b [] v h = elim v [ ]
  values-there a b (line.Define l c ∷ xs) v h = values-there a b xs v h
  values-there a b (line.Expr c ∷ xs) v h = good-values a b c (values_in xs) h

-- The core code of a body whose variables were made from a to m, and its lines from there to b.
module _ (own : LibName) (bs : Bindings) (vs : Depths) (ls : List Label) where
  abbrev Sees : List Label → List Label
  Sees labels = labels ++ ls

  with-values : (a m b : ℕ) (labels : List Label) (is : List Init) (c : PlainCore) → init_labels (inits is) ≡ labels → a ≤ m → FreshLabels own a m labels
      → GoodInits own bs vs (labels ++ ls) labels m b (inits is) → Good own bs vs (labels ++ ls) m b c
      → Apart (init_binders (inits is)) (binders c) → Apart (flat_map own_number (init_parts (inits is))) (flat_map own_number (parts c)) → Good own bs vs ls a b (with_inits is c)
  with-values a m b labels [] c e le fresh h k apart codes =
      subst (λ (ns : List Label). Good own bs vs (ns ++ ls) a b c) (sym e) (good-wider own bs vs (labels ++ ls) m b a b c le (omega arith) k)
  with-values a m b labels (i ∷ is) c e le fresh h k apart codes = good-letrec own bs vs ls a m b true labels (inits (i ∷ is)) c e le fresh h k apart codes

  pub good-body : (a m b : ℕ) (labels : List Label) (xs : List Line) → kind_labels (kinds xs) ≡ labels → a ≤ m → FreshLabels own a m labels → HasValue (kinds xs)
      → InTurn (GoodLine own bs vs (labels ++ ls)) m b xs → Good own bs vs ls a b (body_core xs)
  good-body a m b labels xs e le fresh v h =
      let made : FreshLabels own a m (kind_labels (kinds xs)) = subst (FreshLabels own a m) (sym e) fresh in
      let before = each-map (λ l. Made own a m l.0) (Before m) (kind_labels (kinds xs)) made.made (λ l x. x.high) in
      let all = good-lines own bs vs (labels ++ ls) m m b xs (omega arith) before made.once h in
      with-values a m b labels (inits_in xs) (sequence_of (values_in xs)) (inits-kinds xs ∙ e) le fresh
      (subst (λ (ns : List Label). GoodInits own bs vs (labels ++ ls) ns m b (inits (inits_in xs))) e all.settings)
      (values-there own bs vs (labels ++ ls) m b xs v all.values)
      (values-apart own bs vs (labels ++ ls) (init_binders (inits (inits_in xs))) (values_in xs) all.apart)
      (values-codes own bs vs (labels ++ ls) (flat_map own_number (init_parts (inits (inits_in xs)))) (values_in xs) all.codes)
