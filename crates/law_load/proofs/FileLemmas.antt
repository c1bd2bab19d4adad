-- The names of files tell the names of libraries.
use Rattle.std.proofs.Common.{◌≡◌, ◌≢◌, ℕ, true, List, [], ◌∷◌, ◌++◌, All, refl, sym, ap, ap₂, subst, ◌∙◌, inl, inr, append_assoc, true≢false, arith}
use Rattle.std.specs.Prelude.{◌⊎◌, codes}
use Rattle.std.proofs.lemmas.List.Elements.{All-head, All-tail}
use Rattle.percent_encoding.specs.AsciiSet.{should_percent_encode}
use Rattle.percent_encoding.specs.Percent.{percent_decode}
use Rattle.percent_encoding.proofs.PercentLemmas.{IsEscapeByte, All-percent_encode, round_trip}
use Rattle.load_file_names.specs.File.{below, file_of}
use Rattle.load_file_names.specs.declared.file.TheConstants.{ESCAPED}
use Rattle.law_load.specs.Files.{in_path, AreBytes, PartsHaveNoSlash, PartsHaveNoDot, PartsComeBack, FilesTellLibraries}

-- ---- slash and dot

slash_escaped : should_percent_encode ESCAPED 47 ≡ true
unfolding should_percent_encode
slash_escaped = refl

dot_escaped : should_percent_encode ESCAPED 46 ≡ true
unfolding should_percent_encode
dot_escaped = refl

-- a byte that is escaped, and no part of an escape, stands nowhere
nowhere : (c : ℕ) → should_percent_encode ESCAPED c ≡ true → (IsEscapeByte c → ⊥) → (part : List ℕ) → All (λ b. b ≢ c) (in_path part)
nowhere c escaped apart part =
    All-percent_encode (λ b. b ≢ c) ESCAPED part
    (λ b kept same. true≢false (sym escaped ∙ ap (should_percent_encode ESCAPED) (sym same) ∙ kept))
    (λ b escape same. apart (subst IsEscapeByte same escape))

no_escape_slash : IsEscapeByte 47 → ⊥
no_escape_slash h = grind (arith, h)

no_escape_dot : IsEscapeByte 46 → ⊥
no_escape_dot h = grind (arith, h)

pub no_slash : PartsHaveNoSlash
no_slash = nowhere 47 slash_escaped no_escape_slash

pub no_dot : PartsHaveNoDot
no_dot = nowhere 46 dot_escaped no_escape_dot

pub comes_back : PartsComeBack
comes_back part bytes = round_trip ESCAPED part refl bytes

-- ---- a path is cut at its slashes, and before its ending

abbrev Ends : ℕ → Type 0
Ends b = (b ≡ 46) ⊎ (b ≡ 47)

-- no byte that ends a part
abbrev Whole : List ℕ → Type 0
Whole xs = All (λ b. b ≢ 46) xs × All (λ b. b ≢ 47) xs

not_in : (x : ℕ) (xs : List ℕ) → Whole (x ∷ xs) → Ends x → ⊥
not_in x xs w h = elim h [ inl e ↦ All-head (λ b. b ≢ 46) x xs w.0 e | inr e ↦ All-head (λ b. b ≢ 47) x xs w.1 e ]

rest_whole : (x : ℕ) (xs : List ℕ) → Whole (x ∷ xs) → Whole xs
rest_whole x xs w = (All-tail (λ b. b ≢ 46) x xs w.0, All-tail (λ b. b ≢ 47) x xs w.1)

parts_same : (x y : ℕ) (xs ys : List ℕ) → x ∷ xs ≡ y ∷ ys → (x ≡ y) × (xs ≡ ys)
parts_same x y xs ys h = (cc, cc)

cut : (xs us : List ℕ) (b c : ℕ) (ys vs : List ℕ) → Whole xs → Whole us → Ends b → Ends c → xs ++ b ∷ ys ≡ us ++ c ∷ vs → (xs ≡ us) × (b ∷ ys ≡ c ∷ vs)
cut [] [] b c ys vs w v e f h = (refl, h)
cut [] (u ∷ us) b c ys vs w v e f h =
    let p = parts_same b u ys (us ++ c ∷ vs) h in
    absurd (not_in u us v (subst Ends p.0 e))
cut (x ∷ xs) [] b c ys vs w v e f h =
    let p = parts_same x c (xs ++ b ∷ ys) vs h in
    absurd (not_in x xs w (subst Ends (sym p.0) f))
cut (x ∷ xs) (u ∷ us) b c ys vs w v e f h =
    let p = parts_same x u (xs ++ b ∷ ys) (us ++ c ∷ vs) h in
    let r = cut xs us b c ys vs (rest_whole x xs w) (rest_whole u us v) e f p.1 in
    (ap₂ (λ y ys. y ∷ ys) p.0 r.0, r.1)

-- ---- names

abbrev text : List (List ℕ) → List ℕ
text ps = below ps ++ codes ".sls"

text_first : (ps : List (List ℕ)) → (b : ℕ) × (rest : List ℕ) × Ends b × (text ps ≡ b ∷ rest)
text_first [] = (46, codes "sls", inl refl, refl)
text_first (p ∷ ps) = (47, (in_path p ++ below ps) ++ codes ".sls", inr refl, refl)

whole : (part : List ℕ) → Whole (in_path part)
whole part = (no_dot part, no_slash part)

part_told : (p q : List ℕ) → AreBytes p → AreBytes q → in_path p ≡ in_path q → p ≡ q
part_told p q b c h = sym (comes_back p b) ∙ ap percent_decode h ∙ comes_back q c

texts_tell : (ps qs : List (List ℕ)) → All AreBytes ps → All AreBytes qs → text ps ≡ text qs → ps ≡ qs
texts_tell [] [] b c h = refl
texts_tell [] (q ∷ qs) b c h = let p = (parts_same 46 47 (codes "sls") ((in_path q ++ below qs) ++ codes ".sls") h).0 in absurd (omega (arith, p))
texts_tell (p ∷ ps) [] b c h = let p = (parts_same 47 46 ((in_path p ++ below ps) ++ codes ".sls") (codes "sls") h).0 in absurd (omega (arith, p))
texts_tell (p ∷ ps) (q ∷ qs) b c h =
    let behind = (parts_same 47 47 ((in_path p ++ below ps) ++ codes ".sls") ((in_path q ++ below qs) ++ codes ".sls") h).1 in
    let joined : in_path p ++ text ps ≡ in_path q ++ text qs = sym (append_assoc (in_path p) (below ps) (codes ".sls")) ∙ behind ∙ append_assoc (in_path q) (below qs) (codes ".sls") in
    let f = text_first ps in
    let g = text_first qs in
    let r = cut (in_path p) (in_path q) f.0 g.0 f.1 g.1 (whole p) (whole q) f.2 g.2 (sym (ap (λ t. in_path p ++ t) f.3) ∙ joined ∙ ap (λ t. in_path q ++ t) g.3) in
    let first = part_told p q (All-head AreBytes p ps b) (All-head AreBytes q qs c) r.0 in
    let rest = texts_tell ps qs (All-tail AreBytes p ps b) (All-tail AreBytes q qs c) (f.3 ∙ r.1 ∙ sym g.3) in
    ap₂ (λ y ys. y ∷ ys) first rest

pub files_tell : FilesTellLibraries
unfolding file_of
files_tell ps qs b c h = texts_tell ps qs b c h
