-- What is said of a text is exactly what the cases over the grammar say of it.
use Rattle.std.proofs.Common.{◌≡◌, ℕ, ◌+◌, Bool, true, false, List, [], ◌∷◌, ◌++◌, length, take, drop, Option, Some, None, Result, Ok, Err, refl, sym, ap, ◌∙◌}
use Rattle.std.proofs.lemmas.List.{append-nil, take_at, drop_at, take-append-drop}
use Rattle.std.specs.Cmp.Lexicographic.{bytes_decides}
use Rattle.std.specs.Prelude.{IfOk}
use Rattle.std.specs.Str.{bytes_eq}
use Rattle.base_data.specs.declared.memory.Memory.{Memory}
use Rattle.check_verdict.proofs.Effects.{with_names, second_of, free_of}
use Rattle.check_verdict.proofs.LinesLaw.{behind_lines, through, stuck, refused_first, none_left}
use Rattle.check_verdict.proofs.NamesLaw.{once_none, none_once, second_some, is_second, first_is, none_within, within_none, is_out, out_some}
use Rattle.check_verdict.proofs.WalkLaw.{after_line}
use Rattle.check_verdict.specs.declared.survey.Survey.{Survey}
use Rattle.check_verdict.specs.declared.verdict.Verdict.{Verdict}
use Rattle.check_verdict.specs.declared.verdict.Verdict.TheVariants as verdict
use Rattle.check_verdict.specs.declared.verdict.Why.TheVariants as why
use Rattle.check_verdict.specs.Judged.{IsFirstWrong, Judged, VerdictsAre}
use Rattle.check_verdict.specs.Lines.{lines_of, lines_on, first_free, of_free, of_second, known, of_lines, behind_first, if_first, verdict_of}
use Rattle.check_verdict.specs.Survey.{nothing_known}
use Rattle.check_grammar.specs.Lines.{IsCoreText, first_line}
use Rattle.check_grammar.specs.Names.{NamesAreScanned}
use Rattle.law_grammar.specs.Reads.{SpellingsAre}

abbrev Words : Type 0
Words = List (List ℕ)

true_false : (b : Bool) → b ≡ true → b ≡ false → ⊥
true_false b h k = cc

abbrev size : ℕ
size = length first_line

abbrev front : List ℕ → Bool
front bytes = bytes_eq (take size bytes) first_line

-- a text that begins with the first line, and what is behind it
begins : (x : List ℕ) → front (first_line ++ x) ≡ true
begins x = (bytes_decides (take size (first_line ++ x)) first_line).1 (take_at first_line x size refl)

begun : (bytes : List ℕ) → front bytes ≡ true → bytes ≡ first_line ++ drop size bytes
begun bytes h = sym (take-append-drop size bytes) ∙ ap (λ (l : List ℕ). l ++ drop size bytes) ((bytes_decides (take size bytes) first_line).0 h)

pub first_taken : (x : List ℕ) → verdict_of (first_line ++ x) ≡ behind_first x
unfolding verdict_of
first_taken x = ap (λ (b : Bool). if_first b (drop size (first_line ++ x))) (begins x) ∙ ap behind_first (drop_at first_line x size refl)

-- what is known of the names of a text
abbrev pub names_known : Words → Words → Words → Survey
names_known ds bs fs = after_line nothing_known ds bs fs

known_is : {n : ℕ} {bytes : List ℕ} {ds bs fs : Words} → IsCoreText n bytes ds bs fs → Judged bytes (known (names_known ds bs fs))
known_is {bytes = bytes} {ds = ds} {bs = bs} {fs = fs} t = by (second_of [] None bs) refl where
  by : (o : Option (List ℕ)) → second_of [] None bs ≡ o → Judged bytes (of_second o (names_known ds bs fs))
  by None e = free (first_free (with_names [] ds) (free_of [] [] fs)) refl where
    free : (o : Option (List ℕ)) → first_free (with_names [] ds) (free_of [] [] fs) ≡ o → Judged bytes (of_free o)
    free None f = Judged.yes t (none_once bs e) (none_within ds fs (sym (first_is ds fs) ∙ f))
    free (Some x) f = Judged.free x t (none_once bs e) (is_out x ds fs (sym (first_is ds fs) ∙ f))
  by (Some x) e = Judged.twice x t (is_second x bs e)

moved : (x y : List ℕ) (v : Verdict) → x ≡ y → Judged y v → Judged x v
moved x y v e j = rw e j

turned : (bytes : List ℕ) (v w : Verdict) → v ≡ w → Judged bytes v → Judged bytes w
turned bytes v w e j = rw (← e) j

module _ (scan : NamesAreScanned) (spell : SpellingsAre) where
  lines_said : (x : List ℕ) → Judged (first_line ++ x) (behind_first x)
  lines_said x = by (lines_on 2 (lines_of x) nothing_known) refl where
    by : (r : Result Survey ℕ) → lines_on 2 (lines_of x) nothing_known ≡ r → Judged (first_line ++ x) (of_lines r)
    by (Ok s) e = let t = through scan spell x 2 nothing_known s e in turned (first_line ++ x) (known (names_known t.ds t.bs t.fs)) (known s) (ap known (sym t.same)) (known_is (IsCoreText.text t.are))
    by (Err k) e =
        let t = stuck scan spell x 2 nothing_known k e in
        turned (first_line ++ x) (verdict.No (why.Line (t.n + 2))) (verdict.No (why.Line k)) (ap (λ (n : ℕ). verdict.No (why.Line n)) (sym t.number))
        (moved (first_line ++ x) (first_line ++ (t.x ++ t.others)) (verdict.No (why.Line (t.n + 2))) (ap (λ (l : List ℕ). first_line ++ l) t.is)
        (Judged.wrong (t.n + 2) (IsFirstWrong.later t.others t.are t.some t.none)))

  said : (bytes : List ℕ) → Judged bytes (verdict_of bytes)
  unfolding verdict_of
  said bytes = by (front bytes) refl where
    by : (b : Bool) → front bytes ≡ b → Judged bytes (if_first b (drop size bytes))
    by true e = moved bytes (first_line ++ drop size bytes) (behind_first (drop size bytes)) (begun bytes e) (lines_said (drop size bytes))
    by false e = Judged.wrong 1 (IsFirstWrong.first bytes (λ o i. true_false (front bytes) (rw i (begins o)) e))

  text_known : {n : ℕ} {bytes : List ℕ} {ds bs fs : Words} → IsCoreText n bytes ds bs fs → verdict_of bytes ≡ known (names_known ds bs fs)
  text_known {n} (IsCoreText.text {x = x} {ds = ds} {bs = bs} {fs = fs} a) =
      first_taken x
      ∙ ap of_lines
      (ap (λ (t : List ℕ). lines_on 2 (lines_of t) nothing_known) (sym (append-nil x)) ∙ behind_lines scan spell a 2 [] nothing_known ∙ none_left scan spell (n + 2) (names_known ds bs fs))

  wrong_said : (bytes : List ℕ) (k : ℕ) → IsFirstWrong bytes k → verdict_of bytes ≡ verdict.No (why.Line k)
  unfolding verdict_of
  wrong_said _ _ (IsFirstWrong.first bytes none) = by (front bytes) refl where
    by : (b : Bool) → front bytes ≡ b → if_first b (drop size bytes) ≡ verdict.No (why.Line 1)
    by true e = absurd (none (drop size bytes) (begun bytes e))
    by false e = refl
  wrong_said _ _ (IsFirstWrong.later {n = n} {x = x} {ds = ds} {bs = bs} {fs = fs} others a some none) =
      first_taken (x ++ others) ∙ ap of_lines (behind_lines scan spell a 2 others nothing_known ∙ refused_first scan spell others some none (n + 2) (names_known ds bs fs))

  judged_said : (bytes : List ℕ) (v : Verdict) → Judged bytes v → verdict_of bytes ≡ v
  judged_said bytes _ (Judged.yes {ds = ds} {bs = bs} {fs = fs} t o w) =
      text_known t ∙ ap (λ (p : Option (List ℕ)). of_second p (names_known ds bs fs)) (once_none bs o) ∙ ap of_free (first_is ds fs ∙ within_none ds fs w)
  judged_said bytes _ (Judged.wrong k i) = wrong_said bytes k i
  judged_said bytes _ (Judged.twice {ds = ds} {bs = bs} {fs = fs} x t i) = text_known t ∙ ap (λ (p : Option (List ℕ)). of_second p (names_known ds bs fs)) (second_some x bs i)
  judged_said bytes _ (Judged.free {ds = ds} {bs = bs} {fs = fs} x t o i) =
      text_known t ∙ ap (λ (p : Option (List ℕ)). of_second p (names_known ds bs fs)) (once_none bs o) ∙ ap of_free (first_is ds fs ∙ out_some x ds fs i)

  pub verdicts_are : VerdictsAre
  verdicts_are bytes v = (λ e. turned bytes (verdict_of bytes) v e (said bytes), λ j. judged_said bytes v j)

-- what gives the definition's verdict gives that of the cases

pub sound_of : VerdictsAre → (bytes : List ℕ) (r : Result Verdict Memory) → IfOk r (λ v. v ≡ verdict_of bytes) → IfOk r (Judged bytes)
sound_of law bytes (Ok v) e = (law bytes v).0 (sym e)
sound_of law bytes (Err m) e = tt

pub complete_of : VerdictsAre → (bytes : List ℕ) (r : Result Verdict Memory) → IfOk r (λ v. v ≡ verdict_of bytes) → (v : Verdict) → Judged bytes v → IfOk r (λ w. w ≡ v)
complete_of law bytes (Ok w) e v j = e ∙ (law bytes v).1 j
complete_of law bytes (Err m) e v j = tt
