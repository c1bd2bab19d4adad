-- The lines of a text, and what is known behind them.
use Rattle.std.proofs.Common.{◌≡◌, ℕ, zero, suc, ◌+◌, Bool, true, false, List, [], ◌∷◌, ◌++◌, Option, Some, None, Result, Ok, Err, refl, sym, ap, ◌∙◌, cond, arith, append_assoc, zero-add}
use Rattle.std.proofs.lemmas.Bool.{eqb-true}
use Rattle.std.specs.Cmp.Lexicographic.{bytes_decides}
use Rattle.std.specs.Prelude.{◌==◌, codes}
use Rattle.std.specs.Str.{bytes_eq}
use Rattle.base_data.specs.Datum.{PlainDatum}
use Rattle.base_data.specs.declared.fault.Fault.{Fault}
use Rattle.check_verdict.proofs.Effects.{with_names, second_of, free_of, names_append, second_append, free_append}
use Rattle.check_verdict.proofs.ReadLaw.{spelled, is_read}
use Rattle.check_verdict.proofs.WalkLaw.{after_line, sound_line, complete_line}
use Rattle.check_verdict.specs.Judged.{BeginsWithLine}
use Rattle.check_verdict.specs.Lines.{Lines, ended, unended, line, before, lines_of, read_on, line_on, lines_on, behind}
use Rattle.check_verdict.specs.Walk.{line_form}
use Rattle.check_verdict.specs.declared.survey.Survey.{Survey}
use Rattle.check_grammar.specs.Lines as g
use Rattle.check_grammar.specs.Lines.{HasNoEnd, IsLine, AreLines}
use Rattle.check_grammar.specs.Names.{NamesAreScanned}
use Rattle.check_grammar.specs.Text.{text_of}
use Rattle.law_grammar.specs.Reads.{SpellingsAre}
use Rattle.read_lexer.proofs.BetweenLemmas.{equal, not_equal}
use Rattle.read_reader.specs.Read.{data_of, most_nesting}

abbrev Words : Type 0
Words = List (List ℕ)

none_some : {x : Survey} {B : Type 0} → None ≡ Some x → B
none_some e = absurd (cc)

-- lines and what they are parts of

abbrev joined : Lines → List ℕ
joined ended = []
joined (unended x) = x
joined (line x ls) = x ++ (codes "\n" ++ joined ls)

joined_before : (b : ℕ) (ls : Lines) → joined (before b ls) ≡ b ∷ joined ls
joined_before b ended = refl
joined_before b (unended x) = refl
joined_before b (line x ls) = refl

pub joined_of : (bs : List ℕ) → joined (lines_of bs) ≡ bs
unfolding lines_of
joined_of [] = refl
joined_of (b ∷ bs) = by (b == 0x0A) refl (joined_of bs) where
  by : (t : Bool) → b == 0x0A ≡ t → joined (lines_of bs) ≡ bs → joined (cond t (line [] (lines_of bs)) (before b (lines_of bs))) ≡ b ∷ bs
  by true e go = ap (λ (l : List ℕ). 0x0A ∷ l) go ∙ ap (λ (c : ℕ). c ∷ bs) (sym (eqb-true b 0x0A e))
  by false e go = joined_before b (lines_of bs) ∙ ap (λ (l : List ℕ). b ∷ l) go

-- no line end stands in a line
pub data Parted : Lines → Type 0 where
  at_end : Parted ended
  part : {x : List ℕ} → HasNoEnd x → (x ≡ [] → ⊥) → Parted (unended x)
  whole : {x : List ℕ} {ls : Lines} → HasNoEnd x → Parted ls → Parted (line x ls)

not_nil : {A : Type 0} (x : A) (xs : List A) → x ∷ xs ≡ [] → ⊥
not_nil x xs e = cc

parted_before : (b : ℕ) (ls : Lines) → (b ≡ 0x0A → ⊥) → Parted ls → Parted (before b ls)
parted_before b ended n at_end = part (g.byte n g.no_byte) (not_nil b [])
parted_before b (unended x) n (part h k) = part (g.byte n h) (not_nil b x)
parted_before b (line x ls) n (whole h p) = whole (g.byte n h) p

true_false : (b : Bool) → b ≡ true → b ≡ false → ⊥
true_false b h k = cc

differs : (a b : ℕ) → a == b ≡ false → a ≡ b → ⊥
differs a b h e = true_false (a == b) (equal a b e) h

pub parted : (bs : List ℕ) → Parted (lines_of bs)
unfolding lines_of
parted [] = at_end
parted (b ∷ bs) = by (b == 0x0A) refl (parted bs) where
  by : (t : Bool) → b == 0x0A ≡ t → Parted (lines_of bs) → Parted (cond t (line [] (lines_of bs)) (before b (lines_of bs)))
  by true e go = whole g.no_byte go
  by false e go = parted_before b (lines_of bs) (differs b 0x0A e) go

-- a line and its end are a line, and then what is behind them
pub splits : {x : List ℕ} → HasNoEnd x → (y : List ℕ) → lines_of (x ++ (codes "\n" ++ y)) ≡ line x (lines_of y)
unfolding lines_of
splits g.no_byte y = refl
splits (g.byte {b = b} {bs = bs} n h) y =
    ap (λ (t : Bool). cond t (line [] (lines_of (bs ++ (codes "\n" ++ y)))) (before b (lines_of (bs ++ (codes "\n" ++ y))))) (not_equal b 0x0A n) ∙ ap (before b) (splits h y)

line_is : {x u : List ℕ} {l m : Lines} → line x l ≡ line u m → x ≡ u
line_is e = cc

same_line : {x u : List ℕ} → HasNoEnd x → HasNoEnd u → (y v : List ℕ) → x ++ (codes "\n" ++ y) ≡ u ++ (codes "\n" ++ v) → x ≡ u
same_line h k y v e = line_is (sym (splits h y) ∙ ap lines_of e ∙ splits k v)

-- what has no line end begins with no line
byte_is : (b : ℕ) (bs : List ℕ) → HasNoEnd (b ∷ bs) → (b ≡ 0x0A → ⊥) × HasNoEnd bs
byte_is b bs (g.byte n h) = (n, h)

ends_not : (l o : List ℕ) → HasNoEnd (l ++ (codes "\n" ++ o)) → ⊥
ends_not [] o h = (byte_is 0x0A o h).0 refl
ends_not (b ∷ l) o h = ends_not l o (byte_is b (l ++ (codes "\n" ++ o)) h).1

no_line_in : (x : List ℕ) → HasNoEnd x → BeginsWithLine x → ⊥
no_line_in x h b = ends_not b.line b.others (rw b.splits at h)

not_nothing : (x y : List ℕ) → x ++ (codes "\n" ++ y) ≡ [] → ⊥
not_nothing [] y e = not_nil 0x0A y e
not_nothing (b ∷ x) y e = not_nil b (x ++ (codes "\n" ++ y)) e

pub line_append : (s : Survey) (ds bs fs es cs gs : Words) → after_line (after_line s ds bs fs) es cs gs ≡ after_line s (ds ++ es) (bs ++ cs) (fs ++ gs)
line_append s ds bs fs es cs gs = rw (names_append s.defined ds es, names_append s.bound bs cs, second_append s.bound s.second bs cs, free_append s.scope s.free fs gs) refl

module _ (scan : NamesAreScanned) (spell : SpellingsAre) where
  -- a line

  record Stepped (x : List ℕ) (s r : Survey) : Type 0 where
    ds : Words
    bs : Words
    fs : Words
    is : IsLine x ds bs fs
    same : r ≡ after_line s ds bs fs

  written_so : (x : List ℕ) → HasNoEnd x → (s r : Survey) (y : PlainDatum) → data_of [] x most_nesting ≡ Ok (y ∷ []) → (b : Bool) → bytes_eq (text_of y) x ≡ b
      → cond b (line_form y s) None ≡ Some r → Stepped x s r
  written_so x h s r y d true t e =
      let w = sound_line scan y s r e in
      record {
        ds = w.ds;
        bs = w.bs;
        fs = w.fs;
        is = record { datum = y; whole = h; spelt = (spell [] x most_nesting (y ∷ [])).0 (spelled [] x most_nesting (y ∷ []) d); form = w.is; written = sym ((bytes_decides (text_of y) x).0 t) };
        same = w.same;
      }
  written_so x h s r y d false t e = none_some e

  line_sound : (x : List ℕ) → HasNoEnd x → (s r : Survey) → line_on x s ≡ Some r → Stepped x s r
  unfolding line_on
  line_sound x h s r e = by (data_of [] x most_nesting) refl e where
    by : (o : Result (List PlainDatum) Fault) → data_of [] x most_nesting ≡ o → read_on x o s ≡ Some r → Stepped x s r
    by (Err f) d k = none_some k
    by (Ok []) d k = none_some k
    by (Ok (y ∷ [])) d k = written_so x h s r y d (bytes_eq (text_of y) x) refl k
    by (Ok (y ∷ z ∷ ys)) d k = none_some k

  line_complete : {x : List ℕ} {ds bs fs : Words} → IsLine x ds bs fs → (s : Survey) → line_on x s ≡ Some (after_line s ds bs fs)
  unfolding line_on
  line_complete {x} i s =
      ap (λ o. read_on x o s) (is_read [] x most_nesting (i.datum ∷ []) ((spell [] x most_nesting (i.datum ∷ [])).1 i.spelt))
      ∙ ap (λ (t : Bool). cond t (line_form i.datum s) None) ((bytes_decides (text_of i.datum) x).1 (sym i.written)) ∙ complete_line scan i.form s

  -- lines one after another

  pub behind_lines : {n : ℕ} {x : List ℕ} {ds bs fs : Words} → AreLines n x ds bs fs → (k : ℕ) (o : List ℕ) (s : Survey)
      → lines_on k (lines_of (x ++ o)) s ≡ lines_on (n + k) (lines_of o) (after_line s ds bs fs)
  unfolding lines_on
  behind_lines g.no_line k o s = ap (λ (m : ℕ). lines_on m (lines_of o) s) (sym (zero-add k))
  behind_lines (g.line {n = n} {x = x} {y = y} {ds = ds} {bs = bs} {fs = fs} {es = es} {cs = cs} {gs = gs} l ls) k o s =
      let number : n + suc k ≡ suc n + k = omega arith in
      ap (λ (t : List ℕ). lines_on k (lines_of t) s) (append_assoc x (codes "\n" ++ y) o)
      ∙ ap (λ (t : Lines). lines_on k t s) (splits l.whole (y ++ o))
      ∙ ap (λ (r : Option Survey). behind k r (lines_on (suc k) (lines_of (y ++ o)))) (line_complete l s)
      ∙ behind_lines ls (suc k) o (after_line s ds bs fs)
      ∙ ap (λ (m : ℕ). lines_on m (lines_of o) (after_line (after_line s ds bs fs) es cs gs)) number
      ∙ ap (λ (r : Survey). lines_on (suc n + k) (lines_of o) r) (line_append s ds bs fs es cs gs)

  pub record Through (bytes : List ℕ) (s r : Survey) : Type 0 where
    pub n : ℕ
    pub ds : Words
    pub bs : Words
    pub fs : Words
    pub are : AreLines n bytes ds bs fs
    pub same : r ≡ after_line s ds bs fs

  ok_is : {s r : Survey} → ◌≡◌ {A = Result Survey ℕ} (Ok s) (Ok r) → s ≡ r
  ok_is e = cc

  err_is : {k j : ℕ} → ◌≡◌ {A = Result Survey ℕ} (Err k) (Err j) → k ≡ j
  err_is e = cc

  ok_err : {s : Survey} {k : ℕ} {B : Type 0} → ◌≡◌ {A = Result Survey ℕ} (Ok s) (Err k) → B
  ok_err e = absurd (cc)

  lines_sound : (ls : Lines) → Parted ls → (k : ℕ) (s r : Survey) → lines_on k ls s ≡ Ok r → Through (joined ls) s r
  unfolding lines_on
  lines_sound ended p k s r e = record { n = 0; ds = []; bs = []; fs = []; are = g.no_line; same = sym (ok_is e) }
  lines_sound (unended x) p k s r e = ok_err (sym e)
  lines_sound (line x ls) (whole h p) k s r e = by (line_on x s) refl e (λ q. lines_sound ls p (suc k) q r) where
    by : (o : Option Survey) → line_on x s ≡ o → behind k o (lines_on (suc k) ls) ≡ Ok r → ((q : Survey) → lines_on (suc k) ls q ≡ Ok r → Through (joined ls) q r)
        → Through (x ++ (codes "\n" ++ joined ls)) s r
    by None f i go = ok_err (sym i)
    by (Some q) f i go =
        let l = line_sound x h s q f in
        let t = go q i in
        record {
          n = suc t.n;
          ds = l.ds ++ t.ds;
          bs = l.bs ++ t.bs;
          fs = l.fs ++ t.fs;
          are = g.line l.is t.are;
          same = t.same ∙ ap (λ (z : Survey). after_line z t.ds t.bs t.fs) l.same ∙ line_append s l.ds l.bs l.fs t.ds t.bs t.fs;
        }

  -- the first line that is refused
  pub record Stuck (bytes : List ℕ) (k j : ℕ) : Type 0 where
    pub n : ℕ
    pub x : List ℕ
    pub others : List ℕ
    pub ds : Words
    pub bs : Words
    pub fs : Words
    pub is : bytes ≡ x ++ others
    pub are : AreLines n x ds bs fs
    pub some : others ≡ [] → ⊥
    pub none : BeginsWithLine others → ⊥
    pub number : j ≡ n + k

  not_line : (x : List ℕ) (y : List ℕ) → HasNoEnd x → (s : Survey) → line_on x s ≡ None → BeginsWithLine (x ++ (codes "\n" ++ y)) → ⊥
  not_line x y h s f b =
      let same : x ≡ b.line = same_line h b.is.whole y b.others b.splits in
      none_some (sym f ∙ ap (λ (z : List ℕ). line_on z s) same ∙ line_complete b.is s)

  lines_stuck : (ls : Lines) → Parted ls → (k : ℕ) (s : Survey) (j : ℕ) → lines_on k ls s ≡ Err j → Stuck (joined ls) k j
  unfolding lines_on
  lines_stuck ended p k s j e = ok_err e
  lines_stuck (unended x) (part h some) k s j e =
      record { n = 0; x = []; others = x; ds = []; bs = []; fs = []; is = refl; are = g.no_line; some = some; none = no_line_in x h; number = sym (err_is e) ∙ sym (zero-add k) }
  lines_stuck (line x ls) (whole h p) k s j e = by (line_on x s) refl e (λ q. lines_stuck ls p (suc k) q j) where
    by : (o : Option Survey) → line_on x s ≡ o → behind k o (lines_on (suc k) ls) ≡ Err j → ((q : Survey) → lines_on (suc k) ls q ≡ Err j → Stuck (joined ls) (suc k) j)
        → Stuck (x ++ (codes "\n" ++ joined ls)) k j
    by None f i go = record {
      n = 0;
      x = [];
      others = x ++ (codes "\n" ++ joined ls);
      ds = [];
      bs = [];
      fs = [];
      is = refl;
      are = g.no_line;
      some = not_nothing x (joined ls);
      none = not_line x (joined ls) h s f;
      number = sym (err_is i) ∙ sym (zero-add k);
    }
    by (Some q) f i go =
        let l = line_sound x h s q f in
        let t = go q i in
        let number : t.n + suc k ≡ suc t.n + k = omega arith in
        record {
          n = suc t.n;
          x = x ++ (codes "\n" ++ t.x);
          others = t.others;
          ds = l.ds ++ t.ds;
          bs = l.bs ++ t.bs;
          fs = l.fs ++ t.fs;
          is = ap (λ (y : List ℕ). x ++ (codes "\n" ++ y)) t.is ∙ sym (append_assoc x (codes "\n" ++ t.x) t.others);
          are = g.line l.is t.are;
          some = t.some;
          none = t.none;
          number = t.number ∙ number;
        }

  -- of the lines of a text, and of those behind others

  pub through : (bytes : List ℕ) (k : ℕ) (s r : Survey) → lines_on k (lines_of bytes) s ≡ Ok r → Through bytes s r
  through bytes k s r e = moved (joined (lines_of bytes)) bytes (joined_of bytes) (lines_sound (lines_of bytes) (parted bytes) k s r e) where
    moved : (x y : List ℕ) → x ≡ y → Through x s r → Through y s r
    moved x y e t = rw (← e) t

  pub stuck : (bytes : List ℕ) (k : ℕ) (s : Survey) (j : ℕ) → lines_on k (lines_of bytes) s ≡ Err j → Stuck bytes k j
  stuck bytes k s j e = moved (joined (lines_of bytes)) bytes (joined_of bytes) (lines_stuck (lines_of bytes) (parted bytes) k s j e) where
    moved : (x y : List ℕ) → x ≡ y → Stuck x k j → Stuck y k j
    moved x y e t = rw (← e) t

  whole_of : (x : List ℕ) (ls : Lines) → Parted (line x ls) → HasNoEnd x
  whole_of x ls (whole h p) = h

  pub refused_first : (o : List ℕ) → (o ≡ [] → ⊥) → (BeginsWithLine o → ⊥) → (k : ℕ) (s : Survey) → lines_on k (lines_of o) s ≡ Err k
  unfolding lines_on
  refused_first o some none k s = by (lines_of o) refl where
    by : (ls : Lines) → lines_of o ≡ ls → lines_on k ls s ≡ Err k
    by ended e = absurd (some (sym (joined_of o) ∙ ap joined e))
    by (unended x) e = refl
    by (line x ls) e = step (line_on x s) refl where
      step : (r : Option Survey) → line_on x s ≡ r → behind k r (lines_on (suc k) ls) ≡ Err k
      step None f = refl
      step (Some q) f =
          let l = line_sound x (whole_of x ls (rw e at (parted o))) s q f in
          absurd (none (record { line = x; others = joined ls; splits = sym (joined_of o) ∙ ap joined e; defined = l.ds; bound = l.bs; free = l.fs; is = l.is }))

  pub none_left : (k : ℕ) (s : Survey) → lines_on k (lines_of []) s ≡ Ok s
  unfolding lines_on lines_of
  none_left k s = refl
