-- One step of a walk over lines.
use Rattle.std.proofs.Common.{◌≡◌, ℕ, zero, suc, ◌+◌, ◌^◌, ◌<◌, ◌≤◌, Bool, true, false, List, [], ◌∷◌, length, take, drop, Option, Some, None, Result, Ok, Err, refl, sym, ap, subst, ◌∙◌, cond, arith, Vec}
use Rattle.std.proofs.lemmas.List.{length-drop}
use Rattle.std.specs.Global.{Global}
use Rattle.std.specs.Prelude.{IfOk}
use Rattle.std.specs.Str.{bytes_eq}
use Rattle.base_data.specs.Datum.{PlainDatum}
use Rattle.base_data.specs.declared.fault.Fault.{Fault}
use Rattle.base_data.specs.declared.memory.Memory.{Memory}
use Rattle.check_verdict.proofs.LineEnds.{no_end_left, first_line_is}
use Rattle.check_verdict.specs.Answers.{IsFault, Spells, Finds, Halts}
use Rattle.check_verdict.specs.Lines.{Lines, lines_of, line_end, read_on, data_on, line_on, lines_on, behind, of_lines, behind_first, if_first, verdict_of}
use Rattle.check_verdict.specs.Survey.{mentioned, Takes}
use Rattle.check_verdict.specs.Walk.{variable}
use Rattle.check_verdict.specs.declared.survey.WalkHalt.{WalkHalt}
use Rattle.check_verdict.specs.declared.survey.WalkHalt.TheVariants as halt
use Rattle.check_verdict.specs.declared.survey.Survey.{Survey}
use Rattle.check_verdict.specs.declared.verdict.Verdict.{Verdict}
use Rattle.check_verdict.specs.declared.verdict.Verdict.TheVariants as verdict
use Rattle.check_verdict.specs.declared.verdict.Why.TheVariants as why
use Rattle.check_grammar.specs.Lines.{first_line}
use Rattle.check_grammar.specs.Primitives.{is_primitive}
use Rattle.check_grammar.specs.Scan.{is_name}
use Rattle.read_reader.specs.Read.{data_of, most_nesting}

-- identifiers

pub other_variable : (x : List ℕ) (s : Survey) → is_name x ≡ false → is_primitive x ≡ true → variable x s ≡ Some s
other_variable x s n p = ap (λ (b : Bool). cond b (Some (mentioned s x)) (cond (is_primitive x) (Some s) None)) n ∙ ap (λ (b : Bool). cond b (Some s) None) p

pub no_variable : (x : List ℕ) (s : Survey) → is_name x ≡ false → is_primitive x ≡ false → variable x s ≡ None
no_variable x s n p = ap (λ (b : Bool). cond b (Some (mentioned s x)) (cond (is_primitive x) (Some s) None)) n ∙ ap (λ (b : Bool). cond b (Some s) None) p

-- a line

fault_stops : (x : List ℕ) (s : Survey) (given : Result (List PlainDatum) Fault) → IsFault given → read_on x given s ≡ None
fault_stops x s (Ok ds) h = absurd (h)
fault_stops x s (Err f) h = refl

pub line_stops : (x : List ℕ) (s after : Survey) (h : WalkHalt) → Spells (Err h) (data_of [] x most_nesting) → Takes (Err h) after (line_on x s)
unfolding line_on
line_stops x s after halt.Refused h = fault_stops x s (data_of [] x most_nesting) h
line_stops x s after halt.Memory h = h

pub line_goes : (x : List ℕ) (s after : Survey) (v : Vec PlainDatum Global) (r : Result Unit WalkHalt) → Spells (Ok v) (data_of [] x most_nesting) → Takes r after (data_on x v.items s) → Takes r after (line_on x s)
unfolding line_on
line_goes x s after v r h t = subst (λ (o : Option Survey). Takes r after o) (sym (ap (λ (g : Result (List PlainDatum) Fault). read_on x g s) h)) t

-- lines

pub none_at : (rest : List ℕ) (k : ℕ) (s : Survey) → length rest ≡ 0 → lines_on k (lines_of rest) s ≡ Ok s
unfolding lines_on lines_of
none_at [] k s h = refl
none_at (x ∷ xs) k s h = absurd (omega (arith, h))

pub unended_at : (rest : List ℕ) (k : ℕ) (s : Survey) → line_end rest ≡ None → (length rest ≡ 0 → ⊥) → lines_on k (lines_of rest) s ≡ Err k
unfolding lines_on
unended_at rest k s e n = ap (λ (ls : Lines). lines_on k ls s) (no_end_left rest e (λ h. n (ap length h)))

line_at : (rest : List ℕ) (k : ℕ) (s : Survey) (e : ℕ) → line_end rest ≡ Some e → lines_on k (lines_of rest) s ≡ behind k (line_on (take e rest) s) (lines_on (suc k) (lines_of (drop (suc e) rest)))
unfolding lines_on
line_at rest k s e h = ap (λ (ls : Lines). lines_on k ls s) (first_line_is rest e h)

pub stops_at : (rest : List ℕ) (k : ℕ) (s : Survey) (e : ℕ) → line_end rest ≡ Some e → line_on (take e rest) s ≡ None → lines_on k (lines_of rest) s ≡ Err k
stops_at rest k s e h n = line_at rest k s e h ∙ ap (λ (o : Option Survey). behind k o (lines_on (suc k) (lines_of (drop (suc e) rest)))) n

pub next_at : (rest : List ℕ) (k : ℕ) (s r : Survey) (e : ℕ) → line_end rest ≡ Some e → line_on (take e rest) s ≡ Some r → lines_on (k + 1) (lines_of (drop (e + 1) rest)) r ≡ lines_on k (lines_of rest) s
next_at rest k s r e h n =
    let further : suc k ≡ k + 1 = omega arith in
    let past : suc e ≡ e + 1 = omega arith in
    sym (line_at rest k s e h
    ∙ ap (λ (o : Option Survey). behind k o (lines_on (suc k) (lines_of (drop (suc e) rest)))) n
    ∙ ap (λ (m : ℕ). lines_on m (lines_of (drop (suc e) rest)) r) further
    ∙ ap (λ (m : ℕ). lines_on (k + 1) (lines_of (drop m rest)) r) past)

take_length : (e : ℕ) (xs : List ℕ) → length (take e xs) ≤ length xs
take_length zero xs = omega arith
take_length (suc e) [] = omega arith
take_length (suc e) (x ∷ xs) = omega (arith, take_length e xs)

pub short_line : (rest lines : List ℕ) (k e : ℕ) → 2 ≤ k → k + length rest ≤ 2 + length lines → length lines < 2 ^ 32 → length (take e rest) < 2 ^ 32
short_line rest lines k e low most small = omega (arith, low, most, small, take_length e rest)

pub room_left : (rest lines next : List ℕ) (k e : ℕ) → next ≡ drop (e + 1) rest → e < length rest → k + length rest ≤ 2 + length lines → k + 1 + length next ≤ 2 + length lines
room_left rest lines next k e h within most = omega (arith, within, most, ap length h, length-drop (e + 1) rest)

-- what is told where a line is refused
pub halted : (r : Result (Option ℕ) Memory) (h : WalkHalt) (k : ℕ) (at after : Survey) (line : Option Survey) (given : Result Survey ℕ) → Halts r h k → Takes (Err h) at line → (line ≡ None → given ≡ Err k) → Finds r after given
halted (Ok None) h k at after line given x t go = absurd (x)
halted (Ok (Some n)) h k at after line given x t go = go (subst (λ (g : WalkHalt). Takes (Err g) at line) x.0 t) ∙ ap (λ (m : ℕ). Err m) (sym x.1)
halted (Err lack) h k at after line given x t go = tt

-- the whole text

pub not_begun : (x : List ℕ) → bytes_eq (take (length first_line) x) first_line ≡ false → verdict.No (why.Line 1) ≡ verdict_of x
unfolding verdict_of
not_begun x h = sym (ap (λ (b : Bool). if_first b (drop (length first_line) x)) h)

pub begun : (x lines : List ℕ) (r : Result Verdict Memory) → bytes_eq (take (length first_line) x) first_line ≡ true → lines ≡ drop (length first_line) x → IfOk r (λ v. v ≡ behind_first lines)
    → IfOk r (λ v. v ≡ verdict_of x)
unfolding verdict_of
begun x lines (Ok v) h d e = e ∙ ap behind_first d ∙ sym (ap (λ (b : Bool). if_first b (drop (length first_line) x)) h)
begun x lines (Err m) h d e = tt
