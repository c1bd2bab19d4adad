-- What an answer is refused for.
use Rattle.std.proofs.Common.{◌≡◌, ℕ, ◌+◌, List, Bool, true, false, Option, Some, None, Result, Ok, Err, refl, sym, ap, ◌∙◌, subst, arith}
use Rattle.std.specs.Prelude.{◌==◌, ◌&&◌, ◌||◌, is_none}
use Rattle.std.proofs.lemmas.Bool.Decides.{nat_tests}
use Rattle.base_data.specs.Gives.{◌>>=◌}
use Rattle.base_data.specs.declared.fault.Fault.{Fault}
use Rattle.base_data.specs.declared.fault.FaultKind.{FaultKind}
use Rattle.read_lexer.specs.Faults.{fault_at}

-- whatever an answer is refused with has such a cause
pub record Explains {A : Type 0} (Bad : Fault → Type 0) (r : Result A Fault) : Type 0 where
  pub gives : (f : Fault) → r ≡ Err f → Bad f

fault_same : {A : Type 0} (f g : Fault) → ◌≡◌ {A = Result A Fault} (Err f) (Err g) → f ≡ g
fault_same f g e = cc

pub refuses : {A : Type 0} (Bad : Fault → Type 0) (f : Fault) → Bad f → Explains {A = A} Bad (Err f)
refuses {A} Bad f bad = record { gives = λ g e. subst Bad (fault_same {A = A} f g e) bad }

pub accepts : {A : Type 0} (Bad : Fault → Type 0) (x : A) → Explains Bad (Ok x)
accepts Bad x = record { gives = λ g e. absurd (cc) }

-- what follows an answer is refused with its fault, or behind what it gives
pub binds : {A B : Type 0} (Bad : Fault → Type 0) (r : Result A Fault) (k : A → Result B Fault)
    → ((f : Fault) → r ≡ Err f → Bad f) → ((x : A) → r ≡ Ok x → Explains Bad (k x)) → Explains Bad (r >>= k)
binds Bad (Err f) k refused given = refuses Bad f (refused f refl)
binds Bad (Ok x) k refused given = given x refl

pub bind_err : {A B : Type 0} (r : Result A Fault) (k : A → Result B Fault) (f : Fault) → r ≡ Err f → (r >>= k) ≡ Err f
bind_err r k f e = rw e refl

pub bind_ok : {A B : Type 0} (r : Result A Fault) (k : A → Result B Fault) (x : A) → r ≡ Ok x → (r >>= k) ≡ k x
bind_ok r k x e = rw e refl

-- the same fault at other places that are the same
pub placed : (file : List ℕ) (k : FaultKind) (from a b : ℕ) → a ≡ b → fault_at file k from a ≡ fault_at file k from b
placed file k from a b e = ap (λ (n : ℕ). fault_at file k from n) e

pub no_char : (char : Option ℕ) → is_none char ≡ true → char ≡ None
no_char None h = refl
no_char (Some c) h = absurd (cc)

pub not_true : (t : Bool) → (t ≡ true → ⊥) → t ≡ false
not_true true h = absurd (h refl)
not_true false h = refl

pub both : (a b : Bool) → a ≡ true → b ≡ true → (a && b) ≡ true
both a b p q = rw (p, q) refl

-- what an answer gives is good, and what it is refused with bad
abbrev pub Tells : {A : Type 0} → (A → Type 0) → (Fault → Type 0) → Result A Fault → Type 0
Tells Good Bad (Ok x) = Good x
Tells Good Bad (Err f) = Bad f

pub told : {A : Type 0} (Good : A → Type 0) (Bad : Fault → Type 0) (r : Result A Fault) (x : A) → r ≡ Ok x → Tells Good Bad r → Good x
told {A} Good Bad r x e tells = subst (λ (q : Result A Fault). Tells Good Bad q) e tells

pub blamed : {A : Type 0} (Good : A → Type 0) (Bad : Fault → Type 0) (r : Result A Fault) (f : Fault) → r ≡ Err f → Tells Good Bad r → Bad f
blamed {A} Good Bad r f e tells = subst (λ (q : Result A Fault). Tells Good Bad q) e tells

-- what follows an answer tells so, where it does behind all that the answer gives
pub follows : {A B : Type 0} (First : A → Type 0) (Early : Fault → Type 0) (Good : B → Type 0) (Bad : Fault → Type 0) (r : Result A Fault) (k : A → Result B Fault)
    → Tells First Early r → ((f : Fault) → Early f → Bad f) → ((x : A) → First x → Tells Good Bad (k x)) → Tells Good Bad (r >>= k)
follows First Early Good Bad (Ok x) k tells early later = later x tells
follows First Early Good Bad (Err f) k tells early later = early f tells

pub turned : {A : Type 0} (First Good : A → Type 0) (Early Bad : Fault → Type 0) (r : Result A Fault)
    → Tells First Early r → ((f : Fault) → Early f → Bad f) → ((x : A) → First x → Good x) → Tells Good Bad r
turned First Good Early Bad (Ok x) tells early later = later x tells
turned First Good Early Bad (Err f) tells early later = early f tells

-- what is known of an answer's values and of its faults
pub knows : {A : Type 0} (Good : A → Type 0) (Bad : Fault → Type 0) (r : Result A Fault) → ((x : A) → r ≡ Ok x → Good x) → ((f : Fault) → r ≡ Err f → Bad f) → Tells Good Bad r
knows Good Bad (Ok x) good bad = good x refl
knows Good Bad (Err f) good bad = bad f refl
