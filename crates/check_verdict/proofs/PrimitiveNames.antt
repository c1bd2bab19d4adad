-- A set whose names are all names of primitives.
use Rattle.std.proofs.Common.{◌≡◌, ℕ, Bool, true, false, List, [], ◌∷◌, ◌++◌, Result, Ok, Err, refl, sym, ◌∙◌, subst, cond}
use Rattle.std.specs.Cmp.Lexicographic.{bytes_decides}
use Rattle.std.specs.Prelude.{◌||◌, OnOk}
use Rattle.std.specs.Str.{bytes_eq}
use Rattle.base_data.specs.declared.memory.Memory.{Memory}
use Rattle.check_verdict.specs.Names.{with_name, ArePrimitives}
use Rattle.check_grammar.specs.Forms.{has}
use Rattle.check_grammar.specs.Primitives.{is_primitive}

among : (xs : List (List ℕ)) (x : List ℕ) → ArePrimitives xs → has xs x ≡ true → is_primitive x ≡ true
among [] x p h = absurd (cc)
among (y ∷ ys) x p h = by (bytes_eq x y) refl h (among ys x p.1) where
  by : (b : Bool) → bytes_eq x y ≡ b → (b || has ys x) ≡ true → (has ys x ≡ true → is_primitive x ≡ true) → is_primitive x ≡ true
  by true e g go = subst (λ (t : List ℕ). is_primitive t ≡ true) (sym ((bytes_decides x y).0 e)) p.0
  by false e g go = go g

-- what is among them is such a name
pub found : (xs : List (List ℕ)) (x : List ℕ) (b : Bool) → ArePrimitives xs → b ≡ has xs x → b ≡ true → true ≡ is_primitive x
found xs x b p h t = sym (among xs x p (sym h ∙ t))

behind_all : (xs : List (List ℕ)) (x : List ℕ) → ArePrimitives xs → is_primitive x ≡ true → ArePrimitives (xs ++ x ∷ [])
behind_all [] x p h = (h, tt)
behind_all (y ∷ ys) x p h = (p.0, behind_all ys x p.1 h)

-- with one more
one_more : (xs ys : List (List ℕ)) (x : List ℕ) → ys ≡ with_name xs x → ArePrimitives xs → is_primitive x ≡ true → ArePrimitives ys
one_more xs ys x e p h = subst ArePrimitives (sym e) (by (has xs x)) where
  by : (b : Bool) → ArePrimitives (cond b xs (xs ++ x ∷ []))
  by true = p
  by false = behind_all xs x p h

-- with one that was added
pub added : (r : Result Unit Memory) (xs ys : List (List ℕ)) (x text : List ℕ) → OnOk r (ys ≡ with_name xs x) → x ≡ text → ArePrimitives xs → is_primitive text ≡ true → OnOk r (ArePrimitives ys)
added (Ok done) xs ys x text e n p h = one_more xs ys x e p (subst (λ (t : List ℕ). is_primitive t ≡ true) (sym n) h)
added (Err lack) xs ys x text e n p h = tt
