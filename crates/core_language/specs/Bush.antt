-- Binary trees with a part at each fork. As such trees the logic tells plain data of several types apart that hold one
-- another.
use Rattle.std.specs.Prelude.{◌≡◌, refl}
use Rattle.std.specs.Coded.{Coded}
use Rattle.std.proofs.Common.{ap}
use base.Stored.{Gv, gnil, gnum, gcons}

pub data Bush (A : Type 0) : Type 0 where
  tip : Bush A
  fork : A → Bush A → Bush A → Bush A

-- a fork without branches
abbrev pub twig : {A : Type 0} → A → Bush A
twig a = fork a tip tip

abbrev first : Gv → Gv
first gnil = gnil
first (gnum n) = gnil
first (gcons a b) = a

abbrev second : Gv → Gv
second gnil = gnil
second (gnum n) = gnil
second (gcons a b) = b

module _ {A : Type 0} (part : Coded A) where
  abbrev bush_codes : Bush A → Gv
  bush_codes tip = gnil
  bush_codes (fork a l r) = gcons (part.code a) (gcons (bush_codes l) (bush_codes r))

  pub bush_inj : (x y : Bush A) → bush_codes x ≡ bush_codes y → x ≡ y
  bush_inj tip tip p = refl
  bush_inj (fork a l r) (fork b m s) p = λ i. fork (part.inj a b (ap first p) i) (bush_inj l m (ap (λ g. first (second g)) p) i)
      (bush_inj r s (ap (λ g. second (second g)) p) i)
  bush_inj tip (fork b m s) p = cc
  bush_inj (fork a l r) tip p = cc

  abbrev pub bush_code : Coded (Bush A)
  bush_code = record { code = bush_codes; inj = bush_inj }
