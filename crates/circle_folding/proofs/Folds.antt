-- Folding by inverse twiddles.
use Rattle.std.specs.Prelude.{◌≡◌, ℕ, ◌^◌, List, [], ◌∷◌, length, map, slice_index_or, refl, IfOk}
use Rattle.std.specs.Prelude.{Vec}
use Rattle.std.specs.declared.alloc.Global.{Global}
use Rattle.std.specs.declared.result.Result.{Result}
use Rattle.std.proofs.lemmas.Result.{IfOk-weaker}
use Rattle.std.proofs.Common.{sym, ap, ◌∙◌, arith}
use Rattle.circle_field.specs.Field.{FieldOps, FieldLaws, sub, two}
use Rattle.circle_field.specs.Ring.{var, plus as sum, times as prod, minus}
use Rattle.circle_field.specs.RingSound.{ring}
use Rattle.circle_field.specs.RingFacts.{mul_one}
use Rattle.circle_field.proofs.Halves.{doubled_half}
use Rattle.circle_field.proofs.Inverses.{inverse_unique, nonzero_factor}
use Rattle.circle_domain.proofs.LagrangePolynomials.{twice-nonzero}
use Rattle.circle_folding.specs.Fold.{fold, fold_pair, folds}

module _ {E : Type 0} {l : FieldOps E} (laws : FieldLaws l) where
  -- the inverse of t + t
  twice_inverse : (t i : E) → l.mul i t ≡ l.one → l.mul (l.inv (two l)) i ≡ l.inv (l.add t t)
  twice_inverse t i e =
      let half = l.inv (two l) in
      inverse_unique laws (l.add t t) (l.mul half i)
      (twice-nonzero laws t (nonzero_factor laws t i e))
      (ring laws.ring (half ∷ i ∷ t ∷ []) (prod (prod (var 0) (var 1)) (sum (var 2) (var 2)))
      (prod (sum (var 0) (var 0)) (prod (var 1) (var 2))) refl
      ∙ ap (l.mul (l.add half half)) e ∙ mul_one laws.ring (l.add half half)
      ∙ doubled_half laws l.one half (sym (laws.ring.one_mul half)))

  -- (a + b + beta * (i * (a - b))) / 2 is the fold by t, where i times t is 1
  pub fold-halved : (a b beta t i : E) → l.mul i t ≡ l.one →
      l.mul (l.add (l.add a b) (l.mul beta (l.mul i (sub l a b)))) (l.inv (two l))
      ≡ fold l a b t beta
  fold-halved a b beta t i e =
      let half = l.inv (two l) in
      ring laws.ring (a ∷ b ∷ beta ∷ i ∷ half ∷ [])
      (prod (sum (sum (var 0) (var 1)) (prod (var 2) (prod (var 3) (sum (var 0) (minus (var 1))))))
      (var 4))
      (sum (prod (sum (var 0) (var 1)) (var 4))
      (prod (prod (var 2) (sum (var 0) (minus (var 1)))) (prod (var 4) (var 3)))) refl
      ∙ ap (λ r. l.add (l.mul (l.add a b) half) (l.mul (l.mul beta (sub l a b)) r))
      (twice_inverse t i e)

-- a row of two entries
pub by-entries : {E : Type 0} (l : FieldOps E) (beta t : E) (row : List E) (a b : E) →
    length row ≡ 2 → fold_pair l beta t row
    ≡ fold l (slice_index_or row 0 a) (slice_index_or row 1 b) t beta
by-entries l beta t [] a b two = absurd (omega arith)
by-entries l beta t (x ∷ []) a b two = absurd (omega arith)
by-entries l beta t (x ∷ y ∷ rest) a b two = refl

pub two-entries : {E : Type 0} (l : FieldOps E) (beta t : E) (row : List E) (a b : E) →
    length row ≡ 2 → a ≡ slice_index_or row 0 a → b ≡ slice_index_or row 1 b →
    fold_pair l beta t row ≡ fold l a b t beta
two-entries l beta t row a b two ea eb = by-entries l beta t row a b two
    ∙ ap (λ v. fold l v (slice_index_or row 1 b) t beta) (sym ea)
    ∙ ap (λ v. fold l a v t beta) (sym eb)

-- the folds by the twiddles of a logarithm are those by its height
pub folds-of : {F E X : Type 0} (l : FieldOps E) (beta : E) (m : F → E) (rows : List (List E))
    (twiddles : ℕ → List F) (ts : List F) (r height : ℕ) (result : Result (Vec E Global) X) →
    ts ≡ twiddles r → ((n : ℕ) → height ≡ 2 ^ n → r ≡ n) →
    IfOk result (λ made. made.items ≡ folds l beta (map m ts) rows) →
    IfOk result (λ made. (n : ℕ) → height ≡ 2 ^ n →
    made.items ≡ folds l beta (map m (twiddles n)) rows)
folds-of l beta m rows twiddles ts r height result are only =
    IfOk-weaker result _ _
    (λ made e n tall. e
    ∙ ap (λ us. folds l beta (map m us) rows) (are ∙ ap twiddles (only n tall)))
