-- Sums of the entries of a list, each times its weight.
use Rattle.std.specs.Prelude.{◌≡◌, ℕ, ◌<◌, ◌≤◌, List, [], ◌∷◌, length, map, take, slice_index_or}
use Rattle.std.specs.List.{range_with_len}
use Rattle.std.proofs.Common.{zero, suc, sym, ap, ◌∙◌, refl, arith}
use Rattle.std.proofs.lemmas.List.FromFn.{take-map-range_with_len}
use Rattle.circle_field.specs.Field.{FieldOps, sub, nth_power}
use Rattle.circle_field.specs.Circle.{Coordinates}
use Rattle.circle_commit.proofs.Written.{length-pairwise}
use Rattle.circle_commit.specs.DotProduct.{dot, pairwise}
use Rattle.circle_folding.specs.Quotient.{differences, real_part, imaginary_part, weighted_quotient}
use Rattle.circle_folding.specs.Quotient.{claim_quotient}
use Rattle.circle_folding.specs.Queries.{claim_quotients}

module _ {E : Type 0} (l : FieldOps E) where
  -- weights past the last entry don't count
  pub dot-take : (j : ℕ) (ws xs : List E) → length xs ≤ j → dot l (take j ws) (take j xs)
      ≡ dot l ws xs
  dot-take zero [] [] h = refl
  dot-take zero (w ∷ ws) [] h = refl
  dot-take zero ws (x ∷ xs) h = absurd (omega arith)
  dot-take (suc j) [] xs h = refl
  dot-take (suc j) (w ∷ ws) [] h = refl
  dot-take (suc j) (w ∷ ws) (x ∷ xs) h = ap (l.add (l.mul w x)) (dot-take j ws xs (omega arith))

-- with powers of alpha for weights it is the claim's quotient
pub claimed_quotient : {F E : Type 0} (l : FieldOps E) (m : F → E) (alpha top : E)
    (weights : List E) (x : Coordinates F) (z : Coordinates E) (row : List F) (values : List E) →
    length row ≡ length values → length row ≤ length weights →
    top ≡ nth_power l alpha (length row) →
    weights ≡ map (nth_power l alpha) (range_with_len 0 (length weights)) →
    weighted_quotient l m top weights x z row values ≡ claim_quotient l m alpha x z row values
claimed_quotient l m alpha top weights x z row values widths enough is_top are =
    let n = length row in
    let f = nth_power l alpha in
    let differ = λ (r : _) (v : _). sub l (m r) v in
    let ds = differences l m row values in
    let powers = map f (range_with_len 0 n) in
    let size : length ds ≤ n = omega (arith, length-pairwise differ row values widths) in
    let prefix : take n weights ≡ take n powers =
    ap (take n) are ∙ take-map-range_with_len f 0 (length weights) n enough
    ∙ sym (take-map-range_with_len f 0 n n (omega arith)) in
    let sums : dot l weights ds ≡ dot l powers ds = sym (dot-take l n weights ds size)
    ∙ ap (λ ws. dot l ws (take n ds)) prefix ∙ dot-take l n powers ds size in
    ap (λ t. weighted_quotient l m t weights x z row values) is_top
    ∙ ap
    (l.mul
    (l.mul (sub l (real_part l m x z) (l.mul (f n) (imaginary_part l m x z)))
    (l.inv (l.add (real_part l m x z) (real_part l m x z))))) sums

-- likewise for several rows
pub claimed_quotients : {F E : Type 0} (l : FieldOps E) (m : F → E) (alpha top : E)
    (weights : List E) (xs : List (Coordinates F)) (z : Coordinates E) (rows : List (List F))
    (values : List E) →
    ((i : ℕ) → i < length rows → length (slice_index_or rows i []) ≡ length values) →
    length values ≤ length weights → top ≡ nth_power l alpha (length values) →
    weights ≡ map (nth_power l alpha) (range_with_len 0 (length weights)) →
    pairwise (λ x row. weighted_quotient l m top weights x z row values) xs rows
    ≡ claim_quotients l m alpha xs z rows values
claimed_quotients l m alpha top weights [] z rows values widths enough is_top are = refl
claimed_quotients l m alpha top weights (x ∷ xs) z [] values widths enough is_top are = refl
claimed_quotients l m alpha top weights (x ∷ xs) z (row ∷ rows) values widths enough is_top are =
    let wide : length row ≡ length values = widths 0 (omega arith) in
    ap (λ q. q ∷ pairwise (λ x row. weighted_quotient l m top weights x z row values) xs rows)
    (claimed_quotient l m alpha top weights x z row values wide (omega (arith, wide, enough))
    (is_top ∙ ap (nth_power l alpha) (sym wide)) are)
    ∙ ap (λ rest. claim_quotient l m alpha x z row values ∷ rest)
    (claimed_quotients l m alpha top weights xs z rows values
    (λ i lt. widths (suc i) (omega arith)) enough is_top are)
