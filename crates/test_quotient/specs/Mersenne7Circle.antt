-- The generators of the circle's cyclic groups over the field of 127 elements.
use Rattle.std.specs.Prelude.{◌≡◌, ℕ, ◌+◌, ◌-◌, ◌<◌, refl}
use Rattle.std.proofs.Common.{zero, suc, sym, ◌∙◌, ap, arith}
use Rattle.test_quotient.specs.declared.mersenne7.Mersenne7.{Mersenne7}
use Rattle.circle_field.specs.Circle.{Coordinates, at, plus, origin, IsOnCircle, AreGenerators}
use Rattle.circle_field.specs.CircleGroup.{plus-on_circle}
use Rattle.test_quotient.specs.Mersenne7.{residue, element, operations, doubled_times}
use Rattle.test_quotient.specs.Mersenne7.{generators}
use Rattle.test_quotient.specs.Mersenne7Laws.{same_residue, laws}

-- the residues of both coordinates
abbrev residues : Coordinates Mersenne7 → Coordinates ℕ
residues p = at (residue p.x) (residue p.y)

-- two pairs of elements with the same residues are one
pub same_residues : (p q : Coordinates Mersenne7) → residues p ≡ residues q → p ≡ q
same_residues p q e =
    let e_x : p.x ≡ q.x = same_residue p.x q.x (ap (λ c. c.x) e) in
    let e_y : p.y ≡ q.y = same_residue p.y q.y (ap (λ c. c.y) e) in
    ap (λ x. at x p.y) e_x ∙ ap (λ y. at q.x y) e_y

-- the generator of the group of order 2^7
abbrev start : Coordinates Mersenne7
start = at (element 2) (element 39)

-- doubles stay on the circle
doubled-on_circle : (n : ℕ) (q : Coordinates Mersenne7) → IsOnCircle operations q →
    IsOnCircle operations (doubled_times n q)
doubled-on_circle zero q h = h
doubled-on_circle (suc n) q h =
    doubled-on_circle n (plus operations q q) (plus-on_circle laws.ring q q h h)

-- the last doubling may come first
doubled_last : (n : ℕ) (q : Coordinates Mersenne7) →
    doubled_times (suc n) q ≡ plus operations (doubled_times n q) (doubled_times n q)
doubled_last zero q = refl
doubled_last (suc n) q = doubled_last n (plus operations q q)

-- each generator is the double of the next
generators-doubled : (n : ℕ) → n < 7 →
    plus operations (generators (suc n)) (generators (suc n)) ≡ generators n
generators-doubled n h =
    let e : suc (7 - suc n) ≡ 7 - n = omega arith in
    sym (doubled_last (7 - suc n) start) ∙ ap (λ k. doubled_times k start) e

-- a double takes one doubling off
pub doubled_once : (i : ℕ) (p q : Coordinates Mersenne7) → i < 7 → q ≡ plus operations p p →
    doubled_times (7 - (i + 1)) q ≡ doubled_times (7 - i) p
doubled_once i p q h e =
    let one_more : suc (7 - (i + 1)) ≡ 7 - i = omega arith in
    ap (doubled_times (7 - (i + 1))) e ∙ ap (λ k. doubled_times k p) one_more

-- the points generate the cyclic groups
pub are_generators : AreGenerators operations 7 generators
are_generators = record {
  on_circle = λ n h. doubled-on_circle (7 - n) start (same_residue _ _ refl);
  doubled = generators-doubled;
  half_turn = same_residues (generators 1) (at (operations.neg operations.one) operations.zero)
      refl;
  neutral = same_residues (generators 0) (origin operations) refl;
}
