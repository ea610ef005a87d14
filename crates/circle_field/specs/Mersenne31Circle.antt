-- The generators of the circle's cyclic groups over the field of 2^31 - 1 elements.
use Rattle.std.specs.Prelude.{◌≡◌, ℕ, ◌+◌, ◌*◌, ◌-◌, ◌%◌, ◌<◌, refl}
use Rattle.std.proofs.Common.{zero, suc, sym, ◌∙◌, ap, arith}
use Rattle.circle_field.specs.declared.mersenne31.Mersenne31.{Mersenne31}
use Rattle.circle_field.specs.Field.{FieldOps}
use Rattle.circle_field.specs.Circle.{Coordinates, at, plus, origin, IsOnCircle, AreGenerators}
use Rattle.circle_field.specs.CircleGroup.{plus-on_circle}
use Rattle.circle_field.specs.FastPowers.{fast_power}
use Rattle.circle_field.specs.Mersenne31.{order, residue, element, operations, doubled_times}
use Rattle.circle_field.specs.Mersenne31.{generators}
use Rattle.circle_field.specs.Mersenne31Laws.{same_residue, laws}

-- the same operations on numbers, which compute
abbrev modulo : FieldOps ℕ
modulo = record {
  zero = 0;
  one = 1;
  add = λ a b. (a + b) % order;
  mul = λ a b. (a * b) % order;
  neg = λ a. (order - a) % order;
  inv = λ a. fast_power order 31 1 a (order - 2);
}

-- the residues of both coordinates
abbrev pub residues : Coordinates Mersenne31 → Coordinates ℕ
residues p = at (residue p.x) (residue p.y)

-- the pair q, n times added to itself
abbrev number_doubled_times : ℕ → Coordinates ℕ → Coordinates ℕ
number_doubled_times zero q = q
number_doubled_times (suc n) q = number_doubled_times n (plus modulo q q)

-- doubling numbers gives the residues of what doubling elements does
residues_doubled : (n : ℕ) (q : Coordinates Mersenne31) →
    residues (doubled_times n q) ≡ number_doubled_times n (residues q)
residues_doubled zero q = refl
residues_doubled (suc n) q = residues_doubled n (plus operations q q)

-- two pairs of elements with the same residues are one
pub same_residues : (p q : Coordinates Mersenne31) → residues p ≡ residues q → p ≡ q
same_residues p q e =
    let e_x : p.x ≡ q.x = same_residue p.x q.x (ap (λ c. c.x) e) in
    let e_y : p.y ≡ q.y = same_residue p.y q.y (ap (λ c. c.y) e) in
    ap (λ x. at x p.y) e_x ∙ ap (λ y. at q.x y) e_y

-- the generator of the group of order 2^31
abbrev start : Coordinates Mersenne31
start = at (element 311014874) (element 1584694829)

-- a double of the generator, by what numbers compute to
pub doubled_number : (n : ℕ) (q : Coordinates Mersenne31) →
    number_doubled_times n (at 311014874 1584694829) ≡ residues q → doubled_times n start ≡ q
doubled_number n q e = same_residues (doubled_times n start) q (residues_doubled n start ∙ e)

-- doubles stay on the circle
doubled-on_circle : (n : ℕ) (q : Coordinates Mersenne31) → IsOnCircle operations q →
    IsOnCircle operations (doubled_times n q)
doubled-on_circle zero q h = h
doubled-on_circle (suc n) q h =
    doubled-on_circle n (plus operations q q) (plus-on_circle laws.ring q q h h)

-- the generator is on the circle
start-on_circle : IsOnCircle operations start
start-on_circle = same_residue _ _ refl

-- the last doubling may come first
doubled_last : (n : ℕ) (q : Coordinates Mersenne31) →
    doubled_times (suc n) q ≡ plus operations (doubled_times n q) (doubled_times n q)
doubled_last zero q = refl
doubled_last (suc n) q = doubled_last n (plus operations q q)

-- each generator is the double of the next
generators-doubled : (n : ℕ) → n < 31 →
    plus operations (generators (suc n)) (generators (suc n)) ≡ generators n
generators-doubled n h =
    let e : suc (31 - suc n) ≡ 31 - n = omega arith in
    sym (doubled_last (31 - suc n) start) ∙ ap (λ k. doubled_times k start) e

-- a double takes one doubling off
pub doubled_once : (i : ℕ) (p q : Coordinates Mersenne31) → i < 31 → q ≡ plus operations p p →
    doubled_times (31 - (i + 1)) q ≡ doubled_times (31 - i) p
doubled_once i p q h e =
    let one_more : suc (31 - (i + 1)) ≡ 31 - i = omega arith in
    ap (doubled_times (31 - (i + 1))) e ∙ ap (λ k. doubled_times k p) one_more

-- the points generate the cyclic groups
pub are_generators : AreGenerators operations 31 generators
are_generators = record {
  on_circle = λ n h. doubled-on_circle (31 - n) start start-on_circle;
  doubled = generators-doubled;
  half_turn = doubled_number 30 (at (operations.neg operations.one) operations.zero) refl;
  neutral = doubled_number 31 (origin operations) refl;
}
