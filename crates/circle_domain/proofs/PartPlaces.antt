-- Places of points in the whole and in its parts.
use Rattle.std.specs.Prelude.{◌≡◌, ◌≢◌, ℕ, ◌+◌, ◌-◌, ◌*◌, ◌/◌, ◌%◌, ◌<◌, ◌≤◌, nat_lt, nat_eq}
use Rattle.std.specs.Prelude.{if◌then◌else◌}
use Rattle.std.proofs.Common.{◌∙◌, ap, arith, ⊎_elim}
use Rattle.std.proofs.Math.Nat.{mul-div_cancel}
use Rattle.std.proofs.lemmas.Bool.{cases_lt, cases_eq, lt-ltb, le-ltb, eq-eqb, ne_eqb}
use Rattle.std.proofs.lemmas.Nat.{div-add-mod', mod_below, div-mul-add, mod-mul-add, row_fits}
use Rattle.std.proofs.lemmas.Nat.{div_below}
use Rattle.circle_domain.specs.Splitting.{part_of, place_in, place_of}

choose_lt : (a b u c : ℕ) → u < c → (if nat_lt u c then a else b) ≡ a
choose_lt a b u c h = ap (λ t. if t then a else b) (lt-ltb u c h)

choose_ge : (a b u c : ℕ) → c ≤ u → (if nat_lt u c then a else b) ≡ b
choose_ge a b u c h = ap (λ t. if t then a else b) (le-ltb u c h)

choose_even : (a b u : ℕ) → u ≡ 0 → (if nat_eq u 0 then a else b) ≡ a
choose_even a b u h = ap (λ t. if t then a else b) (eq-eqb u 0 h)

choose_odd : (a b u : ℕ) → u ≢ 0 → (if nat_eq u 0 then a else b) ≡ b
choose_odd a b u h = ap (λ t. if t then a else b) (ne_eqb u 0 h)

pub place_of-even : (c j q r : ℕ) → r ≡ q + q → place_of c j r ≡ q * (2 * c) + j
place_of-even c j q r e =
    let half : r / 2 ≡ q = omega (arith, e) in
    ap (λ m. m * (2 * c) + (if nat_eq (r % 2) 0 then j else 2 * c - 1 - j)) half
    ∙ ap (λ m. q * (2 * c) + m) (choose_even j (2 * c - 1 - j) (r % 2) (omega (arith, e)))

pub place_of-odd : (c j q r : ℕ) → r ≡ q + q + 1 → place_of c j r ≡ q * (2 * c) + (2 * c - 1 - j)
place_of-odd c j q r e =
    let half : r / 2 ≡ q = omega (arith, e) in
    ap (λ m. m * (2 * c) + (if nat_eq (r % 2) 0 then j else 2 * c - 1 - j)) half
    ∙ ap (λ m. q * (2 * c) + m) (choose_odd j (2 * c - 1 - j) (r % 2) (omega (arith, e)))

-- the part and the place of a point are in range and lead back
pub part_of-below : (c i : ℕ) → 1 ≤ c → part_of c i < c
part_of-below c i h =
    let u = i % (2 * c) in
    let b : u < 2 * c = mod_below i (2 * c) (omega (arith, h)) in
    ⊎_elim
    (λ lt. let e = choose_lt u (2 * c - 1 - u) u c lt in omega (arith, e, lt))
    (λ ge. let e = choose_ge u (2 * c - 1 - u) u c ge in omega (arith, e, ge, b))
    (cases_lt u c)

pub place_in-below : (c i m : ℕ) → 1 ≤ c → i < m * (2 * c) → place_in c i < m * 2
place_in-below c i m h lt =
    let u = i % (2 * c) in
    let q : i / (2 * c) < m = div_below i (2 * c) m (omega (arith, h)) lt in
    ⊎_elim
    (λ l. let e = choose_lt 0 1 u c l in omega (arith, e, q))
    (λ ge. let e = choose_ge 0 1 u c ge in omega (arith, e, q))
    (cases_lt u c)

pub place_of-place_in : (c i : ℕ) → 1 ≤ c → place_of c (part_of c i) (place_in c i) ≡ i
place_of-place_in c i h =
    let u = i % (2 * c) in
    let q = i / (2 * c) in
    let b : u < 2 * c = mod_below i (2 * c) (omega (arith, h)) in
    let whole : q * (2 * c) + u ≡ i = div-add-mod' i (2 * c) in
    ⊎_elim
    (λ lt.
    let part : part_of c i ≡ u = choose_lt u (2 * c - 1 - u) u c lt in
    let place : place_in c i ≡ q + q = ap (λ m. q * 2 + m) (choose_lt 0 1 u c lt) ∙ omega arith in
    place_of-even c (part_of c i) q (place_in c i) place ∙ ap (λ m. q * (2 * c) + m) part ∙ whole)
    (λ ge.
    let part : part_of c i ≡ 2 * c - 1 - u = choose_ge u (2 * c - 1 - u) u c ge in
    let place : place_in c i ≡ q + q + 1 = ap (λ m. q * 2 + m) (choose_ge 0 1 u c ge)
    ∙ omega arith in
    place_of-odd c (part_of c i) q (place_in c i) place
    ∙ ap (λ m. q * (2 * c) + m) (let e : 2 * c - 1 - part_of c i ≡ u =
    omega (arith, part, b, ge) in e) ∙ whole)
    (cases_lt u c)

-- a place of a part is in the whole, and determines the part and the place
pub place_of-below : (c j r m : ℕ) → j < c → r < m * 2 → place_of c j r < m * (2 * c)
place_of-below c j r m h lt =
    let q = r / 2 in
    ⊎_elim
    (λ even.
    let e = place_of-even c j q r (omega (arith, even)) in
    let fits : q * (2 * c) + 2 * c ≤ m * (2 * c) =
    row_fits q (2 * c) m (2 * c) (omega arith) (omega arith) in
    omega (arith, e, fits, h))
    (λ odd.
    let e = place_of-odd c j q r (omega (arith, odd)) in
    let fits : q * (2 * c) + 2 * c ≤ m * (2 * c) =
    row_fits q (2 * c) m (2 * c) (omega arith) (omega arith) in
    omega (arith, e, fits, h))
    (cases_eq (r % 2) 0)

pub part_of-place_of : (c j r : ℕ) → j < c → part_of c (place_of c j r) ≡ j
part_of-place_of c j r h =
    let q = r / 2 in
    let i = place_of c j r in
    ⊎_elim
    (λ even.
    let u : i % (2 * c) ≡ j = ap (λ m. m % (2 * c)) (place_of-even c j q r (omega (arith, even)))
    ∙ mod-mul-add q (2 * c) j (omega (arith, h)) in
    choose_lt (i % (2 * c)) (2 * c - 1 - i % (2 * c)) (i % (2 * c)) c (omega (arith, u, h)) ∙ u)
    (λ odd.
    let u : i % (2 * c) ≡ 2 * c - 1 - j =
    ap (λ m. m % (2 * c)) (place_of-odd c j q r (omega (arith, odd)))
    ∙ mod-mul-add q (2 * c) (2 * c - 1 - j) (omega (arith, h)) in
    choose_ge (i % (2 * c)) (2 * c - 1 - i % (2 * c)) (i % (2 * c)) c (omega (arith, u, h))
    ∙ omega (arith, u, h))
    (cases_eq (r % 2) 0)

pub place_in-place_of : (c j r : ℕ) → j < c → place_in c (place_of c j r) ≡ r
place_in-place_of c j r h =
    let q = r / 2 in
    let i = place_of c j r in
    ⊎_elim
    (λ even.
    let e = place_of-even c j q r (omega (arith, even)) in
    let u : i % (2 * c) ≡ j = ap (λ m. m % (2 * c)) e
    ∙ mod-mul-add q (2 * c) j (omega (arith, h)) in
    let d : i / (2 * c) ≡ q = ap (λ m. m / (2 * c)) e
    ∙ div-mul-add q (2 * c) j (omega (arith, h)) in
    ap (λ m. i / (2 * c) * 2 + m) (choose_lt 0 1 (i % (2 * c)) c (omega (arith, u, h)))
    ∙ omega (arith, d, even))
    (λ odd.
    let e = place_of-odd c j q r (omega (arith, odd)) in
    let u : i % (2 * c) ≡ 2 * c - 1 - j = ap (λ m. m % (2 * c)) e
    ∙ mod-mul-add q (2 * c) (2 * c - 1 - j) (omega (arith, h)) in
    let d : i / (2 * c) ≡ q = ap (λ m. m / (2 * c)) e
    ∙ div-mul-add q (2 * c) (2 * c - 1 - j) (omega (arith, h)) in
    ap (λ m. i / (2 * c) * 2 + m) (choose_ge 0 1 (i % (2 * c)) c (omega (arith, u, h)))
    ∙ omega (arith, d, odd))
    (cases_eq (r % 2) 0)

-- the height of a part, and its places as rows of the whole
pub part_height : (c m height : ℕ) → 1 ≤ c → height ≡ m * (2 * c) → height / c ≡ m * 2
part_height c m height h e =
    let twice : height ≡ m * 2 * c = omega (arith, e) in
    ap (λ n. n / c) twice ∙ mul-div_cancel (m * 2) h

pub turn_fits : (c m r : ℕ) → r < m * 2 → (r / 2 + 1) * (2 * c) ≤ m * (2 * c)
turn_fits c m r h =
    let fits : r / 2 * (2 * c) + 2 * c ≤ m * (2 * c) =
    row_fits (r / 2) (2 * c) m (2 * c) (omega arith) (omega arith) in
    omega (arith, fits)
