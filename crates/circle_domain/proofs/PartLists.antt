-- A list of domains that are the parts of a standard one.
use Rattle.std.specs.Prelude.{◌≡◌, ℕ, ◌+◌, ◌-◌, ◌*◌, ◌^◌, ◌<◌, ◌≤◌, ◌↔◌, List, Some, IfSome, All}
use Rattle.std.specs.Prelude.{AllPairs, Any, Contains, length, map, take, slice_get, slice_index_or}
use Rattle.std.proofs.Common.{sym, ◌∙◌, ap, subst, arith, ⊎_elim}
use Rattle.std.proofs.Math.ListN.{get_or-map}
use Rattle.std.proofs.Math.Pow.{pow-lt}
use Rattle.std.proofs.Common.{suc, ◌++◌, [], ◌∷◌, length-take-le}
use Rattle.std.proofs.Math.Nat.{pow-suc}
use Rattle.std.proofs.lemmas.List.{get_or-take, length-map, map-append, take_more}
use Rattle.std.proofs.lemmas.Nat.{pow_pos, pow-add}
use Rattle.std.proofs.lemmas.Option.{slice_get_cases, slice_get_within, slice_get-get_or}
use Rattle.std.proofs.lemmas.Option.{get_or_from_slice_get}
use Rattle.circle_field.specs.Field.{FieldOps, FieldLaws}
use Rattle.circle_field.specs.Circle.{Coordinates, AreGenerators, plus, times}
use Rattle.circle_domain.specs.Order.{natural_order}
use Rattle.circle_domain.specs.Selectors.{AreDisjoint, IsStandard}
use Rattle.circle_domain.specs.Splitting.{part_of, place_in, place_of}
use Rattle.circle_domain.proofs.Orders.{length-natural_from, two_halves}
use Rattle.circle_domain.proofs.Powers.{pow_order}
use Rattle.circle_domain.proofs.Parts.{part-point, length-part, part-at, place-below}
use Rattle.circle_domain.proofs.Parts.{parts-disjoint}
use Rattle.circle_domain.proofs.PartPlaces.{part_of-below}
use Rattle.circle_domain.proofs.Walking.{standard-point, standard-at}

-- what holds of the entry at a place
pub if_some_at : {X : Type 0} (xs : List X) (j : ℕ) (P : X → Type 0) →
    ((x : X) → j < length xs → slice_get xs j ≡ Some x → P x) → IfSome (slice_get xs j) P
if_some_at xs j P f =
    ⊎_elim (λ w. subst (λ o. IfSome o P) (sym w.2) (f w.0 w.1 w.2))
    (λ w. subst (λ o. IfSome o P) (sym w.1) tt) (slice_get_cases xs j).1

pub length-natural_order : {F : Type 0} (k : FieldOps F) (gen : ℕ → Coordinates F) (n : ℕ)
    (s : Coordinates F) → 1 ≤ n → length (natural_order k gen n s) ≡ 2 ^ n
length-natural_order k gen n s h = length-natural_from k (2 ^ (n - 1)) (gen (n - 1)) s 0
    ∙ two_halves n h

-- as many parts as shifts
part_count : {C D : Type 0} (shift : D → C) (parts : List D) (natural : List C) (c : ℕ) →
    c ≤ length natural → map shift parts ≡ take c natural → length parts ≡ c
part_count shift parts natural c h e = sym (length-map parts shift) ∙ ap length e
    ∙ length-take-le c natural h

pub parts_room : (b n c : ℕ) → 2 ^ b ≡ c → 2 * c ≤ 2 ^ n → b < n
parts_room b n c is h = let le : 2 ^ suc b ≤ 2 ^ n = omega (arith, pow-suc 2 b, is, h) in
    pow_order (suc b) n le

pub part_sizes : (b n c : ℕ) → 2 ^ b ≡ c → 2 * c ≤ 2 ^ n → 2 ^ (n - b) * c ≡ 2 ^ n
part_sizes b n c is h =
    let e : (n - b) + b ≡ n = omega (arith, parts_room b n c is h) in
    ap (λ m. 2 ^ (n - b) * m) (sym is) ∙ sym (pow-add 2 (n - b) b) ∙ ap (λ m. 2 ^ m) e

-- one shift more
pub shifts_next : {C D : Type 0} (shift : D → C) (parts : List D) (part : D) (natural : List C)
    (i : ℕ) (p : C) → map shift parts ≡ take i natural →
    slice_get natural i ≡ Some p → shift part ≡ p →
    map shift (parts ++ part ∷ []) ≡ take (i + 1) natural
shifts_next shift parts part natural i p before here e =
    map-append shift parts (part ∷ []) ∙ ap (λ xs. xs ++ shift part ∷ []) before
    ∙ ap (λ q. take i natural ++ q ∷ []) (e ∙ sym (get_or_from_slice_get natural i p p here))
    ∙ sym (take_more natural i p (slice_get_within natural i p here))

module _ {F : Type 0} {k : FieldOps F} (laws : FieldLaws k) {gen : ℕ → Coordinates F} {bits : ℕ}
    (gens : AreGenerators k bits gen)
    (n b : ℕ) (room : b < n) (s : Coordinates F) (standard : IsStandard bits gen n s)
    {D : Type 0} (size : D → ℕ) (shift : D → Coordinates F) (parts : List D)
    (count : length parts ≡ 2 ^ b) (sizes : All (λ d. size d ≡ n - b) parts)
    (shifts : map shift parts ≡ take (2 ^ b) (natural_order k gen n s)) where
  abbrev of_part : D → List (Coordinates F)
  of_part d = natural_order k gen (size d) (shift d)

  abbrev of_place : ℕ → List (Coordinates F)
  of_place j = natural_order k gen (n - b) (plus k (gen (n + 1)) (times k j (gen n)))

  whole-length : length (natural_order k gen n s) ≡ 2 ^ n
  whole-length = length-natural_order k gen n s (omega (arith, room))

  -- part j
  part-shift : (j : ℕ) (d : D) → j < length parts → slice_get parts j ≡ Some d →
      shift d ≡ plus k (gen (n + 1)) (times k j (gen n))
  part-shift j d lt e =
      let natural = natural_order k gen n s in
      let below : j < 2 ^ b = omega (arith, lt, count) in
      let fits : 2 ^ b < 2 ^ n = pow-lt room in
      let first : slice_get natural j ≡ Some (plus k (gen (n + 1)) (times k j (gen n))) =
      ap (λ (r : Coordinates F). slice_get (natural_order k gen n r) j) standard.1
      ∙ standard-point laws.ring gens n (omega (arith, room)) standard.0 j
      (omega (arith, below, fits)) in
      ap shift (sym (get_or_from_slice_get parts j d d e)) ∙ sym (get_or-map shift parts j d)
      ∙ ap (λ xs. slice_index_or xs j (shift d)) shifts
      ∙ get_or-take (2 ^ b) natural j (shift d) below
      ∙ get_or_from_slice_get natural j (plus k (gen (n + 1)) (times k j (gen n))) (shift d) first

  part-size : (j : ℕ) (d : D) → j < length parts → slice_get parts j ≡ Some d → size d ≡ n - b
  part-size j d lt e = ap size (sym (get_or_from_slice_get parts j d d e)) ∙ sizes j d lt

  part-is : (j : ℕ) (d : D) → j < length parts → slice_get parts j ≡ Some d → of_part d ≡ of_place j
  part-is j d lt e = ap (λ m. natural_order k gen m (shift d)) (part-size j d lt e)
      ∙ ap (natural_order k gen (n - b)) (part-shift j d lt e)

  whole-at : (i : ℕ) (p : Coordinates F) → slice_get (natural_order k gen n s) i ≡ Some p →
      p ≡ plus k (gen (n + 1)) (times k i (gen n))
  whole-at i p here =
      standard-at laws.ring gens n (omega (arith, room)) standard.0 i p
      (ap (λ (r : Coordinates F). slice_get (natural_order k gen n r) i) (sym standard.1) ∙ here)

  place-at : (i : ℕ) (p : Coordinates F) → slice_get (natural_order k gen n s) i ≡ Some p →
      (d : D) → part_of (2 ^ b) i < length parts →
      slice_get parts (part_of (2 ^ b) i) ≡ Some d →
      slice_get (of_part d) (place_in (2 ^ b) i) ≡ Some p
  place-at i p here d lt e =
      let within : i < 2 ^ n = omega (
        arith,
        slice_get_within (natural_order k gen n s) i p here,
        whole-length,
      ) in
      ap (λ xs. slice_get xs (place_in (2 ^ b) i)) (part-is (part_of (2 ^ b) i) d lt e)
      ∙ part-at laws gens n b room standard.0 i within ∙ ap Some (sym (whole-at i p here))

  -- each point stands at its place in its part
  places : (c : ℕ) → c ≡ 2 ^ b → (i : ℕ) (p : Coordinates F) →
      slice_get (natural_order k gen n s) i ≡ Some p →
      IfSome (slice_get parts (part_of c i)) (λ d. slice_get (of_part d) (place_in c i) ≡ Some p)
  places c is i p here =
      subst (λ m. IfSome (slice_get parts (part_of m i))
      (λ d. slice_get (of_part d) (place_in m i) ≡ Some p)) (sym is)
      (if_some_at parts (part_of (2 ^ b) i) (λ d. slice_get (of_part d) (place_in (2 ^ b) i)
      ≡ Some p) (place-at i p here))

  -- the parts are disjoint
  disjoint : AllPairs (λ d e. AreDisjoint (of_part d) (of_part e)) parts
  disjoint = λ i j d lt lj.
      let first = slice_index_or parts i d in
      let second = slice_index_or parts j d in
      let li : i < length parts = omega (arith, lt, lj) in
      subst (λ xs. AreDisjoint xs (of_part second))
      (sym (part-is i first li (slice_get-get_or parts i d li)))
      (subst (λ ys. AreDisjoint (of_place i) ys)
      (sym (part-is j second lj (slice_get-get_or parts j d lj)))
      (parts-disjoint laws gens n b room standard.0 i j (omega (arith, lt))
      (omega (arith, li, count)) (omega (arith, lj, count))))

  contained : (xs : List (Coordinates F)) (i : ℕ) (p : Coordinates F) → slice_get xs i ≡ Some p →
      Contains xs p
  contained xs i p e = (i, slice_get_within xs i p e, get_or_from_slice_get xs i p p e)

  -- and make up the whole
  whole : (p : Coordinates F) → Contains (natural_order k gen n s) p
      ↔ Any (λ d. Contains (of_part d) p) parts
  whole p =
      let natural = natural_order k gen n s in (
        λ h.
            let i = h.0 in
            let here : slice_get natural i ≡ Some p = slice_get-get_or natural i p h.1
            ∙ ap Some h.2 in
            let j = part_of (2 ^ b) i in
            let below : j < 2 ^ b = part_of-below (2 ^ b) i (pow_pos b) in
            ⊎_elim
            (λ w. (
              j,
              w.0,
              w.1,
              w.3,
              contained (of_part w.0) (place_in (2 ^ b) i) p
                  (place-at i p here w.0 w.1 w.2),
            ))
            (λ w. absurd (omega (arith, w.0, below, count)))
            (slice_get_cases parts j).1,
        λ h.
            let j = h.0 in
            let d = h.1 in
            let r = h.4.0 in
            let here : slice_get parts j ≡ Some d = slice_get-get_or parts j d h.2 ∙ ap Some h.3 in
            let is = part-is j d h.2 here in
            let lj : j < 2 ^ b = omega (arith, h.2, count) in
            let lr : r < 2 ^ (n - b) = omega (
              arith,
              h.4.1,
              ap length is,
              length-part laws gens n b room standard.0 j,
            ) in
            let i = place_of (2 ^ b) j r in
            let point = plus k (gen (n + 1)) (times k i (gen n)) in
            let same : p ≡ point =
            sym h.4.2 ∙ ap (λ xs. slice_index_or xs r p) is
            ∙ get_or_from_slice_get (of_place j) r point p
            (part-point laws gens n b room standard.0 j r lj lr) in
            contained natural i p
            (ap (λ (q : Coordinates F). slice_get (natural_order k gen n q) i) standard.1
            ∙ standard-point laws.ring gens n (omega (arith, room)) standard.0 i
            (place-below laws gens n b room standard.0 j r lj lr) ∙ ap Some (sym same)),
      )

-- what the c parts of a domain are to callers
pub record AreParts {F : Type 0} (k : FieldOps F) (gen : ℕ → Coordinates F) (n c : ℕ)
    (s : Coordinates F)
    {D : Type 0} (size : D → ℕ) (shift : D → Coordinates F) (parts : List D) : Type 0 where
  pub disjoint : AllPairs (λ d e. AreDisjoint (natural_order k gen (size d) (shift d))
      (natural_order k gen (size e) (shift e))) parts
  pub whole : (p : Coordinates F) → Contains (natural_order k gen n s) p
      ↔ Any (λ d. Contains (natural_order k gen (size d) (shift d)) p) parts
  pub places : (i : ℕ) (p : Coordinates F) → slice_get (natural_order k gen n s) i ≡ Some p →
      IfSome (slice_get parts (part_of c i)) (λ d. slice_get
      (natural_order k gen (size d) (shift d)) (place_in c i) ≡ Some p)

-- domains of equal sizes whose shifts are the first points of a standard domain are its parts
pub are_parts : {F : Type 0} {k : FieldOps F} (laws : FieldLaws k) {gen : ℕ → Coordinates F}
    {bits : ℕ} (gens : AreGenerators k bits gen)
    (n b c : ℕ) (is : 2 ^ b ≡ c) (fit : 2 * c ≤ 2 ^ n) (s : Coordinates F)
    (standard : IsStandard bits gen n s)
    {D : Type 0} (size : D → ℕ) (shift : D → Coordinates F) (parts : List D) →
    All (λ d. size d ≡ n - b) parts → map shift parts ≡ take c (natural_order k gen n s) →
    AreParts k gen n c s size shift parts
are_parts {k = k} laws {gen = gen} gens n b c is fit s standard size shift parts sizes shifts =
    let room = parts_room b n c is fit in
    let first : map shift parts ≡ take (2 ^ b) (natural_order k gen n s) = shifts
    ∙ ap (λ m. take m (natural_order k gen n s)) (sym is) in
    let below : 2 ^ b < 2 ^ n = pow-lt room in
    let count = part_count shift parts (natural_order k gen n s) (2 ^ b)
    (omega (arith, below, length-natural_order k gen n s (omega (arith, room)))) first in
    record {
      disjoint = disjoint laws gens n b room s standard size shift parts count sizes first;
      whole = whole laws gens n b room s standard size shift parts count sizes first;
      places = places laws gens n b room s standard size shift parts count sizes first c (sym is);
    }
