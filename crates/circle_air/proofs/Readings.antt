-- The text of an AIR can be read in one way only.
use Rattle.std.proofs.Common.{◌≡◌, ℕ, ◌<◌, ◌^◌, List, [], ◌∷◌, ◌++◌, length, map, get_or, refl, sym}
use Rattle.std.proofs.Common.{ap, ◌∙◌, arith, append_assoc, append-nil, take, drop, Vec, Global}
use Rattle.std.specs.Prelude.{All, codes}
use Rattle.std.specs.List.{flat_map, AllByRecursion}
use Rattle.std.proofs.Math.Seq.{take-append_seam, drop-append_seam}
use Rattle.std.proofs.lemmas.List.{append_cancel_left, length-map}
use Rattle.std.proofs.lemmas.List.Elements.{All-map, recursion_from_All}
use Rattle.circle_challenger.specs.Step.{be64 as eight_bytes}
use Rattle.circle_challenger.proofs.Readings.{number_front as eight_front, each_front}
use Rattle.circle_air.specs.declared.node.Node.{Node}
use Rattle.circle_air.specs.declared.node.Node.TheVariants.{Local, Next, Periodic, Public}
use Rattle.circle_air.specs.declared.node.Node.TheVariants.{Constant, Add, Sub, Mul, Neg}
use Rattle.circle_air.specs.declared.node.Constraint.{Constraint}
use Rattle.circle_air.specs.declared.node.Place.{Place}
use Rattle.circle_air.specs.declared.node.Place.TheVariants.{Every, First, Last, Transition}
use Rattle.circle_air.specs.declared.parts.AirParts.{AirParts}
use Rattle.circle_air.specs.Parts.{Parts, parts_of}
use Rattle.circle_air.specs.Ranges.{IsInRange}
use Rattle.circle_air.specs.Text.{air_text, be64, column_text, constraint_text, listed, node_text}
use Rattle.circle_air.specs.Text.{place_byte}
use Rattle.circle_air.specs.Valid.{IsValid}

same_bytes : (n : ℕ) → be64 n ≡ eight_bytes n
unfolding be64 eight_bytes
same_bytes n = refl

number_front : (m n : ℕ) (x y : List ℕ) → m < 2 ^ 64 → n < 2 ^ 64 → be64 m ++ x ≡ be64 n ++ y
    → (m ≡ n) × (x ≡ y)
number_front m n x y p q same =
    eight_front m n x y p q
    (ap (λ t. t ++ x) (sym (same_bytes m)) ∙ same ∙ ap (λ t. t ++ y) (same_bytes n))

-- a number of texts, and the texts
listed_front : {X : Type 0} (text : X → List ℕ) (Fits : X → Type 0)
    (front : (a b : X) (x y : List ℕ) → Fits a → Fits b → text a ++ x ≡ text b ++ y
    → (a ≡ b) × (x ≡ y))
    (xs ys : List X) (x y : List ℕ) → length xs < 2 ^ 64 → length ys < 2 ^ 64
    → AllByRecursion Fits xs → AllByRecursion Fits ys
    → listed text xs ++ x ≡ listed text ys ++ y → (xs ≡ ys) × (x ≡ y)
listed_front text Fits front xs ys x y p q ps qs same =
    let regrouped = sym (append_assoc (be64 (length xs)) (flat_map text xs) x) ∙ same
    ∙ append_assoc (be64 (length ys)) (flat_map text ys) y in
    let count = number_front (length xs) (length ys) _ _ p q regrouped in
    each_front text Fits front xs ys x y ps qs count.0 count.1

-- nothing is asked of any
all_fit : {X : Type 0} (xs : List X) → AllByRecursion (λ (x : X). Unit {0}) xs
all_fit [] = tt
all_fit (x ∷ xs) = (tt, all_fit xs)

place_of : ℕ → Place
place_of byte = get_or (Every ∷ First ∷ Last ∷ Transition ∷ []) byte Every

place_again : (p : Place) → place_of (place_byte p) ≡ p
unfolding place_of
place_again Every = refl
place_again First = refl
place_again Last = refl
place_again Transition = refl

constraint_front : (a b : Constraint) (x y : List ℕ) → a.node < 2 ^ 64 → b.node < 2 ^ 64
    → constraint_text a ++ x ≡ constraint_text b ++ y → (a ≡ b) × (x ≡ y)
constraint_front a b x y p q same =
    let byte : place_byte a.place ≡ place_byte b.place = cc in
    let rest : be64 a.node ++ x ≡ be64 b.node ++ y = cc in
    let node = number_front a.node b.node x y p q rest in
    let place : a.place ≡ b.place =
    sym (place_again a.place) ∙ ap place_of byte ∙ place_again b.place in
    let made : Place → ℕ → Constraint = λ p n. record { place = p; node = n } in
    (ap (λ p. made p a.node) place ∙ ap (made b.place) node.0, node.1)

-- a vector has fewer than 2^64 elements
short : {X : Type 0} (v : Vec X Global) → length v.items < 2 ^ 64
short v = omega (arith, v.ok.0, v.ok.1, v.small)

module _ {F : Type 0} where
  -- a node as its tag, its numbers and its constants
  abbrev tag : Node F → ℕ
  tag (Local c) = 0
  tag (Next c) = 1
  tag (Periodic i) = 2
  tag (Public i) = 3
  tag (Constant x) = 4
  tag (Add a b) = 5
  tag (Sub a b) = 6
  tag (Mul a b) = 7
  tag (Neg a) = 8

  abbrev numbers : Node F → List ℕ
  numbers (Local c) = c ∷ []
  numbers (Next c) = c ∷ []
  numbers (Periodic i) = i ∷ []
  numbers (Public i) = i ∷ []
  numbers (Constant x) = []
  numbers (Add a b) = a ∷ b ∷ []
  numbers (Sub a b) = a ∷ b ∷ []
  numbers (Mul a b) = a ∷ b ∷ []
  numbers (Neg a) = a ∷ []

  abbrev constants : Node F → List F
  constants (Constant x) = x ∷ []
  constants _ = []

  abbrev node_of : Node F → ℕ → List ℕ → List F → Node F
  node_of other t ns xs =
      let a = get_or ns 0 0 in
      let b = get_or ns 1 0 in
      get_or
      (Local a ∷ Next a ∷ Periodic a ∷ Public a ∷ get_or (map Constant xs) 0 other ∷ Add a b
      ∷ Sub a b ∷ Mul a b ∷ Neg a ∷ []) t other

  node_again : (other node : Node F) → node_of other (tag node) (numbers node) (constants node)
      ≡ node
  node_again other (Local c) = refl
  node_again other (Next c) = refl
  node_again other (Periodic i) = refl
  node_again other (Public i) = refl
  node_again other (Constant x) = refl
  node_again other (Add a b) = refl
  node_again other (Sub a b) = refl
  node_again other (Mul a b) = refl
  node_again other (Neg a) = refl

  -- how many of each a tag has
  counted : (node : Node F) → length (numbers node)
      ≡ get_or (1 ∷ 1 ∷ 1 ∷ 1 ∷ 0 ∷ 2 ∷ 2 ∷ 2 ∷ 1 ∷ []) (tag node) 0
  counted (Local c) = refl
  counted (Next c) = refl
  counted (Periodic i) = refl
  counted (Public i) = refl
  counted (Constant x) = refl
  counted (Add a b) = refl
  counted (Sub a b) = refl
  counted (Mul a b) = refl
  counted (Neg a) = refl

  counted_constants : (node : Node F) → length (constants node)
      ≡ get_or (0 ∷ 0 ∷ 0 ∷ 0 ∷ 1 ∷ []) (tag node) 0
  counted_constants (Local c) = refl
  counted_constants (Next c) = refl
  counted_constants (Periodic i) = refl
  counted_constants (Public i) = refl
  counted_constants (Constant x) = refl
  counted_constants (Add a b) = refl
  counted_constants (Sub a b) = refl
  counted_constants (Mul a b) = refl
  counted_constants (Neg a) = refl

  -- a node's numbers have eight bytes
  abbrev Fits : Node F → Type 0
  Fits node = AllByRecursion (λ n. n < 2 ^ 64) (numbers node)

  fits : (width periodic public position : ℕ) (node : Node F) → width < 2 ^ 64
      → periodic < 2 ^ 64 → public < 2 ^ 64 → position < 2 ^ 64
      → IsInRange width periodic public position node → Fits node
  fits w p q i (Local c) hw hp hq hi h = (omega (arith, h, hw), tt)
  fits w p q i (Next c) hw hp hq hi h = (omega (arith, h, hw), tt)
  fits w p q i (Periodic j) hw hp hq hi h = (omega (arith, h, hp), tt)
  fits w p q i (Public j) hw hp hq hi h = (omega (arith, h, hq), tt)
  fits w p q i (Constant x) hw hp hq hi h = tt
  fits w p q i (Add a b) hw hp hq hi h = (omega (arith, h.0, hi), (omega (arith, h.1, hi), tt))
  fits w p q i (Sub a b) hw hp hq hi h = (omega (arith, h.0, hi), (omega (arith, h.1, hi), tt))
  fits w p q i (Mul a b) hw hp hq hi h = (omega (arith, h.0, hi), (omega (arith, h.1, hi), tt))
  fits w p q i (Neg a) hw hp hq hi h = (omega (arith, h, hi), tt)

  -- parts whose numbers have eight bytes each
  pub record IsReadable (p : Parts F) : Type 0 where
    pub width : p.width < 2 ^ 64
    pub public : p.num_public_values < 2 ^ 64
    pub periodic : length p.periodic_columns < 2 ^ 64
    pub each_periodic : All (λ column. length column < 2 ^ 64) p.periodic_columns
    pub nodes : length p.nodes < 2 ^ 64
    pub constraints : length p.constraints < 2 ^ 64

  pub readable : (p : AirParts F) → p.width < 2 ^ 64 → p.num_public_values < 2 ^ 64
      → IsReadable (parts_of p)
  readable p w n = record {
    width = w;
    public = n;
    periodic = omega (
      arith,
      short p.periodic_columns,
      length-map p.periodic_columns.items (λ (column : Vec F Global). column.items),
    );
    each_periodic =
        All-map (λ xs. length xs < 2 ^ 64) (λ (column : Vec F Global). column.items)
        p.periodic_columns.items (λ i d below. short (get_or p.periodic_columns.items i d));
    nodes = short p.nodes;
    constraints = short p.constraints;
  }

  each_node : (p : Parts F) → IsValid p → IsReadable p → AllByRecursion Fits p.nodes
  each_node p v r =
      recursion_from_All Fits p.nodes
      (λ i d below. fits p.width (length p.periodic_columns) p.num_public_values i
      (get_or p.nodes i d) r.width r.periodic r.public (omega (arith, below, r.nodes))
      (v.nodes i d below))

  each_constraint : (p : Parts F) → IsValid p → IsReadable p
      → AllByRecursion (λ c. c.node < 2 ^ 64) p.constraints
  each_constraint p v r =
      recursion_from_All (λ c. c.node < 2 ^ 64) p.constraints
      (λ i d below. omega (arith, v.constraint_nodes i d below, r.nodes))

  module _ (bytes : F → List ℕ) (size : ℕ) (count : (a : F) → length (bytes a) ≡ size)
      (told_apart : (a b : F) → bytes a ≡ bytes b → a ≡ b) where
    element_front : (a b : F) (x y : List ℕ) → Unit {0} → Unit {0} → bytes a ++ x ≡ bytes b ++ y
        → (a ≡ b) × (x ≡ y)
    element_front a b x y p q same =
        let long : length (bytes a) ≡ length (bytes b) = count a ∙ sym (count b) in (
          told_apart a b
              (sym (take-append_seam (bytes a) x) ∙ ap (take (length (bytes a))) same
              ∙ ap (λ n. take n (bytes b ++ y)) long ∙ take-append_seam (bytes b) y),
          sym (drop-append_seam (bytes a) x) ∙ ap (drop (length (bytes a))) same
              ∙ ap (λ n. drop n (bytes b ++ y)) long ∙ drop-append_seam (bytes b) y,
        )

    column_front : (a b : List F) (x y : List ℕ) → length a < 2 ^ 64 → length b < 2 ^ 64
        → column_text bytes a ++ x ≡ column_text bytes b ++ y → (a ≡ b) × (x ≡ y)
    column_front a b x y p q same =
        listed_front bytes (λ v. Unit {0}) element_front a b x y p q (all_fit a) (all_fit b) same

    spaced : (t x : List ℕ) → t ++ x ≡ (t ++ []) ++ x
    spaced t x = ap (λ u. u ++ x) (sym (append-nil t))

    spaced_pair : (s t x : List ℕ) → (s ++ t) ++ x ≡ (s ++ (t ++ [])) ++ x
    spaced_pair s t x = ap (λ u. (s ++ u) ++ x) (sym (append-nil t))

    text_again : (node : Node F) (x : List ℕ) → node_text bytes node ++ x
        ≡ tag node ∷ (flat_map be64 (numbers node) ++ (flat_map bytes (constants node) ++ x))
    text_again (Local c) x = ap (λ t. 0 ∷ t) (spaced (be64 c) x)
    text_again (Next c) x = ap (λ t. 1 ∷ t) (spaced (be64 c) x)
    text_again (Periodic i) x = ap (λ t. 2 ∷ t) (spaced (be64 i) x)
    text_again (Public i) x = ap (λ t. 3 ∷ t) (spaced (be64 i) x)
    text_again (Constant v) x = ap (λ t. 4 ∷ t) (spaced (bytes v) x)
    text_again (Add a b) x = ap (λ t. 5 ∷ t) (spaced_pair (be64 a) (be64 b) x)
    text_again (Sub a b) x = ap (λ t. 6 ∷ t) (spaced_pair (be64 a) (be64 b) x)
    text_again (Mul a b) x = ap (λ t. 7 ∷ t) (spaced_pair (be64 a) (be64 b) x)
    text_again (Neg a) x = ap (λ t. 8 ∷ t) (spaced (be64 a) x)

    parted : (s t : ℕ) (xs ys : List ℕ) → s ∷ xs ≡ t ∷ ys → (s ≡ t) × (xs ≡ ys)
    parted s t xs ys same = (cc, cc)

    node_front : (a b : Node F) (x y : List ℕ) → Fits a → Fits b
        → node_text bytes a ++ x ≡ node_text bytes b ++ y → (a ≡ b) × (x ≡ y)
    node_front a b x y p q same =
        let first = parted _ _ _ _ (sym (text_again a x) ∙ same ∙ text_again b y) in
        let second =
        each_front be64 (λ n. n < 2 ^ 64) number_front (numbers a) (numbers b) _ _ p q
        (counted a
        ∙ ap (λ t. get_or (1 ∷ 1 ∷ 1 ∷ 1 ∷ 0 ∷ 2 ∷ 2 ∷ 2 ∷ 1 ∷ []) t 0) first.0
        ∙ sym (counted b)) first.1 in
        let third =
        each_front bytes (λ v. Unit {0}) element_front (constants a) (constants b) x y
        (all_fit (constants a)) (all_fit (constants b))
        (counted_constants a ∙ ap (λ t. get_or (0 ∷ 0 ∷ 0 ∷ 0 ∷ 1 ∷ []) t 0) first.0
        ∙ sym (counted_constants b)) second.1 in (
          sym (node_again a a) ∙ ap (λ t. node_of a t (numbers a) (constants a)) first.0
              ∙ ap (λ ns. node_of a (tag b) ns (constants a)) second.0
              ∙ ap (node_of a (tag b) (numbers b)) third.0 ∙ node_again a b,
          third.1,
        )

    grouped : (a b c d e f : List ℕ) → (((((a ++ b) ++ c) ++ d) ++ e) ++ f)
        ≡ a ++ (b ++ (c ++ (d ++ (e ++ f))))
    grouped a b c d e f =
        append_assoc (((a ++ b) ++ c) ++ d) e f ∙ append_assoc ((a ++ b) ++ c) d (e ++ f)
        ∙ append_assoc (a ++ b) c (d ++ (e ++ f)) ∙ append_assoc a b (c ++ (d ++ (e ++ f)))

    -- parts of one text are one
    pub same_parts : (p q : Parts F) → IsValid p → IsValid q → IsReadable p → IsReadable q
        → air_text bytes size p ≡ air_text bytes size q → p ≡ q
    same_parts p q v w r s same =
        let header : List ℕ = codes "circle-air" ++ (1 ∷ be64 size) in
        let regrouped = append_cancel_left header _ _
        (sym (grouped header (be64 p.width) (be64 p.num_public_values)
        (listed (column_text bytes) p.periodic_columns) (listed (node_text bytes) p.nodes)
        (listed constraint_text p.constraints)) ∙ same
        ∙ grouped header (be64 q.width) (be64 q.num_public_values)
        (listed (column_text bytes) q.periodic_columns) (listed (node_text bytes) q.nodes)
        (listed constraint_text q.constraints)) in
        let width = number_front p.width q.width _ _ r.width s.width regrouped in
        let public = number_front p.num_public_values q.num_public_values _ _ r.public s.public
        width.1 in
        let periodic =
        listed_front (column_text bytes) (λ c. length c < 2 ^ 64) column_front p.periodic_columns
        q.periodic_columns _ _ r.periodic s.periodic
        (recursion_from_All _ p.periodic_columns r.each_periodic)
        (recursion_from_All _ q.periodic_columns s.each_periodic) public.1 in
        let nodes =
        listed_front (node_text bytes) Fits node_front p.nodes q.nodes _ _ r.nodes s.nodes
        (each_node p v r) (each_node q w s) periodic.1 in
        let constraints =
        listed_front constraint_text (λ c. c.node < 2 ^ 64) constraint_front p.constraints
        q.constraints [] [] r.constraints s.constraints (each_constraint p v r)
        (each_constraint q w s) (ap (λ t. t ++ []) nodes.1) in
        let made : ℕ → ℕ → List (List F) → List (Node F) → List Constraint → Parts F =
        λ w n cs ns ks. record {
          width = w;
          num_public_values = n;
          periodic_columns = cs;
          nodes = ns;
          constraints = ks;
        } in
        ap (λ w. made w p.num_public_values p.periodic_columns p.nodes p.constraints) width.0
        ∙ ap (λ n. made q.width n p.periodic_columns p.nodes p.constraints) public.0
        ∙ ap (λ cs. made q.width q.num_public_values cs p.nodes p.constraints) periodic.0
        ∙ ap (λ ns. made q.width q.num_public_values q.periodic_columns ns p.constraints) nodes.0
        ∙ ap (made q.width q.num_public_values q.periodic_columns q.nodes) constraints.0
