-- The text of a seed determines the shape of the run.
use Rattle.std.proofs.Math.Dec.{eqb-suc-zero}
use Rattle.std.specs.Prelude.{if◌then◌else◌, ◌≡◌, ◌==◌, ℕ, ◌<◌, ◌^◌, List, [], ◌∷◌, ◌++◌, length}
use Rattle.std.specs.Prelude.{map, flat_map, All, codes}
use Rattle.std.specs.List.{AllByRecursion}
use Rattle.std.proofs.Common.{zero, suc, refl, sym, ap, ◌∙◌, arith, append_assoc}
use Rattle.std.proofs.lemmas.List.{length-map}
use Rattle.std.proofs.lemmas.List.Elements.{recursion_from_All}
use Rattle.circle_challenger.specs.Step.{Step, be64, kind_byte, type_byte, value_count}
use Rattle.circle_challenger.specs.Step.{parameter_of}
use Rattle.circle_challenger.specs.Played.{pow_step, element_challenge, numbers_challenge}
use Rattle.circle_challenger.specs.Separator.{Separator, IsWritable}
use Rattle.circle_challenger.proofs.Readings.{number_front, same_number, each_front, same_separator}
use Rattle.circle_transcript.specs.Shape.{Shape, pow_steps, claim_steps, batch_steps}
use Rattle.circle_transcript.specs.Shape.{first_layer_steps, round_steps, rounds_steps}
use Rattle.circle_transcript.specs.Shape.{final_poly_step, query_steps, claimed_widths, steps_of}
use Rattle.circle_transcript.specs.Shape.{batch_layout, layout, labels_of, separator_of, text_of}
use Rattle.circle_transcript.specs.Shape.{HasWritableLabels, IsSameRun}

-- the first entry and the others
parts : {A : Type 0} (x y : A) (xs ys : List A) → x ∷ xs ≡ y ∷ ys → (x ≡ y) × (xs ≡ ys)
parts x y xs ys same = (cc, cc)

-- fronts of one length
fronts : {A : Type 0} (a b x y : List A) → length a ≡ length b → a ++ x ≡ b ++ y → (a ≡ b) × (x ≡ y)
fronts [] [] x y count same = (refl, same)
fronts [] (v ∷ b) x y count same = absurd (omega arith)
fronts (u ∷ a) [] x y count same = absurd (omega arith)
fronts (u ∷ a) (v ∷ b) x y count same =
    let first = parts u v (a ++ x) (b ++ y) same in
    let rest = fronts a b x y (omega arith) first.1 in
    (ap (λ w. w ∷ a) first.0 ∙ ap (λ c. v ∷ c) rest.0, rest.1)

-- lists of lists are told by the lengths and by all entries
pub nested : {A : Type 0} (xs ys : List (List A)) → map (λ x. length x) xs
    ≡ map (λ y. length y) ys → flat_map (λ x. x) xs ≡ flat_map (λ y. y) ys → xs ≡ ys
nested [] [] lengths same = refl
nested [] (y ∷ ys) lengths same = absurd (let e = ap (λ l. length l) lengths in omega (arith, e))
nested (x ∷ xs) [] lengths same = absurd (let e = ap (λ l. length l) lengths in omega (arith, e))
nested (x ∷ xs) (y ∷ ys) lengths same =
    let counts = parts (length x) (length y) (map (λ x. length x) xs) (map (λ y. length y) ys)
    lengths in
    let first = fronts x y (flat_map (λ x. x) xs) (flat_map (λ y. y) ys) counts.0 same in
    ap (λ a. a ∷ xs) first.0 ∙ ap (λ r. y ∷ r) (nested xs ys counts.1 first.1)

-- a proof of work that has a difficulty
pow_some : (label : List ℕ) (n : ℕ) → pow_steps label (suc n) ≡ pow_step label (suc n) ∷ []
pow_some label n = ap (λ t. if t then [] else pow_step label (suc n) ∷ []) (eqb-suc-zero n)

-- a proof of work before a challenge
pow_front : (label : List ℕ) (a b : ℕ) (c e : Step) (xs ys : List Step) → kind_byte c.kind ≡ 1 →
    kind_byte e.kind ≡ 1 →
    pow_steps label a ++ c ∷ xs ≡ pow_steps label b ++ e ∷ ys → (a ≡ b) × (c ∷ xs ≡ e ∷ ys)
pow_front label zero zero c e xs ys p q same = (refl, same)
pow_front label zero (suc b) c e xs ys p q same =
    let first =
    parts c (pow_step label (suc b)) xs (e ∷ ys)
    (same ∙ ap (λ p. p ++ e ∷ ys) (pow_some label b)) in
    absurd (let k = ap (λ (s : Step). kind_byte s.kind) first.0 in omega (arith, k, p))
pow_front label (suc a) zero c e xs ys p q same =
    let first =
    parts (pow_step label (suc a)) e (c ∷ xs) ys (sym (ap (λ p. p ++ c ∷ xs) (pow_some label a))
    ∙ same) in
    absurd (let k = ap (λ (s : Step). kind_byte s.kind) first.0 in omega (arith, k, q))
pow_front label (suc a) (suc b) c e xs ys p q same =
    let first = parts (pow_step label (suc a)) (pow_step label (suc b)) (c ∷ xs) (e ∷ ys)
    (sym (ap (λ p. p ++ c ∷ xs) (pow_some label a)) ∙ same
    ∙ ap (λ p. p ++ e ∷ ys) (pow_some label b)) in
    (ap (λ (s : Step). value_count s.size) first.0, first.1)

module _ (degree : ℕ) where
  -- the claims and the batching challenge
  pub claims_front : (ws vs : List ℕ) (a b : ℕ) (xs ys : List Step) →
      flat_map (claim_steps degree) ws
      ++ (pow_steps (codes "batch_pow") a ++ element_challenge degree (codes "batch_challenge")
      ∷ xs)
      ≡ flat_map (claim_steps degree) vs
      ++ (pow_steps (codes "batch_pow") b ++ element_challenge degree (codes "batch_challenge")
      ∷ ys) →
      (ws ≡ vs) × (a ≡ b) × (xs ≡ ys)
  unfolding claim_steps
  claims_front [] [] a b xs ys same =
      let challenge = element_challenge degree (codes "batch_challenge") in
      let first = pow_front (codes "batch_pow") a b challenge challenge xs ys refl refl same in
      (refl, first.0, (parts challenge challenge xs ys first.1).1)
  claims_front [] (v ∷ vs) zero b xs ys same =
      absurd (let k = ap (λ (s : Step). kind_byte s.kind) (parts _ _ _ _ same).0 in
      omega (arith, k))
  claims_front [] (v ∷ vs) (suc a) b xs ys same =
      absurd
      (let k =
      ap (λ (s : Step). kind_byte s.kind)
      (parts _ _ _ _
      (sym
      (ap (λ p. p ++ element_challenge degree (codes "batch_challenge") ∷ xs)
      (pow_some (codes "batch_pow") a)) ∙ same)).0 in omega (arith, k))
  claims_front (w ∷ ws) [] a zero xs ys same =
      absurd (let k = ap (λ (s : Step). kind_byte s.kind) (parts _ _ _ _ same).0 in
      omega (arith, k))
  claims_front (w ∷ ws) [] a (suc b) xs ys same =
      absurd
      (let k =
      ap (λ (s : Step). kind_byte s.kind)
      (parts _ _ _ _
      (same ∙ ap (λ p. p ++ element_challenge degree (codes "batch_challenge") ∷ ys)
      (pow_some (codes "batch_pow") b))).0 in omega (arith, k))
  claims_front (w ∷ ws) (v ∷ vs) a b xs ys same =
      let point = parts _ _ _ _ same in
      let values = parts _ _ _ _ point.1 in
      let rest = claims_front ws vs a b xs ys values.1 in (
        ap (λ n. n ∷ ws) (ap (λ (s : Step). value_count s.size) values.0)
            ∙ ap (λ ns. v ∷ ns) rest.0,
        rest.1,
        rest.2,
      )

  -- the rounds, up to a message of elements
  pub rounds_front : (n m a b : ℕ) (c e : Step) (xs ys : List Step) → type_byte c.value_type ≡ 0 →
      type_byte e.value_type ≡ 0 →
      rounds_steps degree a n ++ c ∷ xs ≡ rounds_steps degree b m ++ e ∷ ys →
      (n ≡ m) × (0 < n → a ≡ b) × (c ∷ xs ≡ e ∷ ys)
  unfolding rounds_steps round_steps
  rounds_front zero zero a b c e xs ys p q same = (refl, λ none. absurd (omega (arith, none)), same)
  rounds_front zero (suc m) a b c e xs ys p q same =
      absurd (let k = ap (λ (s : Step). type_byte s.value_type) (parts _ _ _ _ same).0 in
      omega (arith, k, p))
  rounds_front (suc n) zero a b c e xs ys p q same =
      absurd (let k = ap (λ (s : Step). type_byte s.value_type) (parts _ _ _ _ same).0 in
      omega (arith, k, q))
  rounds_front (suc n) (suc m) a b c e xs ys p q same =
      let challenge = element_challenge degree (codes "fold_challenge") in
      let label = codes "commit_pow" in
      let commitment = parts _ _ _ _ same in
      let regrouped : (bits : ℕ) (zs : List Step) →
      ((pow_steps label bits ++ challenge ∷ []) ++ zs) ≡ pow_steps label bits ++ challenge ∷
      zs =
      λ bits zs. append_assoc (pow_steps label bits) (challenge ∷ []) zs in
      let whole : (bits count : ℕ) (z : Step) (zs : List Step) →
      ((pow_steps label bits ++ challenge ∷ []) ++ rounds_steps degree bits count) ++ z ∷ zs ≡
      pow_steps label bits ++ challenge ∷ (rounds_steps degree bits count ++ z ∷ zs) =
      λ bits count z zs. append_assoc (pow_steps label bits ++ challenge ∷ [])
      (rounds_steps degree bits count) (z ∷ zs)
      ∙ regrouped bits (rounds_steps degree bits count ++ z ∷ zs) in
      let first = pow_front label a b challenge challenge (rounds_steps degree a n ++ c ∷ xs)
      (rounds_steps degree b m ++ e ∷ ys) refl refl
      (sym (whole a n c xs) ∙ commitment.1 ∙ whole b m e ys) in
      let rest = rounds_front n m a b c e xs ys p q (parts challenge challenge _ _ first.1).1 in
      (ap suc rest.0, λ _. first.0, rest.2)

  -- the last steps
  query_front : (f g a b w v c e : ℕ) → query_steps degree f a w c ≡ query_steps degree g b v e →
      (a ≡ b) × (w ≡ v) × (c ≡ e)
  unfolding query_steps
  query_front f g a b w v c e same =
      let label = codes "query_indices" in
      let message = parts _ _ _ _ same in
      let first = pow_front (codes "query_pow") a b (numbers_challenge label w c)
      (numbers_challenge label v e) [] [] refl refl message.1 in
      let numbers =
      (parts (numbers_challenge label w c) (numbers_challenge label v e) [] [] first.1).0 in (
        first.0,
        ap (λ (s : Step). parameter_of s.value_type) numbers,
        ap (λ (s : Step). value_count s.size) numbers,
      )

  -- the steps determine all numbers but how the claims are grouped, the blowup, and that of
  -- coefficients
  pub steps_told : (a b : Shape) → steps_of degree a ≡ steps_of degree b →
      (claimed_widths a ≡ claimed_widths b) × (a.batch_pow_bits ≡ b.batch_pow_bits)
      × (a.num_commit_rounds ≡ b.num_commit_rounds)
      × (0 < a.num_commit_rounds → a.commit_pow_bits ≡ b.commit_pow_bits)
      × (a.query_pow_bits ≡ b.query_pow_bits) × (a.index_bits ≡ b.index_bits)
      × (a.num_queries ≡ b.num_queries)
  unfolding batch_steps first_layer_steps query_steps
  steps_told a b same =
      let challenge = element_challenge degree (codes "batch_challenge") in
      let label = codes "batch_pow" in
      let rest : Shape → List Step = λ s. rounds_steps degree s.commit_pow_bits s.num_commit_rounds
      ++ query_steps degree s.log_final_poly_len s.query_pow_bits s.index_bits s.num_queries in
      let grouped : (s : Shape) →
      steps_of degree s ≡ flat_map (claim_steps degree) (claimed_widths s) ++
      (pow_steps label s.batch_pow_bits ++ challenge ∷ (first_layer_steps degree ++ rest s)) =
      λ s. append_assoc (flat_map (claim_steps degree) (claimed_widths s))
      (pow_steps label s.batch_pow_bits ++ challenge ∷ []) (first_layer_steps degree ++ rest s)
      ∙ ap (λ zs. flat_map (claim_steps degree) (claimed_widths s) ++ zs)
      (append_assoc (pow_steps label s.batch_pow_bits) (challenge ∷ [])
      (first_layer_steps degree ++ rest s)) in
      let claims = claims_front (claimed_widths a) (claimed_widths b) a.batch_pow_bits
      b.batch_pow_bits (first_layer_steps degree ++ rest a) (first_layer_steps degree ++ rest b)
      (sym (grouped a) ∙ same ∙ grouped b) in
      let layer = (parts _ _ _ _ (parts _ _ _ _ claims.2).1).1 in
      let message : Shape → Step = λ s. final_poly_step degree s.log_final_poly_len in
      let last : Shape → List Step = λ s. pow_steps (codes "query_pow") s.query_pow_bits
      ++ numbers_challenge (codes "query_indices") s.index_bits s.num_queries ∷ [] in
      let rounds = rounds_front a.num_commit_rounds b.num_commit_rounds a.commit_pow_bits
      b.commit_pow_bits (message a) (message b) (last a) (last b) refl refl layer in
      let query = query_front a.log_final_poly_len b.log_final_poly_len a.query_pow_bits
      b.query_pow_bits a.index_bits b.index_bits a.num_queries b.num_queries rounds.2 in
      (claims.0, claims.1, rounds.0, rounds.1, query.0, query.1, query.2)

-- how claims are grouped, by their numbers
abbrev pub counts_of : List (List (List ℕ)) → List (List ℕ)
counts_of batches = map (λ batch. map (λ matrix. length matrix) batch) batches

abbrev pub numbers_text : List ℕ → List ℕ
numbers_text counts = be64 (length counts) ++ flat_map be64 counts

flat_map-map : {A B C : Type 0} (f : B → List C) (h : A → B) (xs : List A) → flat_map f (map h xs)
    ≡ flat_map (λ x. f (h x)) xs
flat_map-map f h [] = refl
flat_map-map f h (x ∷ xs) = ap (λ rest. f (h x) ++ rest) (flat_map-map f h xs)

numbers_front : (a b x y : List ℕ) → (length a < 2 ^ 64) × AllByRecursion (λ n. n < 2 ^ 64) a →
    (length b < 2 ^ 64) × AllByRecursion (λ n. n < 2 ^ 64) b →
    numbers_text a ++ x ≡ numbers_text b ++ y → (a ≡ b) × (x ≡ y)
numbers_front a b x y p q same =
    let first = number_front (length a) (length b) (flat_map be64 a ++ x) (flat_map be64 b ++ y) p.0
    q.0
    (sym (append_assoc (be64 (length a)) (flat_map be64 a) x) ∙ same
    ∙ append_assoc (be64 (length b)) (flat_map be64 b) y) in
    each_front be64 (λ n. n < 2 ^ 64) number_front a b x y p.1 q.1 first.0 first.1

-- the text of a grouping, by its numbers
layout-numbers : (batches : List (List (List ℕ))) → layout batches ≡ be64 (length batches)
    ++ flat_map numbers_text (counts_of batches)
unfolding layout batch_layout
layout-numbers batches = ap (λ t. be64 (length batches) ++ t) (each batches)
  where
    each : (bs : List (List (List ℕ))) → flat_map batch_layout bs
        ≡ flat_map numbers_text (counts_of bs)
    each [] = refl
    each (b ∷ bs) =
        ap (λ n. (be64 n ++ flat_map (λ m. be64 (length m)) b) ++ flat_map batch_layout bs)
        (sym (length-map b (λ m. length m)))
        ∙ ap (λ t. (be64 (length (map (λ m. length m) b)) ++ t) ++ flat_map batch_layout bs)
        (sym (flat_map-map be64 (λ m. length m) b))
        ∙ ap (λ t. numbers_text (map (λ m. length m) b) ++ t) (each bs)

-- the numbers have eight bytes
writable_counts : (a : Shape) → HasWritableLabels a →
    AllByRecursion (λ c. (length c < 2 ^ 64) × AllByRecursion (λ n. n < 2 ^ 64) c)
    (counts_of a.opened_widths)
writable_counts a h =
    each a.opened_widths
    (recursion_from_All (λ batch. length batch < 2 ^ 64) a.opened_widths h.matrix_counts)
    (recursion_from_All (λ batch. All (λ matrix. length matrix < 2 ^ 64) batch) a.opened_widths
    h.point_counts)
  where
    points : (ms : List (List ℕ)) → AllByRecursion (λ m. length m < 2 ^ 64) ms →
        AllByRecursion (λ n. n < 2 ^ 64) (map (λ m. length m) ms)
    points [] h = tt
    points (m ∷ ms) h = (h.0, points ms h.1)

    each : (bs : List (List (List ℕ))) → AllByRecursion (λ batch. length batch < 2 ^ 64) bs →
        AllByRecursion (λ batch. All (λ matrix. length matrix < 2 ^ 64) batch) bs →
        AllByRecursion (λ c. (length c < 2 ^ 64) × AllByRecursion (λ n. n < 2 ^ 64) c)
        (map (λ batch. map (λ matrix. length matrix) batch) bs)
    each [] h g = tt
    each (b ∷ bs) h g =
        let low = h.0 in (
          (
            omega (arith, low, length-map b (λ m. length m)),
            points b (recursion_from_All (λ m. length m < 2 ^ 64) b g.0),
          ),
          each bs h.1 g.1,
        )

-- the grouping and all widths determine the widths of each batch
same_counts : (a b : Shape) → HasWritableLabels a → HasWritableLabels b → layout a.opened_widths
    ≡ layout b.opened_widths → counts_of a.opened_widths ≡ counts_of b.opened_widths
same_counts a b p q same =
    let first = number_front (length a.opened_widths) (length b.opened_widths) _ _ p.batch_count
    q.batch_count
    (sym (layout-numbers a.opened_widths) ∙ same ∙ layout-numbers b.opened_widths) in
    (each_front numbers_text (λ c. (length c < 2 ^ 64) × AllByRecursion (λ n. n < 2 ^ 64) c)
    numbers_front (counts_of a.opened_widths) (counts_of b.opened_widths) [] []
    (writable_counts a p) (writable_counts b q)
    (length-counts a.opened_widths ∙ first.0 ∙ sym (length-counts b.opened_widths))
    (ap (λ w. w ++ []) first.1)).0
  where
    length-counts : (bs : List (List (List ℕ))) → length (counts_of bs) ≡ length bs
    length-counts bs = length-map bs (λ batch. map (λ matrix. length matrix) batch)

same_widths : (xs ys : List (List (List ℕ))) → counts_of xs ≡ counts_of ys →
    flat_map (λ matrix. matrix) (flat_map (λ batch. batch) xs)
    ≡ flat_map (λ matrix. matrix) (flat_map (λ batch. batch) ys) → xs ≡ ys
same_widths xs ys counts same =
    let matrices : flat_map (λ batch. batch) xs ≡ flat_map (λ batch. batch) ys =
    nested (flat_map (λ batch. batch) xs) (flat_map (λ batch. batch) ys)
    (sym (lengths xs) ∙ ap (flat_map (λ c. c)) counts ∙ lengths ys) same in
    nested xs ys (sym (sizes xs) ∙ ap (map (λ c. length c)) counts ∙ sizes ys) matrices
  where
    map-append : (ms ns : List (List ℕ)) → map (λ m. length m) ms ++ map (λ n. length n) ns
        ≡ map (λ m. length m) (ms ++ ns)
    map-append [] ns = refl
    map-append (m ∷ ms) ns = ap (λ r. length m ∷ r) (map-append ms ns)

    lengths : (bs : List (List (List ℕ))) →
        flat_map (λ c. c) (map (λ batch. map (λ matrix. length matrix) batch) bs)
        ≡ map (λ m. length m) (flat_map (λ batch. batch) bs)
    lengths [] = refl
    lengths (b ∷ bs) = ap (λ r. map (λ m. length m) b ++ r) (lengths bs)
        ∙ map-append b (flat_map (λ batch. batch) bs)

    sizes : (bs : List (List (List ℕ))) →
        map (λ c. length c) (map (λ batch. map (λ matrix. length matrix) batch) bs)
        ≡ map (λ b. length b) bs
    sizes [] = refl
    sizes (b ∷ bs) =
        ap (λ n. n ∷ map (λ c. length c) (map (λ batch. map (λ matrix. length matrix) batch) bs))
        (length-map b (λ m. length m)) ∙ ap (λ r. length b ∷ r) (sizes bs)

-- the third label, which is there where the final polynomial has several coefficients, determines
-- how many
same_coefficients : (a b : Shape) → HasWritableLabels a → HasWritableLabels b →
    labels_of a ≡ labels_of b → a.log_final_poly_len ≡ b.log_final_poly_len
same_coefficients a b p q same =
    told a.log_final_poly_len b.log_final_poly_len p.log_final_poly_len q.log_final_poly_len
    (parts _ _ _ _ (parts _ _ _ _ same).1).1
  where
    third : ℕ → List (List ℕ)
    third f = if f == 0 then [] else be64 f ∷ []

    third_some : (f : ℕ) → third (suc f) ≡ be64 (suc f) ∷ []
    third_some f = ap (λ t. if t then [] else be64 (suc f) ∷ []) (eqb-suc-zero f)

    told : (f g : ℕ) → f < 2 ^ 64 → g < 2 ^ 64 → third f ≡ third g → f ≡ g
    told zero zero p q same = refl
    told zero (suc g) p q same =
        absurd (let k = ap (λ l. length l) (same ∙ third_some g) in omega (arith, k))
    told (suc f) zero p q same =
        absurd (let k = ap (λ l. length l) (sym (third_some f) ∙ same) in omega (arith, k))
    told (suc f) (suc g) p q same =
        same_number (suc f) (suc g) p q (parts _ _ _ _ (sym (third_some f) ∙ same ∙ third_some g)).0

-- shapes of one seed text are of one run
pub same_runs : (degree : ℕ) (a b : Shape) → IsWritable (separator_of degree a) →
    IsWritable (separator_of degree b) → HasWritableLabels a → HasWritableLabels b →
    text_of degree a ≡ text_of degree b → IsSameRun a b
same_runs degree a b wa wb p q same =
    let whole : separator_of degree a ≡ separator_of degree b =
    same_separator (separator_of degree a) (separator_of degree b) wa wb same in
    let steps = steps_told degree a b (ap (λ (s : Separator). s.steps) whole) in
    let labels : labels_of a ≡ labels_of b = ap (λ (s : Separator). s.labels) whole in
    let blowup = parts _ _ _ _ labels in
    let grouping = parts _ _ _ _ blowup.1 in
    record {
      opened_widths = same_widths a.opened_widths b.opened_widths (same_counts a b p q grouping.0)
          steps.0;
      num_commit_rounds = steps.2;
      batch_pow_bits = steps.1;
      commit_pow_bits = steps.3;
      query_pow_bits = steps.4;
      num_queries = steps.6;
      index_bits = steps.5;
      log_blowup = same_number a.log_blowup b.log_blowup p.log_blowup q.log_blowup blowup.0;
      log_final_poly_len = same_coefficients a b p q labels;
    }
