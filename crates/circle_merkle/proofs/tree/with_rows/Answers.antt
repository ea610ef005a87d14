use Rattle.std.proofs.Common.{◌≡◌, ℕ, ◌+◌, ◌*◌, ◌<◌, ◌++◌, ◌∷◌, [], List, ◌∙◌, refl, sym, ap, subst}
use Rattle.std.proofs.Common.{get_or, length, arith, below_more}
use Rattle.std.proofs.lemmas.List.{get_or_append_left, get_or_push, length_push}
use Rattle.circle_merkle.proofs.tree.with_rows.Goals as goal

twice_more : {two one n : ℕ} (i : ℕ) → two ≡ one + 1 → one ≡ n + 1 → n ≡ 2 * i → two ≡ 2 * (i + 1)
twice_more i e f h = omega arith

-- the list has the nodes and the rows below i by turns
abbrev Paired : List (List ℕ) → List (List ℕ) → List (List ℕ) → ℕ → Type 0
Paired nodes rows pairs i = (get_or pairs (2 * i) [] ≡ get_or nodes i [])
    × (get_or pairs (2 * i + 1) [] ≡ get_or rows i [])

paired-more : (nodes rows pairs : List (List ℕ)) (i : ℕ) (node row : List ℕ) →
    length pairs ≡ 2 * i → ((k : ℕ) → k < i → Paired nodes rows pairs k) →
    node ≡ get_or nodes i [] → row ≡ get_or rows i [] → (k : ℕ) → k < i + 1 →
    Paired nodes rows ((pairs ++ node ∷ []) ++ row ∷ []) k
paired-more nodes rows pairs i node row long before en er =
    let one = pairs ++ node ∷ [] in
    let two = one ++ row ∷ [] in
    let longer : length one ≡ 2 * i + 1 = length_push pairs node ∙ ap (λ n. n + 1) long in
    let old = λ (k : ℕ) (lt : k < 2 * i). get_or_append_left one (row ∷ []) [] k
    (omega (arith, longer, lt))
    ∙ get_or_append_left pairs (node ∷ []) [] k (omega (arith, long, lt)) in
    below_more (Paired nodes rows two) i
    (λ k lt. (
      old (2 * k) (omega arith) ∙ (before k lt).0,
      old (2 * k + 1) (omega arith)
          ∙ (before k lt).1,
    )) (
      get_or_append_left one (row ∷ []) [] (2 * i) (omega (arith, longer))
          ∙ get_or_push pairs node [] (2 * i) long ∙ en,
      get_or_push one row [] (2 * i + 1) longer
          ∙ er,
    )

pub loop-i-preserved : goal.loop-i-preserved
loop-i-preserved c =
    let nodes = c.args.nodes.now in
    let rows = c.args.rows.now in
    let pairs = c.loop-i.pairs.items in
    let i = c.loop-i.i in
    let node = get_or nodes i [] in
    let row = get_or rows i [] in
    let one = pairs ++ node ∷ [] in
    let before = c.loop-i.invariant in
    let pushed : c.push-in-loop-i.new.self.items ≡ one ++ row ∷ [] = c.in_ok-push-2.ensures.items
    ∙ ap (λ xs. xs ++ row ∷ []) c.in_ok-push.ensures.items in
    let count : length (one ++ row ∷ []) ≡ 2 * (i + 1) =
    twice_more i (length_push one row) (length_push pairs node) before.0 in
    subst (λ xs. (length xs ≡ 2 * (i + 1)) × ((k : ℕ) → k < i + 1 → Paired nodes rows xs k))
    (sym pushed) (count, paired-more nodes rows pairs i node row before.0 before.1 refl refl)
