-- Texts that fit, and the JSON of rows, commitments and shapes.
use Rattle.std.proofs.Common.{◌≡◌, ℕ, ◌+◌, ◌<◌, ◌≤◌, List, [], ◌∷◌, ◌++◌, length, map, take}
use Rattle.std.proofs.Common.{take_all, get_or, slice_index_or, Some, zero, suc, refl, ap, sym, ◌∙◌}
use Rattle.std.proofs.Common.{arith, nat_le, Vec, Global, Result, Ok, Err, IfOk, Bool, true, false}
use Rattle.std.proofs.Common.{subst}
use Rattle.std.specs.Prelude.{◌||◌}
use Rattle.std.specs.Prelude.{slice_get}
use Rattle.std.specs.Fmt.Cut.{cut_to}
use Rattle.std.proofs.lemmas.List.{map-append, map_more}
use Rattle.std.proofs.lemmas.Option.{get_or_from_slice_get, slice_get_within}
use Rattle.serde_json.specs.Data.{Data, items_depth}
use Rattle.serde_json.specs.View.{items_of, items_view, view}
use Rattle.serde_json.specs.Written.{items_have_float}
use Rattle.serde_json.specs.declared.value.Value.{Value}
use Rattle.hex.specs.Hex.{encode_lower}
use Rattle.circle_transcript.specs.Shape.{Shape, layout, steps_of, text_of}
use Rattle.circle_field.specs.Mersenne31.{residue}
use Rattle.circle_field.specs.declared.mersenne31.Mersenne31.{Mersenne31}
use Rattle.circle_json.specs.Form.{Form}
use Rattle.circle_json.specs.Values.{count_written, digest_written}
use Rattle.circle_commands.specs.Commit.{commitments_written}
use Rattle.circle_commands.specs.Json.{row_written, rows_written}
use Rattle.circle_commands.specs.Shape.{shape_object, shape_written}
use Rattle.circle_commands.specs.Text.{IsJsonLine, IsLineOf, IsPlain}

-- a text that fits isn't cut
pub cut-fits : (room : ℕ) (text : List ℕ) → length text ≤ room → cut_to room text ≡ text
unfolding cut_to
cut-fits room text fits = grind arith

-- the second of several lists
pub second-items : {T : Type 0} (vs : List (Vec T Global)) (v : Vec T Global) (a b : List T)
    (rest : List (List T)) → map (λ w. w.items) vs ≡ a ∷ b ∷ rest → v ≡ slice_index_or vs 1 v →
    v.items ≡ b
second-items [] v a b rest e is = absurd (cc)
second-items (u ∷ []) v a b rest e is = absurd (cc)
second-items (u ∷ w ∷ vs) v a b rest e is = let same : v ≡ w = is in let item : w.items ≡ b = cc in
    ap (λ x. x.items) same ∙ item

-- one more item is written
pub rows-more : {T : Type 0} (written : T → Data) (items more : List Value) (v : Value)
    (xs : List T) (i : ℕ) (x : T) → slice_get xs i ≡ Some x → more ≡ items ++ v ∷ [] →
    view v ≡ written x → map view items ≡ map written (take i xs)
    → map view more ≡ map written (take (i + 1) xs)
rows-more written items more v xs i x at grown shown before =
    let here : get_or xs i x ≡ x = get_or_from_slice_get xs i x x at in
    ap (map view) grown ∙ map-append view items (v ∷ []) ∙ ap (λ ds. ds ++ view v ∷ []) before
    ∙ ap (λ d. map written (take i xs) ++ d ∷ []) (shown ∙ ap written (sym here))
    ∙ sym (map_more written xs i x (slice_get_within xs i x at))

-- all are
pub rows-whole : {T : Type 0} (written : T → Data) (items : List Value) (xs : List T) (i n : ℕ) →
    length xs ≡ n → n ≤ i → map view items ≡ map written (take i xs) → items_view items
    ≡ items_of (map written xs)
rows-whole written items xs i n long h each =
    ap items_of (each ∙ ap (map written) (take_all i xs (omega (arith, long, h))))

-- the JSON of a shape by its digits and its number of steps
pub shape-same : (degree : ℕ) (s : Shape) (label seed : List ℕ) (steps : ℕ) →
    label ≡ encode_lower (layout s.opened_widths) → seed ≡ encode_lower (text_of degree s) →
    steps ≡ length (steps_of degree s)
    → shape_object s.index_bits label s.num_commit_rounds seed steps ≡ shape_written degree s
shape-same degree s label seed steps l t n =
    ap (λ x. shape_object s.index_bits x s.num_commit_rounds seed steps) l
    ∙ ap (λ x. shape_object s.index_bits (encode_lower (layout s.opened_widths)) s.num_commit_rounds
    x steps) t
    ∙ ap (λ x. shape_object s.index_bits (encode_lower (layout s.opened_widths)) s.num_commit_rounds
    (encode_lower (text_of degree s)) x) n

-- what holds of a result
pub if-ok : {T E : Type 0} (r : Result T E) (P Q : T → Type 0) → ((x : T) → P x → Q x) → IfOk r P →
    IfOk r Q
if-ok (Ok x) P Q then h = then x h
if-ok (Err e) P Q then h = tt

-- of two that are false, neither is true
pub neither : (a b : Bool) → a ≡ false → b ≡ false → (a || b) ≡ false
neither true b p q = absurd (cc)
neither false b p q = q

-- items are as plain as each of them
pub items_within : {T : Type 0} (written : T → Data) (n : ℕ) → ((x : T) → IsPlain n (written x)) →
    (xs : List T) → (items_depth (items_of (map written xs)) ≤ n)
    × (items_have_float (items_of (map written xs)) ≡ false)
items_within written n within [] = (omega arith, refl)
items_within written n within (x ∷ xs) =
    let a = within x in
    let b = items_within written n within xs in
    (omega (arith, a.0, b.0), neither _ _ a.1 b.1)

-- what is plain for one bound is for a greater one
pub looser : (m n : ℕ) (value : Data) → m ≤ n → IsPlain m value → IsPlain n value
looser m n value more plain = (omega (arith, more, plain.0), plain.1)

row_within : (row : List Mersenne31) → IsPlain 1 (row_written row)
row_within row =
    let a = items_within (λ (x : Mersenne31). count_written (residue x)) 0
    (λ x. (omega arith, refl)) row in
    (omega (arith, a.0), a.1)

-- the object of rows is plain
pub rows_within : (rows : List (List Mersenne31)) → IsPlain 127 (rows_written rows)
rows_within rows =
    let a = items_within row_written 1 row_within rows in
    (omega (arith, a.0), neither _ _ a.1 refl)

-- and that of commitments
pub commitments_within : (roots : List (List ℕ)) → IsPlain 127 (commitments_written roots)
commitments_within roots =
    let a = items_within digest_written 0 (λ root. (omega arith, refl)) roots in
    (omega (arith, a.0), neither _ _ a.1 refl)

-- the line of what a value is written as is one of the value
pub written_line : {T : Type 0} (form : Form T) (x : T) (value : Data) (line : List ℕ) →
    value ≡ form.written x → form.reads value x → IsJsonLine value line → IsLineOf form x line
written_line form x value line same reads is =
    record {
      written = subst (λ (d : Data). IsJsonLine d line) same is;
      reads = subst (λ (d : Data). form.reads d x) same reads;
    }
