-- A seed text can be read in one way only.
use Rattle.std.proofs.Common.{◌≡◌, ℕ, suc, ◌<◌, ◌^◌, List, [], ◌∷◌, ◌++◌, length, refl, sym, ap}
use Rattle.std.proofs.Common.{◌∙◌, arith, append_assoc, flat_map}
use Rattle.std.specs.List.{AllByRecursion}
use Rattle.std.proofs.lemmas.List.Elements.{recursion_from_All}
use Rattle.std.proofs.lemmas.Nat.{from_be_bytes-to_be_bytes_8}
use Rattle.std.specs.Int.{w64, from_be_bytes}
use Rattle.circle_challenger.specs.declared.interaction.Hierarchy.{Hierarchy}
use Rattle.circle_challenger.specs.declared.interaction.Hierarchy.TheVariants.{Atomic}
use Rattle.circle_challenger.specs.declared.interaction.Kind.{Kind}
use Rattle.circle_challenger.specs.declared.interaction.Kind.TheVariants.{Message, Challenge, Pow}
use Rattle.circle_challenger.specs.declared.interaction.ValueType.{ValueType}
use Rattle.circle_challenger.specs.declared.interaction.ValueType.TheVariants.{Algebra, Opaque}
use Rattle.circle_challenger.specs.declared.interaction.ValueType.TheVariants.{Bits}
use Rattle.circle_challenger.specs.declared.interaction.Length.{Length}
use Rattle.circle_challenger.specs.declared.interaction.Length.TheVariants.{Scalar, Fixed}
use Rattle.circle_challenger.specs.Step.{Step, step, hierarchy_byte, kind_byte, type_byte}
use Rattle.circle_challenger.specs.Step.{parameter_of, form_byte, value_count, be64, counted}
use Rattle.circle_challenger.specs.Step.{step_text, IsWritableStep}
use Rattle.circle_challenger.specs.Separator.{Separator, separator, steps_text, labels_text}
use Rattle.circle_challenger.specs.Separator.{seed_text, IsWritable}

-- lists that agree agree in fronts of one length, and in the rests
same_front : (a b x y : List ℕ) → length a ≡ length b → a ++ x ≡ b ++ y → (a ≡ b) × (x ≡ y)
same_front [] [] x y count same = (refl, same)
same_front [] (v ∷ b) x y count same = absurd (omega arith)
same_front (u ∷ a) [] x y count same = absurd (omega arith)
same_front (u ∷ a) (v ∷ b) x y count same =
    let head : u ≡ v = cc in
    let tail : a ++ x ≡ b ++ y = cc in
    let rest = same_front a b x y (omega arith) tail in
    (ap (λ w. w ∷ a) head ∙ ap (λ c. v ∷ c) rest.0, rest.1)

-- a number below 2^64 is told by its eight bytes
pub same_number : (m n : ℕ) → m < 2 ^ 64 → n < 2 ^ 64 → be64 m ≡ be64 n → m ≡ n
unfolding be64
same_number m n p q same =
    sym (from_be_bytes-to_be_bytes_8 m p) ∙ ap (from_be_bytes w64) same
    ∙ from_be_bytes-to_be_bytes_8 n q

length-be64 : (n : ℕ) → length (be64 n) ≡ 8
unfolding be64
length-be64 n = refl

pub number_front : (m n : ℕ) (x y : List ℕ) → m < 2 ^ 64 → n < 2 ^ 64 → be64 m ++ x ≡ be64 n ++ y →
    (m ≡ n) × (x ≡ y)
number_front m n x y p q same =
    let parts = same_front (be64 m) (be64 n) x y (length-be64 m ∙ sym (length-be64 n)) same in
    (same_number m n p q parts.0, parts.1)

-- bytes after their number
counted_front : (a b x y : List ℕ) → length a < 2 ^ 64 → length b < 2 ^ 64 →
    counted a ++ x ≡ counted b ++ y → (a ≡ b) × (x ≡ y)
counted_front a b x y p q same =
    let regrouped = sym (append_assoc (be64 (length a)) a x) ∙ same
    ∙ append_assoc (be64 (length b)) b y in
    let parts = number_front (length a) (length b) (a ++ x) (b ++ y) p q regrouped in
    same_front a b x y parts.0 parts.1

-- choices are told by their bytes
same_hierarchy : (g h : Hierarchy) → g ≡ h
same_hierarchy Atomic Atomic = refl

same_kind : (j k : Kind) → kind_byte j ≡ kind_byte k → j ≡ k
same_kind Message Message h = refl
same_kind Message Challenge h = absurd (omega arith)
same_kind Message Pow h = absurd (omega arith)
same_kind Challenge Message h = absurd (omega arith)
same_kind Challenge Challenge h = refl
same_kind Challenge Pow h = absurd (omega arith)
same_kind Pow Message h = absurd (omega arith)
same_kind Pow Challenge h = absurd (omega arith)
same_kind Pow Pow h = refl

same_type : (s t : ValueType) → type_byte s ≡ type_byte t → parameter_of s ≡ parameter_of t → s ≡ t
same_type (Algebra m) (Algebra n) h e = ap Algebra e
same_type (Algebra m) Opaque h e = absurd (omega arith)
same_type (Algebra m) (Bits n) h e = absurd (omega arith)
same_type Opaque (Algebra n) h e = absurd (omega arith)
same_type Opaque Opaque h e = refl
same_type Opaque (Bits n) h e = absurd (omega arith)
same_type (Bits m) (Algebra n) h e = absurd (omega arith)
same_type (Bits m) Opaque h e = absurd (omega arith)
same_type (Bits m) (Bits n) h e = ap Bits e

same_size : (s t : Length) → form_byte s ≡ form_byte t → value_count s ≡ value_count t → s ≡ t
same_size Scalar Scalar h e = refl
same_size Scalar (Fixed n) h e = absurd (omega arith)
same_size (Fixed m) Scalar h e = absurd (omega arith)
same_size (Fixed m) (Fixed n) h e = ap Fixed e

-- four parts of a list that agrees with another
three_and_rest : (a b c d e f : ℕ) (xs ys : List ℕ) → a ∷ b ∷ c ∷ xs ≡ d ∷ e ∷ f ∷ ys →
    (a ≡ d) × (b ≡ e) × (c ≡ f) × (xs ≡ ys)
three_and_rest a b c d e f xs ys same = (cc, cc, cc, cc)

one_and_rest : (a b : ℕ) (xs ys : List ℕ) → a ∷ xs ≡ b ∷ ys → (a ≡ b) × (xs ≡ ys)
one_and_rest a b xs ys same = (cc, cc)

-- the text of a step
step_front : (a b : Step) (x y : List ℕ) → IsWritableStep a → IsWritableStep b → step_text a ++ x
    ≡ step_text b ++ y → (a ≡ b) × (x ≡ y)
unfolding step_text
step_front a b x y p q same =
    let head : Step → List ℕ = λ s. hierarchy_byte s.hierarchy ∷ kind_byte s.kind
    ∷ type_byte s.value_type ∷ be64 (parameter_of s.value_type) in
    let last : Step → List ℕ = λ s. form_byte s.size ∷ be64 (value_count s.size) in
    let grouped : (s : Step) (z : List ℕ) →
    (head s ++ (counted s.label ++ last s)) ++ z ≡ head s ++
    (counted s.label ++ (last s ++ z)) =
    λ s z. append_assoc (head s) (counted s.label ++ last s) z
    ∙ ap (λ w. head s ++ w) (append_assoc (counted s.label) (last s) z) in
    let regrouped = sym (grouped a x) ∙ same ∙ grouped b y in
    let first =
    same_front (head a) (head b) _ _
    (ap (λ n. suc (suc (suc n))) (length-be64 (parameter_of a.value_type)
    ∙ sym (length-be64 (parameter_of b.value_type)))) regrouped in
    let bytes = three_and_rest _ _ _ _ _ _ _ _ first.0 in
    let second = counted_front a.label b.label (last a ++ x) (last b ++ y) p.label q.label
    first.1 in
    let third =
    same_front (last a) (last b) x y
    (ap suc (length-be64 (value_count a.size) ∙ sym (length-be64 (value_count b.size))))
    second.1 in
    let form = one_and_rest _ _ _ _ third.0 in
    let value_type =
    same_type a.value_type b.value_type bytes.2
    (same_number _ _ p.parameter q.parameter bytes.3) in
    let size = same_size a.size b.size form.0 (same_number _ _ p.count q.count form.1) in (
      ap (λ v. step v a.kind a.value_type a.label a.size) (same_hierarchy a.hierarchy b.hierarchy)
          ∙ ap (λ v. step b.hierarchy v a.value_type a.label a.size)
          (same_kind a.kind b.kind bytes.1)
          ∙ ap (λ v. step b.hierarchy b.kind v a.label a.size) value_type
          ∙ ap (λ v. step b.hierarchy b.kind b.value_type v a.size) second.0
          ∙ ap (λ v. step b.hierarchy b.kind b.value_type b.label v) size,
      third.1,
    )

-- texts one after another, of as many values
module _ {A : Type 0} (text : A → List ℕ) (Fits : A → Type 0) (front : (a b : A) (x y : List ℕ) →
    Fits a → Fits b → text a ++ x ≡ text b ++ y → (a ≡ b) × (x ≡ y)) where
  pub each_front : (ms ns : List A) (x y : List ℕ) → AllByRecursion Fits ms →
      AllByRecursion Fits ns → length ms ≡ length ns → flat_map text ms ++ x ≡ flat_map text ns
      ++ y → (ms ≡ ns) × (x ≡ y)
  each_front [] [] x y p q count same = (refl, same)
  each_front [] (b ∷ ns) x y p q count same = absurd (omega arith)
  each_front (a ∷ ms) [] x y p q count same = absurd (omega arith)
  each_front (a ∷ ms) (b ∷ ns) x y p q count same =
      let regrouped = sym (append_assoc (text a) (flat_map text ms) x) ∙ same
      ∙ append_assoc (text b) (flat_map text ns) y in
      let first = front a b (flat_map text ms ++ x) (flat_map text ns ++ y) p.0 q.0 regrouped in
      let rest = each_front ms ns x y p.1 q.1 (omega arith) first.1 in
      (ap (λ v. v ∷ ms) first.0 ∙ ap (λ v. b ∷ v) rest.0, rest.1)

module _ (a b : Separator) (p : IsWritable a) (q : IsWritable b) where
  -- the part that the protocol and the steps fix
  steps_front : (x y : List ℕ) → steps_text a.version a.name a.steps ++ x
      ≡ steps_text b.version b.name b.steps ++ y
      → (a.version ≡ b.version) × (a.name ≡ b.name) × (a.steps ≡ b.steps) × (x ≡ y)
  unfolding steps_text
  steps_front x y same =
      let grouped : (s : Separator) (z : List ℕ) →
      ((s.version ∷ counted s.name) ++ (be64 (length s.steps) ++ flat_map step_text s.steps)) ++
      z ≡ s.version ∷
      (counted s.name ++ (be64 (length s.steps) ++ (flat_map step_text s.steps ++ z))) =
      λ s z. append_assoc (s.version ∷ counted s.name)
      (be64 (length s.steps) ++ flat_map step_text s.steps) z
      ∙ ap (λ w. s.version ∷ (counted s.name ++ w))
      (append_assoc (be64 (length s.steps)) (flat_map step_text s.steps) z) in
      let regrouped = one_and_rest _ _ _ _ (sym (grouped a x) ∙ same ∙ grouped b y) in
      let names = counted_front a.name b.name _ _ p.name q.name regrouped.1 in
      let counts = number_front (length a.steps) (length b.steps) _ _ p.step_count q.step_count
      names.1 in
      let steps = each_front step_text IsWritableStep step_front a.steps b.steps x y
      (recursion_from_All _ a.steps p.each_step) (recursion_from_All _ b.steps q.each_step)
      counts.0 counts.1 in
      (regrouped.0, names.0, steps.0, steps.1)

  same_labels : labels_text a.labels ≡ labels_text b.labels → a.labels ≡ b.labels
  unfolding labels_text
  same_labels same =
      let counts = number_front (length a.labels) (length b.labels) _ _ p.label_count q.label_count
      same in
      let labels = each_front counted (λ l. length l < 2 ^ 64) (λ l m x y. counted_front l m x y)
      a.labels b.labels [] [] (recursion_from_All _ a.labels p.each_label)
      (recursion_from_All _ b.labels q.each_label) counts.0 (ap (λ w. w ++ []) counts.1) in
      labels.0

  -- separators of one seed text are one
  pub same_separator : seed_text a ≡ seed_text b → a ≡ b
  same_separator same =
      let parts = steps_front (labels_text a.labels) (labels_text b.labels) same in
      ap (λ v. separator v a.name a.steps a.labels) parts.0
      ∙ ap (λ v. separator b.version v a.steps a.labels) parts.1
      ∙ ap (λ v. separator b.version b.name v a.labels) parts.2
      ∙ ap (λ v. separator b.version b.name b.steps v) (same_labels parts.3)
