-- The form of a value of one of several kinds as an object of one member.
use Rattle.std.specs.Prelude.{◌≡◌, ℕ, ◌⊎◌, List, [], ◌∷◌, Option, Some, None}
use Rattle.std.specs.Prelude.{Bool, true, false, not, ◌&&◌, ◌||◌}
use Rattle.std.proofs.Common.{◌∙◌, ap, sym, subst, ⊎_elim, refl, arith}
use Rattle.circle_json.specs.declared.error.JsonError.{JsonError}
use Rattle.circle_json.specs.declared.error.JsonError.TheVariants.{Memory}
use Rattle.circle_json.specs.Choices.{Choices, no_choice, choice, choice_keys, choice_written}
use Rattle.circle_json.specs.Choices.{are_distinct, is_among, is_text, OfKind, part_written}
use Rattle.circle_json.specs.Choices.{ReadsChoice, ReadsMember, RefusesChoice, RefusesMember}
use Rattle.circle_json.specs.Choices.{IsOfNoMember, RefusesOnly, SameChoice, SamePart}
use Rattle.circle_json.specs.Form.{Form}
use Rattle.serde_json.specs.Data.{Data, null, boolean, number, string, array, object, Members}
use Rattle.serde_json.specs.Data.{no_members, member}

same_text : (xs : List ℕ) → is_text xs xs ≡ true
same_text [] = refl
same_text (x ∷ xs) = let rest = same_text xs in grind arith

neither : (a b : Bool) → (a || b) ≡ false → (a ≡ false) × (b ≡ false)
neither true b h = absurd (cc)
neither false b h = (refl, h)

first_apart : (a b : Bool) → (not a && b) ≡ true → (a ≡ false) × (b ≡ true)
first_apart true b h = absurd (cc)
first_apart false b h = (refl, h)

-- texts that differ aren't equal
pub another : (key other : List ℕ) → is_text key other ≡ false → key ≡ other → ⊥
another key other differs e =
    let same : is_text key other ≡ true =
    subst (λ (k : List ℕ). is_text key k ≡ true) e (same_text key) in
    absurd (cc)

-- what follows of a value of this kind, and of one of another kind
by_kind : {Part Goal : Type 0} (part : Option Part) (Rest : Type 0) (Is : Part → Type 0) →
    OfKind part Rest Is → (Rest → Goal) → ((p : Part) → Is p → Goal) → Goal
by_kind None Rest Is h rest here = rest h
by_kind (Some p) Rest Is h rest here = here p h

module _ {Part : Type 0} (form : Form Part) where
  same_kind : (p q : Option Part) (key of : List ℕ) (d : Data) (X Y Same : Type 0) →
      OfKind p X (λ x. (key ≡ of) × form.reads d x) →
      OfKind q Y (λ y. (key ≡ of) × form.reads d y) →
      (X → Y → Same) → (X → key ≡ of → ⊥) → (Y → key ≡ of → ⊥) → SamePart form.same p q Same
  same_kind None None key of d X Y Same a b rest apart_x apart_y = rest a b
  same_kind None (Some q) key of d X Y Same a b rest apart_x apart_y = absurd (apart_x a b.0)
  same_kind (Some p) None key of d X Y Same a b rest apart_x apart_y = absurd (apart_y b a.0)
  same_kind (Some p) (Some q) key of d X Y Same a b rest apart_x apart_y =
      form.reads_one d p q a.1 b.1

  kind_alike : (p q : Option Part) (of : List ℕ) (Same : Type 0) (v w : Data) →
      SamePart form.same p q Same → (Same → v ≡ w) → part_written of form.written p v
      ≡ part_written of form.written q w
  kind_alike None None of Same v w same rest = rest same
  kind_alike None (Some q) of Same v w same rest = absurd same
  kind_alike (Some p) None of Same v w same rest = absurd same
  kind_alike (Some p) (Some q) of Same v w same rest =
      ap (λ d. object (member of d no_members)) (form.writes_same p q same)

module _ {T : Type 0} where
  -- what is read has none of the other keys
  read_apart : (choices : Choices T) (key : List ℕ) (d : Data) (x : T) (of : List ℕ) →
      ReadsMember choices key d x → is_among of (choice_keys choices) ≡ false → key ≡ of → ⊥
  read_apart no_choice key d x of read none e = read
  read_apart (choice k part form others) key d x of read none e =
      let apart = neither (is_text of k) (is_among of (choice_keys others)) none in
      by_kind (part x) (ReadsMember others key d x) (λ p. (key ≡ k) × form.reads d p) read
      (λ rest. read_apart others key d x of rest apart.1 e)
      (λ p here. another of k apart.0 (sym e ∙ here.0))

  member_read_one : (choices : Choices T) (key : List ℕ) (d : Data) (x y : T) →
      are_distinct (choice_keys choices) ≡ true → ReadsMember choices key d x →
      ReadsMember choices key d y → SameChoice choices x y
  member_read_one no_choice key d x y distinct p q = p
  member_read_one (choice k part form others) key d x y distinct p q =
      let apart = first_apart (is_among k (choice_keys others)) _ distinct in
      same_kind form (part x) (part y) key k d (ReadsMember others key d x)
      (ReadsMember others key d y) (SameChoice others x y) p q
      (λ a b. member_read_one others key d x y apart.1 a b)
      (λ a e. read_apart others key d x k a apart.0 e)
      (λ b e. read_apart others key d y k b apart.0 e)

  pub choices_alike : (choices : Choices T) (x y : T) → SameChoice choices x y →
      choice_written choices x ≡ choice_written choices y
  choices_alike no_choice x y same = absurd same
  choices_alike (choice k part form others) x y same =
      kind_alike form (part x) (part y) k (SameChoice others x y) (choice_written others x)
      (choice_written others y) same (λ rest. choices_alike others x y rest)

  member_refuses_others : (choices : Choices T) (key : List ℕ) (d : Data) (x : T)
      (error : JsonError) → are_distinct (choice_keys choices) ≡ true →
      ReadsMember choices key d x → RefusesMember choices key d error → error ≡ Memory
  member_refuses_others no_choice key d x error distinct read refused = absurd read
  member_refuses_others (choice k part form others) key d x error distinct read refused =
      let apart = first_apart (is_among k (choice_keys others)) _ distinct in
      by_kind (part x) (ReadsMember others key d x) (λ p. (key ≡ k) × form.reads d p) read
      (λ rest. ⊎_elim (λ here. absurd (read_apart others key d x k rest apart.0 here.0))
      (λ other. member_refuses_others others key d x error apart.1 rest other.1) refused)
      (λ p here. ⊎_elim (λ one. form.refuses_others d p error here.1 one.1)
      (λ other. absurd (other.0 here.0)) refused)

  module _ (choices : Choices T) (distinct : are_distinct (choice_keys choices) ≡ true) where
    pub choice_reads_one : (value : Data) (x y : T) → ReadsChoice choices value x →
        ReadsChoice choices value y → SameChoice choices x y
    choice_reads_one null x y p q = absurd p
    choice_reads_one (boolean _) x y p q = absurd p
    choice_reads_one (number _) x y p q = absurd p
    choice_reads_one (string _) x y p q = absurd p
    choice_reads_one (array _) x y p q = absurd p
    choice_reads_one (object no_members) x y p q = absurd p
    choice_reads_one (object (member key d no_members)) x y p q =
        member_read_one choices key d x y distinct p q
    choice_reads_one (object (member key d (member l e ms))) x y p q = absurd p

    pub no_member_refuses_none : (value : Data) (x : T) (error : JsonError) →
        ReadsChoice choices value x → IsOfNoMember value error → ⊥
    no_member_refuses_none null x error p r = p
    no_member_refuses_none (boolean _) x error p r = p
    no_member_refuses_none (number _) x error p r = p
    no_member_refuses_none (string _) x error p r = p
    no_member_refuses_none (array _) x error p r = p
    no_member_refuses_none (object no_members) x error p r = p
    no_member_refuses_none (object (member key d no_members)) x error p r = r
    no_member_refuses_none (object (member key d (member l e ms))) x error p r = p

    pub only_refuses_others : (value : Data) (x : T) (error : JsonError) →
        ReadsChoice choices value x → RefusesOnly choices value error → error ≡ Memory
    only_refuses_others null x error p r = absurd p
    only_refuses_others (boolean _) x error p r = absurd p
    only_refuses_others (number _) x error p r = absurd p
    only_refuses_others (string _) x error p r = absurd p
    only_refuses_others (array _) x error p r = absurd p
    only_refuses_others (object no_members) x error p r = absurd p
    only_refuses_others (object (member key d no_members)) x error p r =
        member_refuses_others choices key d x error distinct p r
    only_refuses_others (object (member key d (member l e ms))) x error p r = absurd p

  -- an object of one member, whose key is one of the kinds' keys and whose value is the part's form
  abbrev pub choice_form : (choices : Choices T) → are_distinct (choice_keys choices) ≡ true →
      Form T
  choice_form choices distinct = record {
    same = SameChoice choices;
    written = choice_written choices;
    reads = ReadsChoice choices;
    refuses = RefusesChoice choices;
    reads_one = choice_reads_one choices distinct;
    writes_same = choices_alike choices;
    refuses_others = λ value x error p r. ⊎_elim (λ memory. memory)
        (λ h. ⊎_elim (λ o. absurd (no_member_refuses_none choices distinct value x error p o))
        (λ o. only_refuses_others choices distinct value x error p o) h) r;
  }
