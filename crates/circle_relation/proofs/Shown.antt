-- What a scheme is to show, over lists that are the same.
use Rattle.std.proofs.Common.{◌≡◌, ℕ, ◌-◌, ◌/◌, ◌^◌, List, map, ap, subst, ◌∙◌}
use Rattle.circle_commit.specs.declared.matrix.Dimensions.{Dimensions}
use Rattle.circle_relation.specs.Accepts.{Authenticates}

-- what is shown of lists is shown of those that are the same
pub moved : {C T P : Type 0} (A : Authenticates C T P) (commitment : C) (proof : P)
    (d e : List Dimensions) (i j : List ℕ) (o q : List (List (List T))) →
    d ≡ e → i ≡ j → o ≡ q → A commitment d i o proof → A commitment e j q proof
moved A commitment proof d e i j o q shapes places rows shown =
    subst (λ x. A commitment e j x proof) rows
    (subst (λ x. A commitment e x o proof) places
    (subst (λ x. A commitment x i o proof) shapes shown))

-- queries without as many bits
pub same-bits : (queries : List ℕ) (a b m n : ℕ) → a ≡ b → m ≡ n →
    map (λ q. q / 2 ^ (a - m)) queries ≡ map (λ q. q / 2 ^ (b - n)) queries
same-bits queries a b m n tops heights = ap (λ t. map (λ q. q / 2 ^ (t - m)) queries) tops
    ∙ ap (λ h. map (λ q. q / 2 ^ (b - h)) queries) heights
