-- Lists that are read item by item.
use Rattle.std.proofs.Common.{◌≡◌, ℕ, ◌+◌, ◌<◌, List, [], ◌∷◌, ◌++◌, length, map, take, flat_map}
use Rattle.std.proofs.Common.{get_or, All, refl, sym, ap, subst, ◌∙◌, arith}
use Rattle.std.proofs.lemmas.List.{take_more, map-append, length-map, get_or-map}
use Rattle.std.proofs.lemmas.Option.{slice_get_read}
use Rattle.circle_relation.proofs.Contradictions.{All-part}

-- what the items so far become, and one more
pub map-read : {A B : Type 0} (f : A → B) (xs : List A) (i : ℕ) (x : A) → i < length xs →
    x ≡ get_or xs i x → map f (take (i + 1) xs) ≡ map f (take i xs) ++ f x ∷ []
map-read f xs i x within is =
    ap (map f) (take_more xs i x within ∙ ap (λ v. take i xs ++ v ∷ []) (sym is))
    ∙ map-append f (take i xs) (x ∷ [])

-- lists of lists: one more that is what its item becomes
pub pushed-more : {A B C D : Type 0} (f : C → D) (g : A → C) (h : B → D) (xs : List A) (i : ℕ)
    (x : A) (old new : List B) (w : B) →
    i < length xs → x ≡ get_or xs i x → new ≡ old ++ w ∷ [] → h w ≡ f (g x) →
    map h old ≡ map f (map g (take i xs)) → map h new ≡ map f (map g (take (i + 1) xs))
pushed-more f g h xs i x old new w within is pushed made so_far =
    ap (map h) pushed ∙ map-append h old (w ∷ []) ∙ ap (λ l. l ++ h w ∷ []) so_far
    ∙ ap (λ v. map f (map g (take i xs)) ++ v ∷ []) made
    ∙ sym (ap (map f) (map-read g xs i x within is) ∙ map-append f (map g (take i xs)) (g x ∷ []))

-- what holds of what all items become holds of what one becomes
pub All-read : {A B : Type 0} (P : B → Type 0) (f : A → B) (xs : List A) (i : ℕ) (x : A) →
    All P (map f xs) → i < length xs → x ≡ get_or xs i x → P (f x)
All-read P f xs i x all within is =
    subst P (get_or-map f xs i x (f x) within ∙ ap f (sym is))
    (all i (f x) (omega (arith, within, length-map xs f)))

-- and what holds of the entries of all lists those of one
pub All-read-part : {A B C : Type 0} (P : C → Type 0) (h : B → List C) (f : A → B) (xs : List A)
    (i : ℕ) (x : A) →
    All P (flat_map h (map f xs)) → i < length xs → x ≡ get_or xs i x → All P (h (f x))
All-read-part P h f xs i x all within is =
    All-part P h (map f xs) i (f x) all
    (slice_get_read (map f xs) (length (map f xs)) i (f x) refl
    (omega (arith, within, length-map xs f)) (ap f is ∙ sym (get_or-map f xs i x (f x) within)))
