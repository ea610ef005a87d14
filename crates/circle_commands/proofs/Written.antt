-- What a writer holds after a front of some bytes, and after more of them.
use Rattle.std.proofs.Common.{◌≡◌, ◌≤◌, ℕ, ◌+◌, ◌-◌, List, length, take, drop, Option, arith}
use Rattle.std.proofs.Common.{subst, sym}
use Rattle.std.proofs.KnownBytes.{Appends-kept, Appends-trans}
use Rattle.std.proofs.Math.Seq.{take-add}
use Rattle.std.proofs.lemmas.List.{length-drop, take_rest}
use Rattle.std.specs.Io.KnownBytes.{Appends, Keeps}

module _ (old new : Option (List ℕ)) (bytes : List ℕ) where
  -- the writer holds the first n of the bytes
  abbrev pub HasFront : ℕ → Type 0
  HasFront n = (n ≤ length bytes) × Appends old new (take n bytes)

module _ (old mid new : Option (List ℕ)) (bytes : List ℕ) (n : ℕ) (front : HasFront old mid
    bytes n) where
  -- the next m of them come after these
  pub front-more : (m : ℕ) → let rest = take (length bytes - n) (drop n bytes) in
      m ≤ length rest → Appends mid new (take m rest) → HasFront old new bytes (n + m)
  front-more m short more =
      let rest = take_rest bytes n in
      let fits : m ≤ length (drop n bytes) = subst (λ (l : List ℕ). m ≤ length l) rest short in (
        omega (arith, length-drop n bytes, fits, front.0),
        subst (λ (l : List ℕ). Appends old new l) (sym (take-add n m bytes))
            (Appends-trans old mid new (take n bytes) (take m (drop n bytes)) front.1
            (subst (λ (l : List ℕ). Appends mid new (take m l)) rest more)),
      )

  -- a write that fails keeps them
  pub front-kept : Keeps mid new → HasFront old new bytes n
  front-kept kept = (front.0, Appends-kept old mid new (take n bytes) front.1 kept)
