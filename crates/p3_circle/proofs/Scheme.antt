-- What is refused by the scheme, as the traits of schemes say it.
use Rattle.std.specs.Prelude.{◌≡◌, Result, Ok, Err, IfErr, IfOk, IsTrue, MatchResult}
use Rattle.std.proofs.Common.{sym, subst, refl}
use Rattle.circle_commit.specs.declared.error.FriError.{FriError}
use Rattle.circle_commit.specs.declared.error.FriError.TheVariants.{Memory}
use Rattle.circle_relation.specs.declared.error.ProverError.{ProverError}
use Rattle.circle_relation.specs.declared.error.ProverError.TheVariants.{Memory as OutOfMemory}
use Rattle.circle_relation.specs.declared.error.ProverError.TheVariants.{NoGrindingWitness}
use Rattle.circle_relation.specs.declared.error.ProverError.TheVariants.{UnfitParameters}
use Rattle.circle_relation.specs.declared.error.ProverError.TheVariants.{HeightTooLarge}
use Rattle.circle_relation.specs.declared.error.ProverError.TheVariants.{HeightTooSmall, NotGenuine}
use Rattle.circle_relation.specs.declared.error.ProverError.TheVariants.{MatrixCountMismatch}
use Rattle.circle_relation.specs.declared.error.ProverError.TheVariants.{NoCommittedMatrices}
use Rattle.circle_relation.specs.declared.error.ProverError.TheVariants.{PointAtInfinity}
use Rattle.circle_relation.specs.declared.error.ProverError.TheVariants.{PointOnDomain}
use Rattle.circle_relation.specs.declared.error.ProverError.TheVariants.{LastWordNotConstant}
use Rattle.circle_relation.specs.declared.error.ProverError.TheVariants.{DomainSmallerThanTrace}
use Rattle.p3_circle.specs.Scheme.{says_memory, says_prover_memory}

-- a refusal that is the first, or else of memory
pub first-of : {A : Type 0} (a : Result (Unit {0}) ProverError) (r : Result A ProverError)
    (Q : ProverError → Type 0) →
    MatchResult a (λ passed. IfErr r Q) (λ first. r ≡ Err first) →
    IfErr r (λ e. MatchResult a (λ passed. Q e) (λ first. e ≡ first))
first-of (Ok u) (Ok x) Q h = tt
first-of (Ok u) (Err e) Q h = h
first-of (Err f) (Ok x) Q h = tt
first-of (Err f) (Err e) Q h = cc

-- a refusal of what is accepted is of memory
pub memory-said : {A WE I S : Type 0} (r : Result A (FriError WE I)) (P : S → Type 0) →
    IfErr r (λ e. (left : S) → P left → e ≡ Memory) →
    IfErr r (λ e. (left : S) → P left → IsTrue (says_memory e))
memory-said (Ok x) P h = tt
memory-said (Err e) P h = λ left p. subst (λ e. IsTrue (says_memory e)) (sym (h left p)) refl

-- what holds of a result by two facts of it
pub if_both : {A E : Type 0} (r : Result A E) (P Q R : A → Type 0) → ((x : A) → P x → Q x → R x) →
    IfOk r P → IfOk r Q → IfOk r R
if_both (Ok x) P Q R f p q = f x p q
if_both (Err e) P Q R f p q = tt

-- a prover's refusal that says so is of memory
pub prover-memory : (e : ProverError) → IsTrue (says_prover_memory e) → e ≡ OutOfMemory
prover-memory OutOfMemory said = refl
prover-memory (NoGrindingWitness phase) said = absurd (cc)
prover-memory UnfitParameters said = absurd (cc)
prover-memory HeightTooLarge said = absurd (cc)
prover-memory HeightTooSmall said = absurd (cc)
prover-memory NotGenuine said = absurd (cc)
prover-memory MatrixCountMismatch said = absurd (cc)
prover-memory NoCommittedMatrices said = absurd (cc)
prover-memory PointAtInfinity said = absurd (cc)
prover-memory PointOnDomain said = absurd (cc)
prover-memory LastWordNotConstant said = absurd (cc)
prover-memory DomainSmallerThanTrace said = absurd (cc)
