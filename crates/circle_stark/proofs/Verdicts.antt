-- A run draws one alpha, one zeta and one state, so what is found of them settles the verdict.
use Rattle.std.specs.Prelude.{◌≡◌, ℕ, List, Bool, true, false, if◌then◌else◌, Ok, Err, Result}
use Rattle.std.specs.Prelude.{IfErr, IfOk, IsErrAnd, MatchResult}
use Rattle.std.proofs.Common.{◌∙◌, sym, ap, subst}
use Rattle.std.proofs.lemmas.Bool.{false≢true}
use Rattle.circle_air.specs.Degrees.{IsLogOfChunks, degree_of_parts}
use Rattle.circle_challenger.specs.Moves.{RunMoves}
use Rattle.circle_commit.specs.declared.error.FriError.{FriError}
use Rattle.circle_commit.specs.declared.error.FriError.TheVariants.{Memory as OutOfMemory}
use Rattle.circle_commit.specs.declared.params.FriParameters.{FriParameters}
use Rattle.circle_quotient.specs.Fit.{IsFit}
use Rattle.circle_domain.specs.Selectors.{next_from}
use Rattle.circle_point.specs.Projective.{to_line}
use Rattle.circle_relation.specs.Accepts.{AcceptsFrom, Authenticates, Fields}
use Rattle.circle_relation.specs.Statement.{BatchClaim}
use Rattle.circle_relation.specs.Taken.{drawn_by}
use Rattle.circle_stark.specs.Claims.{claims_at}
use Rattle.circle_relation.specs.TestsInOrder.{answer}
use Rattle.circle_relation.proofs.Passed.{front_passes}
use Rattle.circle_stark.proofs.Passing.{passed-values, same-log, tested}
use Rattle.circle_stark.specs.Refusals.{stark_tests, statement_tests, value_tests}
use Rattle.circle_stark.specs.Accepts.{HasIdentity, OpensAt, StarkAccepts}
use Rattle.circle_stark.specs.Draw.{AreDrawn, Described, after_challenge, after_statement}
use Rattle.circle_stark.specs.Draw.{challenge_after}
use Rattle.circle_stark.specs.Statement.{Proved, Statement}
use Rattle.circle_stark.specs.Verdict.{IsRefusedFor, refusal_of}
use Rattle.circle_stark.specs.declared.error.StarkError.{StarkError}
use Rattle.circle_stark.specs.declared.error.StarkError.TheVariants.{InvalidOpening, Memory}
use Rattle.p3_circle.specs.Scheme.{IsFirstFrom, says_memory}

-- a run that draws alpha, pauses between, and draws zeta
pub drawn-in-turn : {C S F E Com : Type 0} (r : RunMoves C S F E Com) (d : Described F)
    (trace quotient : Com) (old : S) (alpha zeta : E) (between new : S) →
    r.base.coefficients alpha ≡ challenge_after r (after_statement r d old) trace →
    between ≡ after_challenge r (after_statement r d old) trace →
    r.base.coefficients zeta ≡ challenge_after r between quotient →
    new ≡ after_challenge r between quotient → AreDrawn r d trace quotient old alpha zeta new
drawn-in-turn r d trace quotient old alpha zeta between new draws left ends leaves = record {
  draws_alpha = draws;
  draws_zeta = ends ∙ ap (λ s. challenge_after r s quotient) left;
  leaves = leaves ∙ ap (λ s. after_challenge r s quotient) left;
}

module _ {C S F E Com : Type 0} (r : RunMoves C S F E Com)
    (determined : (a b : E) → r.base.coefficients a ≡ r.base.coefficients b → a ≡ b)
    (d : Described F) (trace quotient : Com) (old : S) (a b z y : E) (s t : S)
    (one : AreDrawn r d trace quotient old a z s) (other : AreDrawn r d trace quotient old b y t)
  where
    pub same-alpha : a ≡ b
    same-alpha = determined a b (one.draws_alpha ∙ sym other.draws_alpha)

    pub same-zeta : z ≡ y
    same-zeta = determined z y (one.draws_zeta ∙ sym other.draws_zeta)

    pub same-state : s ≡ t
    same-state = one.leaves ∙ sym other.leaves

module _ {C S F E M IC WC IP WP : Type 0} (k : Fields F E) (params : FriParameters M)
    (own : RunMoves C S F E IC) (r : RunMoves C S F E WC) (inputs : Authenticates IC F IP)
    (words : Authenticates WC E WP)
    (determined : (a b : E) → own.base.coefficients a ≡ own.base.coefficients b → a ≡ b)
    (d : Described F) (s : Statement F) (p : Proved F E IC WC IP WP) (old : S) (alpha zeta : E)
    (between : S) (drawn : AreDrawn own d p.trace p.quotient old alpha zeta between) (t : S)
    (a : StarkAccepts k params own r inputs words d s p old t) where
  alphas : a.alpha ≡ alpha
  alphas =
      same-alpha own determined d p.trace p.quotient old a.alpha alpha a.zeta zeta a.between between
      a.drawn drawn

  zetas : a.zeta ≡ zeta
  zetas =
      same-zeta own determined d p.trace p.quotient old a.alpha alpha a.zeta zeta a.between between
      a.drawn drawn

  states : a.between ≡ between
  states =
      same-state own determined d p.trace p.quotient old a.alpha alpha a.zeta zeta a.between between
      a.drawn drawn

  -- what is accepted is so of what was drawn
  pub accepted-fit : IsFit k.extension k.embed k.gen s.log_n zeta
  accepted-fit = subst (IsFit k.extension k.embed k.gen s.log_n) zetas a.fit

  pub accepted-opens : OpensAt k params r inputs words s p zeta between t
  accepted-opens =
      subst (λ z. OpensAt k params r inputs words s p z between t) zetas
      (subst (λ b. OpensAt k params r inputs words s p a.zeta b t) states a.opens)

  abbrev Identity : ℕ → E → E → Type 0
  Identity j x z =
      HasIdentity k.field k.gen k.extension k.embed s own.base.coefficients own.base.degree j
      p.opened x z

  pub accepted-identity : (log_chunks : ℕ) → IsLogOfChunks (degree_of_parts s.parts) log_chunks →
      Identity log_chunks alpha zeta
  accepted-identity log_chunks least =
      subst (λ j. Identity j alpha zeta)
      (same-log (degree_of_parts s.parts) a.log_chunks log_chunks a.provable.domains.chunks least)
      (subst (λ x. Identity a.log_chunks x zeta) alphas
      (subst (λ z. Identity a.log_chunks a.alpha z) zetas a.identity))

  -- and so is the state that is left
  pub accepted-state : (u : S) → StarkAccepts k params own r inputs words d s p old u → u ≡ t
  accepted-state u b =
      let one = accepted-opens in
      let other = subst (λ z. OpensAt k params r inputs words s p z between u)
      (same-zeta own determined d p.trace p.quotient old b.alpha alpha b.zeta zeta b.between between
      b.drawn drawn)
      (subst (λ v. OpensAt k params r inputs words s p b.zeta v u)
      (same-state own determined d p.trace p.quotient old b.alpha alpha b.zeta zeta b.between
      between b.drawn drawn) b.opens) in
      let both : Ok (drawn_by r.base.coefficients other.drawn u)
      ≡ Ok (drawn_by r.base.coefficients one.drawn t) = sym other.draws ∙ one.draws in
      let same : drawn_by r.base.coefficients other.drawn u
      ≡ drawn_by r.base.coefficients one.drawn t = cc in
      ap (λ x. x.state) same

pub refused-by : {A : Type 0} (P : A → Type 0) (b : Bool) (x y : A) → P x → P y →
    P (if b then x else y)
refused-by P true x y p q = p
refused-by P false x y p q = q

-- what holds of want of memory, and of the scheme's refusal, holds of what is returned
pub refused-for : {W I : Type 0} (P : StarkError (FriError W I) → Type 0) (e : FriError W I) →
    P Memory → P (InvalidOpening e) → P (refusal_of e)
refused-for P e p q = refused-by P (says_memory e) Memory (InvalidOpening e) p q

-- a refusal of memory is returned as one
pub memory-for : {W I : Type 0} (e : FriError W I) → e ≡ OutOfMemory → refusal_of e ≡ Memory
memory-for e is = ap refusal_of is

-- claims in the words of the scheme, and those of the proof
module _ {F E IC WC IP WP : Type 0} (k : Fields F E) (s : Statement F) (p : Proved F E IC WC IP WP)
    (zeta next : E)
    (follows : next ≡ to_line k.extension (next_from k.extension k.embed k.gen s.log_n zeta))
    (batches : List (BatchClaim IC E)) (claimed : batches ≡ claims_at s.log_n p zeta next) where
  pub claims-follow : batches
      ≡ claims_at s.log_n p zeta
      (to_line k.extension (next_from k.extension k.embed k.gen s.log_n zeta))
  claims-follow = claimed ∙ ap (claims_at s.log_n p zeta) follows

  module _ {C S M : Type 0} (params : FriParameters M) (r : RunMoves C S F E WC)
      (inputs : Authenticates IC F IP) (words : Authenticates WC E WP) (old new : S) where
    pub opens-of : AcceptsFrom k params r inputs words batches p.opening old new →
        OpensAt k params r inputs words s p zeta old new
    opens-of accepts =
        subst (λ bs. AcceptsFrom k params r inputs words bs p.opening old new) claims-follow accepts

    pub accepts-of : OpensAt k params r inputs words s p zeta old new →
        AcceptsFrom k params r inputs words batches p.opening old new
    accepts-of opens =
        subst (λ bs. AcceptsFrom k params r inputs words bs p.opening old new)
        (sym claims-follow) opens

-- what is accepted passes the tests
pub accepted-passes : {Opening C S F E M IC WC IP WP : Type 0} (k : Fields F E)
    (params : FriParameters M) (own : RunMoves C S F E IC) (r : RunMoves C S F E WC)
    (inputs : Authenticates IC F IP) (words : Authenticates WC E WP) (d : Described F)
    (s : Statement F) (p : Proved F E IC WC IP WP) (old t : S)
    (a : StarkAccepts k params own r inputs words d s p old t) →
    answer (stark_tests {Opening = Opening} k.two_adicity params a.log_chunks own.base.degree s
    p.opened) (tt {0})
    ≡ Ok (tt {0})
accepted-passes k params own r inputs words d s p old t a =
    front_passes (statement_tests k.two_adicity params a.log_chunks s)
    (value_tests a.log_chunks own.base.degree s.parts.width p.opened) (tt {0}) (tt {0}) (tt {0})
    (tested k.two_adicity params a.log_chunks s a.provable)
    ∙ passed-values a.log_chunks own.base.degree s.parts.width p.opened a.shape

-- where the tests pass, the reason is one that a seeded run has
pub refused-each : (C S F E M IC WC IP WP Error : Type 0) (k : Fields F E)
    (params : FriParameters M) (own : RunMoves C S F E IC) (r : RunMoves C S F E WC)
    (inputs : Authenticates IC F IP) (words : Authenticates WC E WP)
    (refuses : List (BatchClaim IC E) → S → S → Error → Type 0) (d : Described F) (s : Statement F)
    (p : Proved F E IC WC IP WP) (old new : S) (two_adicity degree j : ℕ) (e : StarkError Error) →
    IsLogOfChunks (degree_of_parts s.parts) j →
    ((i : ℕ) → IsLogOfChunks (degree_of_parts s.parts) i →
    answer (stark_tests {Opening = Error} two_adicity params i degree s p.opened) (tt {0})
    ≡ Ok (tt {0})) →
    IsRefusedFor k params own r inputs words refuses d s p j old new e → (i : ℕ) →
    IsLogOfChunks (degree_of_parts s.parts) i →
    IsFirstFrom (stark_tests two_adicity params i degree s p.opened)
    (IsRefusedFor k params own r inputs words refuses d s p i old new) old new e
refused-each C S F E M IC WC IP WP Error k params own r inputs words refuses d s p old new
    two_adicity degree j e least passed holds i is =
    subst
    (λ a. MatchResult a
    (λ ok. IsRefusedFor k params own r inputs words refuses d s p i old new e)
    (λ first. (e ≡ first) × (new ≡ old))) (sym (passed i is))
    (subst (λ m. IsRefusedFor k params own r inputs words refuses d s p m old new e)
    (same-log (degree_of_parts s.parts) j i least is) holds)

is-ok : {A X : Type 0} → Result A X → Bool
is-ok (Ok v) = true
is-ok (Err e) = false

pub ok-err : {A X : Type 0} (r : Result A X) (v : A) (e : X) → r ≡ Ok v → r ≡ Err e → ⊥
unfolding is-ok
ok-err r v e ok err = false≢true (sym (ap is-ok err) ∙ ap is-ok ok)

-- a refusal that is handed on
pub refuses-with : {A Err : Type 0} (P : Err → Type 0) (r : Result A Err) (e : Err) →
    IsErrAnd r (λ y. y ≡ e) → P e → IfErr r P
refuses-with P (Ok x) e same here = absurd same
refuses-with P (Err y) e same here = subst P (sym same) here

-- nothing is said of the value of a refusal
pub refused-ok : {A Err : Type 0} (P : A → Type 0) (r : Result A Err) (e : Err) →
    IsErrAnd r (λ y. y ≡ e) → IfOk r P
refused-ok P (Ok x) e same = absurd same
refused-ok P (Err y) e same = tt
