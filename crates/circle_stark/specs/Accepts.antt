-- When a verifier accepts a proof that rows of a trace satisfy constraints: the protocol of a
-- univariate STARK over the circle, as a relation between a statement, a proof, and what is drawn.
--
-- To trust an Ok takes four definitions: `StarkAccepts`, at the end of this page, whose parts stand
-- above it; `AreDrawn` of `Draw`, what the transcript draws; `AcceptsFrom` of `circle_relation`,
-- when the scheme accepts claimed openings; and `composition` of `circle_quotient`, the constraints
-- put together at a point.
use Rattle.std.specs.Prelude.{◌≡◌, ℕ, List}
use Rattle.circle_challenger.specs.Moves.{RunMoves}
use Rattle.circle_commit.specs.declared.params.FriParameters.{FriParameters}
use Rattle.circle_field.specs.Circle.{Coordinates}
use Rattle.circle_field.specs.Field.{FieldOps}
use Rattle.circle_point.specs.Basis.{vanishing}
use Rattle.circle_point.specs.Projective.{from_line, to_line}
use Rattle.circle_domain.specs.Selectors.{next_from}
use Rattle.circle_air.specs.Values.{Window}
use Rattle.circle_quotient.specs.Composition.{composition}
use Rattle.circle_quotient.specs.Fit.{IsFit}
use Rattle.circle_quotient.specs.Recomposition.{IsRecomposed}
use Rattle.circle_quotient.specs.Window.{IsWindowOf, selectors_at}
use Rattle.circle_relation.specs.Accepts.{AcceptsFrom, Authenticates, Fields}
use Rattle.circle_stark.specs.Claims.{claims_at}
use Rattle.circle_stark.specs.Draw.{AreDrawn, Described}
use Rattle.circle_stark.specs.Provable.{HasShape, IsProvable}
use Rattle.circle_stark.specs.Schemes.{ProvedOver, Schemes, described}
use Rattle.circle_stark.specs.Statement.{OpenedValues, Proved, Statement}

module _ {F E : Type 0} (k : FieldOps F) (gen : ℕ → Coordinates F) (l : FieldOps E) (embed : F → E)
    (s : Statement F) where
  -- value is the composition of the constraints, under the challenge alpha, at the point of zeta,
  -- where the columns have the values v
  pub record IsCompositionAt (v : OpenedValues E) (alpha zeta value : E) : Type 0 where
    pub window : Window E
    pub reads :
        IsWindowOf k gen l embed s.log_n s.parts s.public_values (from_line l zeta) v.local v.next
        window
    pub sum :
        value
        ≡ composition l embed s.parts window
        (selectors_at k gen l embed s.log_n (from_line l zeta)) alpha

  -- the identity at the point of zeta: the composition is the vanishing polynomial of the trace's
  -- domain times the quotient, which is recomposed from its chunks; an element of the extension has
  -- `degree` coefficients
  pub record HasIdentity (coefficients : E → List F) (degree log_chunks : ℕ) (v : OpenedValues E)
      (alpha zeta : E) : Type 0 where
    pub value : E
    pub quotient : E
    pub composed : IsCompositionAt v alpha zeta value
    pub recomposed :
        IsRecomposed k gen l embed coefficients degree s.log_n log_chunks v.chunks
        (from_line l zeta) quotient
    pub equal : value ≡ l.mul (vanishing l s.log_n (from_line l zeta)) quotient

-- what the challenger is to the scheme's transcript, and when rows authenticate under the schemes
-- of the batches and of the codewords
module _ {C S F E M IC WC IP WP : Type 0} (k : Fields F E) (params : FriParameters M)
    (r : RunMoves C S F E WC) (inputs : Authenticates IC F IP) (words : Authenticates WC E WP) where
  -- in the state old the scheme accepts what the proof claims to open at zeta, and it ends in the
  -- state new
  abbrev pub OpensAt : Statement F → Proved F E IC WC IP WP → E → S → S → Type 0
  OpensAt s p zeta old new =
      let next = next_from k.extension k.embed k.gen s.log_n zeta in
      AcceptsFrom k params r inputs words
      (claims_at s.log_n p zeta (to_line k.extension next)) p.opening old new

-- own is what the challenger is to a transcript of the batches' commitments
module _ {C S F E M IC WC IP WP : Type 0} (k : Fields F E) (params : FriParameters M)
    (own : RunMoves C S F E IC) (r : RunMoves C S F E WC) (inputs : Authenticates IC F IP)
    (words : Authenticates WC E WP) where
  -- a verifier whose challenger is in the state old accepts the proof p of the statement s, and
  -- leaves the challenger in the state new; d is what seeds the transcript and is absorbed first:
  -- the AIR's digest, the height and the public values
  pub record StarkAccepts (d : Described F) (s : Statement F) (p : Proved F E IC WC IP WP)
      (old new : S) : Type 0 where
    pub log_chunks : ℕ
    pub provable : IsProvable k.two_adicity params s log_chunks
    pub shape : HasShape own.base.degree s.parts.width log_chunks p.opened
    pub alpha : E
    pub zeta : E
    pub between : S
    pub drawn : AreDrawn own d p.trace p.quotient old alpha zeta between
    pub fit : IsFit k.extension k.embed k.gen s.log_n zeta
    pub opens : OpensAt k params r inputs words s p zeta between new
    pub identity :
        HasIdentity k.field k.gen k.extension k.embed s own.base.coefficients own.base.degree
        log_chunks p.opened alpha zeta

-- over the scheme pcs, a verifier in the one state accepts the proof, and leaves the other
abbrev pub Accepts : {P C S F E : Type 0} (o : Schemes P C S F E) → P → Statement F → ProvedOver o
    → S → S → Type 0
Accepts o pcs s =
    StarkAccepts o.fields (o.params pcs) o.own o.words (o.authenticates pcs)
    (o.word_authenticates pcs) (described o s) s
