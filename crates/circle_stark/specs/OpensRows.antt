-- What a proof opens: the values of the only polynomials that have the rows of the trace.
use Rattle.std.specs.Prelude.{ℕ, [], ◌∷◌}
use Rattle.circle_challenger.specs.Moves.{RunMoves}
use Rattle.circle_commit.specs.declared.matrix.RowMajorMatrix.{RowMajorMatrix}
use Rattle.circle_domain.specs.Domain.{IsStandardOf}
use Rattle.circle_domain.specs.Selectors.{next_from}
use Rattle.circle_domain.specs.declared.domain.CircleDomain.{CircleDomain}
use Rattle.circle_field.specs.declared.field.Operations.{Ghosts}
use Rattle.circle_point.specs.Projective.{to_line}
use Rattle.circle_relation.specs.Accepts.{Fields}
use Rattle.circle_stark.specs.Draw.{AreDrawn, Described}
use Rattle.circle_stark.specs.Schemes.{ProvedOver, Schemes, described}
use Rattle.circle_stark.specs.Statement.{Proved, Statement}
use Rattle.p3_circle.specs.Honest.{AreValuesOfRows}

-- at the zeta that is drawn from the state old, and at the next point, the opened values of the
-- trace are those of the only polynomials that have the 2^n rows x on the standard domain; d
-- describes the statement
pub record OpensRows {C S F E IC WC IP WP : Type 0} (g : Ghosts F) (k : Fields F E)
    (own : RunMoves C S F E IC) (d : Described F) (n : ℕ) (x : RowMajorMatrix F) (old : S)
    (p : Proved F E IC WC IP WP) : Type 0 where
  pub alpha : E
  pub zeta : E
  pub between : S
  pub drawn : AreDrawn own d p.trace p.quotient old alpha zeta between
  pub domain : CircleDomain F g
  pub standard : IsStandardOf k.gen n domain
  pub values :
      AreValuesOfRows k (domain, x)
      (zeta ∷ to_line k.extension (next_from k.extension k.embed k.gen n zeta) ∷ [])
      (p.opened.local ∷ p.opened.next ∷ [])

-- over a scheme, the proof, made from the state, opens the rows
abbrev pub Opens : {P C S F E : Type 0} (o : Schemes P C S F E) → Statement F → RowMajorMatrix F
    → S → ProvedOver o → Type 0
Opens o s x = OpensRows o.operations o.fields o.own (described o s) s.log_n x
