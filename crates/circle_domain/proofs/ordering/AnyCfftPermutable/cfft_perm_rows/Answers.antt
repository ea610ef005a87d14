use Rattle.std.proofs.Common.{◌≡◌, ◌^◌, ◌<◌, ◌∙◌, sym, ap, subst}
use Rattle.circle_domain.specs.CfftPerm.{log_height_of}
use Rattle.circle_commit.specs.Matrix.{IsPowerOfTwo, mapped_rows}
use Rattle.circle_domain.specs.Ordering.{cfft_index}
use Rattle.circle_domain.proofs.Reversal.{cfft_index-below}
use Rattle.circle_domain.proofs.ordering.AnyCfftPermutable.cfft_perm_rows.Goals as goal

pub log2_strict-log_height-requires : goal.log2_strict-log_height-requires
log2_strict-log_height-requires g c = subst IsPowerOfTwo (sym c.height.ensures) c.requires

pub returns-clause-height : goal.returns-clause-height
returns-clause-height g c = ap (λ n. 2 ^ n) c.new.ensures ∙ c.log2_strict-log_height.ensures.power
    ∙ c.height.ensures

pub invariant_of-result : goal.invariant_of-result
invariant_of-result g c =
    let h = log_height_of c.new.result in
    let rows : 2 ^ h ≡ g.M.MatrixShape.height c.args.self = ap (λ n. 2 ^ n) c.new.ensures
    ∙ c.log2_strict-log_height.ensures.power ∙ c.height.ensures in
    record { in_range = λ r lt. subst (λ n. cfft_index h r < n) rows (cfft_index-below h r) }

pub returns-clause-rows : goal.returns-clause-rows
returns-clause-rows g c = λ n e.
    ap (λ i. mapped_rows (cfft_index i) (2 ^ i) (g.M.Matrix.rows c.args.self))
    (c.new.ensures ∙ c.log2_strict-log_height.ensures.only n (c.height.ensures ∙ e))
