use Rattle.std.proofs.Common.{suc, ◌≡◌, ◌+◌, ◌^◌, ◌∙◌, ap, arith}
use Rattle.std.proofs.Math.Nat.{pow-suc}
use Rattle.circle_point.specs.Point.{coordinates}
use Rattle.circle_domain.specs.Domain.{log_size, shift_of}
use Rattle.circle_verifier.proofs.LastWord.{last-point}
use Rattle.circle_verifier.proofs.last_word.x_at.Goals as goal

pub overflow_add-log_len : goal.overflow_add-log_len
overflow_add-log_len g c = omega (arith, g.met.F.ComplexExtendable.at_most_62)

pub cfft_permute_index-requires-clause-in_range : goal.cfft_permute_index-requires-clause-in_range
cfft_permute_index-requires-clause-in_range g c =
    let m = c.args.log_len in
    let next : m + 1 ≡ suc m = omega arith in
    omega (arith, c.requires.within, ap (λ n. 2 ^ n) next, pow-suc 2 m)

pub returns : goal.returns
returns g c =
    c.x.ensures
    ∙ last-point g.F.Operations.laws g.met.F.ComplexExtendable.generators_law c.args.log_len
    c.args.place (log_size c.standard-domain.result)
    c.cfft_permute_index.result (shift_of c.standard-domain.result) (coordinates c.nth_point.result)
    c.requires.within c.requires.in_group
    c.standard-domain.ensures.size c.standard-domain.ensures.shift
    c.cfft_permute_index.ensures.value c.nth_point.ensures
