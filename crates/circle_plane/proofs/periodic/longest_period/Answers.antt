use Rattle.std.proofs.Common.{◌≡◌, ◌≤◌, ◌<◌, ◌∙◌, [], refl, sym, ap, subst, length, map, max, arith}
use Rattle.std.proofs.Common.{get_or, All}
use Rattle.std.proofs.lemmas.List.{length-map, get_or-map, take_all}
use Rattle.std.proofs.lemmas.List.Elements.{All-more, All-nil}
use Rattle.circle_commit.specs.Mmcs.{greatest}
use Rattle.circle_plane.specs.PeriodicColumns.{IsPeriod, IsFault, IsFirstFault}
use Rattle.circle_plane.proofs.EachMore.{items-at}
use Rattle.circle_plane.proofs.Periods.{greatest-more}
use Rattle.circle_plane.proofs.Refused.{handed_on}
use Rattle.circle_plane.proofs.periodic.longest_period.Goals as goal

pub returns-in_err-check_period-clause-refusal : goal.returns-in_err-check_period-clause-refusal
returns-in_err-check_period-clause-refusal g c =
    let columns = c.args.periodic_table.now in
    let all = map (λ column. column.items) columns in
    let periods = map length all in
    let i = c.loop-column.column-index in
    let v = c.column-item.result in
    let within : i < length all =
    omega (arith, c.loop-column-test.true, length-map columns (λ column. column.items)) in
    let at : get_or periods i 0 ≡ c.len.result = get_or-map length all i [] 0 within
    ∙ ap length (items-at columns i v c.loop-column-test.true c.column-item.is) ∙ sym v.ok.0
    ∙ sym c.len.ensures in
    let e = c.in_err-check_period.field-0.0 in
    handed_on c.from_residual.result e (IsFirstFault c.args.trace_len periods)
    c.from_residual.ensures.1 (
      i,
      omega (arith, within, length-map all length),
      c.loop-column.invariant.fit,
      subst (λ n. IsFault c.args.trace_len n e) (sym at) c.in_err-check_period.ensures.refusal,
    )

pub loop-column-init : goal.loop-column-init
loop-column-init g c = record { fit = All-nil (IsPeriod c.args.trace_len); longest = refl }

pub loop-column-preserved : goal.loop-column-preserved
loop-column-preserved g c =
    let columns = c.args.periodic_table.now in
    let all = map (λ column. column.items) columns in
    let periods = map length all in
    let i = c.loop-column.column-index in
    let v = c.column-item.result in
    let within : i < length all =
    omega (arith, c.loop-column-test.true, length-map columns (λ column. column.items)) in
    let below : i < length periods = omega (arith, within, length-map all length) in
    let size : get_or periods i 0 ≡ length v.items = get_or-map length all i [] 0 within
    ∙ ap length (items-at columns i v c.loop-column-test.true c.column-item.is) in
    let at : get_or periods i 0 ≡ c.len.result = size ∙ sym v.ok.0 ∙ sym c.len.ensures in
    let again : c.len-in-loop-column.result ≡ get_or periods i 0 = c.len-in-loop-column.ensures
    ∙ v.ok.0 ∙ sym size in
    record {
      fit = All-more (IsPeriod c.args.trace_len) periods i 0 below c.loop-column.invariant.fit
          (subst (IsPeriod c.args.trace_len) (sym at) c.in_ok-check_period.ensures.fit);
      longest = c.max-longest.ensures ∙ ap (λ n. max n c.loop-column.longest) again
          ∙ ap (max (get_or periods i 0)) c.loop-column.invariant.longest
          ∙ sym (greatest-more periods i 0 below);
    }

pub returns-clause-fit : goal.returns-clause-fit
returns-clause-fit g c =
    let columns = c.args.periodic_table.now in
    let all = map (λ column. column.items) columns in
    let periods = map length all in
    let end : length periods ≤ c.loop-column.column-index =
    omega (
      arith,
      c.loop-column-test.false,
      length-map columns (λ column. column.items),
      length-map all length,
    ) in
    subst (All (IsPeriod c.args.trace_len)) (take_all c.loop-column.column-index periods end)
    c.loop-column.invariant.fit

pub returns-clause-longest : goal.returns-clause-longest
returns-clause-longest g c =
    let columns = c.args.periodic_table.now in
    let all = map (λ column. column.items) columns in
    let periods = map length all in
    let end : length periods ≤ c.loop-column.column-index =
    omega (
      arith,
      c.loop-column-test.false,
      length-map columns (λ column. column.items),
      length-map all length,
    ) in
    c.loop-column.invariant.longest ∙ ap greatest (take_all c.loop-column.column-index periods end)
