use Rattle.std.proofs.Common.{◌≡◌, ◌+◌, ◌<◌, ◌≤◌, ◌^◌, ◌∙◌, ℕ, List, Vec, Global, [], ◌∷◌, ◌++◌}
use Rattle.std.proofs.Common.{arith, length, map, true}
use Rattle.std.proofs.Common.{slice_index_or, subst, sym, ap, length-append, ⊎_elim}
use Rattle.std.specs.Int.{is_power_of_two}
use Rattle.std.proofs.lemmas.Bool.{cases_lt}
use Rattle.std.proofs.lemmas.List.{get_or-map, get_or_append_left, get_or_push, length-map}
use Rattle.circle_domain.specs.Periodic.{IsPeriodicValue}
use Rattle.circle_point.specs.Projective.{from_line}
use Rattle.circle_stark.proofs.identity.periodic_values.Goals as goal

-- the column at hand is an entry of the list
at_hand : {F : Type 0} (columns : List (Vec F Global)) (i : ℕ) (column : Vec F Global)
    (lent : List F) → i < length columns → column ≡ slice_index_or columns i column →
    lent ≡ column.items → slice_index_or (map (λ v. v.items) columns) i [] ≡ lent
at_hand columns i column lent below is same =
    get_or-map (λ (v : Vec _ Global). v.items) columns i column [] below
    ∙ ap (λ (v : Vec _ Global). v.items) (sym is) ∙ sym same

pub periodic_value-requires-clause-power : goal.periodic_value-requires-clause-power
periodic_value-requires-clause-power g c =
    let columns = c.args.columns.now in
    let i = c.loop-column.column-index in
    let below : i < length columns = omega arith in
    subst (λ x. is_power_of_two (length x) ≡ true)
    (at_hand columns i c.column-item.result c.deref.result.now below c.column-item.is
    c.deref.ensures.value)
    (c.requires.powers i [] (omega (arith, below, length-map columns (λ v. v.items))))

pub periodic_value-requires-clause-short : goal.periodic_value-requires-clause-short
periodic_value-requires-clause-short g c =
    let columns = c.args.columns.now in
    let i = c.loop-column.column-index in
    let below : i < length columns = omega arith in
    subst (λ x. length x ≤ 2 ^ c.args.log_n)
    (at_hand columns i c.column-item.result c.deref.result.now below c.column-item.is
    c.deref.ensures.value)
    (c.requires.short i [] (omega (arith, below, length-map columns (λ v. v.items))))

pub loop-column-preserved : goal.loop-column-preserved
loop-column-preserved g c =
    let l = g.EF.Operations.ops in
    let columns = c.args.columns.now in
    let n = c.loop-column.column-index in
    let made = c.loop-column.values.items in
    let value = c.in_ok-periodic_value.field-0 in
    let below : n < length columns = omega arith in
    let Is = λ (column : List g.row.F.Denot) (v : g.row.EF.Denot). IsPeriodicValue
    g.F.Operations.ops g.F.ComplexExtendable.generators l g.EF.ExtensionField.embed c.args.log_n
    column (from_line l c.args.zeta) v in
    let appended : c.push.new.self.items ≡ made ++ value ∷ [] = c.in_ok-push.ensures.items in
    let here : Is (slice_index_or (map (λ v. v.items) columns) n []) value =
    subst (λ x. Is x value)
    (sym (at_hand columns n c.column-item.result c.deref.result.now below c.column-item.is
    c.deref.ensures.value)) c.in_ok-periodic_value.ensures in record {
      count = ap length appended ∙ length-append made (value ∷ [])
          ∙ ap (λ m. m + 1) c.loop-column.invariant.count;
      each = λ i lt.
          let column = slice_index_or (map (λ v. v.items) columns) i [] in
          subst (λ items. Is column (slice_index_or items i l.zero)) (sym appended)
          (⊎_elim
          (λ (low : i < n). subst (Is column)
          (sym (get_or_append_left made (value ∷ []) l.zero i
          (omega (arith, low, c.loop-column.invariant.count))))
          (c.loop-column.invariant.each i low))
          (λ high.
          let e : i ≡ n = omega (arith, high, lt) in
          let last : length made ≡ i = omega (arith, e, c.loop-column.invariant.count) in
          subst (Is column) (sym (get_or_push made value l.zero i last))
          (subst (λ j. Is (slice_index_or (map (λ v. v.items) columns) j []) value) (sym e) here))
          (cases_lt i n));
    }
