use Rattle.std.proofs.Common.{◌≡◌, ◌+◌, ◌*◌, ◌%◌, ◌^◌, ◌<◌, ◌∙◌, [], List, sym, ap, subst, arith}
use Rattle.std.proofs.Common.{length, map, get_or, refl}
use Rattle.std.specs.Prelude.{Vec}
use Rattle.std.specs.declared.alloc.Global.{Global}
use Rattle.std.specs.Vec.{with_items}
use Rattle.std.proofs.lemmas.List.{with_items_is}
use Rattle.circle_commit.specs.PeriodicLdeTable.{columns_of}
use Rattle.circle_commit.proofs.Powers.{shifted}
use Rattle.circle_domain.proofs.Twiddles.{map-map}
use Rattle.circle_air.specs.Air.{air_of}
use Rattle.circle_air.specs.Lanes.{lane}
use Rattle.circle_air.specs.Ranges.{IsInRange}
use Rattle.circle_air.specs.Valid.{valid}
use Rattle.circle_air.specs.Values.{entry, values, window}
use Rattle.circle_quotient.specs.Lanes.{HaveLanes, lane_of}
use Rattle.circle_quotient.proofs.PartSizes.{all-of-map}
use Rattle.circle_quotient.proofs.PlaceRanges.{next-lane, same-window}
use Rattle.circle_quotient.proofs.nodes.NodeLanes.write.Goals as goal

pub invariant_of-windows : goal.invariant_of-windows
invariant_of-windows g c = record {
  same_width =
      let room = c.requires.room in
      let same : length c.deref-2.result.now ≡ length c.deref.result.now =
      omega (
        arith,
        c.deref.ensures.len,
        c.deref-2.ensures.len,
        room.local.all,
        room.next.all,
        c.args.self.now.local.ok.0,
        c.args.self.now.next.ok.0,
      ) in
      same;
  periods = all-of-map (λ (v : Vec g.row.F.Denot Global). v.items)
      (λ (xs : List g.row.F.Denot). 0 < length xs) c.args.periodic.now
      (columns_of c.args.periodic.now) refl c.requires.periods;
}

pub write_values-requires-clause-range : goal.write_values-requires-clause-range
write_values-requires-clause-range g c = λ i below node is.
    let air = c.args.air.now in
    let p = air_of air in
    let periodic = length c.args.periodic.now in
    let public = length c.args.trace.now.public_values.now in
    let there : i < length p.nodes = subst (λ xs. i < length xs) c.nodes.ensures below in
    let here : get_or p.nodes i node ≡ node =
    sym (is ∙ ap (λ xs. get_or xs i node) c.nodes.ensures) in
    let width : length c.deref.result.now ≡ p.width =
    omega (
      arith,
      c.deref.ensures.len,
      c.args.self.now.local.ok.0,
      c.requires.room.local.all,
    ) in
    subst (λ n. IsInRange n periodic public i node) (sym width)
    (subst (λ n. IsInRange p.width n public i node) (sym c.requires.periodic)
    (subst (λ n. IsInRange p.width (length p.periodic_columns) n i node) (sym c.requires.public)
    (subst (λ n. IsInRange p.width (length p.periodic_columns) p.num_public_values i n) here
    ((valid p air.valid).nodes i node there))))

pub returns-clause-room : goal.returns-clause-room
returns-clause-room g c =
    let self = c.args.self.now in
    let p = air_of c.args.air.now in
    let room = c.requires.room in
    let local : (with_items self.local c.write_rows.new.columns).items ≡ c.write_rows.new.columns =
    with_items_is self.local c.write_rows.new.columns
    (c.write_rows.auto.columns ∙ c.deref_mut.ensures.len) in
    let next : (with_items self.next c.write_rows-2.new.columns).items
    ≡ c.write_rows-2.new.columns =
    with_items_is self.next c.write_rows-2.new.columns
    (c.write_rows-2.auto.columns ∙ c.deref_mut-2.ensures.len) in
    let values : (with_items self.values c.write_values.new.values).items
    ≡ c.write_values.new.values =
    with_items_is self.values c.write_values.new.values
    (c.write_values.auto.values ∙ c.as_mut_slice.ensures.len) in record {
      local = subst (HaveLanes p.width self.lanes) (sym local) (record {
        all = c.write_rows.ensures.width ∙ ap length c.deref_mut.ensures.value ∙ room.local.all;
        each = c.write_rows.ensures.lanes;
      });
      next = subst (HaveLanes p.width self.lanes) (sym next) (record {
        all = c.write_rows-2.ensures.width ∙ ap length c.deref_mut-2.ensures.value
            ∙ room.next.all;
        each = c.write_rows-2.ensures.lanes;
      });
      values = ap length values ∙ c.write_values.auto.values
          ∙ ap length c.as_mut_slice.ensures.value ∙ room.values;
    }

pub returns-clause-values : goal.returns-clause-values
returns-clause-values g c = λ r lt.
    let k = g.F.Operations.ops in
    let self = c.args.self.now in
    let lanes = self.lanes in
    let start = c.args.start in
    let trace = c.args.trace.now in
    let kk = trace.log_num_chunks in
    let rows = g.M.Matrix.rows trace.rows.now in
    let periodic = c.args.periodic.now in
    let public = trace.public_values.now in
    let count = length rows in
    let high : c.height.result ≡ count =
    c.height.ensures ∙ sym (g.met.M.Matrix.height_law trace.rows.now) in
    let small : kk < 64 = omega (arith, c.requires.small) in
    let local : c.deref.result.now ≡ c.write_rows.new.columns =
    c.deref.ensures.value ∙ with_items_is self.local c.write_rows.new.columns
    (c.write_rows.auto.columns ∙ c.deref_mut.ensures.len) in
    let next : c.deref-2.result.now ≡ c.write_rows-2.new.columns =
    c.deref-2.ensures.value ∙ with_items_is self.next c.write_rows-2.new.columns
    (c.write_rows-2.auto.columns ∙ c.deref_mut-2.ensures.len) in
    let place : ((start + 1 * 2 ^ kk % 2 ^ 64) % c.height.result + r) % count
    ≡ (start + r + 2 ^ kk) % count =
    ap (λ s. ((start + s) % c.height.result + r) % count) (shifted kk small)
    ∙ ap (λ h. ((start + 2 ^ kk) % h + r) % count) high ∙ next-lane start (2 ^ kk) r count in
    let p = air_of c.args.air.now in
    ap (lane k lanes r) (with_items_is self.values c.write_values.new.values
    (c.write_values.auto.values ∙ c.as_mut_slice.ensures.len))
    ∙ c.write_values.ensures.values r lt
    ∙ ap (λ ns. values k (λ x. x) ns (window (lane_of k c.deref.result.now r)
    (lane_of k c.deref-2.result.now r)
    (map (λ (v : Vec g.row.F.Denot Global). entry k v.items ((start + r) % length v.items))
    periodic) public)) c.nodes.ensures
    ∙ ap (values k (λ x. x) p.nodes)
    (same-window (lane_of k c.deref.result.now r) (get_or rows ((start + r) % count) [])
    (lane_of k c.deref-2.result.now r) (get_or rows ((start + r + 2 ^ kk) % count) [])
    (map (λ (v : Vec g.row.F.Denot Global). entry k v.items ((start + r) % length v.items))
    periodic)
    (map (λ (xs : List g.row.F.Denot). entry k xs ((start + r) % length xs))
    (columns_of periodic)) public
    (ap (λ vs. lane_of k vs r) local ∙ c.write_rows.ensures.rows r lt)
    (ap (λ vs. lane_of k vs r) next ∙ c.write_rows-2.ensures.rows r lt
    ∙ ap (λ n. get_or rows n []) place)
    (sym (map-map (λ (xs : List g.row.F.Denot). entry k xs ((start + r) % length xs))
    (λ (v : Vec g.row.F.Denot Global). v.items) periodic)))
