use Rattle.std.proofs.Common.{◌≡◌, ◌-◌, ◌++◌, [], ◌∷◌, ◌*◌, ◌^◌, All, List, Some, refl, ◌∙◌, sym}
use Rattle.std.proofs.Common.{ap, subst, arith, map, take}
use Rattle.std.proofs.lemmas.List.Elements.{All-push}
use Rattle.circle_domain.specs.Domain.{log_size, shift_of, points_of}
use Rattle.circle_domain.specs.declared.domain.CircleDomain.{CircleDomain}
use Rattle.circle_domain.proofs.PartLists.{parts_room, part_sizes, shifts_next, are_parts}
use Rattle.circle_domain.proofs.domain.CircleDomainPolynomialSpace.split_domains.Goals as goal

pub nth_point-requires-clause-positive : goal.nth_point-requires-clause-positive
nth_point-requires-clause-positive g c =
    omega (
      arith,
      parts_room c.log2_strict.result c.args.self.now.log_n c.args.num_chunks
          c.log2_strict.ensures.power c.requires.room,
    )

pub nth_point-requires-clause-in_group : goal.nth_point-requires-clause-in_group
nth_point-requires-clause-in_group g c = omega (arith, c.requires.standard.0)

pub nth_point-requires-clause-in_range : goal.nth_point-requires-clause-in_range
nth_point-requires-clause-in_range g c = omega (arith, c.loop-i-test.true, c.requires.room)

pub overflow_sub-log_n : goal.overflow_sub-log_n
overflow_sub-log_n g c = omega (
  arith,
  parts_room c.log2_strict.result c.args.self.now.log_n
      c.args.num_chunks c.log2_strict.ensures.power c.requires.room,
)

pub loop-i-preserved : goal.loop-i-preserved
loop-i-preserved g c =
    let m = c.args.self.now.log_n - c.log2_strict.result in
    let natural = points_of g.F.Operations.ops g.F.ComplexExtendable.generators c.args.self.now in
    let parts = c.loop-i.parts.items in
    let items : c.push.new.self.items ≡ parts ++ c.new.result ∷ [] = c.in_ok-push.ensures.items in
    record {
      sizes = subst (λ (xs : List (CircleDomain g.row.F.Denot g.F.Operations)). All
          (λ part. log_size part ≡ m) xs) (sym items)
          (All-push (λ (part : CircleDomain g.row.F.Denot g.F.Operations). log_size part ≡ m) parts
          c.new.result c.loop-i.invariant.sizes c.new.ensures.size);
      shifts = ap (map shift_of) items
          ∙ shifts_next shift_of parts c.new.result natural c.loop-i.i (shift_of c.new.result)
          c.loop-i.invariant.shifts
          (c.nth_point.ensures ∙ ap Some (sym c.new.ensures.shift)) refl;
    }

pub returns-clause-sizes : goal.returns-clause-sizes
returns-clause-sizes g c = λ j d lt.
    ap (λ m. 2 ^ m * c.args.num_chunks) (c.loop-i.invariant.sizes j d lt)
    ∙ part_sizes c.log2_strict.result c.args.self.now.log_n c.args.num_chunks
    c.log2_strict.ensures.power c.requires.room

pub returns-clause-shifts : goal.returns-clause-shifts
returns-clause-shifts g c =
    let natural = points_of g.F.Operations.ops g.F.ComplexExtendable.generators c.args.self.now in
    c.loop-i.invariant.shifts ∙ ap (λ n. take n natural)
    (let e : c.loop-i.i ≡ c.args.num_chunks =
    omega (arith, c.loop-i-test.false, c.loop-i.auto.i-end) in e)

pub returns-clause-disjoint : goal.returns-clause-disjoint
returns-clause-disjoint g c =
    (are_parts g.F.Operations.laws g.met.F.ComplexExtendable.generators_law
    (log_size c.args.self.now) c.log2_strict.result c.args.num_chunks
    c.log2_strict.ensures.power c.requires.room (shift_of c.args.self.now) c.requires.standard
    log_size shift_of c.loop-i.parts.items
    c.loop-i.invariant.sizes (returns-clause-shifts g c)).disjoint

pub returns-clause-whole : goal.returns-clause-whole
returns-clause-whole g c =
    (are_parts g.F.Operations.laws g.met.F.ComplexExtendable.generators_law
    (log_size c.args.self.now) c.log2_strict.result c.args.num_chunks
    c.log2_strict.ensures.power c.requires.room (shift_of c.args.self.now) c.requires.standard
    log_size shift_of c.loop-i.parts.items
    c.loop-i.invariant.sizes (returns-clause-shifts g c)).whole

pub returns-clause-places : goal.returns-clause-places
returns-clause-places g c =
    (are_parts g.F.Operations.laws g.met.F.ComplexExtendable.generators_law
    (log_size c.args.self.now) c.log2_strict.result c.args.num_chunks
    c.log2_strict.ensures.power c.requires.room (shift_of c.args.self.now) c.requires.standard
    log_size shift_of c.loop-i.parts.items
    c.loop-i.invariant.sizes (returns-clause-shifts g c)).places
