use Rattle.std.proofs.Common.{◌≡◌, ◌<◌, ◌-◌, ◌^◌, ◌==◌, ◌∙◌, true, if◌then◌else◌, sym, ap, arith}
use Rattle.std.proofs.Common.{length, map, slice_index_or}
use Rattle.std.specs.List.{list_any}
use Rattle.std.proofs.lemmas.Bool.{eq-eqb}
use Rattle.std.proofs.lemmas.List.{length-map, get_or-map, get_or_default}
use Rattle.std.proofs.lemmas.List.Folds.{list_any-from_Any}
use Rattle.circle_field.proofs.Inverses.{take-whole}
use Rattle.circle_commit.specs.RowMajorMatrix.{rows, length-rows}
use Rattle.circle_commit.proofs.Written.{length-pairwise}
use Rattle.circle_commit.specs.DotProduct.{pairwise}
use Rattle.circle_folding.specs.Fold.{fold_x_twiddles, fold_pair, x_folds}
use Rattle.circle_folding.proofs.Twiddles.{length-fold_x_twiddles}
use Rattle.circle_codewords.proofs.rounds.fold_round.Goals as goal
use Rattle.circle_codewords.proofs.rounds.fold_round.Goals.{in-Some, in_default}

pub bounds-folded-place : goal.bounds-folded-place
bounds-folded-place g c =
    let hs = c.args.heights.now in
    let words = c.args.folded.now in
    let counted : length words ≡ length hs = sym (length-map words (λ w. length w.items))
    ∙ ap length c.requires.words ∙ length-map hs (λ n. 2 ^ (n - 1)) in
    omega (arith, counted, c.in-Some.ensures.some.0)

pub offset_bounds-folded-place : goal.offset_bounds-folded-place
offset_bounds-folded-place g c =
    let hs = c.args.heights.now in
    let words = c.args.folded.now in
    let counted : length words ≡ length hs = sym (length-map words (λ w. length w.items))
    ∙ ap length c.requires.words ∙ length-map hs (λ n. 2 ^ (n - 1)) in
    omega (arith, counted, c.in-Some.ensures.some.0)

pub add_each-requires : goal.add_each-requires
add_each-requires g c =
    let k = g.F.Operations.ops in
    let l = g.EF.Operations.ops in
    let gen = g.F.ComplexExtendable.generators in
    let embed = g.EF.ExtensionField.embed in
    let h = c.args.log_height in
    let place = c.in-Some.place in
    let found = c.in-Some.ensures.some in
    let hs = c.args.heights.now in
    let words = c.args.folded.now in
    let layer = c.args.layer.now in
    let ts = map embed (fold_x_twiddles k gen (h - 1)) in
    let of_ts : length ts ≡ 2 ^ (h - 1) = length-map (fold_x_twiddles k gen (h - 1)) embed
    ∙ length-fold_x_twiddles k gen (h - 1) in
    let of_rows : length (rows layer) ≡ 2 ^ (h - 1) = length-rows layer ∙ c.requires.rows in
    let folded : length c.in_ok-word.word.items ≡ 2 ^ (h - 1) =
    ap length (c.in_ok-word.ensures.folds (h - 1) c.requires.rows)
    ∙ length-pairwise (fold_pair l c.args.beta) ts (rows layer) (of_ts ∙ sym of_rows) ∙ of_ts in
    let other = c.index-folded-place.result in
    let counted : length words ≡ length hs = sym (length-map words (λ w. length w.items))
    ∙ ap length c.requires.words ∙ length-map hs (λ n. 2 ^ (n - 1)) in
    let within : place < length words = omega (arith, counted, found.0) in
    let size : length other.items ≡ 2 ^ (h - 1) =
    ap (λ w. length w.items) c.index-folded-place.is
    ∙ sym (get_or-map (λ w. length w.items) words place other 0 within)
    ∙ ap (λ ns. slice_index_or ns place 0) c.requires.words
    ∙ get_or-map (λ n. 2 ^ (n - 1)) hs place 0 0 found.0 ∙ ap (λ n. 2 ^ (n - 1)) found.1 in
    ap length c.deref.ensures.value ∙ size ∙ sym (ap length c.deref_mut.ensures.value ∙ folded)

pub returns-clause-length : goal.returns-clause-length
returns-clause-length g c =
    let k = g.F.Operations.ops in
    let l = g.EF.Operations.ops in
    let gen = g.F.ComplexExtendable.generators in
    let h = c.args.log_height in
    let layer = c.args.layer.now in
    let ts = map g.EF.ExtensionField.embed (fold_x_twiddles k gen (h - 1)) in
    let of_ts : length ts ≡ 2 ^ (h - 1) =
    length-map (fold_x_twiddles k gen (h - 1)) g.EF.ExtensionField.embed
    ∙ length-fold_x_twiddles k gen (h - 1) in
    let of_rows : length (rows layer) ≡ 2 ^ (h - 1) = length-rows layer ∙ c.requires.rows in
    let old = c.in_ok-word.word in
    let folded : length old.items ≡ 2 ^ (h - 1) =
    ap length (c.in_ok-word.ensures.folds (h - 1) c.requires.rows)
    ∙ length-pairwise (fold_pair l c.args.beta) ts (rows layer) (of_ts ∙ sym of_rows) ∙ of_ts in
    elim c.match-place_of.branch [
      | in-Some w ↦
          let new = w.add_each.new.values in
          let lent : w.deref_mut.result.now ≡ old.items = w.deref_mut.ensures.value in
          let kept : length new ≡ length old.items = w.add_each.auto.values ∙ ap length lent in
          ap (λ v. length v.items) w.word-is
          ∙ ap length (take-whole old.len new old.items old.ok.0 kept) ∙ kept ∙ folded
      | in_default w ↦ ap (λ v. length v.items) w.word-is ∙ folded
    ]

pub returns-clause-folds : goal.returns-clause-folds
returns-clause-folds g c = λ f are.
    let k = g.F.Operations.ops in
    let l = g.EF.Operations.ops in
    let gen = g.F.ComplexExtendable.generators in
    let embed = g.EF.ExtensionField.embed in
    let h = c.args.log_height in
    let hs = c.args.heights.now in
    let words = c.args.folded.now in
    let next = x_folds k gen l embed (h - 1) c.args.beta (rows c.args.layer.now) in
    let is_next = c.in_ok-word.ensures.folds (h - 1) c.requires.rows in
    elim c.match-place_of.branch [
      | in-Some w ↦
          let place = w.in-Some.place in
          let found = w.in-Some.ensures.some in
          let old = c.in_ok-word.word in
          let new = w.add_each.new.values in
          let other = w.index-folded-place.result in
          let counted : length words ≡ length hs = sym (length-map words (λ v. length v.items))
          ∙ ap length c.requires.words ∙ length-map hs (λ n. 2 ^ (n - 1)) in
          let within : place < length words = omega (arith, counted, found.0) in
          let is_other : w.deref.result.now ≡ f h =
          w.deref.ensures.value ∙ ap (λ v. v.items) w.index-folded-place.is
          ∙ sym (get_or-map (λ v. v.items) words place other (f h) within)
          ∙ ap (λ xs. slice_index_or xs place (f h)) are ∙ get_or-map f hs place 0 (f h) found.0
          ∙ ap f found.1 in
          let lent : w.deref_mut.result.now ≡ old.items = w.deref_mut.ensures.value in
          let kept : length new ≡ length old.items = w.add_each.auto.values ∙ ap length lent in
          let claimed : list_any (λ n. n == h) hs ≡ true =
          list_any-from_Any (λ n. n == h) hs (
            place,
            slice_index_or hs place 0,
            found.0,
            get_or_default hs place (slice_index_or hs place 0) 0 found.0,
            eq-eqb (slice_index_or hs place 0) h found.1,
          ) in
          ap (λ v. v.items) w.word-is ∙ take-whole old.len new old.items old.ok.0 kept
          ∙ w.add_each.ensures
          ∙ ap (λ xs. pairwise l.add xs w.deref.result.now) (lent ∙ is_next)
          ∙ ap (pairwise l.add next) is_other
          ∙ ap (λ b. if b then pairwise l.add next (f h) else next) (sym claimed)
      | in_default w ↦
          ap (λ v. v.items) w.word-is ∙ is_next
          ∙ ap (λ b. if b then pairwise l.add next (f h) else next) (sym w.in_default.ensures.none)
    ]
