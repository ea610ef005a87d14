use Rattle.std.proofs.Common.{◌≡◌, ◌∙◌, [], ◌∷◌, ap, arith, length, map, sym}
use Rattle.std.proofs.Common.{slice_index_or}
use Rattle.std.proofs.lemmas.List.{get_or-map, length-map}
use Rattle.circle_commit.specs.Mmcs.{opened_rows}
use Rattle.circle_commit.specs.Pcs.{openings}
use Rattle.circle_domain.proofs.Twiddles.{map-map}
use Rattle.circle_stark.proofs.Heads.{heads, rests}
use Rattle.circle_stark.proofs.opening.values_of_openings.Goals as goal

pub chunk_values-requires : goal.chunk_values-requires
chunk_values-requires g c = λ k d below.
    let chunks = c.both-trace.result.1.items in
    let same = ap openings (sym c.both-trace.ensures) ∙ c.requires.batches in
    let quotient : opened_rows chunks ≡ c.requires.quotient =
    heads _ _ _ _ (rests _ _ _ _ same) in
    let one = c.requires.each k []
    (let long = ap length quotient in omega (
      arith,
      below,
      long,
      length-map chunks
          (λ m. map (λ v. v.items) m.items),
    )) in
    let here = slice_index_or chunks k d in
    let read = ap (λ rows. length (slice_index_or rows k [])) quotient in
    let mapped = ap length (get_or-map (λ m. map (λ v. v.items) m.items) chunks k d [] below) in
    omega (arith, one, read, mapped, length-map here.items (λ v. v.items), here.ok.0)

pub returns : goal.returns
returns g c =
    let values = c.both-trace_local.result in
    let chunks = c.in_ok-quotient_chunks.quotient_chunks.items in
    ap openings c.both-trace.ensures
    ∙ ap (λ rows. opened_rows rows ∷ opened_rows c.both-trace.result.1.items ∷ []) c.only.ensures
    ∙ ap (λ rows. (map (λ v. v.items) rows ∷ []) ∷ opened_rows c.both-trace.result.1.items ∷ [])
    c.both-trace_local.ensures
    ∙ ap (λ rows. ((values.0.items ∷ values.1.items ∷ []) ∷ []) ∷ rows ∷ [])
    (c.in_ok-quotient_chunks.ensures
    ∙ sym (map-map (λ chunk. chunk ∷ []) (λ v. v.items) chunks))
