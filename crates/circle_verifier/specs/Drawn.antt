-- What is known of a run once its challenges are drawn.
use Rattle.std.specs.Prelude.{◌≡◌, ℕ, ◌+◌, ◌<◌, ◌≤◌, ◌^◌, length, All}
use Rattle.circle_domain.specs.Selectors.{IsFinite}
use Rattle.circle_commit.specs.declared.params.FriParameters.{FriParameters}
use Rattle.circle_relation.specs.Accepts.{Fields, Run, HasRounds, matrices, rounds, top}

-- what is tested before anything is drawn, and what is known of what is drawn
pub record IsDrawn {F E M Com InputCom InputProof WordProof : Type 0} (k : Fields F E)
    (params : FriParameters M) (r : Run F E Com InputCom InputProof WordProof)
    (log_max_height : ℕ) : Type 0 where
  pub top : log_max_height ≡ top k params r
  pub in_group : log_max_height < k.two_adicity
  pub blowup : 1 ≤ params.log_blowup
  pub some_matrix : 1 ≤ length (matrices k params r)
  pub large : All (λ m. params.log_final_poly_len + 1 ≤ m.log_n) (matrices k params r)
  pub finite : All (λ m. All (λ c. IsFinite k.extension c.point) m.claims) (matrices k params r)
  pub shape : HasRounds k params r
  pub betas : length r.drawn.betas ≡ rounds k params r
  pub below : All (λ q. q < 2 ^ log_max_height) r.drawn.queries
