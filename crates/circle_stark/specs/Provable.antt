-- Which statements can be proved, and of which shape the opened values are.
use Rattle.std.specs.Prelude.{◌≡◌, ℕ, ◌+◌, ◌^◌, ◌<◌, ◌≤◌, length, All}
use Rattle.circle_commit.specs.declared.params.FriParameters.{FriParameters}
use Rattle.circle_air.specs.Degrees.{IsLogOfChunks, degree_of_parts}
use Rattle.circle_stark.specs.Statement.{OpenedValues, Statement}

-- the group has domains for a trace of 2^log_n rows and for its quotient, and the statement fits
-- its AIR: it has as many public values, and no period is longer than the trace
pub record HasDomains {F : Type 0} (two_adicity : ℕ) (s : Statement F) (log_chunks : ℕ)
    : Type 0 where
  pub chunks : IsLogOfChunks (degree_of_parts s.parts) log_chunks
  pub public : length s.public_values ≡ s.parts.num_public_values
  pub positive : 2 ≤ s.log_n
  pub in_group : s.log_n + log_chunks < two_adicity
  pub periods : All (λ c. length c ≤ 2 ^ s.log_n) s.parts.periodic_columns

-- so that also the trace has rows enough to be folded, and few enough to be extended
pub record IsProvable {F M : Type 0} (two_adicity : ℕ) (params : FriParameters M) (s : Statement F)
    (log_chunks : ℕ) : Type 0 where
  pub domains : HasDomains two_adicity s log_chunks
  pub large : 2 + params.log_final_poly_len ≤ s.log_n
  pub extended : s.log_n + params.log_blowup < two_adicity

-- the opened values have a value for each column of a trace of this width, at both points, and for
-- each chunk one for each coefficient of an element
pub record HasShape {E : Type 0} (degree width log_chunks : ℕ) (v : OpenedValues E) : Type 0 where
  pub local : length v.local ≡ width
  pub next : length v.next ≡ width
  pub chunks : length v.chunks ≡ 2 ^ log_chunks
  pub columns : All (λ chunk. length chunk ≡ degree) v.chunks
