-- What contracts see of a reader or a writer of the library as a source or a sink. (This project.)
use Rattle.std.specs.Prelude.{ℕ, refl}
use Rattle.std.specs.Coded.{Coded, code_by, coded×, coded_ℕ}

-- the reader or the writer, and its count of faults
pub record Wrapped (T : Type 0) : Type 0 where
  pub inner : T
  pub faults : ℕ

-- it is stored as the pair of its parts
abbrev pub wrapped_code : {T : Type 0} → Coded T → Coded (Wrapped T)
wrapped_code {T} c =
    code_by (T × ℕ) (coded× c coded_ℕ) (λ w. (w.inner, w.faults)) (λ p. record { inner = p.0; faults = p.1 }) (λ _. refl)
