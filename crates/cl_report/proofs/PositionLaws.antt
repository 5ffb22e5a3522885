-- One byte more of a source. (This project.)
use Rattle.std.proofs.Common.{◌≡◌, ℕ, suc, arith, ◌+◌, ◌<◌, ◌==◌, if◌then◌else◌, List, [], ◌∷◌, ◌++◌, take, length, slice_index_or, true, false, refl, ap, ◌∙◌}
use Rattle.std.proofs.Math.Seq.{take-suc}
use Rattle.cl_report.specs.Positions.{line_from, column_from}

-- the line behind one byte more
pub line_behind : (n : ℕ) (xs : List ℕ) (byte : ℕ) → line_from n (xs ++ byte ∷ []) ≡ (if byte == 10 then line_from n xs + 1 else line_from n xs)
line_behind n [] byte = refl
line_behind n (x ∷ xs) byte =
    elim (x == 10) as (λ b. (if b then line_from (n + 1) (xs ++ byte ∷ []) else line_from n (xs ++ byte ∷ [])) ≡ (if byte == 10 then (if b then line_from (n + 1) xs else line_from n xs) + 1 else (if b then line_from (n + 1) xs else line_from n xs))) [ true ↦ line_behind (n + 1) xs byte | false ↦ line_behind n xs byte ]

-- the column behind one byte more
pub column_behind : (n : ℕ) (xs : List ℕ) (byte : ℕ) → column_from n (xs ++ byte ∷ []) ≡ (if byte == 10 then 1 else column_from n xs + 1)
column_behind n [] byte = refl
column_behind n (x ∷ xs) byte =
    elim (x == 10) as (λ b. (if b then column_from 1 (xs ++ byte ∷ []) else column_from (n + 1) (xs ++ byte ∷ [])) ≡ (if byte == 10 then 1 else (if b then column_from 1 xs else column_from (n + 1) xs) + 1)) [ true ↦ column_behind 1 xs byte | false ↦ column_behind (n + 1) xs byte ]

-- one more
pub one_more : (k : ℕ) → k + 1 ≡ suc k
one_more k = omega arith

-- the line behind the byte at a place
pub line_at : (n : ℕ) (xs : List ℕ) (k : ℕ) → k < length xs → line_from n (take (k + 1) xs) ≡ (if slice_index_or xs k 0 == 10 then line_from n (take k xs) + 1 else line_from n (take k xs))
line_at n xs k within = ap (λ j. line_from n (take j xs)) (one_more k) ∙ ap (line_from n) (take-suc xs k 0 within) ∙ line_behind n (take k xs) (slice_index_or xs k 0)

-- the column behind the byte at a place
pub column_at : (n : ℕ) (xs : List ℕ) (k : ℕ) → k < length xs → column_from n (take (k + 1) xs) ≡ (if slice_index_or xs k 0 == 10 then 1 else column_from n (take k xs) + 1)
column_at n xs k within = ap (λ j. column_from n (take j xs)) (one_more k) ∙ ap (column_from n) (take-suc xs k 0 within) ∙ column_behind n (take k xs) (slice_index_or xs k 0)
