-- What contracts see of a list that is grown ahead of its pushes. (This project.)
use Rattle.std.specs.Prelude.{ℕ, ◌+◌, ◌≤◌, List, length, refl}
use Rattle.std.specs.Coded.{Coded, code_by, coded×, coded_ℕ, coded_list}

-- the items in order, and for how many more there is room
pub record Room (T : Type 0) : Type 0 where
  pub items : List T
  pub spare : ℕ

-- such a list is stored as the pair of its parts
abbrev pub room_code : {T : Type 0} → Coded T → Coded (Room T)
room_code {T} c =
    code_by (List T × ℕ) (coded× (coded_list c) coded_ℕ) (λ r. (r.items, r.spare)) (λ p. record { items = p.0; spare = p.1 }) (λ _. refl)

-- how many items it can have without a growth
abbrev pub capacity_of : {T : Type 0} → Room T → ℕ
capacity_of r = length r.items + r.spare

-- it can have so many items without a growth
abbrev pub HasRoom : {T : Type 0} → ℕ → Room T → Type 0
HasRoom count r = count ≤ capacity_of r
