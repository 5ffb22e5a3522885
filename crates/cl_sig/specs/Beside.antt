-- Two lists item beside item. (This project.)
use Rattle.std.specs.Prelude.{Bool, true, false, ◌&&◌, List, [], ◌∷◌}

-- whether two lists have as many items, and each pair at one place passes the test
abbrev pub all_beside : {A B : Type 0} → (A → B → Bool) → List A → List B → Bool
all_beside test [] [] = true
all_beside test (a ∷ as') (b ∷ bs) = test a b && all_beside test as' bs
all_beside test _ _ = false
