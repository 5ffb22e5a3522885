-- The bytes of parts one after another; a way that is cut, and two that are joined.
use Rattle.std.proofs.Common.{◌≡◌, ℕ, Bool, false, List, [], ◌∷◌, ◌++◌, refl, sym, ap, subst, ◌∙◌, append_assoc}
use Rattle.cl_ast.specs.Bytes.{begins_with}
use Rattle.cl_ast.specs.Pieces.{Piece, piece_spelling, piece_goes_on, fresh_behind}
use Rattle.cl_ast.specs.Splits.{IsFirst, Leads}

-- the bytes of parts
abbrev pub spelling_of : List Piece → List ℕ
spelling_of [] = []
spelling_of (p ∷ ps) = piece_spelling p ++ spelling_of ps

pub spelled : (ps : List Piece) (fresh fresh' : Bool) (bytes rest : List ℕ) → Leads fresh bytes ps fresh' rest → bytes ≡ spelling_of ps ++ rest
spelled [] fresh fresh' bytes rest l = l.1
spelled (p ∷ ps) fresh fresh' bytes rest l = l.1.whole ∙ (ap (λ (x : List ℕ). piece_spelling p ++ x) (spelled ps (fresh_behind fresh p) fresh' l.0 rest l.2) ∙ sym (append_assoc (piece_spelling p) (spelling_of ps) rest))

-- what doesn't go on in these bytes doesn't in those
pub record Agrees (rest other : List ℕ) : Type 0 where
  pub ends : (p : ℕ → Bool) → begins_with p rest ≡ false → begins_with p other ≡ false

agrees_behind : (front rest other : List ℕ) → Agrees rest other → Agrees (front ++ rest) (front ++ other)
agrees_behind [] rest other a = a
agrees_behind (byte ∷ front) rest other a = record { ends = λ p e. e }

-- bytes and their front
pub agrees_front : (front rest : List ℕ) → Agrees (front ++ rest) front
agrees_front [] rest = record { ends = λ p e. refl }
agrees_front (byte ∷ front) rest = record { ends = λ p e. e }

-- parts before other bytes
pub cut : (ps : List Piece) (fresh fresh' : Bool) (bytes rest other : List ℕ) → Leads fresh bytes ps fresh' rest → Agrees rest other → Leads fresh (spelling_of ps ++ other) ps fresh' other
cut [] fresh fresh' bytes rest other l a = (l.0, refl)
cut (p ∷ ps) fresh fresh' bytes rest other l a =
    let mid : l.0 ≡ spelling_of ps ++ rest = spelled ps (fresh_behind fresh p) fresh' l.0 rest l.2 in
    let longest : begins_with (piece_goes_on p) (spelling_of ps ++ rest) ≡ false = subst (λ (x : List ℕ). begins_with (piece_goes_on p) x ≡ false) mid l.1.longest in
    let first : IsFirst fresh ((piece_spelling p ++ spelling_of ps) ++ other) p (spelling_of ps ++ other) =
    record {
      whole = append_assoc (piece_spelling p) (spelling_of ps) other;
      form = l.1.form;
      longest = (agrees_behind (spelling_of ps) rest other a).ends (piece_goes_on p) longest;
    } in
    (spelling_of ps ++ other, first, cut ps (fresh_behind fresh p) fresh' l.0 rest other l.2 a)

pub join : (ps qs : List Piece) (fresh f g : Bool) (bytes mid rest : List ℕ) → Leads fresh bytes ps f mid → Leads f mid qs g rest → Leads fresh bytes (ps ++ qs) g rest
join [] qs fresh f g bytes mid rest l m = rw (l.0, l.1) m
join (p ∷ ps) qs fresh f g bytes mid rest l m = (l.0, l.1, join ps qs (fresh_behind fresh p) f g l.0 mid rest l.2 m)
