-- The bytes before a fault, and how they can be completed.
use Rattle.std.proofs.Common.{◌≡◌, ℕ, ◌+◌, ◌≤◌, Bool, true, false, cond, List, [], ◌∷◌, ◌++◌, length, refl, sym, ap, subst, ◌∙◌, arith, length-append}
use Rattle.std.proofs.lemmas.List.{append-nil}
use Rattle.cl_ast.specs.Pieces.{Piece, piece_spelling, is_piece, fresh_behind}
use Rattle.cl_ast.specs.Splits.{IsFirst, Leads}
use Rattle.cl_ast.specs.Ends.{LiteralEnd, Fails}
use Rattle.cl_token.proofs.Ways.{Agrees, agrees_front}

-- the bytes before the place of a fault, completed to whole parts
pub record Seen (fresh : Bool) (bytes bad : List ℕ) : Type 0 where
  pub seen : List ℕ
  pub whole : bytes ≡ seen ++ bad
  pub more : List ℕ
  pub pieces : List Piece
  pub fresh' : Bool
  pub leads : Leads fresh (seen ++ more) pieces fresh' []
  pub agrees : Agrees bytes (seen ++ more)

-- a fault at the first byte
pub seen_here : (fresh : Bool) (bytes bad : List ℕ) → bytes ≡ bad → Seen fresh bytes bad
seen_here fresh bytes bad same = record { seen = []; whole = same; more = []; pieces = []; fresh' = fresh; leads = (refl, refl); agrees = agrees_front [] bytes }

one_leads : (fresh : Bool) (bytes : List ℕ) (p : Piece) → bytes ≡ piece_spelling p → is_piece fresh p ≡ true → Leads fresh bytes (p ∷ []) (fresh_behind fresh p) []
one_leads fresh bytes p whole form =
    let first : IsFirst fresh bytes p [] = record { whole = whole ∙ sym (append-nil (piece_spelling p)); form = form; longest = refl } in
    ([], first, (refl, refl))

-- a fault behind a whole part
pub seen_whole : (fresh : Bool) (bytes bad : List ℕ) (p : Piece) → bytes ≡ piece_spelling p ++ bad → is_piece fresh p ≡ true → Seen fresh bytes bad
seen_whole fresh bytes bad p whole form = record {
  seen = piece_spelling p;
  whole = whole;
  more = [];
  pieces = p ∷ [];
  fresh' = fresh_behind fresh p;
  leads = one_leads fresh (piece_spelling p ++ []) p (append-nil (piece_spelling p)) form;
  agrees = subst (λ (x : List ℕ). Agrees x (piece_spelling p ++ [])) (sym whole) (subst (λ (x : List ℕ). Agrees (piece_spelling p ++ bad) x) (sym (append-nil (piece_spelling p))) (agrees_front (piece_spelling p) bad));
}

-- a fault within a part
pub seen_within : (fresh : Bool) (byte : ℕ) (seen more bytes bad : List ℕ) (p : Piece) → bytes ≡ byte ∷ (seen ++ bad) → byte ∷ (seen ++ more) ≡ piece_spelling p → is_piece fresh p ≡ true → Seen fresh bytes bad
seen_within fresh byte seen more bytes bad p whole part form =
    let same : Agrees (byte ∷ (seen ++ bad)) (byte ∷ (seen ++ more)) = record { ends = λ q e. e } in
    record {
      seen = byte ∷ seen;
      whole = whole;
      more = more;
      pieces = p ∷ [];
      fresh' = fresh_behind fresh p;
      leads = one_leads fresh (byte ∷ (seen ++ more)) p part form;
      agrees = subst (λ (x : List ℕ). Agrees x (byte ∷ (seen ++ more))) (sym whole) same;
    }

pub seen_few : (fresh : Bool) (bytes bad : List ℕ) → Seen fresh bytes bad → length bad ≤ length bytes
seen_few fresh bytes bad s = let n : length bytes ≡ length s.seen + length bad = ap length s.whole ∙ simp length-append in omega (arith, n)

-- what holds of a choice
pub by_cond : {A : Type 0} (P : A → Type 0) (b : Bool) (x y : A) → (b ≡ true → P x) → (b ≡ false → P y) → P (cond b x y)
by_cond P true x y s t = s refl
by_cond P false x y s t = t refl

-- where a literal fails, the bytes before its fault are seen
abbrev pub LiteralSeen : Bool → List ℕ → LiteralEnd → Type 0
LiteralSeen fresh bytes (Fails fault bad) = Seen fresh bytes bad
LiteralSeen fresh bytes _ = Unit {0}
