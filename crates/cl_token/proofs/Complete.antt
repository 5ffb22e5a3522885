-- A part that stands at the front of the bytes is what a step reads.
use Rattle.std.proofs.Common.{◌≡◌, ℕ, ◌-◌, ◌≤◌, Bool, true, false, List, ◌∷◌, ◌++◌, length, sym, ap, subst, ◌∙◌}
use Rattle.std.proofs.lemmas.Bool.{and_parts}
use Rattle.std.proofs.lemmas.List.{append-nil}
use Rattle.cl_ast.specs.Plain.{PlainToken}
use Rattle.cl_ast.specs.Bytes.{begins_with}
use Rattle.cl_ast.specs.Pieces.{Piece, Fills, Lexed, Includes, Defines, is_include, is_define, piece_spelling, is_piece, piece_goes_on, fresh_behind, piece_tokens, include_spelling, define_spelling}
use Rattle.cl_ast.specs.Splits.{IsFirst}
use Rattle.cl_token.specs.Scanning.{Goes, step, step_at}
use Rattle.cl_token.proofs.CompleteFills.{filled}
use Rattle.cl_token.proofs.CompleteLexemes.{lexed}
use Rattle.cl_token.proofs.CompleteTails.{included}
use Rattle.cl_token.proofs.CompleteDefines.{defined}

-- the step at these bytes reads the part
abbrev Reads : ℕ → List PlainToken → Bool → Piece → List ℕ → List ℕ → Type 0
Reads total tokens fresh piece rest bytes = step_at total tokens fresh bytes ≡ Goes (tokens ++ piece_tokens (total - length bytes) piece) (fresh_behind fresh piece) rest

spelled : (total : ℕ) (tokens : List PlainToken) (fresh : Bool) (piece : Piece) (rest : List ℕ) → length (piece_spelling piece ++ rest) ≤ total → is_piece fresh piece ≡ true → begins_with (piece_goes_on piece) rest ≡ false → Reads total tokens fresh piece rest (piece_spelling piece ++ rest)
spelled total tokens fresh (Fills filler) rest long form longest =
    filled total tokens fresh filler rest form longest
    ∙ ap (λ (x : List PlainToken). Goes x (fresh_behind fresh (Fills filler)) rest) (sym (append-nil tokens))
spelled total tokens fresh (Lexed lexeme) rest long form longest = lexed total tokens fresh lexeme rest long form longest
spelled total tokens fresh (Includes line) rest long form longest =
    let both = and_parts fresh (is_include line) form in
    ap (λ (b : Bool). step_at total tokens b (include_spelling line ++ rest)) both.0
    ∙ included total tokens line rest both.1 longest
spelled total tokens fresh (Defines line) rest long form longest =
    let both = and_parts fresh (is_define line) form in
    ap (λ (b : Bool). step_at total tokens b (define_spelling line ++ rest)) both.0
    ∙ defined total tokens line rest long both.1 longest

pub complete : (total : ℕ) (tokens : List PlainToken) (fresh : Bool) (byte : ℕ) (bytes : List ℕ) (piece : Piece) (rest : List ℕ) → length (byte ∷ bytes) ≤ total → IsFirst fresh (byte ∷ bytes) piece rest → step total tokens fresh byte bytes ≡ Goes (tokens ++ piece_tokens (total - length (byte ∷ bytes)) piece) (fresh_behind fresh piece) rest
complete total tokens fresh byte bytes piece rest long first =
    let within : length (piece_spelling piece ++ rest) ≤ total = subst (λ (x : List ℕ). length x ≤ total) first.whole long in
    subst (Reads total tokens fresh piece rest) (sym first.whole) (spelled total tokens fresh piece rest within first.form first.longest)
