-- One token and those behind it.
use Rattle.std.proofs.Common.{◌≡◌, Bool, true, false, ℕ, List, [], ◌∷◌, Some, None, cond, Ok, Err, refl, sym, ap, ◌∙◌}
use Rattle.cl_rules.specs.Rules.{Syntax, taken}
use Rattle.cl_ast.specs.declared.token.Token.{Token}
use Rattle.cl_ast.specs.Plain.{PlainToken}
use Rattle.cl_ast.specs.Views.{plain_token}
use Rattle.cl_parse_expr.specs.Steps.{plain_tokens, is_of, begins_of, token_of}

pub begins_none : (cs : List ℕ) (ts : List Token) → ts ≡ [] → begins_of cs (plain_tokens ts) ≡ false
unfolding begins_of
begins_none cs ts e = ap (λ us. begins_of cs (plain_tokens us)) e

pub begins_first : (cs : List ℕ) (ts : List Token) (t : Token) (rest : List Token) → ts ≡ t ∷ rest → begins_of cs (plain_tokens ts) ≡ is_of cs (plain_token t)
unfolding begins_of
begins_first cs ts t rest e = ap (λ us. begins_of cs (plain_tokens us)) e

pub none_read : (cs : List ℕ) (ts : List Token) → ts ≡ [] → token_of cs (plain_tokens ts) ≡ Err (Syntax, plain_tokens ts)
unfolding token_of
none_read cs [] e = refl
none_read cs (t ∷ ts) e = absurd cc

choose : (t : PlainToken) (us vs : List PlainToken) (c : Bool) → taken (cond c (Some t) None) us vs ≡ cond c (Ok (t, vs)) (Err (Syntax, us))
choose t us vs true = refl
choose t us vs false = refl

pub first_read : (cs : List ℕ) (ts : List Token) (t : Token) (rest : List Token) → ts ≡ t ∷ rest →
    token_of cs (plain_tokens ts) ≡ cond (is_of cs (plain_token t)) (Ok (plain_token t, plain_tokens rest)) (Err (Syntax, plain_tokens ts))
unfolding token_of
first_read cs ts t rest e =
    ap (λ us. token_of cs (plain_tokens us)) e ∙ choose (plain_token t) (plain_tokens (t ∷ rest)) (plain_tokens rest) (is_of cs (plain_token t))
    ∙ ap (λ us. cond (is_of cs (plain_token t)) (Ok (plain_token t, plain_tokens rest)) (Err (Syntax, plain_tokens us))) (sym e)

pub token_there : (cs : List ℕ) (ts : List Token) (t : Token) (rest : List Token) → ts ≡ t ∷ rest → is_of cs (plain_token t) ≡ true →
    token_of cs (plain_tokens ts) ≡ Ok (plain_token t, plain_tokens rest)
token_there cs ts t rest e h = first_read cs ts t rest e ∙ ap (λ c. cond c (Ok (plain_token t, plain_tokens rest)) (Err (Syntax, plain_tokens ts))) h

pub token_not_there : (cs : List ℕ) (ts : List Token) (t : Token) (rest : List Token) → ts ≡ t ∷ rest → is_of cs (plain_token t) ≡ false →
    token_of cs (plain_tokens ts) ≡ Err (Syntax, plain_tokens ts)
token_not_there cs ts t rest e h = first_read cs ts t rest e ∙ ap (λ c. cond c (Ok (plain_token t, plain_tokens rest)) (Err (Syntax, plain_tokens ts))) h
