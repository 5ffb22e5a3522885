-- The place of tokens.
use Rattle.std.proofs.Common.{◌≡◌, ◌-◌, ◌<◌, ℕ, suc, List, [], ◌∷◌, length, take, slice_index_or, refl, sym, ap, ◌∙◌, arith}
use Rattle.std.proofs.lemmas.List.{take-map}
use Rattle.cl_rules.specs.Values.{before_rest}
use Rattle.cl_ast.specs.declared.token.Token.{Token}
use Rattle.cl_ast.specs.Plain.{PlainToken}
use Rattle.cl_ast.specs.Views.{plain_token}
use Rattle.cl_ast.specs.Trees.{last_of, span_of}
use Rattle.cl_parse_expr.specs.Steps.{plain_tokens}

plain_take : (k : ℕ) (ts : List Token) → plain_tokens (take k ts) ≡ take k (plain_tokens ts)
plain_take k ts = sym (take-map plain_token k ts)

pub plain_length : (ts : List Token) → length (plain_tokens ts) ≡ length ts
plain_length [] = refl
plain_length (t ∷ ts) = ap suc (plain_length ts)

pub taken_tokens : (ts rest : List Token) → plain_tokens (take (length ts - length rest) ts) ≡ before_rest (plain_tokens ts) (plain_tokens rest)
taken_tokens ts rest =
    plain_take (length ts - length rest) ts ∙ ap (λ k. take k (plain_tokens ts)) (sym (ap (λ k. k - length (plain_tokens rest)) (plain_length ts) ∙ ap (λ k. length ts - k) (plain_length rest)))

last_token : (t : Token) (ts : List Token) (d : Token) → plain_token (slice_index_or (t ∷ ts) (length ts) d) ≡ last_of (plain_token t) (plain_tokens ts)
last_token t [] d = refl
last_token t (u ∷ us) d = last_token u us d

pub spanned : (ts : List Token) (first last : Token) → 0 < length ts → first ≡ slice_index_or ts 0 first → last ≡ slice_index_or ts (length ts - 1) last →
    record { start = first.span.start; end = (slice_index_or ts (length ts - 1) last).span.end } ≡ span_of (plain_tokens ts)
spanned [] first last some e d = absurd (omega arith)
spanned (t ∷ ts) first last some e d =
    let at : length (t ∷ ts) - 1 ≡ length ts = omega arith in
    let end = ap (λ k. (slice_index_or (t ∷ ts) k last).span.end) at ∙ ap (λ (u : PlainToken). u.end) (last_token t ts last) in
    ap (λ (u : Token). record { start = u.span.start; end = (slice_index_or (t ∷ ts) (length (t ∷ ts) - 1) last).span.end }) e ∙ ap (λ k. record { start = t.span.start; end = k }) end
