-- How the rows of whole items are written.
use Rattle.std.proofs.Common.{◌≡◌, ℕ, true, false, List, [], ◌∷◌, ◌++◌, map, codes, refl, sym, ap, ◌∙◌, append_assoc}
use Rattle.std.proofs.lemmas.List.{append-nil}
use Rattle.cl_ast.specs.declared.mark.Mark.TheVariants as marks
use Rattle.cl_ast.specs.declared.statement.Define.{Define}
use Rattle.cl_ast.specs.Plain as kinds
use Rattle.cl_ast.specs.Plain.{PlainKind}
use Rattle.cl_print.specs.Spelling.{Written, Blank, Line, Nothing, gap_bytes, spelling, mark_bytes, spaced, text_of, line, one, after, after_all}
use Rattle.cl_print.specs.Expressions.{constant_kind}
use Rattle.cl_print.specs.Writing.{minus, define_written}
use Rattle.cl_print.proofs.Lines.{text_append}

pub after_all_both : (bytes : List ℕ) (xs ys : List Written) → after_all bytes (xs ++ ys) ≡ after_all (after_all bytes xs) ys
unfolding after_all
after_all_both bytes xs ys = ap (λ t. bytes ++ t) (text_append xs ys) ∙ sym (append_assoc bytes (text_of xs) (text_of ys))

pub after_all_none : (bytes : List ℕ) → after_all bytes [] ≡ bytes
unfolding after_all text_of
after_all_none bytes = append-nil bytes

pub after_spaced : (bytes : List ℕ) (ks : List PlainKind) → after_all bytes (map spaced ks) ≡ after bytes ks
unfolding after_all after line
after_spaced bytes ks = refl

-- one token with what stands behind it
after_written : (bytes : List ℕ) (w : Written) → after_all bytes (w ∷ []) ≡ (bytes ++ spelling w.kind) ++ gap_bytes w.gap
unfolding after_all text_of
after_written bytes w = ap (λ t. bytes ++ (spelling w.kind ++ t)) (append-nil (gap_bytes w.gap)) ∙ sym (append_assoc bytes (spelling w.kind) (gap_bytes w.gap))

pub after_minus : (bytes : List ℕ) → after_all bytes (minus true) ≡ bytes ++ 45 ∷ []
unfolding spelling mark_bytes
after_minus bytes = after_written bytes (record { kind = kinds.Punctuator marks.Minus; gap = Nothing }) ∙ append-nil (bytes ++ 45 ∷ [])

pub after_no_minus : (bytes : List ℕ) → after_all bytes (minus false) ≡ bytes
after_no_minus bytes = after_all_none bytes

after_named : (bytes name : List ℕ) → after_all bytes (record { kind = kinds.Name name; gap = Blank } ∷ []) ≡ after bytes (one (kinds.Name name))
unfolding one
after_named bytes name = after_spaced bytes (kinds.Name name ∷ [])

-- a define line, part by part
pub after_define : (bytes : List ℕ) (d : Define) →
    after_all bytes (define_written d) ≡ (after_all (after (bytes ++ codes "#define ") (one (kinds.Name d.name.bytes))) (minus d.is_negative) ++ spelling (constant_kind d.literal.value)) ++ 10 ∷ []
unfolding define_written spelling
after_define bytes d =
    let word : Written = record { kind = kinds.Define; gap = Blank } in
    let name : Written = record { kind = kinds.Name d.name.bytes; gap = Blank } in
    let value : Written = record { kind = constant_kind d.literal.value; gap = Line } in
    after_all_both bytes (word ∷ []) (name ∷ (minus d.is_negative ++ value ∷ []))
    ∙ after_all_both (after_all bytes (word ∷ [])) (name ∷ []) (minus d.is_negative ++ value ∷ [])
    ∙ ap (λ b. after_all (after_all b (name ∷ [])) (minus d.is_negative ++ value ∷ [])) (after_written bytes word ∙ append_assoc bytes (codes "#define") (32 ∷ []))
    ∙ after_all_both (after_all (bytes ++ codes "#define ") (name ∷ [])) (minus d.is_negative) (value ∷ [])
    ∙ after_written (after_all (after_all (bytes ++ codes "#define ") (name ∷ [])) (minus d.is_negative)) value
    ∙ ap (λ b. (after_all b (minus d.is_negative) ++ spelling (constant_kind d.literal.value)) ++ 10 ∷ []) (after_named (bytes ++ codes "#define ") d.name.bytes)
