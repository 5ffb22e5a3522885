-- How rows of tokens are written one behind the other.
use Rattle.std.proofs.Common.{◌≡◌, ℕ, ◌+◌, ◌<◌, ℤ, List, [], ◌∷◌, ◌++◌, map, length, get_or, drop, refl, sym, ap, ◌∙◌, append_assoc}
use Rattle.std.proofs.lemmas.List.{append-nil, drop_more}
use Rattle.std.specs.Fmt.{signed_decimal}
use Rattle.cl_ast.specs.declared.word.Word.{Word}
use Rattle.cl_ast.specs.declared.mark.Mark.{Mark}
use Rattle.cl_ast.specs.declared.tree.Constant.{Constant}
use Rattle.cl_ast.specs.declared.tree.Constant.TheVariants as constants
use Rattle.cl_ast.specs.Plain.{PlainKind, Name, Int, Long, Character, Str, Keyword, Punctuator}
use Rattle.cl_ast.specs.Lexemes.{character_spelling, characters_spelling}
use Rattle.cl_print.specs.Spelling.{Written, word_bytes, mark_bytes, in_string, in_character, spelling, gap_bytes, mark_gap, gap_behind, spaced, text_of, line, one, after}
use Rattle.cl_print.specs.Expressions.{constant_kind}

pub text_append : (xs ys : List Written) → text_of (xs ++ ys) ≡ text_of xs ++ text_of ys
unfolding text_of
text_append [] ys = refl
text_append (w ∷ ws) ys =
    ap (λ t. spelling w.kind ++ (gap_bytes w.gap ++ t)) (text_append ws ys)
    ∙ sym (append_assoc (spelling w.kind) (gap_bytes w.gap ++ text_of ws) (text_of ys) ∙ ap (λ t. spelling w.kind ++ t) (append_assoc (gap_bytes w.gap) (text_of ws) (text_of ys)))

pub spaced_append : (xs ys : List PlainKind) → map spaced (xs ++ ys) ≡ map spaced xs ++ map spaced ys
spaced_append [] ys = refl
spaced_append (x ∷ xs) ys = ap (λ t. spaced x ∷ t) (spaced_append xs ys)

pub line_append : (xs ys : List PlainKind) → line (xs ++ ys) ≡ line xs ++ line ys
unfolding line
line_append xs ys = ap text_of (spaced_append xs ys) ∙ text_append (map spaced xs) (map spaced ys)

-- two rows are written one behind the other
pub after_both : (bytes : List ℕ) (xs ys : List PlainKind) → after bytes (xs ++ ys) ≡ after (after bytes xs) ys
unfolding after
after_both bytes xs ys = ap (λ t. bytes ++ t) (line_append xs ys) ∙ sym (append_assoc bytes (line xs) (line ys))

pub after_none : (bytes : List ℕ) → after bytes [] ≡ bytes
unfolding after line text_of
after_none bytes = append-nil bytes

-- one token, by its spelling and what stands behind it
pub after_one : (bytes : List ℕ) (kind : PlainKind) → after bytes (one kind) ≡ (bytes ++ spelling kind) ++ gap_bytes (gap_behind kind)
unfolding after line text_of one
after_one bytes kind = ap (λ t. bytes ++ (spelling kind ++ t)) (append-nil (gap_bytes (gap_behind kind))) ∙ sym (append_assoc bytes (spelling kind) (gap_bytes (gap_behind kind)))

-- the same of a word, a mark and a name
pub after_word : (bytes : List ℕ) (word : Word) → after bytes (one (Keyword word)) ≡ (bytes ++ word_bytes word) ++ 32 ∷ []
unfolding spelling
after_word bytes word = after_one bytes (Keyword word)

pub after_mark : (bytes : List ℕ) (mark : Mark) → after bytes (one (Punctuator mark)) ≡ (bytes ++ mark_bytes mark) ++ gap_bytes (mark_gap mark)
unfolding spelling
after_mark bytes mark = after_one bytes (Punctuator mark)

pub after_name : (bytes name : List ℕ) → after bytes (one (Name name)) ≡ (bytes ++ name) ++ 32 ∷ []
unfolding spelling
after_name bytes name = after_one bytes (Name name)

-- a string in its quotes
pub after_text : (bytes text : List ℕ) → after bytes (one (Str text)) ≡ ((bytes ++ 34 ∷ []) ++ characters_spelling (map in_string text)) ++ 34 ∷ 32 ∷ []
unfolding spelling
after_text bytes text =
    let inner = characters_spelling (map in_string text) in
    after_one bytes (Str text)
    ∙ append_assoc bytes (34 ∷ (inner ++ 34 ∷ [])) (32 ∷ [])
    ∙ ap (λ t. bytes ++ 34 ∷ t) (append_assoc inner (34 ∷ []) (32 ∷ []))
    ∙ sym (append_assoc (bytes ++ 34 ∷ []) inner (34 ∷ 32 ∷ []) ∙ append_assoc bytes (34 ∷ []) (inner ++ 34 ∷ 32 ∷ []))

-- a number or a character, and what stands behind it
pub after_constant : (bytes : List ℕ) (value : Constant) → after bytes (one (constant_kind value)) ≡ (bytes ++ spelling (constant_kind value)) ++ 32 ∷ []
after_constant bytes (constants.Int value) = after_one bytes (Int value)
after_constant bytes (constants.Long value) = after_one bytes (Long value)
after_constant bytes (constants.Character byte) = after_one bytes (Character byte)

pub int_spelling : (value : ℤ) → spelling (Int value) ≡ signed_decimal value
unfolding spelling
int_spelling value = append-nil (signed_decimal value)

pub long_spelling : (bytes : List ℕ) (value : ℤ) → bytes ++ spelling (Long value) ≡ (bytes ++ signed_decimal value) ++ 76 ∷ []
unfolding spelling
long_spelling bytes value = sym (append_assoc bytes (signed_decimal value) (76 ∷ []))

pub character_spelled : (bytes : List ℕ) (byte : ℕ) → bytes ++ spelling (Character byte) ≡ ((bytes ++ 39 ∷ []) ++ character_spelling (in_character byte)) ++ 39 ∷ []
unfolding spelling
character_spelled bytes byte =
    let inner = character_spelling (in_character byte) in
    sym (append_assoc (bytes ++ 39 ∷ []) inner (39 ∷ []) ∙ append_assoc bytes (39 ∷ []) (inner ++ 39 ∷ []))

-- ---- loops

-- behind one part more
pub written_more : (bytes mid new total : List ℕ) (first second rest : List PlainKind) → after bytes (first ++ (second ++ rest)) ≡ total → mid ≡ after bytes first → new ≡ after mid second → after new rest ≡ total
written_more bytes mid new total first second rest whole one two =
    ap (λ b. after b rest) (two ∙ ap (λ b. after b second) one) ∙ sym (after_both (after bytes first) second rest) ∙ sym (after_both bytes first (second ++ rest)) ∙ whole

-- behind all parts
pub written_all : (bytes total : List ℕ) (rest : List PlainKind) → rest ≡ [] → after bytes rest ≡ total → bytes ≡ total
written_all bytes total rest none whole = sym (after_none bytes) ∙ ap (after bytes) (sym none) ∙ whole

-- one part further in a list
pub further : {A B : Type 0} (f : List A → B) (xs : List A) (i : ℕ) (x : A) → x ≡ get_or xs i x → i < length xs → f (drop i xs) ≡ f (x ∷ drop (i + 1) xs)
further f xs i x is within = ap f (drop_more xs i x within ∙ ap (λ y. y ∷ drop (i + 1) xs) (sym is))

-- the same where the part was written at once
pub written_pair : (bytes new total : List ℕ) (first second rest : List PlainKind) → after bytes (first ++ (second ++ rest)) ≡ total → new ≡ after bytes (first ++ second) → after new rest ≡ total
written_pair bytes new total first second rest whole one = written_more bytes (after bytes first) new total first second rest whole refl (one ∙ after_both bytes first second)

pub written_one : (bytes new total : List ℕ) (first rest : List PlainKind) → after bytes (first ++ rest) ≡ total → new ≡ after bytes first → after new rest ≡ total
written_one bytes new total first rest whole one = ap (λ b. after b rest) one ∙ sym (after_both bytes first rest) ∙ whole
