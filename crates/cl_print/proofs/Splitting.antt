-- The bytes of a row of tokens are split into these tokens.
use Rattle.std.proofs.Common.{◌≡◌, ℕ, ◌+◌, Bool, true, false, List, [], ◌∷◌, ◌++◌, map, length, refl, sym, ap, subst, ◌∙◌, append_assoc}
use Rattle.std.specs.Prelude.{is_some}
use Rattle.std.specs.List.{list_all}
use Rattle.std.proofs.lemmas.Bool.{and_parts}
use Rattle.cl_ast.specs.declared.mark.Mark.{Mark}
use Rattle.cl_ast.specs.declared.mark.Mark.TheVariants as marks
use Rattle.cl_ast.specs.Plain.{PlainKind, Name, Punctuator, PlainToken}
use Rattle.cl_ast.specs.Bytes.{begins_with}
use Rattle.cl_ast.specs.Pieces.{Piece, Fills, Lexed, Separator, piece_spelling, fresh_behind, piece_tokens, lexeme_tokens}
use Rattle.cl_ast.specs.Splits.{IsFirst, Leads, tokens_of}
use Rattle.cl_print.specs.Spelling.{gap_bytes, gap_behind, mark_gap, lexeme_of, spelling, text_of, line}
use Rattle.cl_print.specs.Sayable.{is_sayable}
use Rattle.cl_print.proofs.Spelled.{sayable_spelled, quiet}

-- ---- parts one behind the other

pub leads_on : (f g h : Bool) (bytes mid rest : List ℕ) (ps qs : List Piece) → Leads f bytes ps g mid → Leads g mid qs h rest → Leads f bytes (ps ++ qs) h rest
leads_on f g h bytes mid rest [] qs one two = subst (λ b. Leads b bytes qs h rest) (sym one.0) (subst (λ (bs : List ℕ). Leads g bs qs h rest) (sym one.1) two)
leads_on f g h bytes mid rest (p ∷ ps) qs one two = (one.0, one.1, leads_on (fresh_behind f p) g h one.0 mid rest ps qs one.2 two)

abbrev pub kinds : List PlainToken → List PlainKind
kinds ts = map (λ t. t.kind) ts

pub kinds_append : (xs ys : List PlainToken) → kinds (xs ++ ys) ≡ kinds xs ++ kinds ys
kinds_append [] ys = refl
kinds_append (x ∷ xs) ys = ap (λ ks. x.kind ∷ ks) (kinds_append xs ys)

-- the tokens of parts have these kinds, wherever the parts begin
abbrev pub AreOf : List Piece → List PlainKind → Type 0
AreOf ps ks = (start : ℕ) → kinds (tokens_of start ps) ≡ ks

pub are_on : (ps qs : List Piece) (ks ls : List PlainKind) → AreOf ps ks → AreOf qs ls → AreOf (ps ++ qs) (ks ++ ls)
are_on ps qs ks ls one two start = by ps start ks (one start)
  where
    by : (ps : List Piece) (start : ℕ) (ks : List PlainKind) → kinds (tokens_of start ps) ≡ ks → kinds (tokens_of start (ps ++ qs)) ≡ ks ++ ls
    by [] start ks e = two start ∙ ap (λ (l : List PlainKind). l ++ ls) e
    by (p ∷ ps) start ks e =
        let next = start + length (piece_spelling p) in
        let mine = piece_tokens start p in
        kinds_append mine (tokens_of next (ps ++ qs))
        ∙ ap (λ l. kinds mine ++ l) (by ps next (kinds (tokens_of next ps)) refl)
        ∙ sym (append_assoc (kinds mine) (kinds (tokens_of next ps)) ls)
        ∙ ap (λ (l : List PlainKind). l ++ ls) (sym (kinds_append mine (tokens_of next ps)) ∙ e)

-- ---- a token and the byte behind it

abbrev pub ends_line : Mark → Bool
ends_line marks.OpenBrace = true
ends_line marks.CloseBrace = true
ends_line marks.Semicolon = true
ends_line mark = false

abbrev pub is_last : PlainKind → Bool
is_last (Punctuator mark) = ends_line mark
is_last kind = false

abbrev pub gap_byte : Bool → ℕ
gap_byte true = 10
gap_byte false = 32

mark_gap_is : (m : Mark) → gap_bytes (mark_gap m) ≡ gap_byte (ends_line m) ∷ []
mark_gap_is marks.OpenBracket = refl
mark_gap_is m = refl

gap_is : (k : PlainKind) → gap_bytes (gap_behind k) ≡ gap_byte (is_last k) ∷ []
gap_is (Punctuator mark) = mark_gap_is mark
gap_is (Name bytes) = refl
gap_is k = refl

abbrev pub token_pieces : PlainKind → List Piece
token_pieces k = Lexed (lexeme_of k) ∷ Fills (Separator (gap_byte (is_last k))) ∷ []

pub none_begin : (bytes : List ℕ) → begins_with (λ next. false) bytes ≡ false
none_begin [] = refl
none_begin (b ∷ bs) = refl

is_first : (fresh : Bool) (k : PlainKind) (e : Bool) (rest : List ℕ) → is_sayable k ≡ true → IsFirst fresh (spelling k ++ (gap_byte e ∷ rest)) (Lexed (lexeme_of k)) (gap_byte e ∷ rest)
unfolding spelling
is_first fresh k true rest say = record { whole = refl; form = ap is_some (sayable_spelled k say); longest = (quiet k).1 }
is_first fresh k false rest say = record { whole = refl; form = ap is_some (sayable_spelled k say); longest = (quiet k).0 }

is_gap : (fresh e : Bool) (rest : List ℕ) → IsFirst fresh (gap_byte e ∷ rest) (Fills (Separator (gap_byte e))) rest
is_gap fresh true rest = record { whole = refl; form = refl; longest = none_begin rest }
is_gap fresh false rest = record { whole = refl; form = refl; longest = none_begin rest }

fresh_is : (e : Bool) → fresh_behind false (Fills (Separator (gap_byte e))) ≡ e
fresh_is true = refl
fresh_is false = refl

token_leads : (fresh : Bool) (k : PlainKind) (rest : List ℕ) → is_sayable k ≡ true → Leads fresh (spelling k ++ (gap_bytes (gap_behind k) ++ rest)) (token_pieces k) (is_last k) rest
token_leads fresh k rest say =
    let e = is_last k in
    subst (λ (g : List ℕ). Leads fresh (spelling k ++ (g ++ rest)) (token_pieces k) e rest) (sym (gap_is k))
    (gap_byte e ∷ rest, is_first fresh k e rest say, (rest, is_gap false e rest, (fresh_is e, refl)))

token_are : (k : PlainKind) → is_sayable k ≡ true → AreOf (token_pieces k) (k ∷ [])
token_are k say start = ap (λ l. kinds l) (ap (λ o. lexeme_tokens start (lexeme_of k) o ++ []) (sayable_spelled k say))

-- ---- a row of tokens

-- whether the bytes behind it begin a line, behind bytes that do or don't
abbrev pub fresh_after : Bool → List PlainKind → Bool
fresh_after fresh [] = fresh
fresh_after fresh (k ∷ ks) = fresh_after (is_last k) ks

abbrev pub row_pieces : List PlainKind → List Piece
row_pieces [] = []
row_pieces (k ∷ ks) = token_pieces k ++ row_pieces ks

pub row_leads : (fresh : Bool) (ks : List PlainKind) (rest : List ℕ) → list_all is_sayable ks ≡ true → Leads fresh (line ks ++ rest) (row_pieces ks) (fresh_after fresh ks) rest
unfolding line text_of
row_leads fresh [] rest say = (refl, refl)
row_leads fresh (k ∷ ks) rest say =
    let both = and_parts (is_sayable k) (list_all is_sayable ks) say in
    let gap = gap_bytes (gap_behind k) in
    let split : (spelling k ++ (gap ++ line ks)) ++ rest ≡ spelling k ++ (gap ++ (line ks ++ rest)) = append_assoc (spelling k) (gap ++ line ks) rest ∙ ap (λ t. spelling k ++ t) (append_assoc gap (line ks) rest) in
    subst (λ (bytes : List ℕ). Leads fresh bytes (token_pieces k ++ row_pieces ks) (fresh_after (is_last k) ks) rest) (sym split)
    (leads_on fresh (is_last k) (fresh_after (is_last k) ks) (spelling k ++ (gap ++ (line ks ++ rest))) (line ks ++ rest) rest (token_pieces k) (row_pieces ks)
    (token_leads fresh k (line ks ++ rest) both.0) (row_leads (is_last k) ks rest both.1))

pub row_are : (ks : List PlainKind) → list_all is_sayable ks ≡ true → AreOf (row_pieces ks) ks
row_are [] say = λ start. refl
row_are (k ∷ ks) say =
    let both = and_parts (is_sayable k) (list_all is_sayable ks) say in
    are_on (token_pieces k) (row_pieces ks) (k ∷ []) ks (token_are k both.0) (row_are ks both.1)
