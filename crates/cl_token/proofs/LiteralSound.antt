-- A number or a literal that ends is spelled as its token.
use Rattle.std.proofs.Common.{◌≡◌, ℕ, Bool, true, false, eqb, ◌&&◌, not, List, [], ◌∷◌, ◌++◌, map, Option, Some, None, refl, sym, ap, subst, ◌∙◌, inl, inr, append_assoc}
use Rattle.std.specs.List.{list_all}
use Rattle.std.proofs.lemmas.Bool.{eqb-true, cases_Bool, and_parts, and_from, cond-true, cond-false}
use Rattle.cl_ast.specs.Plain.{PlainKind, Str, Character}
use Rattle.cl_ast.specs.Bytes.{is_digit, is_hexadecimal_digit, is_name_byte, is_suffix, is_x, is_string_byte, is_character_byte, is_escape, is_character_escape, begins_with}
use Rattle.cl_ast.specs.Lexemes.{Spelled, Itself, Escape, Lexeme, Decimal, Hexadecimal, Quoted, Text, character_spelling, characters_spelling, character_meaning, lexeme_spelling, lexeme_kind, lexeme_goes_on, is_decimal, is_hexadecimal, is_a_suffix, value_on, number_kind, fits_long, is_string_character, is_character}
use Rattle.cl_ast.specs.Rows.{front_run, after_run, behind_first, string_row, after_string_row, character_at, after_prefix, decimal_row, after_decimal_row, suffix_row, after_suffix}
use Rattle.cl_ast.specs.Ends.{Ends, is_cut, is_line_cut, behind_digits, hexadecimal_end, decimal_end, based_end, string_end, character_end_behind, character_end, literal_end}
use Rattle.cl_token.proofs.Bounds.{chosen}
use Rattle.cl_token.proofs.Runs.{row_joins, front_all, front_passes}

-- the bytes are a token of this kind and the rest
pub record IsLexeme (bytes : List ℕ) (kind : PlainKind) (rest : List ℕ) : Type 0 where
  pub lexeme : Lexeme
  pub kind_is : lexeme_kind lexeme ≡ Some kind
  pub whole : bytes ≡ lexeme_spelling lexeme ++ rest
  pub longest : begins_with (lexeme_goes_on lexeme) rest ≡ false

pub never : (rest : List ℕ) → begins_with (λ byte. false) rest ≡ false
never [] = refl
never (byte ∷ rest) = refl

ends_same : (k k' : PlainKind) (r r' : List ℕ) → Ends k r ≡ Ends k' r' → (k ≡ k') × (r ≡ r')
ends_same k k' r r' e = (cc, cc)

-- ---- numbers

abbrev some : {A : Type 0} → A → Option A
some x = Some x

some_same : (a b : List ℕ) → some a ≡ some b → a ≡ b
some_same a b e = cc

suffix_joins : (bytes : List ℕ) → bytes ≡ suffix_row bytes ++ after_suffix bytes
suffix_joins [] = refl
suffix_joins (byte ∷ bytes) = elim (cases_Bool (is_suffix byte)) [ inl t ↦ rw t refl | inr f ↦ rw f refl ]

pub suffix_good : (bytes : List ℕ) → is_a_suffix (suffix_row bytes) ≡ true
suffix_good [] = refl
suffix_good (byte ∷ bytes) = elim (cases_Bool (is_suffix byte)) [ inl t ↦ rw t t | inr f ↦ rw f refl ]

not_false : (b : Bool) → not b ≡ false → b ≡ true
not_false true e = refl
not_false false e = sym e

-- what is known of digits that end a number
record IsEnded (value : ℕ) (behind : List ℕ) (kind : PlainKind) (rest : List ℕ) : Type 0 where
  fits : fits_long value ≡ true
  kind_is : number_kind value (suffix_row behind) ≡ kind
  rest_is : after_suffix behind ≡ rest
  longest : begins_with is_name_byte rest ≡ false

ended : (bytes : List ℕ) (value : ℕ) (behind : List ℕ) (kind : PlainKind) (rest : List ℕ) → behind_digits bytes value behind ≡ Ends kind rest → IsEnded value behind kind rest
ended bytes value behind kind rest e =
    elim (chosen (not (fits_long value)) _ _ _ e) [
      | inl t ↦ absurd cc
      | inr f ↦
          elim (chosen (begins_with is_name_byte (after_suffix behind)) _ _ _ f.1) [
            | inl t ↦ absurd cc
            | inr g ↦
                let same = ends_same _ _ _ _ g.1 in
                record { fits = not_false (fits_long value) f.0; kind_is = same.0; rest_is = same.1; longest = ap (begins_with is_name_byte) (sym same.1) ∙ g.0 }
          ]
    ]

-- the digits and the suffix of a number
pub joined : (digits behind rest : List ℕ) → after_suffix behind ≡ rest → digits ++ behind ≡ (digits ++ suffix_row behind) ++ rest
joined digits behind rest e = ap (λ (b : List ℕ). digits ++ b) (suffix_joins behind ∙ ap (λ (r : List ℕ). suffix_row behind ++ r) e) ∙ sym (append_assoc digits (suffix_row behind) rest)

pub decimal_good : (byte : ℕ) (bytes : List ℕ) → is_digit byte ≡ true → is_decimal (decimal_row (byte ∷ bytes)) ≡ true
decimal_good byte bytes d =
    elim (cases_Bool (eqb byte 48)) [
      | inl t ↦ rw t refl
      | inr f ↦ rw f (ap is_decimal (front_passes is_digit byte bytes d) ∙ (cond-false (eqb byte 48) _ _ f ∙ and_from (is_digit byte) (list_all is_digit (front_run is_digit bytes)) d (front_all is_digit bytes)))
    ]

pub decimal_joins : (bytes : List ℕ) → bytes ≡ decimal_row bytes ++ after_decimal_row bytes
decimal_joins [] = refl
decimal_joins (byte ∷ bytes) =
    elim (cases_Bool (eqb byte 48)) [
      | inl t ↦ let z = eqb-true byte 48 t in rw t (ap (λ (b : ℕ). b ∷ bytes) z)
      | inr f ↦ rw f (row_joins is_digit (byte ∷ bytes))
    ]

decimal_is : (byte : ℕ) (bytes : List ℕ) (kind : PlainKind) (rest : List ℕ) → is_digit byte ≡ true → decimal_end (byte ∷ bytes) ≡ Ends kind rest → IsLexeme (byte ∷ bytes) kind rest
decimal_is byte bytes kind rest d e =
    let ds = decimal_row (byte ∷ bytes) in
    let behind = after_decimal_row (byte ∷ bytes) in
    let i : IsEnded (value_on 10 0 ds) behind kind rest = ended (byte ∷ bytes) (value_on 10 0 ds) behind kind rest e in
    let form : (is_decimal ds && (is_a_suffix (suffix_row behind) && fits_long (value_on 10 0 ds))) ≡ true = and_from (is_decimal ds) _ (decimal_good byte bytes d) (and_from (is_a_suffix (suffix_row behind)) (fits_long (value_on 10 0 ds)) (suffix_good behind) i.fits) in
    record {
      lexeme = Decimal ds (suffix_row behind);
      kind_is = cond-true _ _ _ form ∙ ap (λ (k : PlainKind). some k) i.kind_is;
      whole = decimal_joins (byte ∷ bytes) ∙ joined ds behind rest i.rest_is;
      longest = i.longest;
    }

pub hexadecimal_good : (digits : List ℕ) → begins_with is_hexadecimal_digit digits ≡ true → is_hexadecimal (front_run is_hexadecimal_digit digits) ≡ true
hexadecimal_good [] b = b
hexadecimal_good (byte ∷ bytes) b = ap is_hexadecimal (front_passes is_hexadecimal_digit byte bytes b) ∙ and_from (is_hexadecimal_digit byte) _ b (front_all is_hexadecimal_digit bytes)

hexadecimal_is : (x : ℕ) (digits : List ℕ) (kind : PlainKind) (rest : List ℕ) → is_x x ≡ true → hexadecimal_end (48 ∷ x ∷ digits) digits ≡ Ends kind rest → IsLexeme (48 ∷ x ∷ digits) kind rest
hexadecimal_is x digits kind rest isx e =
    elim (chosen (begins_with is_hexadecimal_digit digits) _ _ _ e) [
      | inl t ↦
          let ds = front_run is_hexadecimal_digit digits in
          let behind = after_run is_hexadecimal_digit digits in
          let i : IsEnded (value_on 16 0 ds) behind kind rest = ended (48 ∷ x ∷ digits) (value_on 16 0 ds) behind kind rest t.1 in
          let form : (is_x x && (is_hexadecimal ds && (is_a_suffix (suffix_row behind) && fits_long (value_on 16 0 ds)))) ≡ true =
          and_from (is_x x) _ isx (and_from (is_hexadecimal ds) _ (hexadecimal_good digits t.0) (and_from (is_a_suffix (suffix_row behind)) (fits_long (value_on 16 0 ds)) (suffix_good behind) i.fits)) in
          record {
            lexeme = Hexadecimal x ds (suffix_row behind);
            kind_is = cond-true _ _ _ form ∙ ap (λ (k : PlainKind). some k) i.kind_is;
            whole = ap (λ (b : List ℕ). 48 ∷ x ∷ b) (row_joins is_hexadecimal_digit digits ∙ joined ds behind rest i.rest_is);
            longest = i.longest;
          }
      | inr f ↦ absurd cc
    ]

pub prefix_is : (bytes digits : List ℕ) → after_prefix bytes ≡ Some digits → (x : ℕ) × (is_x x ≡ true) × (bytes ≡ 48 ∷ x ∷ digits)
prefix_is [] digits e = absurd cc
prefix_is (byte ∷ []) digits e = absurd cc
prefix_is (byte ∷ x ∷ bytes) digits e =
    elim (chosen (eqb byte 48 && is_x x) _ _ _ e) [
      | inl t ↦
          let both = and_parts (eqb byte 48) (is_x x) t.0 in
          let z = eqb-true byte 48 both.0 in
          let same : bytes ≡ digits = some_same bytes digits t.1 in
          (x, both.1, ap (λ (b : ℕ). b ∷ x ∷ bytes) z ∙ ap (λ (b : List ℕ). 48 ∷ x ∷ b) same)
      | inr f ↦ absurd cc
    ]

based_is : (byte : ℕ) (bytes : List ℕ) (o : Option (List ℕ)) (kind : PlainKind) (rest : List ℕ) → is_digit byte ≡ true → after_prefix (byte ∷ bytes) ≡ o → based_end (byte ∷ bytes) o ≡ Ends kind rest → IsLexeme (byte ∷ bytes) kind rest
based_is byte bytes None kind rest d at e = decimal_is byte bytes kind rest d e
based_is byte bytes (Some digits) kind rest d at e =
    let p = prefix_is (byte ∷ bytes) digits at in
    subst (λ (b : List ℕ). IsLexeme b kind rest) (sym p.2) (hexadecimal_is p.0 digits kind rest p.1 (subst (λ (b : List ℕ). hexadecimal_end b digits ≡ Ends kind rest) p.2 e))

-- ---- strings and characters

pub string_joins : (more : List ℕ) → more ≡ characters_spelling (string_row more) ++ after_string_row more
string_joins [] = refl
string_joins (byte ∷ []) = elim (cases_Bool (is_string_byte byte)) [ inl t ↦ rw t refl | inr f ↦ rw f refl ]
string_joins (byte ∷ next ∷ bytes) =
    elim (cases_Bool (is_string_byte byte)) [
      | inl t ↦ rw t (ap (λ (b : List ℕ). byte ∷ b) (string_joins (next ∷ bytes)))
      | inr f ↦
          elim (cases_Bool (eqb byte 92 && is_escape next)) [
            | inl t ↦
                let slash = eqb-true byte 92 (and_parts (eqb byte 92) (is_escape next) t).0 in
                rw (f, t) (ap (λ (b : ℕ). b ∷ next ∷ bytes) slash ∙ ap (λ (b : List ℕ). 92 ∷ next ∷ b) (string_joins bytes))
            | inr g ↦ rw (f, g) refl
          ]
    ]

pub string_good : (more : List ℕ) → list_all is_string_character (string_row more) ≡ true
string_good [] = refl
string_good (byte ∷ []) = elim (cases_Bool (is_string_byte byte)) [ inl t ↦ rw t (and_from (is_string_byte byte) true t refl) | inr f ↦ rw f refl ]
string_good (byte ∷ next ∷ bytes) =
    elim (cases_Bool (is_string_byte byte)) [
      | inl t ↦ rw t (and_from (is_string_byte byte) (list_all is_string_character (string_row (next ∷ bytes))) t (string_good (next ∷ bytes)))
      | inr f ↦
          elim (cases_Bool (eqb byte 92 && is_escape next)) [
            | inl t ↦ rw (f, t) (and_from (is_escape next) (list_all is_string_character (string_row bytes)) (and_parts (eqb byte 92) (is_escape next) t).1 (string_good bytes))
            | inr g ↦ rw (f, g) refl
          ]
    ]

first_is : (byte : ℕ) (bytes : List ℕ) → begins_with (λ b. eqb b byte) bytes ≡ true → bytes ≡ byte ∷ behind_first bytes
first_is byte [] e = absurd (let f : false ≡ true = e in cc)
first_is byte (b ∷ bytes) e = ap (λ (x : ℕ). x ∷ bytes) (eqb-true b byte e)

string_is : (more : List ℕ) (kind : PlainKind) (rest : List ℕ) → string_end (34 ∷ more) more ≡ Ends kind rest → IsLexeme (34 ∷ more) kind rest
string_is more kind rest e =
    elim (chosen (begins_with (λ byte. eqb byte 34) (after_string_row more)) _ _ _ e) [
      | inl t ↦
          let same = ends_same (Str (map character_meaning (string_row more))) kind (behind_first (after_string_row more)) rest t.1 in
          let quote : after_string_row more ≡ 34 ∷ rest = first_is 34 (after_string_row more) t.0 ∙ ap (λ (r : List ℕ). 34 ∷ r) same.1 in
          record {
            lexeme = Text (string_row more);
            kind_is = cond-true (list_all is_string_character (string_row more)) _ _ (string_good more) ∙ ap (λ (k : PlainKind). some k) same.0;
            whole = ap (λ (b : List ℕ). 34 ∷ b) (string_joins more ∙ (ap (λ (b : List ℕ). characters_spelling (string_row more) ++ b) quote ∙ sym (append_assoc (characters_spelling (string_row more)) (34 ∷ []) rest)));
            longest = never rest;
          }
      | inr f ↦
          elim (chosen (is_cut (after_string_row more)) _ _ _ f.1) [
            | inl t ↦ absurd cc
            | inr g ↦ absurd cc
          ]
    ]

-- the character that stands here
pub record IsCharacterAt (more : List ℕ) (c : Spelled) (behind : List ℕ) : Type 0 where
  pub good : is_character c ≡ true
  pub whole : more ≡ character_spelling c ++ behind

some_pair : (a b : Spelled) (xs ys : List ℕ) → some {A = Spelled × List ℕ} (a, xs) ≡ some {A = Spelled × List ℕ} (b, ys) → (a ≡ b) × (xs ≡ ys)
some_pair a b xs ys e = let p : ◌≡◌ {A = Spelled × List ℕ} (a, xs) (b, ys) = cc in (ap (λ (x : Spelled × List ℕ). x.0) p, ap (λ (x : Spelled × List ℕ). x.1) p)

at_same : (c d : Spelled) (more behind behind' : List ℕ) → some {A = Spelled × List ℕ} (c, behind) ≡ some {A = Spelled × List ℕ} (d, behind') → is_character c ≡ true → more ≡ character_spelling c ++ behind → IsCharacterAt more d behind'
at_same c d more behind behind' e good whole =
    let p = some_pair c d behind behind' e in
    subst (λ (x : Spelled). IsCharacterAt more x behind') p.0 (subst (λ (b : List ℕ). IsCharacterAt more c b) p.1 (record { good = good; whole = whole }))

pub character_is_at : (more : List ℕ) (c : Spelled) (behind : List ℕ) → character_at more ≡ some {A = Spelled × List ℕ} (c, behind) → IsCharacterAt more c behind
character_is_at [] c behind e = absurd cc
character_is_at (byte ∷ []) c behind e =
    elim (chosen (is_character_byte byte) _ _ _ e) [
      | inl t ↦ at_same (Itself byte) c (byte ∷ []) [] behind t.1 t.0 refl
      | inr f ↦ absurd cc
    ]
character_is_at (byte ∷ next ∷ bytes) c behind e =
    elim (chosen (is_character_byte byte) _ _ _ e) [
      | inl t ↦ at_same (Itself byte) c (byte ∷ next ∷ bytes) (next ∷ bytes) behind t.1 t.0 refl
      | inr f ↦
          elim (chosen (eqb byte 92 && is_character_escape next) _ _ _ f.1) [
            | inl t ↦
                let both = and_parts (eqb byte 92) (is_character_escape next) t.0 in
                at_same (Escape next) c (byte ∷ next ∷ bytes) bytes behind t.1 both.1 (ap (λ (b : ℕ). b ∷ next ∷ bytes) (eqb-true byte 92 both.0))
            | inr g ↦ absurd cc
          ]
    ]

character_behind_is : (more : List ℕ) (o : Option (Spelled × List ℕ)) (kind : PlainKind) (rest : List ℕ) → character_at more ≡ o → character_end_behind (39 ∷ more) more o ≡ Ends kind rest → IsLexeme (39 ∷ more) kind rest
character_behind_is more None kind rest at e =
    elim (chosen (is_cut more) _ _ _ e) [
      | inl t ↦ absurd cc
      | inr f ↦ absurd cc
    ]
character_behind_is more (Some x) kind rest at e =
    elim (chosen (begins_with (λ byte. eqb byte 39) x.1) _ _ _ e) [
      | inl t ↦
          let i : IsCharacterAt more x.0 x.1 = character_is_at more x.0 x.1 at in
          let same = ends_same (Character (character_meaning x.0)) kind (behind_first x.1) rest t.1 in
          let quote : x.1 ≡ 39 ∷ rest = first_is 39 x.1 t.0 ∙ ap (λ (r : List ℕ). 39 ∷ r) same.1 in
          record {
            lexeme = Quoted x.0;
            kind_is = cond-true (is_character x.0) _ _ i.good ∙ ap (λ (k : PlainKind). some k) same.0;
            whole = ap (λ (b : List ℕ). 39 ∷ b) (i.whole ∙ (ap (λ (b : List ℕ). character_spelling x.0 ++ b) quote ∙ sym (append_assoc (character_spelling x.0) (39 ∷ []) rest)));
            longest = never rest;
          }
      | inr f ↦
          elim (chosen (is_line_cut x.1) _ _ _ f.1) [
            | inl t ↦ absurd cc
            | inr g ↦ absurd cc
          ]
    ]

pub literal_is : (bytes : List ℕ) (kind : PlainKind) (rest : List ℕ) → literal_end bytes ≡ Ends kind rest → IsLexeme bytes kind rest
literal_is [] kind rest e = absurd cc
literal_is (byte ∷ more) kind rest e =
    elim (chosen (is_digit byte) _ _ _ e) [
      | inl t ↦ based_is byte more (after_prefix (byte ∷ more)) kind rest t.0 refl t.1
      | inr f ↦
          elim (chosen (eqb byte 39) _ _ _ f.1) [
            | inl t ↦
                let q : 39 ≡ byte = sym (eqb-true byte 39 t.0) in
                subst (λ (b : ℕ). IsLexeme (b ∷ more) kind rest) q (character_behind_is more (character_at more) kind rest refl (subst (λ (b : ℕ). character_end (b ∷ more) more ≡ Ends kind rest) (sym q) t.1))
            | inr g ↦
                elim (chosen (eqb byte 34) _ _ _ g.1) [
                  | inl t ↦
                      let q : 34 ≡ byte = sym (eqb-true byte 34 t.0) in
                      subst (λ (b : ℕ). IsLexeme (b ∷ more) kind rest) q (string_is more kind rest (subst (λ (b : ℕ). string_end (b ∷ more) more ≡ Ends kind rest) (sym q) t.1))
                  | inr h ↦ absurd cc
                ]
          ]
    ]
