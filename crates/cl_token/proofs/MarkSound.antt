-- A mark that is read is the longest.
use Rattle.std.proofs.Common.{◌≡◌, ℕ, ◌≤◌, Bool, true, false, eqb, leb, ◌&&◌, ◌||◌, List, [], ◌∷◌, map, length, Option, Some, None, refl, sym, ap, ◌∙◌, inl, inr, arith}
use Rattle.std.specs.Prelude.{is_some, option_map}
use Rattle.std.specs.List.{list_all}
use Rattle.std.proofs.lemmas.Bool.{leb-true, and_parts, or_from}
use Rattle.cl_ast.specs.declared.mark.Mark.{Mark}
use Rattle.cl_ast.specs.declared.mark.TheConstants.{MARKS}
use Rattle.cl_ast.specs.Plain.{PlainKind, Punctuator}
use Rattle.cl_ast.specs.Bytes.{begins_with}
use Rattle.cl_ast.specs.Lexemes.{Sign, lexeme_goes_on, same_bytes, look_up, mark_of, opens_comment}
use Rattle.cl_token.specs.Scanning.{mark_at, one_mark, two_marks}
use Rattle.cl_token.proofs.Bounds.{chosen}
use Rattle.cl_token.proofs.Runs.{same_is}
use Rattle.cl_token.proofs.LiteralSound.{IsLexeme}

abbrev some_mark : Mark → Option Mark
some_mark m = Some m

abbrev some_kind : PlainKind → Option PlainKind
some_kind k = Some k

abbrev some_found : Mark × List ℕ → Option (Mark × List ℕ)
some_found x = Some x

-- every entry of a table is short, so what is found is
found_short : (table : List (List ℕ × Mark)) (bytes : List ℕ) (m : Mark) → list_all (λ e. leb (length e.0) 2) table ≡ true → look_up table bytes ≡ some_mark m → length bytes ≤ 2
found_short [] bytes m all e = absurd cc
found_short (entry ∷ entries) bytes m all e =
    let both = and_parts (leb (length entry.0) 2) (list_all (λ e. leb (length e.0) 2) entries) all in
    elim (chosen (same_bytes bytes entry.0) _ _ _ e) [
      | inl t ↦ let n : length bytes ≡ length entry.0 = ap length (same_is bytes entry.0 t.0) in omega (arith, n, leb-true (length entry.0) 2 both.0)
      | inr f ↦ found_short entries bytes m both.1 f.1
    ]

third_of : (o : Option Mark) (a b c : ℕ) → mark_of (a ∷ b ∷ c ∷ []) ≡ o → is_some o ≡ false
unfolding mark_of
third_of None a b c e = refl
third_of (Some m) a b c e = absurd (let n : 3 ≤ 2 = found_short (map (λ m. (m.0.now, m.1)) MARKS) (a ∷ b ∷ c ∷ []) m refl e in omega (arith, n))

-- no mark has three bytes
no_third : (a b c : ℕ) → is_some (mark_of (a ∷ b ∷ c ∷ [])) ≡ false
unfolding mark_of
no_third a b c = third_of (mark_of (a ∷ b ∷ c ∷ [])) a b c refl

-- whether a comment begins here
abbrev pub starts_comment : List ℕ → Bool
starts_comment (byte ∷ next ∷ bytes) = eqb byte 47 && (eqb next 47 || eqb next 42)
starts_comment _ = false

found_same : (m m' : Mark) (r r' : List ℕ) → some_found (m, r) ≡ some_found (m', r') → (m ≡ m') × (r ≡ r')
found_same m m' r r' e = let p : ◌≡◌ {A = Mark × List ℕ} (m, r) (m', r') = cc in (ap (λ (x : Mark × List ℕ). x.0) p, ap (λ (x : Mark × List ℕ). x.1) p)

no_opening : (p q : Bool) → ((p && false) && q) ≡ false
no_opening true q = refl
no_opening false q = refl

opening : (p q : Bool) → (p && q) ≡ false → ((p && true) && q) ≡ false
opening true q e = e
opening false q e = refl

-- a mark of two bytes goes on in none
two_end : (a b : ℕ) (rest : List ℕ) → begins_with (lexeme_goes_on (Sign (a ∷ b ∷ []))) rest ≡ false
two_end a b [] = refl
two_end a b (c ∷ rest) = or_from (is_some (mark_of (a ∷ b ∷ c ∷ []))) (opens_comment (a ∷ b ∷ []) c) (no_third a b c) (no_opening (eqb a 47) (eqb c 47 || eqb c 42))

-- a mark of one byte goes on in none where there is no longer one
one_end : (a b : ℕ) (rest : List ℕ) → starts_comment (a ∷ b ∷ rest) ≡ false → is_some (mark_of (a ∷ b ∷ [])) ≡ false → begins_with (lexeme_goes_on (Sign (a ∷ []))) (b ∷ rest) ≡ false
one_end a b rest comment none = or_from (is_some (mark_of (a ∷ b ∷ []))) (opens_comment (a ∷ []) b) none (opening (eqb a 47) (eqb b 47 || eqb b 42) comment)

one_is : (o : Option Mark) (a : ℕ) (more : List ℕ) (m : Mark) (rest : List ℕ) → mark_of (a ∷ []) ≡ o → begins_with (lexeme_goes_on (Sign (a ∷ []))) more ≡ false → one_mark o more ≡ some_found (m, rest) → IsLexeme (a ∷ more) (Punctuator m) rest
one_is None a more m rest at longest e = absurd cc
one_is (Some x) a more m rest at longest e =
    let same = found_same x m more rest e in
    record {
      lexeme = Sign (a ∷ []);
      kind_is = ap (λ (o : Option Mark). option_map (λ k. Punctuator k) o) at ∙ ap (λ (k : Mark). some_kind (Punctuator k)) same.0;
      whole = ap (λ (r : List ℕ). a ∷ r) same.1;
      longest = ap (begins_with (lexeme_goes_on (Sign (a ∷ [])))) (sym same.1) ∙ longest;
    }

two_is : (o : Option Mark) (a b : ℕ) (more : List ℕ) (m : Mark) (rest : List ℕ) → mark_of (a ∷ b ∷ []) ≡ o → starts_comment (a ∷ b ∷ more) ≡ false → two_marks o more (one_mark (mark_of (a ∷ [])) (b ∷ more)) ≡ some_found (m, rest) → IsLexeme (a ∷ b ∷ more) (Punctuator m) rest
two_is None a b more m rest at comment e = one_is (mark_of (a ∷ [])) a (b ∷ more) m rest refl (one_end a b more comment (ap is_some at)) e
two_is (Some x) a b more m rest at comment e =
    let same = found_same x m more rest e in
    record {
      lexeme = Sign (a ∷ b ∷ []);
      kind_is = ap (λ (o : Option Mark). option_map (λ k. Punctuator k) o) at ∙ ap (λ (k : Mark). some_kind (Punctuator k)) same.0;
      whole = ap (λ (r : List ℕ). a ∷ b ∷ r) same.1;
      longest = two_end a b rest;
    }

pub mark_is : (bytes : List ℕ) (m : Mark) (rest : List ℕ) → starts_comment bytes ≡ false → mark_at bytes ≡ some_found (m, rest) → IsLexeme bytes (Punctuator m) rest
mark_is [] m rest comment e = absurd cc
mark_is (a ∷ []) m rest comment e = one_is (mark_of (a ∷ [])) a [] m rest refl refl e
mark_is (a ∷ b ∷ more) m rest comment e = two_is (mark_of (a ∷ b ∷ [])) a b more m rest refl comment e
